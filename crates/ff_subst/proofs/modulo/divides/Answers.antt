use Rattle.std.proofs.Common.{length, nat_eq, refl, true, ◌≡◌}
use Rattle.std.proofs.lemmas.Bool.{eq-eqb}
use Rattle.ff_subst.proofs.Remainders.{rest-zero}
use Rattle.ff_subst.proofs.modulo.divides.Goals as goal

pub returns-then-not-is_zero : goal.returns-then-not-is_zero
returns-then-not-is_zero g c =
    let K = g.K.Ring.elements c.args.k.now in
    let L = g.K.Ring.lawful c.args.k.now in
    let rest = c.in_ok-rest.rest in
    λ d. absurd (let z : nat_eq (length rest) 0
    ≡ true = eq-eqb (length rest) 0
    (rest-zero K L c.args.m.now c.args.rows.now c.loop-row.row-index c.row-item.result rest
    c.in_ok-rest.ensures.division.0 c.requires.m.poly c.requires.m.nonzero c.loop-row-test.true
    c.row-item.is c.in_ok-rest.ensures.poly c.in_ok-rest.ensures.division.1 d) in cc)

pub returns : goal.returns
returns g c =
    λ d. refl
