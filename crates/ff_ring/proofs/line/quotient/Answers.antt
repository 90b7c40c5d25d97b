use Rattle.std.proofs.Common.{◌≡◌, ◌∙◌, ap, sym}
use Rattle.ff_theory.specs.Values.{poly_of, polys_over}
use Rattle.ff_theory.proofs.Poly.{polynomial_laws}
use Rattle.ff_ring.proofs.EntryLemmas.{no-poly-is, empty-list, not-empty}
use Rattle.ff_ring.proofs.QuotientLemmas.{no-remainder}
use Rattle.ff_ring.proofs.line.quotient.Goals as goal

pub returns-then-is_zero-clause-value : goal.returns-then-is_zero-clause-value
returns-then-is_zero-clause-value g c =
    let F = g.K.Ring.elements c.args.k.now in
    let L = g.K.Ring.lawful c.args.k.now in
    let P = polys_over F in
    let q = P.mul (poly_of F c.in_ok-quotient.quotient) (poly_of F c.args.q.now) in
    c.in_ok-quotient.ensures.division.sum
    ∙ ap (P.add q) (no-poly-is F c.in_ok-quotient.remainder (empty-list c.in_ok-quotient.remainder
    (sym c.is_zero.ensures ∙ c.if-is_zero.true)))
    ∙ (polynomial_laws F.ring L.laws L.tests).add_zero q

pub returns-clause-none : goal.returns-clause-none
returns-clause-none g c =
    let F = g.K.Ring.elements c.args.k.now in
    let L = g.K.Ring.lawful c.args.k.now in
    λ d. absurd (not-empty c.in_ok-quotient.remainder (sym c.is_zero.ensures ∙ c.if-is_zero.false)
    (no-remainder F L c.args.q.now c.in_ok-quotient.remainder (poly_of F c.args.p.now)
    (poly_of F c.in_ok-quotient.quotient) c.requires.q c.requires.nonzero
    c.in_ok-quotient.ensures.remainder c.in_ok-quotient.ensures.division d))
