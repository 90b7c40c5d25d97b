use Rattle.std.proofs.Common.{IsTrue, true, ◌↔◌, ◌≡◌}
use Rattle.ff_theory.proofs.Results.{ok_map}
use Rattle.ff_elem.specs.Elem.{y_in}
use Rattle.ff_data.specs.Pairs.{Undoes, ValueIs}
use Rattle.ff_subst.proofs.values.undoes.Goals as goal

pub takes_x-requires : goal.takes_x-requires
takes_x-requires g c =
    record { at = c.requires.at; pair = c.requires.back; s = c.requires.pair.x }

pub takes_y-requires : goal.takes_y-requires
takes_y-requires g c =
    record { at = c.requires.at; pair = c.requires.back; s = c.requires.pair.y }

pub returns-then-not-undone : goal.returns-then-not-undone
returns-then-not-undone g c = (
  λ e. absurd cc,
  λ u. absurd (let t : c.in_ok-undone.undone ≡ true = c.in_ok-undone.ensures.1 u.x in cc),
)

pub returns : goal.returns
returns g c =
    let L = g.K.Ring.lawful c.args.alg.now.k in
    let f = c.args.alg.now.f in
    let undone : c.in_ok-undone.undone ≡ true = cc in
    let x = c.in_ok-undone.ensures.0 undone in
    ok_map (λ r. IsTrue r ↔ ValueIs L f c.args.pair.now.y c.args.back.now (y_in L f))
    (λ r. IsTrue r ↔ Undoes L f c.args.pair.now c.args.back.now) c.takes_y.result
    (λ r h. (
      λ t. record { x = x; y = h.0 t },
      λ u. h.1 u.y,
    ))
    c.takes_y.ensures
