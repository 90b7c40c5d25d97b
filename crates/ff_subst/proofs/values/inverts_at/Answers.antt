use Rattle.std.proofs.Common.{IsTrue, true, ◌↔◌, ◌≡◌}
use Rattle.ff_theory.proofs.Results.{ok_map}
use Rattle.ff_data.specs.Pairs.{Undoes}
use Rattle.ff_subst.specs.Inverse.{IsOneSided}
use Rattle.ff_subst.proofs.values.inverts_at.Goals as goal

pub is_zero_at-requires : goal.is_zero_at-requires
is_zero_at-requires g c =
    record { at = c.requires.at; f = c.requires.f; pair = c.requires.pair }

pub undoes-requires : goal.undoes-requires
undoes-requires g c =
    record { at = c.requires.at; back = c.requires.pair; pair = c.requires.back }

pub returns-then-not-zero : goal.returns-then-not-zero
returns-then-not-zero g c = (
  λ e. absurd cc,
  λ u. absurd (let t : c.in_ok-zero.zero ≡ true = c.in_ok-zero.ensures.1
      u.satisfies in cc),
)

pub returns : goal.returns
returns g c =
    let L = g.K.Ring.lawful c.args.alg.now.k in
    let f = c.args.alg.now.f in
    let one : c.in_ok-zero.zero ≡ true = cc in
    ok_map (λ r. IsTrue r ↔ Undoes L f c.args.back.now c.args.pair.now)
    (λ r. IsTrue r ↔ IsOneSided L c.args.f.now f c.args.pair.now c.args.back.now)
    c.undoes.result
    (λ r h. (
      λ t. record { satisfies = c.in_ok-zero.ensures.0 one; undone = h.0 t },
      λ u. h.1
          u.undone,
    )) c.undoes.ensures
