use Rattle.std.proofs.Common.{IsTrue, subst, sym, true, ◌↔◌, ◌≡◌}
use Rattle.ff_theory.specs.Values.{IsPlane}
use Rattle.ff_theory.proofs.Results.{ok_map}
use Rattle.ff_data.specs.Pairs.{IsInversePair}
use Rattle.ff_subst.specs.Inverse.{ArePairPolys, IsOneSided}
use Rattle.ff_subst.proofs.PairLemmas.{pair-polys}
use Rattle.ff_subst.proofs.inverse.are_inverse.Goals as goal

pub inverts-requires : goal.inverts-requires
inverts-requires g c =
    let f = c.args.alg2.now.f in
    record {
      f = subst (λ k. IsPlane (g.K.Ring.elements k) c.args.alg1.now.f) c.requires.field
          c.args.alg1.now.plane;
      pair = c.requires.pair;
      back = subst (λ k. ArePairPolys (g.K.Ring.elements k) c.args.back.now) c.requires.field
          (pair-polys (g.K.Ring.elements c.args.alg1.now.k) (g.K.Ring.lawful c.args.alg1.now.k)
          c.args.alg1.now.f c.args.back.now c.requires.back);
    }

pub inverts-requires-2 : goal.inverts-requires-2
inverts-requires-2 g c =
    let f = c.args.alg2.now.f in
    record {
      f = subst (λ k. IsPlane (g.K.Ring.elements k) c.args.alg2.now.f) (sym c.requires.field)
          c.args.alg2.now.plane;
      pair = c.requires.back;
      back = subst (λ k. ArePairPolys (g.K.Ring.elements k) c.args.pair.now) (sym c.requires.field)
          (pair-polys (g.K.Ring.elements c.args.alg2.now.k) (g.K.Ring.lawful c.args.alg2.now.k)
          c.args.alg2.now.f c.args.pair.now c.requires.pair);
    }

pub returns-then-not-there : goal.returns-then-not-there
returns-then-not-there g c = (
  λ e. absurd cc,
  λ u. absurd (let t : c.in_ok-there.there ≡ true = c.in_ok-there.ensures.1
      (record { satisfies = u.satisfies; undone = u.undone }) in cc),
)

pub returns : goal.returns
returns g c =
    let L = g.K.Ring.lawful c.args.alg2.now.k in
    let f = c.args.alg2.now.f in
    let one : c.in_ok-there.there ≡ true = cc in
    let there = c.in_ok-there.ensures.0 one in
    ok_map (λ r. IsTrue r ↔ IsOneSided (g.K.Ring.lawful c.args.alg1.now.k) c.args.alg2.now.f
    c.args.alg1.now.f c.args.back.now c.args.pair.now)
    (λ r. IsTrue r ↔ IsInversePair L c.args.alg1.now.f f c.args.pair.now c.args.back.now)
    c.inverts-2.result
    (λ r h. (
      λ t. let back = subst (λ k. IsOneSided (g.K.Ring.lawful k) c.args.alg2.now.f c.args.alg1.now.f
          c.args.back.now c.args.pair.now) c.requires.field (h.0 t) in record {
            satisfies = there.satisfies;
            back_satisfies = back.satisfies;
            undoes = back.undone;
            undone = there.undone;
          },
      λ u. h.1 (subst (λ k. IsOneSided (g.K.Ring.lawful k) c.args.alg2.now.f c.args.alg1.now.f
          c.args.back.now c.args.pair.now) (sym c.requires.field)
          (record { satisfies = u.back_satisfies; undone = u.undoes })),
    )) c.inverts-2.ensures
