use Rattle.std.proofs.Common.{IsTrue, length, subst, sym, true, ◌≡◌}
use Rattle.ff_theory.specs.Values.{IsPlane}
use Rattle.ff_theory.proofs.Results.{ok_map}
use Rattle.ff_data.specs.Pairs.{IsInversePair}
use Rattle.ff_subst.specs.Congruence.{IsModulus}
use Rattle.ff_subst.specs.Inverse.{IsOneSided, IsSmallPair}
use Rattle.ff_subst.proofs.PairLemmas.{small-pair}
use Rattle.ff_subst.proofs.inverse.may_be_inverse_modulo.Goals as goal

pub may_invert-requires : goal.may_invert-requires
may_invert-requires g c =
    let f = c.args.alg2.now.f in
    record {
      m = c.requires.m;
      f = subst (λ k. IsPlane (g.K.Ring.elements k) c.args.alg1.now.f) c.requires.field
          c.args.alg1.now.plane;
      pair = c.requires.pair;
      back = subst (λ k. IsSmallPair (g.K.Ring.elements k) (length c.args.alg1.now.f)
          c.args.back.now) c.requires.field
          (small-pair (g.K.Ring.elements c.args.alg1.now.k) (g.K.Ring.lawful c.args.alg1.now.k)
          c.args.alg1.now.f c.args.back.now c.args.alg1.now.plane c.args.alg1.now.has_y
          c.requires.back);
    }

pub may_invert-requires-2 : goal.may_invert-requires-2
may_invert-requires-2 g c =
    let f = c.args.alg2.now.f in
    record {
      m = subst (λ k. IsModulus (g.K.Ring.elements k) c.args.m.now) (sym c.requires.field)
          c.requires.m;
      f = subst (λ k. IsPlane (g.K.Ring.elements k) c.args.alg2.now.f) (sym c.requires.field)
          c.args.alg2.now.plane;
      pair = c.requires.back;
      back = subst (λ k. IsSmallPair (g.K.Ring.elements k) (length c.args.alg2.now.f)
          c.args.pair.now) (sym c.requires.field)
          (small-pair (g.K.Ring.elements c.args.alg2.now.k) (g.K.Ring.lawful c.args.alg2.now.k)
          c.args.alg2.now.f c.args.pair.now c.args.alg2.now.plane c.args.alg2.now.has_y
          c.requires.pair);
    }

pub returns-then-not-possible : goal.returns-then-not-possible
returns-then-not-possible g c =
    λ u. absurd (let t : c.in_ok-possible.possible
    ≡ true = c.in_ok-possible.ensures (record { satisfies = u.satisfies; undone = u.undone }) in
    cc)

pub returns : goal.returns
returns g c =
    let L = g.K.Ring.lawful c.args.alg2.now.k in
    let f = c.args.alg2.now.f in
    ok_map (λ r. IsOneSided (g.K.Ring.lawful c.args.alg1.now.k) c.args.alg2.now.f c.args.alg1.now.f
    c.args.back.now c.args.pair.now → IsTrue r)
    (λ r. IsInversePair L c.args.alg1.now.f f c.args.pair.now c.args.back.now → IsTrue r)
    c.may_invert-2.result
    (λ r yes u. yes (subst (λ k. IsOneSided (g.K.Ring.lawful k) c.args.alg2.now.f c.args.alg1.now.f
    c.args.back.now c.args.pair.now) (sym c.requires.field)
    (record { satisfies = u.back_satisfies; undone = u.undoes }))) c.may_invert-2.ensures
