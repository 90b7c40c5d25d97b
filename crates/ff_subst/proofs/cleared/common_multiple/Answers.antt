use Rattle.std.proofs.Common.{[], arith, length, map, subst, ℕ, ◌<◌, ◌∙◌, ◌≡◌}
use Rattle.std.proofs.lemmas.List.{get_or_default}
use Rattle.ff_theory.specs.Lawful.{lawful_field}
use Rattle.ff_theory.specs.LowestTerms.{IsLowest}
use Rattle.ff_theory.specs.Poly.{coeff, polynomials}
use Rattle.ff_theory.specs.Values.{poly_of}
use Rattle.ff_subst.proofs.PairValues.{each-one}
use Rattle.ff_theory.specs.Values.{IsPoly}
use Rattle.ff_subst.proofs.ClearedLemmas.{common-multiple, lowest-count}
use Rattle.ff_subst.proofs.cleared.common_multiple.Goals as goal

pub lowest-requires : goal.lowest-requires
lowest-requires g c =
    let K = g.K.Ring.elements c.args.k.now in
    record {
      den = c.requires.a;
      nonzero = c.requires.some_a;
      nums = each-one (IsPoly K) c.args.b.now c.from_ref.result.now c.from_ref.ensures.value
          c.requires.b;
    }

pub returns : goal.returns
returns g c =
    let K = g.K.Ring.elements c.args.k.now in
    let L = g.K.Ring.lawful c.args.k.now in
    let D = polynomials K.ring in
    let a = c.args.a.now in
    let b = c.args.b.now in
    let d = c.in_ok-d.d in
    let list = c.in_ok-d.list.items in
    let one : length list ≡ 1 = lowest-count K L (poly_of K d) list _
    c.in_ok-d.ensures.lowest ∙ c.from_ref.ensures.len in
    common-multiple K L a b c.in_ok-c.c d list c.requires.b c.requires.some_b c.in_ok-d.ensures.den
    c.in_ok-d.ensures.nums
    (subst (λ nums. IsLowest (lawful_field L) (length nums) (poly_of K d)
    (map (λ p. poly_of K p) list)) c.from_ref.ensures.value c.in_ok-d.ensures.lowest)
    (c.in_ok-c.ensures ∙ c.index.ensures
    ∙ get_or_default list 0 c.index.result.now [] (omega (arith, one)))
    (subst (λ nums. (i : ℕ) → i < length nums → D.mul (coeff D (map (λ p. poly_of K p) list) i)
    (poly_of K a) ≡ D.mul (coeff D (map (λ p. poly_of K p) nums) i) (poly_of K d))
    c.from_ref.ensures.value c.in_ok-d.ensures.equal)
