use Rattle.std.proofs.Common.{◌≡◌, ◌<◌, [], length, get_or, sym, subst, arith}
use Rattle.std.proofs.lemmas.List.{get_or_read}
use Rattle.ff_theory.specs.Values.{poly_of, plane_of}
use Rattle.ff_theory.proofs.Coeffs.{coeff-map}
use Rattle.ff_theory.specs.Vector.{vector_of}
use Rattle.ff_data.specs.Orders.{y_degree}
use Rattle.ff_data.specs.Vectors.{IsPlaneWithin}
use Rattle.ff_functions.specs.Combined.{IsPlaneSum, IsWithPowers}
use Rattle.ff_functions.proofs.CombinedLemmas.{no_powers, one_power}
use Rattle.ff_functions.proofs.assembly.with_powers.Goals as goal

pub sum-requires : goal.sum-requires
sum-requires g c =
    let F = g.K.Ring.elements c.args.alg.now.k in
    let L = g.K.Ring.lawful c.args.alg.now.k in
    let i = c.loop-i.i in
    record {
      factor = c.requires.root;
      a = c.loop-i.invariant.0;
      c = c.requires.coefficients i 0 c.loop-i-test.true;
      b = subst (IsPlaneWithin F (y_degree L c.args.alg.now.f)) (sym c.index-powers-i.is)
          (c.requires.powers i c.index-powers-i.result
          (omega (arith, c.loop-i-test.true, c.requires.enough)));
    }

pub loop-i-init : goal.loop-i-init
loop-i-init g c =
    let F = g.K.Ring.elements c.args.alg.now.k in
    let L = g.K.Ring.lawful c.args.alg.now.k in (
      c.requires.base,
      no_powers F L c.args.alg.now.f c.args.alg.now.plane c.args.alg.now.has_y c.args.root.now
          c.args.base c.args.powers.now (vector_of F c.args.coefficients.now),
    )

pub loop-i-preserved : goal.loop-i-preserved
loop-i-preserved g c =
    let F = g.K.Ring.elements c.args.alg.now.k in
    let L = g.K.Ring.lawful c.args.alg.now.k in
    let i = c.loop-i.i in
    let l : i < length c.args.powers.now
    = omega (arith, c.loop-i-test.true, c.requires.enough) in
    let old = c.loop-i.numerator in
    let new = c.in_ok-numerator.numerator in (
      c.in_ok-numerator.ensures.plane,
      one_power F L c.args.alg.now.f c.args.alg.now.plane c.args.alg.now.has_y c.args.root.now
          c.args.base c.args.powers.now (vector_of F c.args.coefficients.now) i old new l
          (subst (λ x. IsPlaneSum L c.args.alg.now.f (poly_of F c.args.root.now) (plane_of F old)
          x (plane_of F (get_or c.args.powers.now i [])) new)
          (sym (coeff-map F.ring F.value c.args.coefficients.now i 0 c.loop-i-test.true))
          (subst (λ p. IsPlaneSum L c.args.alg.now.f (poly_of F c.args.root.now) (plane_of F old)
          (F.value (get_or c.args.coefficients.now i 0)) (plane_of F p) new)
          (get_or_read c.args.powers.now i c.index-powers-i.result l c.index-powers-i.is [])
          c.in_ok-numerator.ensures.value)) c.loop-i.invariant.1,
    )

pub returns-clause-plane : goal.returns-clause-plane
returns-clause-plane g c = c.loop-i.invariant.0

pub returns-clause-value : goal.returns-clause-value
returns-clause-value g c =
    let F = g.K.Ring.elements c.args.alg.now.k in
    let L = g.K.Ring.lawful c.args.alg.now.k in
    let e : c.loop-i.i ≡ length c.args.coefficients.now
    = omega (arith, c.loop-i-test.false, c.loop-i.auto.i-end) in
    subst (λ n. IsWithPowers L c.args.alg.now.f c.args.root.now c.args.base c.args.powers.now n
    (vector_of F c.args.coefficients.now) c.loop-i.numerator) e c.loop-i.invariant.1
