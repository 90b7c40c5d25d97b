use Rattle.std.proofs.Common.{ap, ap₂, arith, length, refl, sym, ℕ, ◌-◌, ◌<◌, ◌∙◌, ◌≡◌}
use Rattle.ff_theory.specs.Lawful.{lawful_field}
use Rattle.ff_theory.specs.Poly.{coeff}
use Rattle.ff_theory.specs.Values.{plane_of, poly_of}
use Rattle.ff_theory.proofs.Horner.{from_index, horner}
use Rattle.ff_theory.specs.Algebra.{constant}
use Rattle.ff_elem.specs.Elem.{algebra_in, elem_of}
use Rattle.ff_data.proofs.HornerLemmas.{coefficient, horner-next, horner-none, poly-whole}
use Rattle.ff_data.proofs.ring.value_of_poly.Goals as goal

pub plus_product-requires : goal.plus_product-requires
plus_product-requires g c =
    record {
      a = c.in_ok-c.ensures.element;
      b = c.requires.z;
      c = c.loop-i.invariant.element;
    }

pub loop-i-init : goal.loop-i-init
loop-i-init g c =
    let K = g.K.Ring.elements c.args.alg.now.k in
    let L = g.K.Ring.lawful c.args.alg.now.k in
    let f = c.args.alg.now.f in
    let p = c.args.p.now in
    let w : length p ≡ length c.coeffs-i.result.now = ap length (sym c.coeffs-i.ensures) in
    record {
      below = omega (arith, w);
      element = c.in_ok-value.ensures.element;
      value = c.in_ok-value.ensures.value
          ∙ sym (horner-none K L f (elem_of L f c.args.z.now)
          (λ i. constant (lawful_field L) (plane_of K f) (coeff K.ring (poly_of K p).coeffs i))
          (length p))
          ∙ ap (λ n. horner (algebra_in L f) (elem_of L f c.args.z.now)
          (from_index n (λ i. constant (lawful_field L) (plane_of K f)
          (coeff K.ring (poly_of K p).coeffs i))) (length p - n)) w;
    }

pub loop-i-preserved : goal.loop-i-preserved
loop-i-preserved g c =
    let K = g.K.Ring.elements c.args.alg.now.k in
    let L = g.K.Ring.lawful c.args.alg.now.k in
    let f = c.args.alg.now.f in
    let A = algebra_in L f in
    let p = c.args.p.now in
    let i = c.loop-i.i in
    let k = i - 1 in
    let X = elem_of L f c.args.z.now in
    let cs : ℕ → A.carrier = λ i. constant (lawful_field L) (plane_of K f)
    (coeff K.ring (poly_of K p).coeffs i) in
    let pos : 0 < i = omega (arith, c.loop-i-test.true) in
    let old = c.loop-i.invariant in
    record {
      below = omega (arith, old.below);
      element = c.in_ok-value-2.ensures.element;
      value = c.in_ok-value-2.ensures.value
          ∙ ap₂ (λ a b. A.add a (A.mul X b))
          (c.in_ok-c.ensures.value ∙ ap (constant (lawful_field L) (plane_of K f))
          (coefficient K L f p k (K.value c.coeff.result) c.coeff.ensures.value)) old.value
          ∙ horner-next K L f X cs (length p) i k pos old.below refl;
    }

pub returns : goal.returns
returns g c =
    let K = g.K.Ring.elements c.args.alg.now.k in
    let L = g.K.Ring.lawful c.args.alg.now.k in
    let f = c.args.alg.now.f in
    record {
      element = c.loop-i.invariant.element;
      value = c.loop-i.invariant.value
          ∙ poly-whole K L f (elem_of L f c.args.z.now) c.args.p.now c.loop-i.i
          (omega (arith, c.loop-i-test.false));
    }
