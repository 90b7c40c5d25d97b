use Rattle.std.proofs.Common.{ap, ap₂, arith, length, subst, sym, ◌*◌, ◌+◌, ◌-◌, ◌/◌, ◌∙◌}
use Rattle.std.proofs.Common.{◌≡◌, ◌≤◌}
use Rattle.ff_theory.specs.Lawful.{lawful_field}
use Rattle.ff_theory.specs.Ring.{power}
use Rattle.ff_theory.specs.Values.{plane_of}
use Rattle.ff_theory.proofs.Element.{algebra_is_ring}
use Rattle.ff_theory.proofs.Horner.{from_index, horner}
use Rattle.ff_elem.specs.Elem.{algebra_in}
use Rattle.ff_subst.specs.Cleared.{coefficient_in, linear_sum}
use Rattle.ff_subst.proofs.BlockLemmas.{block-above, block-next, block-none, horner-block}
use Rattle.ff_subst.proofs.BlockLemmas.{horner-past}
use Rattle.ff_subst.proofs.ClearedLemmas.{coefficient-past, coefficients-whole}
use Rattle.ff_subst.proofs.blocks.value_of_poly.Goals as goal

pub step-requires : goal.step-requires
step-requires g c =
    record { at = c.requires.at; p = c.requires.p; value = c.loop-b.invariant.element }

pub loop-b-init : goal.loop-b-init
loop-b-init g c =
    let K = g.K.Ring.elements c.args.alg.now.k in
    let L = g.K.Ring.lawful c.args.alg.now.k in
    let f = c.args.alg.now.f in
    let A = algebra_in L f in
    let p = c.args.p.now in
    let n = length c.args.at.now.list.planes in
    let b : length c.coeffs.result.now / length c.list-count.result.now + 1 ≡ length p / n + 1 = ap₂
    (λ i j. i / j + 1) (ap length c.coeffs.ensures) (ap length c.list-count.ensures) in
    record {
      below = omega (arith, b);
      element = c.in_ok-value.ensures.element;
      value = λ X k. c.in_ok-value.ensures.value
          ∙ sym (horner-past A (algebra_is_ring (lawful_field L) (plane_of K f)) X
          (coefficient_in L f p) (length p) _ (coefficient-past K L f p)
          (subst (λ b. length p ≤ b * n) (sym b) (block-above (length p) n c.requires.at.some)));
    }

pub loop-b-preserved : goal.loop-b-preserved
loop-b-preserved g c =
    let K = g.K.Ring.elements c.args.alg.now.k in
    let L = g.K.Ring.lawful c.args.alg.now.k in
    let f = c.args.alg.now.f in
    let A = algebra_in L f in
    let p = c.args.p.now in
    let n = length c.args.at.now.list.planes in
    let b = c.loop-b.b in
    let cs = coefficient_in L f p in
    let old = c.loop-b.invariant in
    record {
      below = omega (arith, old.below);
      element = c.in_ok-value-2.ensures.element;
      value = λ X k. c.in_ok-value-2.ensures.value X k
          ∙ ap₂ (λ m t. A.add (linear_sum L f p ((b - 1) * m) (power A X) n)
          (A.mul (power A X n) t)) (ap length c.list-count.ensures)
          (old.value X k ∙ ap (λ i. horner A X (from_index i cs) (length p))
          (sym (block-next n b c.loop-b-test.true)))
          ∙ sym (horner-block A (algebra_is_ring (lawful_field L) (plane_of K f)) X cs (length p)
          ((b - 1) * n) n (coefficient-past K L f p));
    }

pub returns-clause-value : goal.returns-clause-value
returns-clause-value g c =
    let K = g.K.Ring.elements c.args.alg.now.k in
    let L = g.K.Ring.lawful c.args.alg.now.k in
    let f = c.args.alg.now.f in
    let n = length c.args.at.now.list.planes in
    λ X k. c.loop-b.invariant.value X k ∙ coefficients-whole K L f X c.args.p.now
    (c.loop-b.b * n) (block-none n c.loop-b.b (omega (arith, c.loop-b-test.false)))
