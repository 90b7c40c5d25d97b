use Rattle.std.proofs.Common.{◌-◌, length, get_or, sym, ◌∙◌, ap, subst, arith, All}
use Rattle.std.proofs.lemmas.List.{take_all, get_or_default}
use Rattle.ff_theory.specs.Ring.{IsElement, power}
use Rattle.ff_theory.specs.Lawful.{lawful_field}
use Rattle.ff_theory.specs.Poly.{polynomials}
use Rattle.ff_theory.proofs.Poly.{polynomial_laws}
use Rattle.ff_theory.proofs.Frobenius.{power-zero}
use Rattle.ff_theory.proofs.ElementPower.{polynomials_characteristic}
use Rattle.ff_theory.specs.Values.{poly_of}
use Rattle.ff_theory.proofs.Results.{ok_map}
use Rattle.ff_elem.specs.Zeros.{AddsZeros}
use Rattle.ff_elem.proofs.RowLemmas.{pushed-each}
use Rattle.ff_elem.proofs.ZeroLemmas.{frobenius-step}
use Rattle.ff_elem.proofs.frobenius.poly_power.Goals as goal

pub overflow_sub-between : goal.overflow_sub-between
overflow_sub-between g c = let pos = (g.met.K.FiniteField.is_finite_field
    c.args.k.now).least.positive in omega (arith, pos, c.characteristic-between.ensures)

pub frob-requires : goal.frob-requires
frob-requires g c =
    let K = g.K.Ring.elements c.args.k.now in
    subst (All (IsElement K)) (sym c.coeffs-c-items.ensures) c.requires.each c.loop-c.c-index 0
    c.loop-c-test.true

pub push_zeros-requires : goal.push_zeros-requires
push_zeros-requires g c =
    let K = g.K.Ring.elements c.args.k.now in
    pushed-each (IsElement K) c.loop-c.list.items c.frob.result c.push.new.self.items
    c.in_ok-push.ensures.items c.loop-c.invariant.each c.frob.ensures.element

pub loop-c-init : goal.loop-c-init
loop-c-init g c =
    let K = g.K.Ring.elements c.args.k.now in
    let laws = g.met.K.Ring.laws c.args.k.now in
    let tests = g.met.K.Ring.tests c.args.k.now in
    let e = c.new-list.ensures.items in
    record {
      len = omega (arith, ap length e);
      each = subst (All (IsElement K)) (sym e) (λ k d l. absurd (omega arith));
      value = ap (poly_of K) e ∙ sym (power-zero (polynomials K.ring) (polynomial_laws K.ring laws
          tests) K.characteristic (g.met.K.FiniteField.is_finite_field
          c.args.k.now).least.positive);
    }

pub loop-c-preserved : goal.loop-c-preserved
loop-c-preserved g c =
    let K = g.K.Ring.elements c.args.k.now in
    let zeros = subst (λ n. AddsZeros K.ring K.value c.push.new.self.items
    c.push_zeros.new.list.items (n - 1)) c.characteristic-between.ensures
    c.in_ok-push_zeros.ensures.zeros in
    let item = get_or c.coeffs-c-items.result.now c.loop-c.c-index 0 in
    let step = frobenius-step K.ring (g.met.K.Ring.laws c.args.k.now)
    (g.met.K.Ring.tests c.args.k.now) K.value K.characteristic
    (polynomials_characteristic (lawful_field (g.K.Ring.lawful c.args.k.now)) K.characteristic
    (g.met.K.FiniteField.is_finite_field c.args.k.now).least)
    c.coeffs-c-items.result.now c.loop-c.list.items c.push.new.self.items
    c.push_zeros.new.list.items c.loop-c.c-index item c.frob.result
    c.loop-c-test.true (get_or_default c.coeffs-c-items.result.now c.loop-c.c-index 0 item
    c.loop-c-test.true) c.in_ok-push.ensures.items zeros c.frob.ensures.value
    c.loop-c.invariant.len c.loop-c.invariant.value
    in
    record {
      len = step.0;
      each = c.in_ok-push_zeros.ensures.each;
      value = step.1;
    }

pub returns-clause-value : goal.returns-clause-value
returns-clause-value g c =
    let K = g.K.Ring.elements c.args.k.now in
    ok_map _ _ c.from_coeffs.result
    (λ r h. h ∙ ap (poly_of K) c.deref.ensures.value ∙ c.loop-c.invariant.value
    ∙ ap (λ q. power (polynomials K.ring) (poly_of K q) K.characteristic)
    (take_all c.loop-c.c-index c.coeffs-c-items.result.now (omega arith)
    ∙ c.coeffs-c-items.ensures)) c.from_coeffs.ensures.value
