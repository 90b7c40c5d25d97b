use Rattle.std.proofs.Common.{◌-◌, length, sym, ◌∙◌, ap, subst, arith, All}
use Rattle.std.proofs.lemmas.List.{take_all}
use Rattle.ff_theory.specs.Ring.{power}
use Rattle.ff_theory.specs.Lawful.{lawful_field}
use Rattle.ff_theory.specs.Poly.{polynomials}
use Rattle.ff_theory.proofs.Poly.{polynomial_laws, polynomial_tests}
use Rattle.ff_theory.proofs.Frobenius.{power-zero}
use Rattle.ff_theory.proofs.ElementPower.{planes_characteristic}
use Rattle.ff_theory.specs.Values.{poly_of, IsPoly, plane_of}
use Rattle.ff_elem.specs.Zeros.{AddsZeros}
use Rattle.ff_elem.proofs.RowLemmas.{pushed-each}
use Rattle.ff_elem.proofs.ZeroLemmas.{frobenius-step}
use Rattle.ff_elem.proofs.frobenius.rows_power.Goals as goal

pub overflow_sub-between : goal.overflow_sub-between
overflow_sub-between g c = let pos = (g.met.K.FiniteField.is_finite_field
    c.args.k.now).least.positive in omega (arith, pos, c.characteristic-between.ensures)

pub push_zero_rows-requires : goal.push_zero_rows-requires
push_zero_rows-requires g c =
    let K = g.K.Ring.elements c.args.k.now in
    pushed-each (λ p. IsPoly K p) c.loop-p.powers.items c.in_ok-poly_power.field-0
    c.push.new.self.items c.in_ok-push.ensures.items c.loop-p.invariant.each
    c.in_ok-poly_power.ensures.poly

pub loop-p-init : goal.loop-p-init
loop-p-init g c =
    let K = g.K.Ring.elements c.args.k.now in
    let laws = g.met.K.Ring.laws c.args.k.now in
    let tests = g.met.K.Ring.tests c.args.k.now in
    let D = polynomials K.ring in
    let DL = polynomial_laws K.ring laws tests in
    let DT = polynomial_tests K.ring laws tests in
    let e = c.new-powers.ensures.items in
    record {
      len = omega (arith, ap length e);
      each = subst (All (λ p. IsPoly K p)) (sym e) (λ k d l. absurd (omega arith));
      value = ap (plane_of K) e ∙ sym (power-zero (polynomials D) (polynomial_laws D DL DT)
          K.characteristic (g.met.K.FiniteField.is_finite_field c.args.k.now).least.positive);
    }

pub loop-p-preserved : goal.loop-p-preserved
loop-p-preserved g c =
    let K = g.K.Ring.elements c.args.k.now in
    let laws = g.met.K.Ring.laws c.args.k.now in
    let tests = g.met.K.Ring.tests c.args.k.now in
    let D = polynomials K.ring in
    let zeros = subst (λ n. AddsZeros D (λ p. poly_of K p) c.push.new.self.items
    c.push_zero_rows.new.rows.items (n - 1)) c.characteristic-between.ensures
    c.in_ok-push_zero_rows.ensures.zeros in
    let step = frobenius-step D (polynomial_laws K.ring laws tests)
    (polynomial_tests K.ring laws tests) (λ p. poly_of K p) K.characteristic
    (planes_characteristic (lawful_field (g.K.Ring.lawful c.args.k.now)) K.characteristic
    (g.met.K.FiniteField.is_finite_field c.args.k.now).least)
    c.args.rows.now c.loop-p.powers.items c.push.new.self.items c.push_zero_rows.new.rows.items
    c.loop-p.p-index c.p-item.result c.in_ok-poly_power.field-0
    c.loop-p-test.true c.p-item.is c.in_ok-push.ensures.items zeros c.in_ok-poly_power.ensures.value
    c.loop-p.invariant.len c.loop-p.invariant.value
    in
    record {
      len = step.0;
      each = c.in_ok-push_zero_rows.ensures.each;
      value = step.1;
    }

pub returns-clause-value : goal.returns-clause-value
returns-clause-value g c =
    let K = g.K.Ring.elements c.args.k.now in
    c.loop-p.invariant.value ∙ ap (λ q. power (polynomials (polynomials K.ring)) (plane_of K q)
    K.characteristic) (take_all c.loop-p.p-index c.args.rows.now (omega arith))
