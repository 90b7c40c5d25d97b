use Rattle.std.proofs.Common.{ap, refl, subst, ◌∙◌, ◌≡◌}
use Rattle.std.specs.Prelude.{IfNone, IfSome}
use Rattle.ff_theory.specs.Lawful.{lawful_field}
use Rattle.ff_theory.specs.Values.{plane_of, poly_of}
use Rattle.ff_elem.specs.Elem.{IsElem, algebra_in, elem_of}
use Rattle.ff_subst.specs.Inverse.{HasInverse, numerator_at}
use Rattle.ff_subst.proofs.PairValues.{value_is}
use Rattle.ff_subst.proofs.values.quotient.Goals as goal

pub inverse_of-requires : goal.inverse_of-requires
inverse_of-requires g c = c.requires.den.element

pub value_over-requires : goal.value_over-requires
value_over-requires g c =
    let L = g.K.Ring.lawful c.args.alg.now.k in
    record {
      at = c.requires.at;
      pair = c.requires.pair;
      num = c.requires.num;
      inverse = subst (λ o. IfSome o (IsElem L c.args.alg.now.f)) c.in-Some.is
          c.in_ok-inverse.ensures.element;
    }

pub returns-in_ok-value-in-Some-clause-element : goal.returns-in_ok-value-in-Some-clause-element
returns-in_ok-value-in-Some-clause-element g c = c.in_ok-value-in-Some.ensures.element

pub returns-in_ok-value-in-Some-clause-value : goal.returns-in_ok-value-in-Some-clause-value
returns-in_ok-value-in-Some-clause-value g c =
    let K = g.K.Ring.elements c.args.alg.now.k in
    let L = g.K.Ring.lawful c.args.alg.now.k in
    let f = c.args.alg.now.f in
    let A = algebra_in L f in
    let s = c.args.s.now in
    let pair = c.args.pair.now in
    let den = elem_of L f c.args.den.now in
    value_is (lawful_field L) (plane_of K f) (poly_of K s.den) (plane_of K s.num)
    (elem_of L f pair.x) (elem_of L f pair.y) den (elem_of L f c.in-Some.inverse)
    (numerator_at L f s pair) (elem_of L f c.in_ok-value-in-Some.value) c.requires.den.value
    (subst (λ o. IfSome o (λ r. A.mul (elem_of L f r) den ≡ A.one)) c.in-Some.is
    c.in_ok-inverse.ensures.inverse) refl c.in_ok-value-in-Some.ensures.value

pub returns-in_ok-value-in-Some-clause-none : goal.returns-in_ok-value-in-Some-clause-none
returns-in_ok-value-in-Some-clause-none g c = tt

pub returns-in-None-clause-none : goal.returns-in-None-clause-none
returns-in-None-clause-none g c =
    let L = g.K.Ring.lawful c.args.alg.now.k in
    let f = c.args.alg.now.f in
    let A = algebra_in L f in
    let none = subst (λ o. IfNone o (¬ HasInverse L f (elem_of L f c.args.den.now))) c.in-None.is
    c.in_ok-inverse.ensures.none in
    λ h. none (record {
      inverse = h.inverse;
      inverts = ap (A.mul h.inverse) c.requires.den.value ∙ h.inverts;
    })
