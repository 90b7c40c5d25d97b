use Rattle.std.proofs.Common.{subst}
use Rattle.ff_theory.specs.Lawful.{lawful_field}
use Rattle.ff_theory.specs.Values.{plane_of}
use Rattle.ff_elem.specs.Elem.{elem_of}
use Rattle.ff_elem.specs.Inverse.{DividesZero, IsZeroDivisor}
use Rattle.ff_subst.proofs.PairValues.{no-inverse}
use Rattle.ff_subst.proofs.values.inverse_of.Goals as goal

pub inverse-requires : goal.inverse-requires
inverse-requires g c = c.requires

pub returns-in-Ok-clause-element : goal.returns-in-Ok-clause-element
returns-in-Ok-clause-element g c = c.in-Ok.ensures.element

pub returns-in-Ok-clause-inverse : goal.returns-in-Ok-clause-inverse
returns-in-Ok-clause-inverse g c = c.in-Ok.ensures.inverse

pub returns-in-Ok-clause-none : goal.returns-in-Ok-clause-none
returns-in-Ok-clause-none g c = tt

pub returns-in-Err-ZeroDivisor-clause-none : goal.returns-in-Err-ZeroDivisor-clause-none
returns-in-Err-ZeroDivisor-clause-none g c =
    let K = g.K.Ring.elements c.args.alg.now.k in
    let L = g.K.Ring.lawful c.args.alg.now.k in
    let f = c.args.alg.now.f in
    let a = c.args.a.now in
    let divides : IsZeroDivisor L f a c.in-Err-ZeroDivisor.field-0-0 = subst (DividesZero L f a)
    c.in-Err-ZeroDivisor.field-0-is c.in-Err-ZeroDivisor.ensures.divisor in
    λ h. no-inverse (lawful_field L) (plane_of K f) (elem_of L f a)
    (elem_of L f c.in-Err-ZeroDivisor.field-0-0) h.inverse divides.product divides.nonzero
    h.inverts
