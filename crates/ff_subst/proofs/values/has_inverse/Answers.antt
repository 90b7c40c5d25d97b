use Rattle.std.proofs.Common.{refl, subst}
use Rattle.ff_theory.specs.Lawful.{lawful_field}
use Rattle.ff_theory.specs.Values.{plane_of}
use Rattle.ff_elem.specs.Elem.{elem_of}
use Rattle.ff_elem.specs.Inverse.{DividesZero, IsZeroDivisor}
use Rattle.ff_subst.proofs.PairValues.{no-inverse}
use Rattle.ff_subst.proofs.values.has_inverse.Goals as goal

pub returns-in-Ok : goal.returns-in-Ok
returns-in-Ok g c =
    let L = g.K.Ring.lawful c.args.alg.now.k in
    let f = c.args.alg.now.f in (
      λ t. record { inverse = elem_of L f c.in-Ok.field-0; inverts = c.in-Ok.ensures.inverse },
      λ d.
          refl,
    )

pub returns-in-Err-ZeroDivisor : goal.returns-in-Err-ZeroDivisor
returns-in-Err-ZeroDivisor g c =
    let K = g.K.Ring.elements c.args.alg.now.k in
    let L = g.K.Ring.lawful c.args.alg.now.k in
    let f = c.args.alg.now.f in
    let a = c.args.a.now in
    let divides : IsZeroDivisor L f a c.in-Err-ZeroDivisor.field-0-0 = subst (DividesZero L f a)
    c.in-Err-ZeroDivisor.field-0-is c.in-Err-ZeroDivisor.ensures.divisor in (
      λ e. absurd cc,
      λ h. absurd (no-inverse (lawful_field L) (plane_of K f) (elem_of L f a)
          (elem_of L f c.in-Err-ZeroDivisor.field-0-0) h.inverse divides.product divides.nonzero
          h.inverts),
    )
