use Rattle.std.proofs.Common.{subst}
use Rattle.ff_elem.specs.Elem.{elem_of}
use Rattle.ff_elem.specs.Inverse.{HasNoInverse}
use Rattle.ff_const.proofs.factors.kind_of_nonzero.Goals as goal

pub factors_of-requires-clause-none : goal.factors_of-requires-clause-none
factors_of-requires-clause-none g c =
    let L = g.K.Ring.lawful c.args.alg.now.k in
    let f = c.args.alg.now.f in
    record {
      nonzero = c.requires.nonzero;
      none = subst (HasNoInverse L f c.args.w.now) c.in-Err-ZeroDivisor.field-0-is
          c.in-Err-ZeroDivisor.ensures.none;
    }

pub returns-in-Ok : goal.returns-in-Ok
returns-in-Ok g c =
    let L = g.K.Ring.lawful c.args.alg.now.k in
    let f = c.args.alg.now.f in
    (elem_of L f c.in-Ok.field-0, c.in-Ok.ensures.inverse)
