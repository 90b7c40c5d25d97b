use Rattle.std.proofs.Common.{IfSome, IfNone, sym, subst}
use Rattle.ff_elem.specs.Elem.{elem_of}
use Rattle.ff_const.specs.Fixed.{IsFixed, IsConstant, AreFactorsFrom}
use Rattle.ff_const.proofs.fixed.split_one.Goals as goal

pub factors_from-requires : goal.factors_from-requires
factors_from-requires g c =
    let L = g.K.Ring.lawful c.args.alg.now.k in
    let f = c.args.alg.now.f in
    record {
      w = c.in_ok-w.ensures.element;
      fixed = subst (IsFixed L f) (sym c.in_ok-w.ensures.value) c.requires.fixed;
    }

pub returns-in-Some-clause-factors : goal.returns-in-Some-clause-factors
returns-in-Some-clause-factors g c =
    let L = g.K.Ring.lawful c.args.alg.now.k in
    let f = c.args.alg.now.f in
    subst (λ w. AreFactorsFrom L f w c.in-Some.g c.in-Some.h) c.in_ok-w.ensures.value
    (subst (λ o. IfSome o (λ r. AreFactorsFrom L f (elem_of L f c.in_ok-w.w) r.0 r.1)) c.in-Some.is
    c.in_ok-g.ensures.some)

pub returns-clause-constant : goal.returns-clause-constant
returns-clause-constant g c =
    let L = g.K.Ring.lawful c.args.alg.now.k in
    let f = c.args.alg.now.f in
    subst (IsConstant L f) c.in_ok-w.ensures.value
    (subst (λ o. IfNone o (IsConstant L f (elem_of L f c.in_ok-w.w))) c.in-None.is
    c.in_ok-g.ensures.none)
