use Rattle.std.proofs.Common.{sym, subst}
use Rattle.std.proofs.lemmas.List.{take_all}
use Rattle.ff_elem.specs.Elem.{IsElem}
use Rattle.ff_elem.proofs.PolyLemmas.{nonzero-length}
use Rattle.ff_elem.proofs.Quotients.{element-nonzero}
use Rattle.ff_data.specs.Vectors.{IsCommonDenominator}
use Rattle.ff_data.proofs.Denominators.{denominator-none, denominator-step}
use Rattle.ff_data.proofs.vectors.common_denominator.Goals as goal

pub cofactor-requires : goal.cofactor-requires
cofactor-requires g c =
    let K = g.K.Ring.elements c.args.alg.now.k in
    let L = g.K.Ring.lawful c.args.alg.now.k in
    let f = c.args.alg.now.f in
    let w = c.w-item.result in
    let h : IsElem L f w = subst (IsElem L f) (sym c.w-item.is)
    (c.requires c.loop-w.w-index w c.loop-w-test.true) in
    record {
      a = c.loop-w.invariant.den.poly;
      a_nonzero = c.loop-w.invariant.den.nonzero;
      b = h.den;
      b_nonzero = nonzero-length K L w.den (element-nonzero K L f w h);
    }

pub loop-w-init : goal.loop-w-init
loop-w-init g c =
    let K = g.K.Ring.elements c.args.alg.now.k in
    let L = g.K.Ring.lawful c.args.alg.now.k in
    record {
      den = denominator-none K L c.in_ok-den.den c.in_ok-den.ensures.poly c.in_ok-den.ensures.len;
    }

pub loop-w-preserved : goal.loop-w-preserved
loop-w-preserved g c =
    let K = g.K.Ring.elements c.args.alg.now.k in
    let L = g.K.Ring.lawful c.args.alg.now.k in
    let d = c.in_ok-factor.ensures in
    let n = c.in_ok-den-2.ensures in
    record {
      den = denominator-step K L c.args.list.now c.loop-w.w-index c.w-item.result c.loop-w.den
          c.in_ok-factor.factor c.in_ok-den-2.den c.loop-w.invariant.den c.loop-w-test.true
          c.w-item.is d.poly d.nonzero d.multiple n.poly n.value;
    }

pub returns : goal.returns
returns g c =
    let K = g.K.Ring.elements c.args.alg.now.k in
    subst (λ ws. IsCommonDenominator K ws c.loop-w.den)
    (take_all c.loop-w.w-index c.args.list.now c.loop-w-test.false) c.loop-w.invariant.den
