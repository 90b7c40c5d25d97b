use Rattle.std.proofs.Common.{◌≡◌, ◌+◌, ◌-◌, subst, arith}
use Rattle.ff_elem.specs.Elem.{elem_of, algebra_in}
use Rattle.ff_const.specs.Fixed.{IsKind, IsInverted, less_constant_of, product_below}
use Rattle.ff_const.proofs.SplitLemmas.{some-size, is-constant, not-constant, invert-more, none-yet}
use Rattle.ff_const.proofs.factors.factors_from.Goals as goal

pub overflow_sub-i-end : goal.overflow_sub-i-end
overflow_sub-i-end g c =
    let K = g.K.Ring.elements c.args.alg.now.k in
    let L = g.K.Ring.lawful c.args.alg.now.k in
    omega (arith, some-size K L, c.count-i-end.ensures)

pub loop-i-init : goal.loop-i-init
loop-i-init g c =
    let K = g.K.Ring.elements c.args.alg.now.k in
    let L = g.K.Ring.lawful c.args.alg.now.k in
    record { others = none-yet K L c.args.alg.now.f }

pub returns-in-Zero-clause-none : goal.returns-in-Zero-clause-none
returns-in-Zero-clause-none g c =
    let K = g.K.Ring.elements c.args.alg.now.k in
    let L = g.K.Ring.lawful c.args.alg.now.k in
    let f = c.args.alg.now.f in
    let w = elem_of L f c.args.w.now in
    let less = less_constant_of L f w (K.value c.nth.result) in
    is-constant K L f w (K.value c.nth.result)
    (subst (IsKind L f less) c.in-Zero.is c.in_ok-kind_less.ensures)

pub returns-in-Divisor-clause-some : goal.returns-in-Divisor-clause-some
returns-in-Divisor-clause-some g c =
    let K = g.K.Ring.elements c.args.alg.now.k in
    let L = g.K.Ring.lawful c.args.alg.now.k in
    let f = c.args.alg.now.f in
    let w = elem_of L f c.args.w.now in
    let less = less_constant_of L f w (K.value c.nth.result) in
    let d = subst (IsKind L f less) c.in-Divisor.is c.in_ok-kind_less.ensures in
    (d.1, not-constant K L f w (K.value c.nth.result) d.0)

pub loop-i-preserved : goal.loop-i-preserved
loop-i-preserved g c =
    let K = g.K.Ring.elements c.args.alg.now.k in
    let L = g.K.Ring.lawful c.args.alg.now.k in
    let f = c.args.alg.now.f in
    let w = elem_of L f c.args.w.now in
    let less = less_constant_of L f w (K.value c.nth.result) in
    let i = c.loop-i.i in
    let d = subst (IsKind L f less) c.in-Invertible.is c.in_ok-kind_less.ensures in
    record {
      others = invert-more K L f i (i + 1) (λ i. less_constant_of L f w (K.element_at i))
          (omega arith) c.loop-i.invariant.others
          (subst (λ t. IsInverted L f (less_constant_of L f w t)) c.nth.ensures.value d);
    }

pub factors_at_last-requires-clause-others : goal.factors_at_last-requires-clause-others
factors_at_last-requires-clause-others g c =
    let K = g.K.Ring.elements c.args.alg.now.k in
    let L = g.K.Ring.lawful c.args.alg.now.k in
    let f = c.args.alg.now.f in
    let whole : c.loop-i.i ≡ K.size - 1 = omega (
      arith,
      c.loop-i-test.false,
      c.loop-i.auto.i-end,
      c.count-i-end.ensures,
    ) in
    subst (λ n. IsInverted L f (product_below (algebra_in L f) n
    (λ i. less_constant_of L f (elem_of L f c.args.w.now) (K.element_at i)))) whole
    c.loop-i.invariant.others
