use Rattle.std.proofs.Common.{◌≡◌, true, false, sym, ◌∙◌, subst, arith}
use Rattle.ff_elem.specs.Elem.{elem_of}
use Rattle.ff_const.specs.Fixed.{HasNone}
use Rattle.ff_const.proofs.SplitLemmas.{some-size, is-constant, not-constant, at-last}
use Rattle.ff_const.proofs.factors.factors_at_last.Goals as goal

pub overflow_sub-count : goal.overflow_sub-count
overflow_sub-count g c =
    let K = g.K.Ring.elements c.args.alg.now.k in
    let L = g.K.Ring.lawful c.args.alg.now.k in
    omega (arith, some-size K L, c.count.ensures)

pub nth-requires : goal.nth-requires
nth-requires g c =
    let K = g.K.Ring.elements c.args.alg.now.k in
    let L = g.K.Ring.lawful c.args.alg.now.k in
    omega (arith, some-size K L, c.count.ensures)

pub returns-then-branch-clause-none : goal.returns-then-branch-clause-none
returns-then-branch-clause-none g c =
    let K = g.K.Ring.elements c.args.alg.now.k in
    let L = g.K.Ring.lawful c.args.alg.now.k in
    let f = c.args.alg.now.f in
    is-constant K L f (elem_of L f c.args.w.now) (K.value c.nth.result)
    (sym c.in_ok-less.ensures.value ∙ c.in_ok-is_zero.ensures.0 c.if-branch.true)

pub factors_of-requires-clause-none : goal.factors_of-requires-clause-none
factors_of-requires-clause-none g c =
    let K = g.K.Ring.elements c.args.alg.now.k in
    let L = g.K.Ring.lawful c.args.alg.now.k in
    let f = c.args.alg.now.f in
    at-last K L f (elem_of L f c.args.w.now) (elem_of L f c.in_ok-less.less) (K.value c.nth.result)
    c.count.result c.args.alg.now.plane c.args.alg.now.has_y c.count.ensures c.nth.ensures.value
    c.in_ok-less.ensures.value c.requires.fixed c.requires.others
    (λ e. absurd (let t : c.in_ok-is_zero.field-0 ≡ true = c.in_ok-is_zero.ensures.1 e in
    let o : true ≡ false = sym t ∙ c.if-branch.false in cc))

pub returns-clause-some : goal.returns-clause-some
returns-clause-some g c =
    let K = g.K.Ring.elements c.args.alg.now.k in
    let L = g.K.Ring.lawful c.args.alg.now.k in
    let f = c.args.alg.now.f in
    let w = elem_of L f c.args.w.now in (
      c.in_ok-factors_of.ensures,
      not-constant K L f w (K.value c.nth.result) (subst (HasNone L f) c.in_ok-less.ensures.value
          (at-last K L f w (elem_of L f c.in_ok-less.less) (K.value c.nth.result) c.count.result
          c.args.alg.now.plane c.args.alg.now.has_y c.count.ensures c.nth.ensures.value
          c.in_ok-less.ensures.value c.requires.fixed c.requires.others
          (λ e. absurd (let t : c.in_ok-is_zero.field-0 ≡ true = c.in_ok-is_zero.ensures.1 e in
          let o : true ≡ false = sym t ∙ c.if-branch.false in cc)))),
    )
