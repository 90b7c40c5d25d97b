use Rattle.std.proofs.Common.{◌≡◌, ◌∙◌, length, get_or, sym, ap, subst, arith}
use Rattle.std.proofs.lemmas.List.{get_or_default}
use Rattle.ff_elem.specs.Elem.{IsElem}
use Rattle.ff_elem.proofs.RowLemmas.{pushed-length, pushed-each}
use Rattle.ff_data.proofs.ListLemmas.{pushed-at}
use Rattle.ff_const.specs.Fixed.{IsDifference}
use Rattle.ff_const.proofs.fixed.differences.Goals as goal

pub difference-requires : goal.difference-requires
difference-requires g c =
    let L = g.K.Ring.lawful c.args.alg.now.k in
    subst (IsElem L c.args.alg.now.f) (sym c.w-item.is)
    (c.requires c.loop-w.w-index c.w-item.result c.loop-w-test.true)

pub loop-w-init : goal.loop-w-init
loop-w-init g c =
    let e = ap length c.in_ok-differences.ensures.items in
    record {
      elems = λ k d h. absurd (omega (arith, h, e));
      count = e;
      each = λ d j h. absurd (omega (arith, h));
    }

pub loop-w-preserved : goal.loop-w-preserved
loop-w-preserved g c =
    let L = g.K.Ring.lawful c.args.alg.now.k in
    let f = c.args.alg.now.f in
    let ws = c.args.list.now in
    let w = c.w-item.result in
    let i = c.loop-w.w-index in
    let xs = c.loop-w.differences.items in
    let x = c.in_ok-difference.field-0 in
    let ys = c.push.new.self.items in
    let e = c.in_ok-push.ensures.items in
    let h = c.loop-w.invariant in
    record {
      elems = pushed-each (IsElem L f) xs x ys e h.elems c.in_ok-difference.ensures.element;
      count = pushed-length xs x ys i e h.count;
      each = λ d. pushed-at (λ j v. IsDifference L f (get_or ws j d) v) d xs x ys i e h.count
          (h.each d) (subst (λ v. IsDifference L f v x)
          (c.w-item.is ∙ get_or_default ws i w d c.loop-w-test.true)
          c.in_ok-difference.ensures.value);
    }

pub returns : goal.returns
returns g c =
    let whole : c.loop-w.w-index ≡ length c.args.list.now = omega (
      arith,
      c.loop-w-test.false,
      c.loop-w.auto.w-index-end,
    ) in
    record {
      elems = c.loop-w.invariant.elems;
      count = c.loop-w.invariant.count ∙ whole;
      each = λ d i h. c.loop-w.invariant.each d i (omega (arith, h, whole));
    }
