use Rattle.std.proofs.Common.{◌≡◌, suc, ◌-◌, length, get_or, map, reverse, drop, sym, ◌∙◌, ap, ap₂}
use Rattle.std.proofs.Common.{arith}
use Rattle.std.proofs.lemmas.List.{get_or_default}
use Rattle.std.specs.Ordering.{nat_cmp}
use Rattle.ff_elem.proofs.KeyLemmas.{entries-start, entries-differ, entries-agree, entries-end}
use Rattle.ff_const.proofs.keys.compare_coeffs.Goals as goal

pub loop-i-init : goal.loop-i-init
loop-i-init g c =
    let K = g.K.Ring.elements c.args.k.now in
    record {
      inside = omega arith;
      same = entries-start (λ x. K.index (K.value x)) c.args.a.now c.args.b.now
          (length c.args.a.now) (omega arith) (omega (arith, c.requires.same));
    }

pub returns-then-is_ne : goal.returns-then-is_ne
returns-then-is_ne g c =
    let K = g.K.Ring.elements c.args.k.now in
    let i = c.loop-i.i - 1 in
    let next : c.loop-i.i ≡ suc i = omega arith in
    let inside = c.loop-i.invariant.inside in
    entries-differ (λ x. K.index (K.value x)) c.args.a.now c.args.b.now i c.loop-i.i
    (get_or c.args.a.now i 0) (get_or c.args.b.now i 0) c.cmp-order.result next
    (omega (arith, inside)) (omega (arith, inside, c.requires.same))
    (get_or_default c.args.a.now i 0 (get_or c.args.a.now i 0) (omega (arith, inside)))
    (get_or_default c.args.b.now i 0 (get_or c.args.b.now i 0)
    (omega (arith, inside, c.requires.same)))
    c.loop-i.invariant.same (c.cmp-order.ensures ∙ ap₂ nat_cmp c.index.ensures
    c.index-in-loop-i.ensures) (sym c.is_ne.ensures ∙ c.if-is_ne.true)

pub loop-i-preserved : goal.loop-i-preserved
loop-i-preserved g c =
    let K = g.K.Ring.elements c.args.k.now in
    let i = c.loop-i.i - 1 in
    let next : c.loop-i.i ≡ suc i = omega arith in
    let inside = c.loop-i.invariant.inside in
    record {
      inside = omega (arith, inside);
      same = entries-agree (λ x. K.index (K.value x)) c.args.a.now c.args.b.now i c.loop-i.i
          (get_or c.args.a.now i 0) (get_or c.args.b.now i 0) c.cmp-order.result next
          (omega (arith, inside)) (omega (arith, inside, c.requires.same))
          (get_or_default c.args.a.now i 0 (get_or c.args.a.now i 0) (omega (arith, inside)))
          (get_or_default c.args.b.now i 0 (get_or c.args.b.now i 0)
          (omega (arith, inside, c.requires.same)))
          c.loop-i.invariant.same (c.cmp-order.ensures ∙ ap₂ nat_cmp c.index.ensures
          c.index-in-loop-i.ensures) (sym c.is_ne.ensures ∙ c.if-is_ne.false);
    }

pub returns : goal.returns
returns g c =
    let K = g.K.Ring.elements c.args.k.now in
    let end : c.loop-i.i ≡ 0 = omega arith in
    entries-end (λ x. K.index (K.value x)) c.args.a.now c.args.b.now
    (sym (ap (λ n. reverse (map (λ x. K.index (K.value x)) (drop n c.args.a.now))) end)
    ∙ c.loop-i.invariant.same ∙ ap (λ n. reverse (map (λ x. K.index (K.value x)) (drop n
    c.args.b.now))) end)
