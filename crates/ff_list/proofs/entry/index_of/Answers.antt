use Rattle.std.proofs.Common.{◌≡◌, ◌+◌, ◌-◌, ◌/◌, ◌<◌, length, get_or, sym, ◌∙◌, subst, arith}
use Rattle.std.proofs.lemmas.List.{get_or_default}
use Rattle.std.specs.declared.cmp.Ordering.TheVariants.{Less}
use Rattle.ff_elem.specs.Key.{key_cmp}
use Rattle.ff_data.specs.declared.pair.Entry.{Entry}
use Rattle.ff_data.specs.Lists.{pair_key, key_at}
use Rattle.ff_list.proofs.PairKeys.{greater-less}
use Rattle.ff_list.proofs.entry.index_of.Goals as goal

pub loop-low-preserved : goal.loop-low-preserved
loop-low-preserved g c =
    let F = g.K.Ring.elements c.args.alg.now.k in
    let list = c.args.list.now in
    let key = pair_key F c.args.pair.now in
    let m = c.loop-low.low + (c.loop-low.high - c.loop-low.low) / 2 in
    let d' = c.index-list-middle.result in
    let h = c.loop-low.invariant in
    let inside : m < length list = omega (arith, c.loop-low-test.true, h.high) in
    record {
      low = omega (arith, h.low);
      high = omega (arith, inside);
      after = h.after;
      before = λ d b. subst (λ (x : Entry). key_cmp key (pair_key F x.pair) ≡ Less)
          (get_or_default list m d' d inside)
          (greater-less (pair_key F (get_or list m d').pair) key
          (sym c.compare.ensures ∙ c.in-Greater.is));
    }

pub returns : goal.returns
returns g c =
    let F = g.K.Ring.elements c.args.alg.now.k in
    let list = c.args.list.now in
    let key = pair_key F c.args.pair.now in
    let h = c.loop-low.invariant in
    let end : c.loop-low.high ≡ c.loop-low.low = omega (arith, c.loop-low-test.false, h.low) in
    record {
      within = omega (arith, h.low, h.high);
      after = h.after;
      before = λ d b. subst (λ n. key_cmp key (key_at F list n d) ≡ Less) end
          (h.before d (omega (arith, b, end)));
    }
