use Rattle.std.proofs.Common.{◌≡◌, ◌<◌, length, get_or, [], ◌∙◌, ap, arith, sym, subst}
use Rattle.std.proofs.lemmas.List.{get_or_default}
use Rattle.ff_theory.specs.Values.{poly_of, ArePolys}
use Rattle.ff_ring.proofs.EntryLemmas.{entry-read}
use Rattle.ff_ring.proofs.LineLemmas.{sum-line-more}
use Rattle.ff_ring.proofs.sum.sum_at.Goals as goal

pub plus_multiple-requires : goal.plus_multiple-requires
plus_multiple-requires g c =
    let F = g.K.Ring.elements c.args.k.now in
    let l = c.loop-l.l in
    let list = c.args.list.now in
    let x = c.index-list-l.result in
    let inside : l < length list = omega (arith, c.loop-l-test.true, c.requires.count) in
    let same = c.rows.ensures ∙ c.index-list-l.is in
    record {
      h = c.loop-l.invariant.each;
      p = c.in_ok-factor.ensures.poly;
      a = subst (ArePolys F) (sym same) (c.requires.list l x inside);
      count = ap length same ∙ c.requires.long l x inside ∙ sym c.loop-l.invariant.count;
    }

pub loop-l-preserved : goal.loop-l-preserved
loop-l-preserved g c =
    let F = g.K.Ring.elements c.args.k.now in
    let L = g.K.Ring.lawful c.args.k.now in
    let l = c.loop-l.l in
    let list = c.args.list.now in
    let x = c.index-list-l.result in
    let inside : l < length list = omega (arith, c.loop-l-test.true, c.requires.count) in
    sum-line-more F L c.args.alpha c.args.beta c.args.c.now list c.loop-l.sum.items
    c.in_ok-sum-2.sum.items c.in_ok-factor.factor c.index-c-l.result c.rows.result.now l _ c.args.e
    (length c.loop-l.sum.items) (omega arith) c.loop-l.invariant.count c.in_ok-factor.ensures.value
    (ap (poly_of F) c.index-c-l.is ∙ entry-read F c.args.c.now l c.index-c-l.result
    (omega (arith, c.loop-l-test.true)))
    (c.rows.ensures ∙ c.index-list-l.is ∙ get_or_default list l x [] inside)
    c.loop-l.invariant c.in_ok-sum-2.ensures
