use Rattle.std.proofs.Common.{◌≡◌, ◌-◌, ◌<◌, length, get_or, sym, ◌∙◌, ap, subst, arith}
use Rattle.std.proofs.lemmas.List.{get_or_default}
use Rattle.std.specs.declared.cmp.Ordering.TheVariants.{Less}
use Rattle.ff_elem.specs.Key.{key_cmp}
use Rattle.ff_elem.proofs.KeyLemmas.{key_cmp-is_equal}
use Rattle.ff_data.specs.declared.point.Point.{Point}
use Rattle.ff_points.specs.PointLists.{point_key}
use Rattle.ff_points.proofs.PointKeys.{greater-less}
use Rattle.ff_points.proofs.keys.place.Goals as goal

pub loop-i-preserved : goal.loop-i-preserved
loop-i-preserved g c =
    let F = g.K.Ring.elements c.args.k.now in
    let list = c.args.list.now in
    let key = point_key F c.args.p.now in
    let i = c.loop-i.i - 1 in
    let q = c.index-list-i.result in
    let h = c.loop-i.invariant in
    let inside : i < length list = omega (arith, c.loop-i-test.true, h.within) in
    record {
      within = omega (arith, h.within);
      before = λ d b. subst (λ (x : Point). key_cmp key (point_key F x) ≡ Less)
          (c.index-list-i.is ∙ get_or_default list i q d inside)
          (sym c.compare.ensures ∙ c.in-Less.is);
    }

pub returns-in-Equal : goal.returns-in-Equal
returns-in-Equal g c =
    let F = g.K.Ring.elements c.args.k.now in
    let list = c.args.list.now in
    let p = c.args.p.now in
    let i = c.loop-i.i - 1 in
    let q = c.index-list-i.result in
    let inside : i < length list = omega (arith, c.loop-i-test.true, c.loop-i.invariant.within) in
    record {
      some = tt;
      none = (
        i,
        (
          inside,
          ap (point_key F) (sym (c.index-list-i.is ∙ get_or_default list i q p inside))
              ∙ sym (key_cmp-is_equal (point_key F p) (point_key F q)
              (sym c.compare.ensures ∙ c.in-Equal.is)),
        ),
      );
    }

pub returns-in-Greater : goal.returns-in-Greater
returns-in-Greater g c =
    let F = g.K.Ring.elements c.args.k.now in
    let list = c.args.list.now in
    let key = point_key F c.args.p.now in
    let i = c.loop-i.i - 1 in
    let q = c.index-list-i.result in
    let h = c.loop-i.invariant in
    let inside : i < length list = omega (arith, c.loop-i-test.true, h.within) in
    record {
      some = record {
        within = h.within;
        after = λ d b. subst (λ (x : Point). key_cmp (point_key F x) key ≡ Less)
            (c.index-list-i.is ∙ get_or_default list i q d inside)
            (greater-less key (point_key F q) (sym c.compare.ensures ∙ c.in-Greater.is));
        before = h.before;
      };
      none = tt;
    }

pub returns : goal.returns
returns g c =
    let F = g.K.Ring.elements c.args.k.now in
    let list = c.args.list.now in
    let key = point_key F c.args.p.now in
    let h = c.loop-i.invariant in
    let end : c.loop-i.i ≡ 0 = omega (arith, c.loop-i-test.false) in
    record {
      some = record {
        within = omega arith;
        after = λ d b. absurd (omega (arith, b));
        before = λ d b. subst (λ n. key_cmp key (point_key F (get_or list n d)) ≡ Less) end
            (h.before d (omega (arith, b, end)));
      };
      none = tt;
    }
