use Rattle.std.proofs.Common.{◌≡◌, ℕ, ◌+◌, true, false, sym, ◌∙◌, ap, subst, arith, length, List}
use Rattle.ff_theory.specs.Vector.{vector_of, IsVector}
use Rattle.ff_describe.specs.Levels.{offset}
use Rattle.ff_describe.specs.Readings.{IsUnit, AreCut, AreLight}
use Rattle.ff_describe.proofs.RowLemmas.{row-same, row-vector}
use Rattle.ff_describe.proofs.products.reading.Goals as goal

pub is_unit-requires : goal.is_unit-requires
is_unit-requires g c =
    let F = g.K.Ring.elements c.args.k.now in
    let counts = c.args.counts.now in
    let m = c.args.n + offset counts (length counts) in
    let v : IsVector F m c.deref.result.now = row-vector F m c.args.rows.now c.args.r
    c.index-rows-r.result c.deref.result.now c.requires.rows c.requires.row c.index-rows-r.is
    c.deref.ensures.value in
    record {
      row = v.each;
      room = omega (arith, v.len);
      index = c.requires.index;
    }

pub coordinates-requires : goal.coordinates-requires
coordinates-requires g c =
    let F = g.K.Ring.elements c.args.k.now in
    let counts = c.args.counts.now in
    let m = c.args.n + offset counts (length counts) in
    let v : IsVector F m c.deref-2.result.now = row-vector F m c.args.rows.now c.args.r
    c.index-rows-r.result c.deref-2.result.now c.requires.rows c.requires.row c.index-rows-r.is
    c.deref-2.ensures.value in
    record {
      row = v.each;
      room = v.len;
    }

pub are_light-requires : goal.are_light-requires
are_light-requires g c = record {
  count = omega (
    arith,
    ap length c.deref-3.ensures.value,
    c.in_ok-items.ensures.count,
    c.requires.count,
  );
}

pub returns-then-not-is_unit-clause-none : goal.returns-then-not-is_unit-clause-none
returns-then-not-is_unit-clause-none g c h =
    let F = g.K.Ring.elements c.args.k.now in
    let z : true ≡ false = sym (c.is_unit.ensures.all (subst (λ (v : List ℕ).
    IsUnit F c.args.n c.args.r (vector_of F v)) (row-same c.args.rows.now c.args.r
    c.index-rows-r.result c.deref.result.now c.requires.row c.index-rows-r.is
    c.deref.ensures.value) h.unit)) ∙ c.if-not-is_unit.true in cc

pub returns-then-not-are_light-clause-none : goal.returns-then-not-are_light-clause-none
returns-then-not-are_light-clause-none g c h =
    let F = g.K.Ring.elements c.args.k.now in
    let items = c.in_ok-items.items.items in
    let z : true ≡ false = sym (c.are_light.ensures.all (subst (AreLight c.args.e
    c.args.weights.now c.args.bound) (sym c.deref-3.ensures.value) (h.light items
    (subst (λ (v : List ℕ). AreCut F c.args.counts.now c.args.n (vector_of F v) items)
    (sym (row-same c.args.rows.now c.args.r c.index-rows-r.result c.deref-2.result.now
    c.requires.row c.index-rows-r.is c.deref-2.ensures.value)) c.in_ok-items.ensures))))
    ∙ c.if-not-are_light.true in cc

pub returns-clause-some : goal.returns-clause-some
returns-clause-some g c =
    let F = g.K.Ring.elements c.args.k.now in
    let counts = c.args.counts.now in
    let rows = c.args.rows.now in
    let r = c.args.r in
    let row = c.index-rows-r.result in
    let items = c.in_ok-items.items.items in
    let is = c.index-rows-r.is in
    record {
      unit = subst (λ (v : List ℕ). IsUnit F c.args.n r (vector_of F v))
          (sym (row-same rows r row c.deref.result.now c.requires.row is c.deref.ensures.value))
          (c.is_unit.ensures.unit c.if-not-is_unit.false);
      cut = subst (λ (v : List ℕ). AreCut F counts c.args.n (vector_of F v) items)
          (sym (row-same rows r row c.deref-2.result.now c.requires.row is c.deref-2.ensures.value))
          c.in_ok-items.ensures;
      light = subst (AreLight c.args.e c.args.weights.now c.args.bound) c.deref-3.ensures.value
          (c.are_light.ensures.light c.if-not-are_light.false);
    }
