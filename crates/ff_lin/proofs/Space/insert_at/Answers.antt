use Rattle.std.proofs.Common.{◌≡◌, ℕ, map, ◌∙◌, ap, Vec, Global}
use Rattle.std.specs.List.{insert}
use Rattle.std.proofs.lemmas.List.{with_items_is}
use Rattle.ff_lin.specs.Space.{SpaceParts}
use Rattle.ff_lin.proofs.InsertRow.{rows_vectors, insert_code, map-insert}
use Rattle.ff_lin.proofs.Space.insert_at.Goals as goal

pub clear_rows-requires-clause-rows : goal.clear_rows-requires-clause-rows
clear_rows-requires-clause-rows g c =
    let K = g.K.Ring.elements c.args.k.now in
    let items : Vec ℕ Global → _ = λ v. v.items in
    rows_vectors K items c.deref_mut.result.now c.self.inside.basis.items c.args.self.basis
    c.deref-2.result.now c.args.w.items c.args.self.len c.deref_mut.ensures.value
    (ap (λ (t : SpaceParts). t.basis) c.self.view_is) c.deref-2.ensures.value c.requires.w
    c.requires.space.rows

pub returns-clause-space : goal.returns-clause-space
returns-clause-space g c =
    let K = g.K.Ring.elements c.args.k.now in
    let items : Vec ℕ Global → _ = λ v. v.items in
    let basis_is : map items c.self.inside.basis.items
    ≡ c.args.self.basis = ap (λ (t : SpaceParts). t.basis) c.self.view_is in
    let pivots_is : c.self.inside.pivots.items
    ≡ c.args.self.pivots = ap (λ (t : SpaceParts). t.pivots) c.self.view_is in
    record {
      space = (insert_code K items (g.met.K.Ring.laws c.args.k.now) c.args.self
          (record {
            len = c.self.inside.len;
            basis = map items c.insert.new.self.items;
            pivots = c.insert-2.new.self.items;
          })
          c.deref_mut.result.now c.clear_rows.new.rows c.deref.result.now c.args.w
          c.deref-2.result.now c.count_below-q.result c.args.p
          c.requires.space c.requires.w c.requires.index c.requires.one c.requires.begins
          c.requires.zeros
          (ap (map items) c.deref_mut.ensures.value ∙ basis_is) (c.deref.ensures.value ∙ pivots_is)
          c.count_below-q.ensures.within c.count_below-q.ensures.lower
          c.count_below-q.ensures.upper
          c.deref-2.ensures.value c.clear_rows.ensures.len c.clear_rows.ensures.rows
          c.clear_rows.ensures.value
          (ap (λ (t : SpaceParts). t.len) c.self.view_is)
          (ap (map items) (c.in_ok-insert.ensures.items
          ∙ ap (λ r. insert r c.count_below-q.result c.args.w)
          (with_items_is c.self.inside.basis c.clear_rows.new.rows
          (c.clear_rows.ensures.len ∙ c.deref_mut.ensures.len)))
          ∙ map-insert items c.clear_rows.new.rows c.count_below-q.result c.args.w)
          (c.in_ok-insert-2.ensures.items
          ∙ ap (λ r. insert r c.count_below-q.result c.args.p) pivots_is)).0;
      len = ap (λ (t : SpaceParts). t.len) c.self.view_is;
    }

pub returns-clause-same : goal.returns-clause-same
returns-clause-same g c =
    let K = g.K.Ring.elements c.args.k.now in
    let items : Vec ℕ Global → _ = λ v. v.items in
    let basis_is : map items c.self.inside.basis.items
    ≡ c.args.self.basis = ap (λ (t : SpaceParts). t.basis) c.self.view_is in
    let pivots_is : c.self.inside.pivots.items
    ≡ c.args.self.pivots = ap (λ (t : SpaceParts). t.pivots) c.self.view_is in
    (insert_code K items (g.met.K.Ring.laws c.args.k.now) c.args.self
    (record {
      len = c.self.inside.len;
      basis = map items c.insert.new.self.items;
      pivots = c.insert-2.new.self.items;
    })
    c.deref_mut.result.now c.clear_rows.new.rows c.deref.result.now c.args.w c.deref-2.result.now
    c.count_below-q.result c.args.p
    c.requires.space c.requires.w c.requires.index c.requires.one c.requires.begins c.requires.zeros
    (ap (map items) c.deref_mut.ensures.value ∙ basis_is) (c.deref.ensures.value ∙ pivots_is)
    c.count_below-q.ensures.within c.count_below-q.ensures.lower c.count_below-q.ensures.upper
    c.deref-2.ensures.value c.clear_rows.ensures.len c.clear_rows.ensures.rows
    c.clear_rows.ensures.value
    (ap (λ (t : SpaceParts). t.len) c.self.view_is)
    (ap (map items) (c.in_ok-insert.ensures.items
    ∙ ap (λ r. insert r c.count_below-q.result c.args.w)
    (with_items_is c.self.inside.basis c.clear_rows.new.rows
    (c.clear_rows.ensures.len ∙ c.deref_mut.ensures.len)))
    ∙ map-insert items c.clear_rows.new.rows c.count_below-q.result c.args.w)
    (c.in_ok-insert-2.ensures.items
    ∙ ap (λ r. insert r c.count_below-q.result c.args.p) pivots_is)).1
