use Rattle.std.proofs.Common.{length, sym, ◌∙◌, subst, All}
use Rattle.std.specs.Vec.{with_items}
use Rattle.std.proofs.lemmas.List.{with_items_is}
use Rattle.ff_theory.specs.Ring.{IsElement}
use Rattle.ff_theory.specs.Vector.{IsVector}
use Rattle.ff_functions.specs.Searches.{AreRows}
use Rattle.ff_functions.proofs.RowLemmas.{reduced_lists}
use Rattle.ff_functions.proofs.echelon.Echelon.reduced.Goals as goal

pub reduce-requires : goal.reduce-requires
reduce-requires g c =
    let F = g.K.Ring.elements c.args.k.now in
    let rows = c.args.self.now.rows.items in
    let v = sym c.deref_mut.ensures.value in
    let d = sym c.deref_mut-2.ensures.value in
    record {
      rows = subst (λ t. AreRows F (length t) (length c.deref_mut-2.result.now) rows) v
          (subst (λ t. AreRows F (length c.args.v.items) (length t) rows) d c.requires.rows);
      v = subst (All (IsElement F)) v c.requires.v;
      c = subst (All (IsElement F)) d c.requires.c;
    }

pub returns : goal.returns
returns g c =
    let F = g.K.Ring.elements c.args.k.now in
    let rows = c.args.self.now.rows.items in
    let v = c.reduce.ensures.vector in
    let d = c.reduce.ensures.coefficients in
    let e = with_items_is c.args.v c.reduce.new.v (v.len ∙ c.deref_mut.ensures.len) in
    let k = with_items_is c.args.c c.reduce.new.c (d.len ∙ c.deref_mut-2.ensures.len) in
    record {
      vector = subst (IsVector F (length c.args.v.items)) (sym e)
          (subst (λ t. IsVector F (length t) c.reduce.new.v) c.deref_mut.ensures.value v);
      coefficients = subst (IsVector F (length c.args.c.items)) (sym k)
          (subst (λ t. IsVector F (length t) c.reduce.new.c) c.deref_mut-2.ensures.value d);
      value = reduced_lists F (g.K.Ring.lawful c.args.k.now) rows (length rows)
          c.deref_mut.result.now c.args.v.items c.deref_mut-2.result.now c.args.c.items
          c.reduce.new.v (with_items c.args.v c.reduce.new.v).items c.reduce.new.c
          (with_items c.args.c c.reduce.new.c).items c.deref_mut.ensures.value
          c.deref_mut-2.ensures.value e k c.reduce.ensures.value;
    }
