use Rattle.std.proofs.Common.{length, sym, ◌∙◌, subst, arith}
use Rattle.std.proofs.lemmas.List.Elements.{All-push}
use Rattle.ff_lin.proofs.Entries.{entry}
use Rattle.ff_theory.specs.Vector.{vector_of}
use Rattle.ff_functions.specs.declared.echelon.Row.{Row}
use Rattle.ff_functions.specs.Rows.{IsExtended}
use Rattle.ff_functions.specs.Searches.{IsRow, AreRows}
use Rattle.ff_functions.proofs.RowLemmas.{extended, extended_stepped, entry_inverse}
use Rattle.ff_functions.proofs.echelon.Echelon.with_row.Goals as goal

pub inv-factor-requires : goal.inv-factor-requires
inv-factor-requires g c =
    let F = g.K.Ring.elements c.args.k.now in
    record {
      element = c.requires.v c.args.pivot 0 c.requires.pivot;
      nonzero = λ e. c.requires.nonzero (entry F c.args.v.now c.args.pivot c.requires.pivot ∙ e);
    }

pub returns-clause-rows : goal.returns-clause-rows
returns-clause-rows g c =
    let F = g.K.Ring.elements c.args.k.now in
    let n = length c.args.v.now in
    let m = length c.args.c.now in
    let tail = c.in_ok-tail in
    let origin = c.in_ok-origin in
    let rows = c.args.self.rows.items in
    let row : Row = record { pivot = c.args.pivot; tail = tail.tail; origin = origin.origin } in
    subst (AreRows F n m) (sym c.in_ok-push.ensures.items) record {
      each = All-push (IsRow F n m) rows row c.requires.rows.each record {
        size = tail.ensures.len;
        nonempty = omega (arith, tail.ensures.len, c.requires.pivot);
        tail = tail.ensures.each;
        origin = origin.ensures.each;
        few = omega (arith, origin.ensures.len);
      };
      stepped = extended_stepped F (g.K.Ring.lawful c.args.k.now) rows row
          (vector_of F c.args.v.now) (vector_of F c.args.c.now) (F.value c.inv-factor.result)
          tail.ensures.value origin.ensures.value c.requires.before
          (entry_inverse F (g.K.Ring.lawful c.args.k.now) c.args.v.now c.args.pivot
          c.inv-factor.result c.requires.pivot c.requires.nonzero c.inv-factor.ensures.value)
          c.requires.rows.stepped c.requires.cleared;
    }

pub returns-clause-value : goal.returns-clause-value
returns-clause-value g c =
    let F = g.K.Ring.elements c.args.k.now in
    let tail = c.in_ok-tail in
    let origin = c.in_ok-origin in
    let rows = c.args.self.rows.items in
    let row : Row = record { pivot = c.args.pivot; tail = tail.tail; origin = origin.origin } in
    subst (IsExtended F rows (vector_of F c.args.v.now) (vector_of F c.args.c.now))
    (sym c.in_ok-push.ensures.items)
    (extended F (g.K.Ring.lawful c.args.k.now) rows row (vector_of F c.args.v.now)
    (vector_of F c.args.c.now) (F.value c.inv-factor.result) tail.ensures.value
    origin.ensures.value c.requires.before
    (entry_inverse F (g.K.Ring.lawful c.args.k.now) c.args.v.now c.args.pivot c.inv-factor.result
    c.requires.pivot c.requires.nonzero c.inv-factor.ensures.value))
