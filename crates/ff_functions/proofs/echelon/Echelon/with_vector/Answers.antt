use Rattle.std.proofs.Common.{length, sym, ap, subst, arith, All}
use Rattle.ff_theory.specs.Ring.{IsElement}
use Rattle.ff_theory.specs.Vector.{vector_of}
use Rattle.ff_functions.specs.Rows.{IsSpannedWith}
use Rattle.ff_functions.specs.Searches.{AreRows}
use Rattle.ff_functions.proofs.HeldImages.{inserted_spans}
use Rattle.ff_functions.proofs.echelon.Echelon.with_vector.Goals as goal

pub insert-requires : goal.insert-requires
insert-requires g c =
    let F = g.K.Ring.elements c.args.k.now in
    let rows = c.args.self.rows.items in
    let e = sym c.in_ok-row.ensures.items in
    let none = sym c.new.ensures.items in
    record {
      rows = subst (λ t. AreRows F (length t) (length c.new.result.items) rows) e
          (subst (λ t. AreRows F (length c.args.v.now) (length t) rows) none c.requires.rows);
      v = subst (All (IsElement F)) e c.requires.v;
      c = λ i d l. absurd (omega (arith, l, ap length none));
    }

pub returns-clause-rows : goal.returns-clause-rows
returns-clause-rows g c =
    let F = g.K.Ring.elements c.args.k.now in
    let rows = c.in_ok-echelon.echelon.rows.items in
    subst (λ t. AreRows F (length c.args.v.now) (length t) rows) c.new.ensures.items
    (subst (λ t. AreRows F (length t) (length c.new.result.items) rows)
    c.in_ok-row.ensures.items c.in_ok-echelon.ensures.rows)

pub returns-clause-value : goal.returns-clause-value
returns-clause-value g c =
    let F = g.K.Ring.elements c.args.k.now in
    let rows = c.args.self.rows.items in
    let new = c.in_ok-echelon.echelon.rows.items in
    subst (λ t. IsSpannedWith F rows (vector_of F t) new) (c.in_ok-row.ensures.items)
    (inserted_spans F (g.K.Ring.lawful c.args.k.now) rows new (vector_of F c.in_ok-row.row.items)
    (vector_of F c.new.result.items) c.in_ok-echelon._relation c.in_ok-echelon.ensures.value)
