use Rattle.std.proofs.Common.{◌≡◌, ℕ, ◌+◌, ◌<◌, length, get_or, refl, sym, ◌∙◌, ap, ap₂, subst}
use Rattle.std.proofs.Common.{arith}
use Rattle.std.specs.Vec.{with_items}
use Rattle.std.proofs.lemmas.List.{length-set, with_items_is}
use Rattle.std.proofs.lemmas.List.Elements.{All-set}
use Rattle.std.specs.Global.{Vec}
use Rattle.ff_theory.specs.Vector.{IsVector}
use Rattle.ff_theory.specs.Monomial.{monomial}
use Rattle.ff_theory.specs.Values.{poly_of, polys_over}
use Rattle.ff_lin.specs.Space.{rows_of}
use Rattle.ff_ring.specs.Entries.{entry_at}
use Rattle.ff_poly.proofs.RowLists.{row-length, row-value}
use Rattle.ff_relation.proofs.SplitLemmas.{rows-below, rows-above, rows-at}
use Rattle.ff_relation.proofs.reduce.add_multiple.Goals as goal

pub add_scaled-requires-clause-room : goal.add_scaled-requires-clause-room
add_scaled-requires-clause-room g c =
    let F = g.K.Ring.elements c.args.k.now in
    let rest = c.loop-l.rest in
    let l = c.loop-l.l in
    let row = c.index-rest-l.result in
    let bound : l < length rest =
    omega (arith, c.loop-l-test.true, c.loop-l.invariant.count, c.loop-l.auto.rest) in
    let vector : IsVector F c.args.n (get_or rest l row).items =
    c.loop-l.invariant.rest l row bound in
    omega (
      arith,
      row-length c.args.x.now l,
      ap length c.row.ensures,
      c.requires.room,
      ap length c.deref_mut.ensures.value,
      vector.len,
      ap (λ (v : Vec ℕ). length v.items) c.index-rest-l.is,
    )

pub loop-l-preserved : goal.loop-l-preserved
loop-l-preserved g c =
    let F = g.K.Ring.elements c.args.k.now in
    let P = polys_over F in
    let rest = c.loop-l.rest in
    let l = c.loop-l.l in
    let row = c.index-rest-l.result in
    let inside : l < length rest =
    omega (arith, c.loop-l-test.true, c.loop-l.invariant.count, c.loop-l.auto.rest) in
    let new = with_items (get_or rest l row) c.add_scaled.new.sum in
    let is : new.items ≡ c.add_scaled.new.sum = with_items_is (get_or rest l row)
    c.add_scaled.new.sum (c.add_scaled.ensures.len ∙ c.deref_mut.ensures.len) in
    let vector : IsVector F c.args.n (get_or rest l row).items =
    c.loop-l.invariant.rest l row inside in
    let m = monomial F.ring (F.value c.args.c) c.args.at in
    record {
      count = length-set rest l new ∙ c.loop-l.invariant.count;
      rest = All-set (λ (v : Vec ℕ). IsVector F c.args.n v.items) rest l new
          (subst (IsVector F c.args.n) (sym is) (record {
            each = c.add_scaled.ensures.each;
            len = c.add_scaled.ensures.len ∙ ap length c.deref_mut.ensures.value ∙ vector.len;
          })) c.loop-l.invariant.rest;
      below = rows-below F rest l (l + 1) new (λ j. P.add (entry_at F (rows_of c.args.rest.now) j)
          (P.mul m (entry_at F c.args.x.now j))) inside refl c.loop-l.invariant.below
          (ap (poly_of F) is ∙ c.add_scaled.ensures.value
          ∙ ap₂ (λ a b. P.add (poly_of F a) (P.mul m (poly_of F b))) c.deref_mut.ensures.value
          c.row.ensures
          ∙ ap₂ (λ a b. P.add a (P.mul m b)) (sym (rows-at F rest l row inside)
          ∙ c.loop-l.invariant.above l (omega arith)) (row-value F c.args.x.now l));
      above = rows-above F rest l (l + 1) new (entry_at F (rows_of c.args.rest.now)) refl
          c.loop-l.invariant.above;
    }

pub returns-clause-value : goal.returns-clause-value
returns-clause-value g c = λ l q. c.loop-l.invariant.below l
    (omega (arith, q, c.loop-l-test.false, c.loop-l.invariant.count))
