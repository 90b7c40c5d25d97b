use Rattle.std.proofs.Common.{◌≡◌, ◌<◌, [], length, get_or, sym, ◌∙◌, subst, arith}
use Rattle.ff_theory.specs.Vector.{vector_of}
use Rattle.ff_characters.specs.Characters.{tables_of, IsMatrix}
use Rattle.ff_fibre.specs.Fibres.{IsEntryOf}
use Rattle.ff_fibre.proofs.RowLists.{table_row}
use Rattle.ff_fibre.proofs.Equations.{swapped_entry}
use Rattle.ff_fibre.proofs.products.entry.Goals as goal

pub product_coordinates-requires : goal.product_coordinates-requires
product_coordinates-requires g c = record {
  order = c.requires.order;
  fibre = c.requires.fibre;
  equation = c.requires.equation;
  equation_is = c.requires.equation_is;
  i = c.requires.i;
  j = c.requires.j;
}

pub returns-then-j-i-clause-value : goal.returns-then-j-i-clause-value
returns-then-j-i-clause-value g c =
    let F = g.K.Ring.elements c.args.alg.now.k in
    let L = g.K.Ring.lawful c.args.alg.now.k in
    let f = c.args.alg.now.f in
    let o = c.args.order.now in
    let s = c.args.fibre.now in
    let n = length s.planes.items in
    let table = c.args.table.now in
    let i = length table in
    let j = c.args.j in
    let m = c.index-table-j.result in
    let below : j < length table = omega (arith, c.if-j-i.true) in
    let matrix : IsMatrix F n m = subst (IsMatrix F n) (sym c.index-table-j.is)
    (c.requires.table j m below) in
    let row : get_or (get_or (tables_of table) j []) i [] ≡ c.index.result.now.items =
    table_row table j i m c.index.result.now below c.index-table-j.is
    (omega (arith, matrix.count, c.requires.i)) c.index.ensures in
    subst (λ r. IsEntryOf L f o s i j (vector_of F r)) (row
    ∙ sym (c.in_ok-from_slice.ensures.items ∙ c.deref.ensures.value))
    (swapped_entry F L f o s j i _ (c.requires.entries j below i c.requires.i))
