use Rattle.std.proofs.Common.{ℕ, length, map, sym, subst, arith, All}
use Rattle.std.proofs.lemmas.List.Elements.{All-push}
use Rattle.std.specs.Global.{Vec}
use Rattle.ff_theory.specs.Vector.{IsVector, vectors_of}
use Rattle.ff_lin.specs.Space.{rows_of}
use Rattle.ff_common.proofs.TimesSpaces.{row_pushed}
use Rattle.ff_fibre.specs.Fibres.{IsEntryOf, AreRowEntries}
use Rattle.ff_fibre.proofs.products.next_matrix.Goals as goal

pub entry-requires : goal.entry-requires
entry-requires g c = record {
  order = c.requires.order;
  fibre = c.requires.fibre;
  equation = c.requires.equation;
  equation_is = c.requires.equation_is;
  table = c.requires.table;
  entries = c.requires.entries;
  i = c.requires.i;
  j = omega (arith, c.loop-j-test.true);
}

pub loop-j-preserved : goal.loop-j-preserved
loop-j-preserved g c =
    let F = g.K.Ring.elements c.args.alg.now.k in
    let L = g.K.Ring.lawful c.args.alg.now.k in
    let s = c.args.fibre.now in
    let items = λ (r : Vec ℕ). r.items in
    let n = length s.planes.items in
    let old = c.loop-j.matrix.items in
    let row = c.in_ok-entry.field-0 in
    let e = c.in_ok-push.ensures.items in
    let h = c.loop-j.invariant in
    let P : ℕ → (ℕ → F.carrier) → Type 0 = λ j r. IsEntryOf L c.args.alg.now.f c.args.order.now s
    (length c.args.table.now) j r in
    record {
      len = omega (arith, c.in_ok-push.ensures.len, h.len);
      vectors = subst (All (λ (v : Vec ℕ). IsVector F n (items v))) (sym e)
          (All-push (λ (v : Vec ℕ). IsVector F n (items v)) old row h.vectors
          c.in_ok-entry.ensures.vector);
      value = λ j l. subst (λ t. P j (vectors_of F (map items t) j)) (sym e)
          (row_pushed F items old row P c.loop-j.j h.len h.value c.in_ok-entry.ensures.value j l);
    }

pub returns : goal.returns
returns g c =
    let F = g.K.Ring.elements c.args.alg.now.k in
    let L = g.K.Ring.lawful c.args.alg.now.k in
    let h = c.loop-j.invariant in
    let m = c.loop-j.matrix.items in
    record {
      matrix = record {
        rows = h.vectors;
        count = omega (arith, h.len, c.loop-j-test.false, c.loop-j.auto.j-end);
      };
      value = subst (AreRowEntries L c.args.alg.now.f c.args.order.now c.args.fibre.now
          (length c.args.table.now) (rows_of m)) (sym h.len) h.value;
    }
