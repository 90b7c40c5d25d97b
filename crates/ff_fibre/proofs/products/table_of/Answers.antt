use Rattle.std.proofs.Common.{◌≡◌, ℕ, ◌+◌, List, length, sym, ap, subst, arith, All, refl}
use Rattle.std.proofs.lemmas.List.Elements.{All-push}
use Rattle.ff_lin.specs.Space.{rows_of}
use Rattle.ff_characters.specs.Characters.{tables_of, IsMatrix}
use Rattle.ff_fibre.specs.Fibres.{AreRowEntries, AreEntries}
use Rattle.ff_fibre.proofs.RowLists.{pushed_table}
use Rattle.ff_fibre.proofs.products.table_of.Goals as goal

pub loop-i-init : goal.loop-i-init
loop-i-init g c =
    let F = g.K.Ring.elements c.args.alg.now.k in
    let n = length c.args.fibre.now.planes.items in
    let e = c.in_ok-table.ensures.items in
    record {
      len = ap length e;
      each = subst (All (IsMatrix F n)) (sym e) (λ k d l. absurd (omega (arith, l)));
      value = λ i l. absurd (let z = ap length e in omega (arith, l, z));
    }

pub next_matrix-requires : goal.next_matrix-requires
next_matrix-requires g c =
    let F = g.K.Ring.elements c.args.alg.now.k in
    let L = g.K.Ring.lawful c.args.alg.now.k in
    let s = c.args.fibre.now in
    let h = c.loop-i.invariant in
    let e = c.deref.ensures.value in
    record {
      order = c.requires.order;
      fibre = c.requires.fibre;
      equation = c.requires.equation;
      equation_is = c.requires.equation_is;
      table = subst (All (IsMatrix F (length s.planes.items))) (sym e) h.each;
      entries = subst (λ t. AreEntries L c.args.alg.now.f c.args.order.now s (tables_of t)
          (length t)) (sym e) h.value;
      i = omega (arith, ap length e, h.len, c.loop-i-test.true);
    }

pub loop-i-preserved : goal.loop-i-preserved
loop-i-preserved g c =
    let F = g.K.Ring.elements c.args.alg.now.k in
    let L = g.K.Ring.lawful c.args.alg.now.k in
    let s = c.args.fibre.now in
    let f = c.args.alg.now.f in
    let o = c.args.order.now in
    let n = length s.planes.items in
    let old = c.loop-i.table.items in
    let m = c.in_ok-next_matrix.field-0 in
    let e = c.in_ok-push.ensures.items in
    let h = c.loop-i.invariant in
    let k = c.in_ok-next_matrix.ensures in
    let len : length c.push.new.self.items ≡ length old + 1 =
    omega (arith, c.in_ok-push.ensures.len) in
    let P : ℕ → List (List ℕ) → Type 0 = λ i t. AreRowEntries L f o s i t n in
    let new : P (length old) (rows_of m.items) = subst (λ x. AreRowEntries L f o s (length x)
    (rows_of m.items) n) c.deref.ensures.value (subst (AreRowEntries L f o s
    (length c.deref.result.now) (rows_of m.items)) k.matrix.count k.value) in
    record {
      len = omega (arith, len, h.len);
      each = subst (All (IsMatrix F n)) (sym e) (All-push (IsMatrix F n) old m h.each k.matrix);
      value = subst (λ t. AreEntries L f o s (tables_of t) (length t)) (sym e) (λ i l.
          pushed_table old m (length old) refl P h.value new i
          (omega (arith, l, ap length e, len)));
    }

pub returns : goal.returns
returns g c =
    let h = c.loop-i.invariant in
    record {
      table = record {
        each = h.each;
        count = omega (arith, h.len, c.loop-i-test.false, c.loop-i.auto._i-end);
      };
      value = h.value;
    }
