use Rattle.std.proofs.Common.{◌≡◌, ℕ, ◌<◌, length, sym, ◌∙◌, ap, subst, arith, All}
use Rattle.ff_theory.specs.Ring.{IsElement}
use Rattle.ff_theory.specs.Vector.{vector_of}
use Rattle.ff_functions.specs.Rows.{pivot_at}
use Rattle.ff_functions.specs.Searches.{AreRows}
use Rattle.ff_functions.proofs.RowLemmas.{inserted_row, inserted_none}
use Rattle.ff_functions.proofs.echelon.Echelon.insert.Goals as goal

pub leading_index-pivot-requires : goal.leading_index-pivot-requires
leading_index-pivot-requires g c =
    let F = g.K.Ring.elements c.args.k.now in
    subst (All (IsElement F)) (sym c.deref.ensures.value) c.reduced-v.ensures.vector.each

pub with_row-requires : goal.with_row-requires
with_row-requires g c =
    let F = g.K.Ring.elements c.args.k.now in
    let rows = c.args.self.rows.items in
    let e = c.reduced-v.ensures in
    let n : length c.args.v.items ≡ length c.deref-2.result.now =
    sym (ap length c.deref-2.ensures.value ∙ e.vector.len) in
    let m : length c.args.c.items ≡ length c.deref-3.result.now =
    sym (ap length c.deref-3.ensures.value ∙ e.coefficients.len) in
    let p = c.leading_index-pivot in
    let l : p.result < length c.deref.result.now = omega (
      arith,
      p.ensures.within,
      c.if-pivot-len.false,
      c.len.ensures,
      c.deref.ensures.len,
    ) in
    record {
      rows = subst (λ n. AreRows F n (length c.deref-3.result.now) rows) n
          (subst (λ m. AreRows F (length c.args.v.items) m rows) m c.requires.rows);
      v = subst (All (IsElement F)) (sym c.deref-2.ensures.value) e.vector.each;
      c = subst (All (IsElement F)) (sym c.deref-3.ensures.value) e.coefficients.each;
      pivot = omega (
        arith,
        l,
        ap length c.deref.ensures.value,
        ap length c.deref-2.ensures.value,
      );
      nonzero = subst (λ t. ¬ (vector_of F t p.result ≡ F.zero))
          (c.deref.ensures.value ∙ sym c.deref-2.ensures.value) (p.ensures.nonzero l);
      before = subst (λ t. (j : ℕ) → j < p.result → vector_of F t j ≡ F.zero)
          (c.deref.ensures.value ∙ sym c.deref-2.ensures.value) p.ensures.before;
      cleared = subst (λ t. (i : ℕ) → i < length rows
          → vector_of F t (pivot_at F rows i) ≡ F.zero) (sym c.deref-2.ensures.value)
          e.value.cleared;
    }

pub returns : goal.returns
returns g c =
    let F = g.K.Ring.elements c.args.k.now in
    let rows = c.in_ok-echelon.echelon.rows.items in
    let e = c.reduced-v.ensures in
    record {
      rows = subst (λ n. AreRows F n (length c.args.c.items) rows)
          (ap length c.deref-2.ensures.value ∙ e.vector.len)
          (subst (λ m. AreRows F (length c.deref-2.result.now) m rows)
          (ap length c.deref-3.ensures.value ∙ e.coefficients.len) c.in_ok-echelon.ensures.rows);
      relation = tt;
      value = inserted_row F (g.K.Ring.lawful c.args.k.now) c.args.self.rows.items rows
          (vector_of F c.args.v.items) (vector_of F c.args.c.items) c.reduced-v.result.0.items
          c.deref-2.result.now c.reduced-v.result.1.items c.deref-3.result.now
          c.leading_index-pivot.result c.requires.rows.stepped e.value
          (subst (λ t. ¬ (vector_of F t c.leading_index-pivot.result ≡ F.zero))
          c.deref.ensures.value (c.leading_index-pivot.ensures.nonzero (omega (
            arith,
            c.leading_index-pivot.ensures.within,
            c.if-pivot-len.false,
            c.len.ensures,
            c.deref.ensures.len,
          )))) c.deref-2.ensures.value c.deref-3.ensures.value c.in_ok-echelon.ensures.value;
    }

pub returns-then-pivot-len : goal.returns-then-pivot-len
returns-then-pivot-len g c =
    let F = g.K.Ring.elements c.args.k.now in
    let p = c.leading_index-pivot.result in
    record {
      rows = c.requires.rows;
      relation = c.reduced-v.ensures.coefficients;
      value = inserted_none F (g.K.Ring.lawful c.args.k.now) c.args.self.rows.items
          (vector_of F c.args.v.items) (vector_of F c.args.c.items) c.reduced-v.result.0.items
          c.reduced-v.result.1.items p c.reduced-v.ensures.value
          (omega (arith, c.if-pivot-len.true, c.len.ensures))
          (subst (λ t. (j : ℕ) → j < p → vector_of F t j ≡ F.zero) c.deref.ensures.value
          c.leading_index-pivot.ensures.before);
    }
