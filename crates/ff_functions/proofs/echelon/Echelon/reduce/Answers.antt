use Rattle.std.proofs.Common.{◌≡◌, ◌+◌, ◌<◌, suc, length, refl, sym, ◌∙◌, ap, subst, arith}
use Rattle.std.proofs.Common.{get_or}
use Rattle.ff_theory.specs.Vector.{vector_of, IsVector}
use Rattle.ff_functions.specs.Searches.{IsRow}
use Rattle.ff_functions.specs.Rows.{IsReduced}
use Rattle.ff_functions.proofs.RowLemmas.{reduced_none, reduced_clear}
use Rattle.ff_functions.proofs.echelon.Echelon.reduce.Goals as goal

pub clear-requires : goal.clear-requires
clear-requires g c =
    let F = g.K.Ring.elements c.args.k.now in
    let i = c.loop-row.invariant in
    let r = c.row-item.result in
    let n = sym i.vector.len in
    let m = sym i.coefficients.len in
    record {
      row = subst (λ n. IsRow F n (length c.loop-row.c) r) n
          (subst (λ m. IsRow F (length c.args.v.now) m r) m
          (subst (IsRow F (length c.args.v.now) (length c.args.c.now))
          (sym (c.row-item.is ∙ ap (λ t. get_or t c.loop-row.row-index r)
          c.deref-row-items.ensures.value))
          (c.requires.rows.each c.loop-row.row-index r
          (subst (λ t. c.loop-row.row-index < length t) c.deref-row-items.ensures.value
          c.loop-row-test.true))));
      v = i.vector.each;
      c = i.coefficients.each;
    }

pub loop-row-init : goal.loop-row-init
loop-row-init g c =
    let F = g.K.Ring.elements c.args.k.now in
    record {
      vector = record { each = c.requires.v; len = refl };
      coefficients = record { each = c.requires.c; len = refl };
      value = reduced_none F (g.K.Ring.lawful c.args.k.now) c.args.self.now.rows.items
          (vector_of F c.args.v.now) (vector_of F c.args.c.now);
    }

pub loop-row-preserved : goal.loop-row-preserved
loop-row-preserved g c =
    let F = g.K.Ring.elements c.args.k.now in
    let V = vector_of F in
    let i = c.loop-row.invariant in
    let r = c.loop-row.row-index in
    let row = c.row-item.result in
    let e = c.clear.ensures in
    let m : r + 1 ≡ suc r = omega arith in
    record {
      vector = subst (λ n. IsVector F n c.clear.new.v) i.vector.len e.vector;
      coefficients = subst (λ n. IsVector F n c.clear.new.c) i.coefficients.len e.coefficients;
      value = reduced_clear F (g.K.Ring.lawful c.args.k.now) c.args.self.now.rows.items
          c.requires.rows.stepped r (r + 1)
          (subst (λ t. r < length t) c.deref-row-items.ensures.value c.loop-row-test.true) m row
          (c.row-item.is ∙ ap (λ t. get_or t r row) c.deref-row-items.ensures.value)
          (V c.args.v.now) (V c.args.c.now) (V c.loop-row.v) (V c.loop-row.c) (V c.clear.new.v)
          (V c.clear.new.c) i.value e.value;
    }

pub returns-clause-value : goal.returns-clause-value
returns-clause-value g c =
    let F = g.K.Ring.elements c.args.k.now in
    let V = vector_of F in
    let rows = c.args.self.now.rows.items in
    let n : c.loop-row.row-index ≡ length rows = omega (
      arith,
      ap length c.deref-row-items.ensures.value,
      c.loop-row-test.false,
      c.loop-row.auto.row-index-end,
    ) in
    subst (λ r. IsReduced F rows r (V c.args.v.now) (V c.args.c.now) (V c.loop-row.v)
    (V c.loop-row.c)) n c.loop-row.invariant.value
