use Rattle.std.proofs.Common.{ℕ, List, map, reverse, sym, ◌∙◌, ap, arith, subst, Vec, Global}
use Rattle.ff_theory.specs.Vector.{IsVector}
use Rattle.ff_lin.specs.Kernel.{mirrored_rows}
use Rattle.ff_lin.proofs.Growth.{grow-step}
use Rattle.ff_lin.proofs.Mirror.{reversed_code, reverse-vector}
use Rattle.ff_lin.proofs.Space.mirrored_span.Goals as goal

pub loop-row-preserved : goal.loop-row-preserved
loop-row-preserved g c =
    let K = g.K.Ring.elements c.args.k.now in
    let items : Vec ℕ Global → _ = λ v. v.items in
    record {
      space = record {
        space = c.in_ok-space.ensures.space.space;
        len = c.in_ok-space.ensures.space.len ∙ c.loop-row.invariant.space.len;
      };
      same = grow-step K (g.met.K.Ring.laws c.args.k.now) c.in_ok-space.space.basis
          c.loop-row.space.basis c.in_ok-reversal.field-0.items
          (mirrored_rows K c.args.n (map items c.args.rows.now)) c.loop-row.row-index
          (reversed_code K items c.args.rows.now c.args.n c.loop-row.row-index c.row-item.result
          c.in_ok-reversal.field-0.items c.requires.rows (omega arith) c.row-item.is
          (c.in_ok-reversal.ensures ∙ ap reverse c.deref.ensures.value))
          c.in_ok-space.ensures.same c.loop-row.invariant.same;
    }

pub insert-requires : goal.insert-requires
insert-requires g c =
    let K = g.K.Ring.elements c.args.k.now in
    let n = c.args.n in
    let items : Vec ℕ Global → List ℕ = λ v. v.items in
    let row = c.row-item.result in
    let vec : IsVector K n (items row) =
    subst (λ r. IsVector K n (items r)) (sym c.row-item.is)
    (c.requires.rows c.loop-row.row-index row c.loop-row-test.true)
    in
    record {
      space = c.loop-row.invariant.space.space;
      v = subst (λ m. IsVector K m c.in_ok-reversal.field-0.items)
          (sym c.loop-row.invariant.space.len)
          (subst (IsVector K n) (sym (c.in_ok-reversal.ensures ∙ ap reverse c.deref.ensures.value))
          (reverse-vector K n (items row) vec));
    }
