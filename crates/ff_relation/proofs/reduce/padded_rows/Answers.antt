use Rattle.std.proofs.Common.{refl, arith, ap, ◌∙◌, length}
use Rattle.ff_theory.specs.Values.{poly_of}
use Rattle.ff_poly.proofs.RowLists.{row-value, row-length}
use Rattle.ff_ring.specs.Entries.{entry_at}
use Rattle.ff_relation.proofs.SplitLemmas.{rows-push, rows-form-push}
use Rattle.ff_relation.proofs.reduce.padded_rows.Goals as goal

pub loop-l-preserved : goal.loop-l-preserved
loop-l-preserved g c =
    let F = g.K.Ring.elements c.args.k.now in
    let rows = c.loop-l.rows.items in
    let l = c.loop-l.l in
    let v = c.in_ok-padded.field-0 in
    record {
      form = rows-form-push F rows c.push.new.self.items v l _ c.args.n c.in_ok-push.ensures.items
          refl c.loop-l.invariant.form c.in_ok-padded.ensures.vector;
      value = λ small. rows-push F rows c.push.new.self.items v (entry_at F c.args.list.now) l _
          c.in_ok-push.ensures.items c.loop-l.invariant.form.count refl
          (c.loop-l.invariant.value small)
          (c.in_ok-padded.ensures.value
          (omega (arith, small, row-length c.args.list.now l, ap length c.row.ensures))
          ∙ ap (poly_of F) c.row.ensures ∙ row-value F c.args.list.now l);
    }
