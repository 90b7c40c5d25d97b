use Rattle.std.proofs.Common.{ℕ, map, ◌∙◌, subst, sym, Vec, Global}
use Rattle.ff_theory.specs.Vector.{IsVector}
use Rattle.ff_lin.specs.Kernel.{mirrored_columns}
use Rattle.ff_lin.proofs.Growth.{grow-step}
use Rattle.ff_lin.proofs.Mirror.{column_code}
use Rattle.ff_lin.proofs.Space.mirrored_columns.Goals as goal

pub insert-requires-clause-v : goal.insert-requires-clause-v
insert-requires-clause-v g c =
    let K = g.K.Ring.elements c.args.k.now in
    subst (λ n. IsVector K n c.in_ok-column.field-0.items) (sym c.loop-j.invariant.space.len)
    (column_code K (λ v. v.items) c.args.images.now c.args.m c.loop-j.j c.in_ok-column.field-0.items
    c.requires.images c.loop-j-test.true c.in_ok-column.ensures.len
    c.in_ok-column.ensures.value).0

pub loop-j-preserved : goal.loop-j-preserved
loop-j-preserved g c =
    let K = g.K.Ring.elements c.args.k.now in
    let items : Vec ℕ Global → _ = λ v. v.items in
    record {
      space = record {
        space = c.in_ok-space.ensures.space.space;
        len = c.in_ok-space.ensures.space.len ∙ c.loop-j.invariant.space.len;
      };
      same = grow-step K (g.met.K.Ring.laws c.args.k.now) c.in_ok-space.space.basis
          c.loop-j.space.basis c.in_ok-column.field-0.items
          (mirrored_columns K (map items c.args.images.now)) c.loop-j.j
          (column_code K items c.args.images.now c.args.m c.loop-j.j c.in_ok-column.field-0.items
          c.requires.images c.loop-j-test.true c.in_ok-column.ensures.len
          c.in_ok-column.ensures.value).1
          c.in_ok-space.ensures.same c.loop-j.invariant.same;
    }
