use Rattle.std.proofs.Common.{sym, ◌∙◌, ap, arith}
use Rattle.ff_lin.proofs.Entries.{entry}
use Rattle.ff_lin.proofs.Compare.{true-is-false}
use Rattle.ff_theory.specs.Vector.{vector_of}
use Rattle.ff_describe.proofs.RowLemmas.{more-zeros}
use Rattle.ff_describe.proofs.coordinates.are_zero.Goals as goal

pub returns-then-not-is_zero : goal.returns-then-not-is_zero
returns-then-not-is_zero g c =
    let F = g.K.Ring.elements c.args.k.now in
    let j = c.loop-j.j in (
      λ h. absurd (cc),
      λ h. absurd (true-is-false _ (sym c.is_zero.ensures ∙ c.if-not-is_zero.true)
          (ap (λ t. F.same t F.zero) (sym (entry F c.args.row.now j
          (omega (arith, c.loop-j-test.true, c.requires.room)))
          ∙ h j c.loop-j.invariant.start (omega (arith, c.loop-j-test.true)))
          ∙ (g.met.K.Ring.tests c.args.k.now).same_refl F.zero)),
    )

pub loop-j-preserved : goal.loop-j-preserved
loop-j-preserved g c =
    let F = g.K.Ring.elements c.args.k.now in
    let row = c.args.row.now in
    record {
      start = omega (arith, c.loop-j.invariant.start);
      zeros = more-zeros F (vector_of F row) c.args.from c.loop-j.j c.loop-j.invariant.zeros
          (entry F row c.loop-j.j (omega (arith, c.loop-j-test.true, c.requires.room))
          ∙ (g.met.K.Ring.tests c.args.k.now).same_true _ _
          (sym c.is_zero.ensures ∙ c.if-not-is_zero.false));
    }
