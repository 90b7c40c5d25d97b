use Rattle.std.proofs.Common.{length, ◌∙◌, ap, arith, subst}
use Rattle.ff_theory.specs.Span.{SameSpan}
use Rattle.ff_lin.specs.Space.{SpaceParts}
use Rattle.ff_theory.specs.Vector.{vectors_of}
use Rattle.ff_lin.specs.Kernel.{null_of}
use Rattle.ff_lin.proofs.Growth.{grow-step}
use Rattle.ff_lin.proofs.Relations.{solutions-exact}
use Rattle.ff_lin.proofs.Space.solutions.Goals as goal

pub loop-f-preserved : goal.loop-f-preserved
loop-f-preserved g c =
    let K = g.K.Ring.elements c.args.k.now in
    record {
      space = record {
        space = c.in_ok-space.ensures.space.space;
        len = c.in_ok-space.ensures.space.len ∙ c.loop-f.invariant.space.len;
      };
      same = grow-step K (g.met.K.Ring.laws c.args.k.now) c.in_ok-space.space.basis
          c.loop-f.space.basis c.in_ok-null_vector.field-0.items (null_of K c.args.self.now)
          c.loop-f.f c.in_ok-null_vector.ensures.value c.in_ok-space.ensures.same
          c.loop-f.invariant.same;
    }

pub returns-clause-exact : goal.returns-clause-exact
returns-clause-exact g c =
    let K = g.K.Ring.elements c.args.k.now in
    solutions-exact K (g.met.K.Ring.laws c.args.k.now) c.args.self.now c.requires c.loop-f.space
    c.loop-f.invariant.space.len
    (subst (λ n. SameSpan K.ring (length c.loop-f.space.basis) (vectors_of K c.loop-f.space.basis) n
    (null_of K c.args.self.now)) (omega (arith, ap (λ (t : SpaceParts). t.len) c.self.view_is))
    c.loop-f.invariant.same)
