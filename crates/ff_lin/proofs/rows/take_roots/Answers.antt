use Rattle.std.proofs.Common.{◌+◌, ◌<◌, length, refl, ◌∙◌, arith}
use Rattle.std.proofs.lemmas.List.Elements.{All-set}
use Rattle.std.proofs.lemmas.List.{length-set}
use Rattle.ff_theory.specs.Ring.{IsElement}
use Rattle.ff_theory.specs.Vector.{vector_of}
use Rattle.ff_theory.proofs.InPlace.{written-above}
use Rattle.ff_lin.proofs.Roots.{roots-all, roots-below}
use Rattle.ff_lin.proofs.rows.take_roots.Goals as goal

pub loop-j-preserved : goal.loop-j-preserved
loop-j-preserved g c =
    let K = g.K.Ring.elements c.args.k.now in
    let bound : c.loop-j.j < length c.loop-j.v = omega (arith, c.loop-j.invariant.len) in
    record {
      len = length-set c.loop-j.v c.loop-j.j c.root.result ∙ c.loop-j.invariant.len;
      each = All-set (IsElement K) c.loop-j.v c.loop-j.j c.root.result c.root.ensures.element
          c.loop-j.invariant.each;
      below = roots-below K (g.met.K.Ring.laws c.args.k.now) c.loop-j.v c.args.v.now c.loop-j.j
          c.root.result bound c.root.ensures.value
          (c.loop-j.invariant.above c.loop-j.j (omega arith)) c.loop-j.invariant.below;
      above = written-above K.ring K.value c.loop-j.v c.loop-j.j (c.loop-j.j + 1) c.root.result
          (vector_of K c.args.v.now) refl c.loop-j.invariant.above;
    }

pub returns-clause-value : goal.returns-clause-value
returns-clause-value g c =
    let K = g.K.Ring.elements c.args.k.now in
    roots-all K (g.met.K.Ring.laws c.args.k.now) c.loop-j.v c.args.v.now c.loop-j.j
    (g.met.K.FiniteField.is_finite_field c.args.k.now).least.positive c.loop-j.invariant.len
    (omega (arith, c.loop-j.invariant.len)) c.loop-j.invariant.below
