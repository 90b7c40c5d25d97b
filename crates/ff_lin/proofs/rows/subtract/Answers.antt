use Rattle.std.proofs.Common.{◌+◌, ◌<◌, length, refl, sym, ◌∙◌, arith}
use Rattle.std.proofs.lemmas.List.Elements.{All-set}
use Rattle.std.proofs.lemmas.List.{length-set}
use Rattle.ff_theory.specs.Ring.{IsElement}
use Rattle.ff_theory.specs.Span.{less}
use Rattle.ff_theory.specs.Vector.{vector_of}
use Rattle.ff_theory.proofs.InPlace.{written-below, written-above}
use Rattle.ff_lin.proofs.Entries.{subtracted, subtracted_at, less-zero_factor, less-zero_entry}
use Rattle.ff_lin.proofs.rows.subtract.Goals as goal

pub returns-then-is_zero-clause-value : goal.returns-then-is_zero-clause-value
returns-then-is_zero-clause-value g c j =
    let K = g.K.Ring.elements c.args.k.now in
    less-zero_factor K (g.met.K.Ring.laws c.args.k.now) (vector_of K c.args.v.now)
    (vector_of K c.args.w.now) (K.value c.args.c) j
    ((g.met.K.Ring.tests c.args.k.now).same_true (K.value c.args.c) K.zero
    (sym c.is_zero.ensures ∙ c.if-is_zero.true))

pub loop-j-init : goal.loop-j-init
loop-j-init g c =
    let K = g.K.Ring.elements c.args.k.now in
    record {
      len = refl;
      each = c.requires.v;
      factor = c.neg-factor.ensures.element;
      below = λ j l. less-zero_entry K (g.met.K.Ring.laws c.args.k.now) (vector_of K c.args.v.now)
          (vector_of K c.args.w.now) (K.value c.args.c) j (c.requires.zeros j l);
      above = λ j l. refl;
    }

pub loop-j-preserved : goal.loop-j-preserved
loop-j-preserved g c =
    let K = g.K.Ring.elements c.args.k.now in
    let bound : c.loop-j.j < length c.loop-j.v = omega (arith, c.loop-j.invariant.len) in
    record {
      len = length-set c.loop-j.v c.loop-j.j c.add.result ∙ c.loop-j.invariant.len;
      each = All-set (IsElement K) c.loop-j.v c.loop-j.j c.add.result c.add.ensures.element
          c.loop-j.invariant.each;
      factor = c.neg-factor.ensures.element;
      below = written-below K.ring K.value c.loop-j.v c.loop-j.j (c.loop-j.j + 1) c.add.result
          (less K.ring (vector_of K c.args.v.now) (K.value c.args.c) (vector_of K c.args.w.now))
          bound refl c.loop-j.invariant.below
          (subtracted_at K (g.met.K.Ring.laws c.args.k.now) c.loop-j.v c.args.v.now c.args.w.now
          c.loop-j.j c.args.c c.neg-factor.result c.mul.result c.add.result bound
          (omega (arith, c.requires.w.len, c.loop-j.invariant.len))
          (c.loop-j.invariant.above c.loop-j.j (omega arith)) c.neg-factor.ensures.value
          c.mul.ensures.value c.add.ensures.value);
      above = written-above K.ring K.value c.loop-j.v c.loop-j.j (c.loop-j.j + 1) c.add.result
          (vector_of K c.args.v.now) refl c.loop-j.invariant.above;
    }

pub returns-clause-value : goal.returns-clause-value
returns-clause-value g c =
    let K = g.K.Ring.elements c.args.k.now in
    subtracted K.ring (g.met.K.Ring.laws c.args.k.now) K.value (K.value c.args.c) c.loop-j.v
    c.args.v.now c.args.w.now c.loop-j.j c.loop-j.invariant.len c.requires.w.len
    (omega (arith, c.loop-j.invariant.len)) c.loop-j.invariant.below
