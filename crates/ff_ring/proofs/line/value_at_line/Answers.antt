use Rattle.std.proofs.Common.{◌-◌, length, get_or, sym, ◌∙◌, arith, refl}
use Rattle.ff_theory.specs.Values.{poly_of}
use Rattle.ff_ring.proofs.EntryLemmas.{no-poly, no-poly-is}
use Rattle.ff_ring.proofs.LineLemmas.{value-more, value-none, value-end}
use Rattle.ff_ring.proofs.line.value_at_line.Goals as goal

pub loop-i-init : goal.loop-i-init
loop-i-init g c =
    let F = g.K.Ring.elements c.args.k.now in
    let L = g.K.Ring.lawful c.args.k.now in
    record {
      below = omega arith;
      is_poly = no-poly F c.zero-value.result c.zero-value.ensures;
      value = no-poly-is F c.zero-value.result c.zero-value.ensures
          ∙ sym (value-none F L (poly_of F c.args.line.now) c.args.c.now
          (length c.args.c.now) refl);
    }

pub loop-i-preserved : goal.loop-i-preserved
loop-i-preserved g c =
    let F = g.K.Ring.elements c.args.k.now in
    let L = g.K.Ring.lawful c.args.k.now in
    let i = c.loop-i.i in
    record {
      below = omega (arith, c.loop-i.invariant.below);
      is_poly = c.in_ok-value.ensures.poly;
      value = c.in_ok-value.ensures.value
          ∙ value-more F L (poly_of F c.args.line.now) (poly_of F c.loop-i.value) c.args.c.now i
          (i - 1) (get_or c.args.c.now (i - 1) 0) (omega (arith, c.loop-i-test.true)) refl
          (omega (arith, c.loop-i.invariant.below)) refl c.loop-i.invariant.value;
    }

pub returns-clause-value : goal.returns-clause-value
returns-clause-value g c =
    let F = g.K.Ring.elements c.args.k.now in
    value-end F (g.K.Ring.lawful c.args.k.now) (poly_of F c.args.line.now)
    (poly_of F c.loop-i.value)
    c.args.c.now c.loop-i.i (omega (arith, c.loop-i-test.false)) c.loop-i.invariant.value
