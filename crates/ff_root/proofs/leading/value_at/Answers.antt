use Rattle.std.proofs.Common.{◌-◌, length, get_or, sym, ◌∙◌, ap, arith, refl}
use Rattle.ff_root.proofs.ValueLemmas.{value-more, value-none, value-whole}
use Rattle.ff_root.proofs.leading.value_at.Goals as goal

pub loop-i-init : goal.loop-i-init
loop-i-init g c =
    let F = g.K.Ring.elements c.args.k.now in
    record {
      below = omega arith;
      element = c.zero-value.ensures.element;
      value = c.zero-value.ensures.value
          ∙ sym (value-none F c.args.c c.args.p.now (length c.args.p.now) refl);
    }

pub loop-i-preserved : goal.loop-i-preserved
loop-i-preserved g c =
    let F = g.K.Ring.elements c.args.k.now in
    let i = c.loop-i.i in
    let x = get_or c.args.p.now (i - 1) 0 in
    record {
      below = omega (arith, c.loop-i.invariant.below);
      element = c.add-value.ensures.element;
      value = value-more F c.args.c (F.value c.loop-i.value)
          (F.value c.add-value.result) c.args.p.now i
          (i - 1) x (omega (arith, c.loop-i-test.true)) refl
          (omega (arith, c.loop-i.invariant.below))
          refl c.loop-i.invariant.value
          (c.add-value.ensures.value ∙ ap (F.add (F.value x)) c.mul.ensures.value);
    }

pub returns : goal.returns
returns g c =
    let F = g.K.Ring.elements c.args.k.now in
    record {
      element = c.loop-i.invariant.element;
      value = c.loop-i.invariant.value ∙ value-whole F c.args.c c.args.p.now c.loop-i.i
          (omega (arith, c.loop-i-test.false));
    }
