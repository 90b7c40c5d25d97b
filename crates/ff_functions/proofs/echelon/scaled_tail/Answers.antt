use Rattle.std.proofs.Common.{◌≡◌, ◌+◌, length, sym, ap, subst, arith, All}
use Rattle.std.proofs.lemmas.List.Elements.{All-push}
use Rattle.ff_theory.specs.Ring.{IsElement}
use Rattle.ff_functions.proofs.RowLemmas.{scaled_push, scaled_end}
use Rattle.ff_functions.proofs.echelon.scaled_tail.Goals as goal

pub loop-j-init : goal.loop-j-init
loop-j-init g c =
    let n = c.in_ok-list.ensures.items in
    record {
      len = omega (arith, ap length n);
      each = λ i d l. absurd (omega (arith, l, ap length n));
      value = λ i l. absurd (omega (arith, l, ap length n));
    }

pub loop-j-preserved : goal.loop-j-preserved
loop-j-preserved g c =
    let F = g.K.Ring.elements c.args.k.now in
    let L = g.K.Ring.lawful c.args.k.now in
    let i = c.loop-j.invariant in
    let p = c.in_ok-push.ensures in
    record {
      len = omega (arith, i.len, p.len);
      each = subst (All (IsElement F)) (sym p.items)
          (All-push (IsElement F) c.loop-j.list.items c.mul.result i.each c.mul.ensures.element);
      value = scaled_push F L c.args.c c.mul.result c.args.start c.loop-j.j c.args.v.now
          c.loop-j.list.items c.push.new.self.items p.items i.len c.loop-j-test.true
          c.mul.ensures.value i.value;
    }

pub returns-clause-len : goal.returns-clause-len
returns-clause-len g c = omega (
  arith,
  c.loop-j.invariant.len,
  c.loop-j-test.false,
  c.loop-j.auto.j-end c.requires.start,
)

pub returns-clause-value : goal.returns-clause-value
returns-clause-value g c =
    let F = g.K.Ring.elements c.args.k.now in
    let n : c.args.start + length c.loop-j.list.items ≡ length c.args.v.now = omega (
      arith,
      c.loop-j.invariant.len,
      c.loop-j-test.false,
      c.loop-j.auto.j-end c.requires.start,
    ) in
    scaled_end F (g.K.Ring.lawful c.args.k.now) c.args.c c.args.start c.args.v.now
    c.loop-j.list.items n c.loop-j.invariant.value
