use Rattle.ff_data.specs.Systems.{weight_at}
use Rattle.ff_relation.proofs.Coprime.{gcd-is_one, difference-is_one}
use Rattle.ff_relation.proofs.choice.better.Goals as goal

pub returns-then-gcd-ne1-clause-taken : goal.returns-then-gcd-ne1-clause-taken
returns-then-gcd-ne1-clause-taken c = λ h. absurd (c.if-gcd-ne1.true
    (gcd-is_one (weight_at c.args.s.now c.args.i) c.weight_of.result c.args.s.now.e c.gcd.result
    c.weight_of.ensures c.gcd.ensures.divisor h))

pub returns-then-gcd-ne1-2-clause-kept : goal.returns-then-gcd-ne1-2-clause-kept
returns-then-gcd-ne1-2-clause-kept c = λ h.
    difference-is_one (weight_at c.args.s.now c.args.i) c.weight_of.result c.args.s.now.e
    c.gcd.result c.weight_of.ensures c.if-gcd-ne1.false c.gcd.ensures.difference

pub returns-then-gcd-ne1-2-clause-taken : goal.returns-then-gcd-ne1-2-clause-taken
returns-then-gcd-ne1-2-clause-taken c = λ h.
    difference-is_one (weight_at c.args.s.now c.args.i) c.weight_of.result c.args.s.now.e
    c.gcd.result c.weight_of.ensures c.if-gcd-ne1.false c.gcd.ensures.difference

pub returns-then-weight_of-clause-kept : goal.returns-then-weight_of-clause-kept
returns-then-weight_of-clause-kept c = λ h.
    difference-is_one (weight_at c.args.s.now c.args.i) c.weight_of.result c.args.s.now.e
    c.gcd.result c.weight_of.ensures c.if-gcd-ne1.false c.gcd.ensures.difference

pub returns-then-weight_of-clause-taken : goal.returns-then-weight_of-clause-taken
returns-then-weight_of-clause-taken c = λ h.
    difference-is_one (weight_at c.args.s.now c.args.i) c.weight_of.result c.args.s.now.e
    c.gcd.result c.weight_of.ensures c.if-gcd-ne1.false c.gcd.ensures.difference

pub returns-else-weight_of-clause-taken : goal.returns-else-weight_of-clause-taken
returns-else-weight_of-clause-taken c = λ h.
    difference-is_one (weight_at c.args.s.now c.args.best) c.weight_of-2.result c.args.s.now.e
    c.gcd-2.result c.weight_of-2.ensures c.if-gcd-ne1-2.false c.gcd-2.ensures.difference
