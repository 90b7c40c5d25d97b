use Rattle.std.proofs.Common.{◌-◌, ◌*◌, ◌/◌, ◌∙◌, ap, arith}
use Rattle.ff_data.specs.Systems.{weight_at}
use Rattle.ff_relation.specs.InRing.{number_at}
use Rattle.ff_relation.proofs.BaseLemmas.{numbers-push, numbers-count}
use Rattle.ff_relation.proofs.bases.limits.Goals as goal

pub loop-l-preserved : goal.loop-l-preserved
loop-l-preserved c =
    let s = c.args.s.now in
    let exponents = c.args.exponents.now in
    let old = c.loop-l.limits.items in
    let l = c.loop-l.l in
    record {
      count = numbers-count old c.push.new.self.items c.limit.result l c.in_ok-push.ensures.items
          c.loop-l.invariant.count;
      value = numbers-push (λ x. x)
          (λ i. (number_at exponents i * c.args.weight - weight_at s i) / s.e) old
          c.push.new.self.items c.limit.result l c.in_ok-push.ensures.items
          c.loop-l.invariant.count c.loop-l.invariant.value
          (c.limit.ensures ∙ ap (λ m. (number_at exponents l * c.args.weight - m) / s.e)
          c.weight_of.ensures);
    }

pub returns-clause-value : goal.returns-clause-value
returns-clause-value c = λ l q. c.loop-l.invariant.value l
    (omega (arith, q, c.loop-l-test.false, c.requires.count))
