use Rattle.std.proofs.Common.{ap, ◌+◌, ◌∙◌}
use Rattle.ff_subst.proofs.powers.powers.Goals as goal

pub more_multiples-requires : goal.more_multiples-requires
more_multiples-requires g c =
    record { m = c.requires.m; by = c.requires.by; at = c.loop-i.invariant.reduced }

pub loop-i-init : goal.loop-i-init
loop-i-init g c =
    record {
      reduced = c.in_ok-at.ensures.reduced;
      count = c.in_ok-at.ensures.count;
      multiples = λ u v h k. c.in_ok-at.ensures.multiples c.args.m.now u v h;
    }

pub loop-i-preserved : goal.loop-i-preserved
loop-i-preserved g c =
    let old = c.loop-i.invariant in
    record {
      reduced = c.in_ok-at-2.ensures.reduced;
      count = c.in_ok-at-2.ensures.count ∙ ap (λ n. n + 1) old.count;
      multiples = λ u v h k. c.in_ok-at-2.ensures.multiples u v k (old.multiples u v h k);
    }

pub returns-clause-reduced : goal.returns-clause-reduced
returns-clause-reduced g c = c.loop-i.invariant.reduced.list

pub returns-clause-powers : goal.returns-clause-powers
returns-clause-powers g c =
    λ u v h k. (c.loop-i.invariant.multiples u v h k).list
