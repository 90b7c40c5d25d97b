use Rattle.std.proofs.Common.{ap, ◌+◌, ◌∙◌}
use Rattle.ff_subst.proofs.powers.powers_of.Goals as goal

pub more_powers-requires : goal.more_powers-requires
more_powers-requires g c =
    record { m = c.requires.m; e = c.requires.e; at = c.loop-i.invariant.reduced }

pub loop-i-init : goal.loop-i-init
loop-i-init g c =
    record {
      reduced = c.in_ok-at.ensures.reduced;
      count = c.in_ok-at.ensures.count;
      powers = c.in_ok-at.ensures.powers c.args.m.now;
    }

pub loop-i-preserved : goal.loop-i-preserved
loop-i-preserved g c =
    let old = c.loop-i.invariant in
    record {
      reduced = c.in_ok-at-2.ensures.reduced;
      count = c.in_ok-at-2.ensures.count ∙ ap (λ n. n + 1) old.count;
      powers = c.in_ok-at-2.ensures.powers old.powers;
    }

pub returns-clause-reduced : goal.returns-clause-reduced
returns-clause-reduced g c = c.loop-i.invariant.reduced.list

pub returns-clause-powers : goal.returns-clause-powers
returns-clause-powers g c = c.loop-i.invariant.powers.list
