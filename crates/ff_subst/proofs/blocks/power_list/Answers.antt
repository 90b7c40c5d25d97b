use Rattle.ff_subst.proofs.blocks.power_list.Goals as goal

pub more_powers-requires : goal.more_powers-requires
more_powers-requires g c = record { x = c.requires.x; at = c.loop-i.invariant }

pub loop-i-init : goal.loop-i-init
loop-i-init g c = c.in_ok-at.ensures

pub loop-i-preserved : goal.loop-i-preserved
loop-i-preserved g c = c.in_ok-at-2.ensures

pub returns : goal.returns
returns g c = c.loop-i.invariant
