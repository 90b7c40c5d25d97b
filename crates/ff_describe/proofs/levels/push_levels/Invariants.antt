use Rattle.ff_describe.specs.Levels.{HasLevels}
use Rattle.ff_describe.proofs.levels.push_levels.Given as goal

abbrev pub invariant-loop-l : goal.invariant-loop-l
invariant-loop-l g l = HasLevels (g.K.Ring.lawful l.alg.k) l.alg.f l.fn.list.items l.z l.b
    l.counts l.l l.longer.items
