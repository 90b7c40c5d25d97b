use Rattle.ff_describe.specs.Levels.{raised, Extends}
use Rattle.ff_describe.proofs.levels.push_powers.Given as goal

abbrev pub invariant-loop-a : goal.invariant-loop-a
invariant-loop-a g l =
    let L = g.K.Ring.lawful l.alg.k in
    Extends L l.alg.f l.fn.list.items l.a (raised L l.alg.f l.z l.w) l.longer.items
