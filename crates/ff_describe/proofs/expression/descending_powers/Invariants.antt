use Rattle.ff_describe.specs.Levels.{AreDescending}
use Rattle.ff_describe.proofs.expression.descending_powers.Given as goal

abbrev pub invariant-loop-d : goal.invariant-loop-d
invariant-loop-d g l = AreDescending (g.K.Ring.lawful l.alg.k) l.alg.f l.z l.w l._d l.list.items
