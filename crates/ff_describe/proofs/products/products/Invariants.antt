use Rattle.ff_describe.specs.Levels.{AreProducts}
use Rattle.ff_describe.proofs.products.products.Given as goal

abbrev pub invariant-loop-j : goal.invariant-loop-j
invariant-loop-j g l = AreProducts (g.K.Ring.lawful l.alg.k) l.alg.f l.b l.j l.list.items
