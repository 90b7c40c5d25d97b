use Rattle.std.proofs.Common.{length}
use Rattle.ff_order.specs.Steps.{IsResidueSpace, HoldsIntegral, IsTurn}
use Rattle.ff_order.proofs.descent.turns.Given as goal

abbrev pub invariant-turns : goal.invariant-turns
invariant-turns g l =
    let L = g.K.Ring.lawful l.alg.k in
    record {
      space : IsResidueSpace L l.alg.f l.chart l.rows.d l.space;
      holds : HoldsIntegral L l.alg.f l.chart l.rows.d l.space;
      next : IsResidueSpace L l.alg.f l.chart l.rows.d l.next;
      turn : IsTurn L l.alg.f l.chart l.rows.d l.space l.next;
    }

abbrev pub decreases-turns : goal.decreases-turns
decreases-turns g l = length l.space.basis
