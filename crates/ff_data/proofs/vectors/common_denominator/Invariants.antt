use Rattle.std.proofs.Common.{take}
use Rattle.ff_data.specs.Vectors.{IsCommonDenominator}
use Rattle.ff_data.proofs.vectors.common_denominator.Given as goal

abbrev pub invariant-loop-w : goal.invariant-loop-w
invariant-loop-w g l = record {
  den : IsCommonDenominator (g.K.Ring.elements l.alg.k) (take l.w-index l.list) l.den;
}
