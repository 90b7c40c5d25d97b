use Rattle.ff_order.specs.Steps.{IsResidueSpace, HoldsIntegral}
use Rattle.ff_order.proofs.narrowing.pass_rows.Given as goal

abbrev pub invariant-loop-j : goal.invariant-loop-j
invariant-loop-j g l =
    let L = g.K.Ring.lawful l.alg.k in
    record {
      space : IsResidueSpace L l.alg.f l.fn.chart l.rows.d l.space;
      holds : HoldsIntegral L l.alg.f l.fn.chart l.rows.d l.space;
    }
