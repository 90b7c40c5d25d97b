use Rattle.std.proofs.Common.{All}
use Rattle.ff_theory.specs.Ring.{IsElement}
use Rattle.ff_elem.specs.Zeros.{AddsZeros}
use Rattle.ff_elem.proofs.frobenius.push_zeros.Given as goal

abbrev pub invariant-loop-i : goal.invariant-loop-i
invariant-loop-i g l =
    let K = g.K.Ring.elements l.k in
    record {
      each : All (IsElement K) l.list.items;
      zeros : AddsZeros K.ring K.value l.fn.list.items l.list.items l._i;
    }
