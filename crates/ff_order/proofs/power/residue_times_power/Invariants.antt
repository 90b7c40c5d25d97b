use Rattle.ff_theory.specs.Values.{IsPlane}
use Rattle.ff_order.specs.Steps.{KeepsResidues, times_power}
use Rattle.ff_order.proofs.power.residue_times_power.Given as goal

abbrev pub invariant-loop-i : goal.invariant-loop-i
invariant-loop-i g l =
    let F = g.K.Ring.elements l.alg.k in
    let L = g.K.Ring.lawful l.alg.k in
    record {
      plane : IsPlane F l.power;
      value : KeepsResidues L l.alg.f l.chart l.m l.a l.power
          (times_power L l.alg.f l.chart l.b l._i);
    }
