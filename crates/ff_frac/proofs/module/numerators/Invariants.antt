use Rattle.ff_frac.specs.Places.{IsMaximalPlace}
use Rattle.ff_frac.specs.Numerators.{HasNumeratorsForm, AreNumeratorsAt}
use Rattle.ff_frac.proofs.module.numerators.Given as goal

abbrev pub invariant-loop-i : goal.invariant-loop-i
invariant-loop-i g l =
    let L = g.K.Ring.lawful l.alg.k in
    record {
      form : HasNumeratorsForm L l.alg.f l.order l.i l.numerators;
      exact : IsMaximalPlace L l.alg.f l.order l.point
          → AreNumeratorsAt L l.alg.f l.order l.point l.i l.numerators;
    }
