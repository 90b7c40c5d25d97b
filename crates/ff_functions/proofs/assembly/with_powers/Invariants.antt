use Rattle.ff_theory.specs.Vector.{vector_of}
use Rattle.ff_data.specs.Orders.{y_degree}
use Rattle.ff_data.specs.Vectors.{IsPlaneWithin}
use Rattle.ff_functions.specs.Combined.{IsWithPowers}
use Rattle.ff_functions.proofs.assembly.with_powers.Given as goal

abbrev pub invariant-loop-i : goal.invariant-loop-i
invariant-loop-i g l =
    let F = g.K.Ring.elements l.alg.k in
    let L = g.K.Ring.lawful l.alg.k in
    IsPlaneWithin F (y_degree L l.alg.f) l.numerator × IsWithPowers L l.alg.f l.root l.fn.base
    l.powers l.i (vector_of F l.coefficients) l.numerator
