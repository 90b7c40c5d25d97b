use Rattle.std.proofs.Common.{length, ap, arith}
use Rattle.ff_elem.proofs.PolyLemmas.{nonzero-length}
use Rattle.ff_common.proofs.held.held_numerators.Goals as goal

pub overflow_sub-coeffs : goal.overflow_sub-coeffs
overflow_sub-coeffs g c =
    let F = g.K.Ring.elements c.args.alg.now.k in
    let L = g.K.Ring.lawful c.args.alg.now.k in
    omega (
      arith,
      nonzero-length F L c.args.d.now c.requires.finite.modulus,
      ap length c.coeffs.ensures,
    )
