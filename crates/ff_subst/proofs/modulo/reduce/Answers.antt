use Rattle.std.proofs.Common.{subst, sym}
use Rattle.ff_theory.specs.Values.{plane_of}
use Rattle.ff_subst.specs.Congruence.{AreCongruent}
use Rattle.ff_subst.proofs.modulo.reduce.Goals as goal

pub returns-clause-congruent : goal.returns-clause-congruent
returns-clause-congruent g c =
    let K = g.K.Ring.elements c.args.k.now in
    let m = c.args.m.now in
    let N = plane_of K c.args.rows.now in
    subst (AreCongruent K m N) (sym c.from_vec.ensures.value) c.in_ok-rests.ensures.congruent
