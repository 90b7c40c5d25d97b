use Rattle.std.proofs.Common.{subst, sym}
use Rattle.ff_theory.specs.Values.{plane_of, poly_of}
use Rattle.ff_subst.specs.declared.residue.Residue.{Residue}
use Rattle.ff_theory.specs.Values.{ArePolys}
use Rattle.ff_subst.specs.Congruence.{AreCongruent}
use Rattle.ff_subst.proofs.Remainders.{division-congruent}
use Rattle.ff_subst.proofs.ResidueLemmas.{element-residue}
use Rattle.ff_subst.proofs.residue.residue_of.Goals as goal

pub reduce-requires : goal.reduce-requires
reduce-requires g c =
    let K = g.K.Ring.elements c.args.alg.now.k in
    record { m = c.requires.m; rows = subst (ArePolys K) (sym c.rows.ensures) c.requires.e.num }

pub returns-clause-residue : goal.returns-clause-residue
returns-clause-residue g c =
    let K = g.K.Ring.elements c.args.alg.now.k in
    let L = g.K.Ring.lawful c.args.alg.now.k in
    let f = c.args.alg.now.f in
    let m = c.args.m.now in
    let e = c.args.e.now in
    let r : Residue = record { factor = c.in_ok-factor.factor; plane = c.in_ok-plane.plane } in
    element-residue K L f m e r c.args.alg.now.plane c.args.alg.now.has_y c.requires.e
    (division-congruent K L (poly_of K e.den) (poly_of K m) c.in_ok-factor.ensures.division.0
    (poly_of K r.factor) c.in_ok-factor.ensures.division.1)
    (subst (λ rows. AreCongruent K m (plane_of K rows) (plane_of K r.plane)) c.rows.ensures
    c.in_ok-plane.ensures.congruent)
