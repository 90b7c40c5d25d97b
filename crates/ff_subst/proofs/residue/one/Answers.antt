use Rattle.ff_theory.proofs.Results.{ok_map}
use Rattle.ff_elem.specs.Elem.{algebra_in, elem_of}
use Rattle.ff_subst.specs.Residues.{IsResidue}
use Rattle.ff_subst.proofs.ResidueLemmas.{residue-is}
use Rattle.ff_subst.proofs.residue.one.Goals as goal

pub returns-clause-residue : goal.returns-clause-residue
returns-clause-residue g c =
    let K = g.K.Ring.elements c.args.alg.now.k in
    let L = g.K.Ring.lawful c.args.alg.now.k in
    let f = c.args.alg.now.f in
    let m = c.args.m.now in
    let A = algebra_in L f in
    ok_map (IsResidue L f m (elem_of L f c.in_ok-one.one)) (IsResidue L f m A.one)
    c.residue_of.result (λ r h. residue-is K L f m _ _ r c.in_ok-one.ensures.value h)
    c.residue_of.ensures.residue
