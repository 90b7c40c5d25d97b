use Rattle.std.proofs.Common.{length, ℕ, ◌≡◌}
use Rattle.ff_theory.proofs.Results.{ok_map}
use Rattle.ff_elem.specs.Elem.{algebra_in, elem_of}
use Rattle.ff_subst.specs.declared.residue.ResidueList.{ResidueList}
use Rattle.ff_subst.specs.Residues.{AreResidues, IsResidue}
use Rattle.ff_subst.proofs.ResidueLemmas.{residue-is}
use Rattle.ff_subst.proofs.powers.append_element.Goals as goal

pub returns-clause-residues : goal.returns-clause-residues
returns-clause-residues g c =
    let K = g.K.Ring.elements c.args.alg.now.k in
    let L = g.K.Ring.lawful c.args.alg.now.k in
    let f = c.args.alg.now.f in
    let A = algebra_in L f in
    let m = c.args.m.now in
    let list = c.args.list.now in
    ok_map (λ (r : ResidueList). (u : ℕ → A.carrier) → AreResidues L f m u list
    → IsResidue L f m (u (length list.planes)) c.in_ok-last.last → AreResidues L f m u r)
    (λ (r : ResidueList). (u : ℕ → A.carrier) → AreResidues L f m u list → elem_of L f c.args.e.now
    ≡ u (length list.planes) → AreResidues L f m u r) c.append.result
    (λ r h u are is. h u are (residue-is K L f m _ _ c.in_ok-last.last is
    c.in_ok-last.ensures.residue)) c.append.ensures.residues
