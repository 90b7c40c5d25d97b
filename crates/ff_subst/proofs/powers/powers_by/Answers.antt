use Rattle.ff_theory.proofs.Results.{ok_map}
use Rattle.ff_elem.specs.Elem.{algebra_in, elem_of}
use Rattle.ff_subst.specs.Residues.{IsResidue}
use Rattle.ff_subst.specs.Powers.{AreMultiples, IsMatrix}
use Rattle.ff_subst.proofs.powers.powers_by.Goals as goal

pub powers-requires : goal.powers-requires
powers-requires g c =
    record {
      m = c.requires.m;
      first = c.in_ok-first.ensures.reduced;
      by = c.in_ok-by.ensures.reduced;
    }

pub returns-clause-powers : goal.returns-clause-powers
returns-clause-powers g c =
    let L = g.K.Ring.lawful c.args.alg.now.k in
    let f = c.args.alg.now.f in
    let A = algebra_in L f in
    let m = c.args.m.now in
    ok_map (λ r. (u v : A.carrier) → IsResidue L f m u c.in_ok-first.first
    → IsMatrix L f m v c.in_ok-by.by → AreMultiples L f m u v r)
    (AreMultiples L f m A.one (elem_of L f c.args.v.now)) c.powers.result
    (λ r powers. powers A.one (elem_of L f c.args.v.now) c.in_ok-first.ensures.residue
    c.in_ok-by.ensures.matrix) c.powers.ensures.powers
