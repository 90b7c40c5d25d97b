use Rattle.ff_theory.proofs.Results.{ok_map}
use Rattle.ff_elem.specs.Elem.{algebra_in, elem_of}
use Rattle.ff_subst.specs.Residues.{IsResidue}
use Rattle.ff_subst.specs.Powers.{IsMatrix}
use Rattle.ff_subst.proofs.tests.multiply.Goals as goal

pub matrix-requires : goal.matrix-requires
matrix-requires g c =
    record {
      m = c.requires.m;
      by_y = c.requires.at.by_y;
      matrix = c.requires.matrix;
      v = c.requires.v;
    }

pub returns-clause-residue : goal.returns-clause-residue
returns-clause-residue g c =
    let L = g.K.Ring.lawful c.args.alg.now.k in
    let f = c.args.alg.now.f in
    let A = algebra_in L f in
    let m = c.args.m.now in
    let v = elem_of L f c.args.v.now in
    ok_map (λ s. (u v : A.carrier) → IsMatrix L f m v c.in_ok-by.by → IsResidue L f m u c.args.r.now
    → IsResidue L f m (A.mul v u) s)
    (λ s. (u : A.carrier) → IsResidue L f m u c.args.r.now → IsResidue L f m (A.mul v u) s)
    c.apply.result
    (λ s h u k. h u v c.in_ok-by.ensures.matrix k) c.apply.ensures.residue
