-- Residues in code: what they stand for.
use Rattle.std.specs.Prelude.{ℕ, ◌<◌, List, [], length, slice_index_or as get_or}
use Rattle.ff_theory.specs.Ring.{Elements}
use Rattle.ff_theory.specs.Lawful.{Lawful, lawful_field}
use Rattle.ff_theory.specs.Poly.{polynomials}
use Rattle.ff_theory.specs.Values.{poly_of, IsPoly, plane_of, IsPlane}
use Rattle.ff_theory.specs.Planes.{row_of}
use Rattle.ff_elem.specs.Elem.{algebra_in}
use Rattle.ff_subst.specs.declared.residue.Residue.{Residue}
use Rattle.ff_subst.specs.declared.residue.ResidueList.{ResidueList}
use Rattle.ff_subst.specs.Congruence.{ArePlanes, AreCongruent, IsValueResidue, IsFactorResidue}

pub record IsReduced (K : Elements ℕ) (r : Residue) : Type 0 where
  pub factor : IsPoly K r.factor
  pub plane : IsPlane K r.plane

pub record AreReduced (K : Elements ℕ) (r : ResidueList) : Type 0 where
  pub factor : IsPoly K r.factor
  pub planes : ArePlanes K r.planes

-- planes are those of the list times the factor of `last`, and at the end that of `last` times the
-- factor of the list
pub record IsAppended (K : Elements ℕ) (m : List ℕ) (list : ResidueList) (last : Residue)
    (planes : List (List (List ℕ))) : Type 0 where
  pub before : (j : ℕ) → j < length list.planes
      → AreCongruent K m ((polynomials (polynomials K.ring)).mul
      (row_of K.ring (poly_of K last.factor)) (plane_of K (get_or list.planes j [])))
      (plane_of K (get_or planes j []))
  pub end : AreCongruent K m ((polynomials (polynomials K.ring)).mul (row_of K.ring (poly_of K
      list.factor)) (plane_of K last.plane)) (plane_of K (get_or planes (length list.planes) []))

module _ {K : Elements ℕ} (L : Lawful K) (g : List (List ℕ)) (m : List ℕ) where
  -- r is u times a factor t, modulo m
  pub record IsResidue (u : (algebra_in L g).carrier) (r : Residue) : Type 0 where
    pub t : (algebra_in L g).carrier
    pub factor : IsFactorResidue (lawful_field L) (plane_of K g) (poly_of K m) (poly_of K r.factor)
        t
    pub plane : IsValueResidue (lawful_field L) (plane_of K g) (poly_of K m) (plane_of K r.plane)
        ((algebra_in L g).mul t u)

  -- entry j of r is u j times a factor t, modulo m
  pub record AreResidues (u : ℕ → (algebra_in L g).carrier) (r : ResidueList) : Type 0 where
    pub t : (algebra_in L g).carrier
    pub factor : IsFactorResidue (lawful_field L) (plane_of K g) (poly_of K m) (poly_of K r.factor)
        t
    pub planes : (j : ℕ) → j < length r.planes
        → IsValueResidue (lawful_field L) (plane_of K g) (poly_of K m)
        (plane_of K (get_or r.planes j [])) ((algebra_in L g).mul t (u j))
