-- A pair that is ready to be substituted.
use Rattle.std.specs.Prelude.{◌≡◌, ℕ, ◌+◌, List, length}
use Rattle.ff_theory.specs.Ring.{Elements, power}
use Rattle.ff_theory.specs.Lawful.{Lawful}
use Rattle.ff_elem.specs.Elem.{algebra_in, elem_of, y_in, IsElem}
use Rattle.ff_subst.specs.declared.residue.ResidueList.{ResidueList}
use Rattle.ff_subst.specs.declared.powers.Multiples.{Multiples}
use Rattle.ff_subst.specs.declared.powers.PowerResidues.{PowerResidues}
use Rattle.ff_subst.specs.declared.powers.Substitution.{Substitution}
use Rattle.ff_subst.specs.Residues.{IsReduced, AreReduced, IsResidue, AreResidues}

pub record IsReducedPair (K : Elements ℕ) (s : Substitution) : Type 0 where
  pub by_y : AreReduced K s.by_y
  pub x : AreReduced K s.x
  pub y : AreReduced K s.y

pub record AreReducedMultiples (K : Elements ℕ) (r : Multiples) : Type 0 where
  pub list : AreReduced K r.list
  pub next : IsReduced K r.next

pub record IsPowerResidues {K : Elements ℕ} (L : Lawful K) (g : List (List ℕ))
    (r : PowerResidues) : Type 0 where
  pub list : AreReduced K r.list
  pub next : IsElem L g r.next

module _ {K : Elements ℕ} (L : Lawful K) (g : List (List ℕ)) (m : List ℕ) where
  -- u times the powers of v
  abbrev pub AreMultiples : (u v : (algebra_in L g).carrier) → ResidueList → Type 0
  AreMultiples u v r = AreResidues L g m (λ j. (algebra_in L g).mul u (power (algebra_in L g) v j))
      r

  -- u times powers of v, and u times the next power
  pub record AreNextMultiples (u v : (algebra_in L g).carrier) (r : Multiples) : Type 0 where
    pub list : AreMultiples u v r.list
    pub next : IsResidue L g m ((algebra_in L g).mul u (power (algebra_in L g) v
        (length r.list.planes))) r.next

  -- powers of u from 1 on, and the next power
  pub record ArePowerResidues (u : (algebra_in L g).carrier) (r : PowerResidues) : Type 0 where
    pub list : AreMultiples u u r.list
    pub next : elem_of L g r.next ≡ (algebra_in L g).mul u (power (algebra_in L g) u
        (length r.list.planes))

  -- v times the powers of y below the y-degree of g: the matrix of the product with v
  pub record IsMatrix (v : (algebra_in L g).carrier) (r : ResidueList) : Type 0 where
    pub multiples : AreMultiples v (y_in L g) r
    pub whole : length r.planes + 1 ≡ length g

  -- the pair (X, Y)
  pub record IsSubstitution (X Y : (algebra_in L g).carrier) (s : Substitution) : Type 0 where
    pub by_y : IsMatrix (y_in L g) s.by_y
    pub x : IsMatrix X s.x
    pub y : AreMultiples (algebra_in L g).one Y s.y
