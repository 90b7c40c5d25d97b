-- Residue lattices of a chart: N/m plus an element of the power order, for residues N of a given
-- kind.
use Rattle.std.specs.Prelude.{◌≡◌, ℕ, pred, ◌≤◌, ◌/◌, ◌%◌, [], ◌∷◌}
use Rattle.ff_theory.specs.Ring.{RingOps}
use Rattle.ff_theory.specs.Poly.{coeff, Poly, poly, polynomials}
use Rattle.ff_theory.specs.Division.{size}
use Rattle.ff_charts.specs.Chart.{Chart, at_u, at_theta, InPowers}

-- at most n rows, each with at most l coefficients
pub record HasShape (k : RingOps) (n l : ℕ) (N : Poly (polynomials k)) : Type 0 where
  pub rows : size (polynomials k) N ≤ n
  pub each : (i : ℕ) → size k (coeff (polynomials k) N.coeffs i) ≤ l

-- the vector that lists l coefficients of each row, row after row
abbrev pub flat : (k : RingOps) → ℕ → Poly (polynomials k) → ℕ → k.carrier
flat k l N j = coeff k (coeff (polynomials k) N.coeffs (j / l)).coeffs (j % l)

-- the planes with the property are closed under sums and products with constants
pub record IsSubspace (k : RingOps) (U : Poly (polynomials k) → Type 0) : Type 0 where
  pub on_zero : U (polynomials (polynomials k)).zero
  pub on_add : (M N : Poly (polynomials k)) → U M → U N → U ((polynomials (polynomials k)).add M N)
  pub on_scale : (a : k.carrier) (N : Poly (polynomials k)) → U N
      → U ((polynomials (polynomials k)).mul (poly (polynomials k) (poly k (a ∷ []) ∷ [])) N)

-- the planes g * N for planes N with the property and the shape
pub record IsTimes (k : RingOps) (n l : ℕ) (g : Poly k) (U : Poly (polynomials k)
    → Type 0) (M : Poly (polynomials k)) : Type 0 where
  pub part : Poly (polynomials k)
  pub shape : HasShape k n l part
  pub is_in : U part
  pub product : M ≡ (polynomials (polynomials k)).mul (poly (polynomials k) (g ∷ [])) part

module _ {k A : RingOps} (c : Chart k A) where
  -- a is the residue nums modulo m, up to m times an element of the power order
  pub record IsResidue (m : Poly k) (a : A.carrier) (nums : Poly (polynomials k)) : Type 0 where
    pub shape : HasShape k c.degree (pred (size k m)) nums
    pub rest : A.carrier
    pub in_powers : InPowers c rest
    pub sum : a ≡ A.add (at_theta c nums) (A.mul (at_u c m) rest)

  -- the lattice of m and U: the elements w for which m * w has a residue in U
  pub record InLattice (m : Poly k) (U : Poly (polynomials k)
      → Type 0) (w : A.carrier) : Type 0 where
    pub nums : Poly (polynomials k)
    pub is_in : U nums
    pub residue : IsResidue m (A.mul (at_u c m) w) nums

  -- the product of two elements of the lattice is in it
  abbrev pub IsClosed : Poly k → (Poly (polynomials k) → Type 0) → Type 0
  IsClosed m U = (v w : A.carrier) → InLattice m U v → InLattice m U w → InLattice m U (A.mul v w)
