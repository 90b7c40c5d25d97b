-- A basis of an order of a chart modulo u - a, by numerators over d: planes modulo d*(u-a).
use Rattle.std.specs.Prelude.{◌≡◌, ℕ, ◌<◌, pred}
use Rattle.ff_theory.specs.Ring.{RingOps, power}
use Rattle.ff_theory.specs.Poly.{Poly, polynomials}
use Rattle.ff_theory.specs.Division.{size}
use Rattle.ff_charts.specs.Chart.{Chart, at_u, at_theta}
use Rattle.ff_charts.specs.Lattice.{HasShape, IsTimes, IsResidue}
use Rattle.ff_local.specs.ChartOrder.{ChartOrder, root_at, plane_sum}
use Rattle.ff_local.specs.ChartPole.{pole_modulus}

module _ {k A : RingOps} (c : Chart k A) (o : ChartOrder c) (a : k.carrier) where
  -- u - a times a plane of the space: the numerators of the elements of v*O
  abbrev pub IsRootMultiple : Poly (polynomials k) → Type 0
  IsRootMultiple = IsTimes k c.degree (pred (size k o.modulus)) (root_at k a) o.space.In

  -- N/d is in the order: N has a residue modulo d in the space
  pub record IsNumerator (N : Poly (polynomials k)) : Type 0 where
    pub shape : HasShape k c.degree (pred (size k (pole_modulus c o a 1))) N
    pub nums : Poly (polynomials k)
    pub is_in : o.space.In nums
    pub residue : IsResidue c o.modulus (at_theta c N) nums

  -- N is the combination with these coefficients up to a numerator of v*O
  abbrev pub IsCongruentTo : ℕ → (ℕ → Poly (polynomials k)) → (ℕ → k.carrier)
      → Poly (polynomials k) → Type 0
  IsCongruentTo n G e N = IsRootMultiple ((polynomials (polynomials k)).add N
      ((polynomials (polynomials k)).neg (plane_sum k n e G)))

  -- the product of two planes is d times a plane, whose residue has these coefficients
  pub record IsProductEntry (n : ℕ) (G : ℕ → Poly (polynomials k)) (M N : Poly (polynomials k))
      (e : ℕ → k.carrier) : Type 0 where
    pub quotient : Poly (polynomials k)
    pub product : A.mul (at_theta c M) (at_theta c N)
        ≡ A.mul (at_u c o.modulus) (at_theta c quotient)
    pub nums : Poly (polynomials k)
    pub residue : IsResidue c (pole_modulus c o a 1) (at_theta c quotient) nums
    pub congruent : IsCongruentTo n G e nums

  -- the plane is d times a power of theta
  abbrev pub IsThetaPower : ℕ → Poly (polynomials k) → Type 0
  IsThetaPower i N = at_theta c N ≡ A.mul (at_u c o.modulus) (power A c.theta i)

  -- numerators that are independent modulo those of v*O, of which d times the powers of theta and
  -- the basis of the space are combinations, and the table of their products
  pub record ChartFibre : Type 0 where
    pub count : ℕ
    pub plane : ℕ → Poly (polynomials k)
    pub numerator : (i : ℕ) → i < count → IsNumerator (plane i)
    pub independent : (e : ℕ → k.carrier) → IsRootMultiple (plane_sum k count e plane) → (i : ℕ)
        → i < count → e i ≡ k.zero
    pub of_theta : (i : ℕ) → i < c.degree → (N : Poly (polynomials k)) × (IsThetaPower i N
        × ((e : ℕ → k.carrier) × IsCongruentTo count plane e N))
    pub of_basis : (i : ℕ) → i < o.space.count
        → (e : ℕ → k.carrier) × IsCongruentTo count plane e (o.space.basis i)
    pub table : ℕ → ℕ → ℕ → k.carrier
    pub products : (i j : ℕ) → i < count → j < count
        → IsProductEntry count plane (plane i) (plane j) (table i j)
