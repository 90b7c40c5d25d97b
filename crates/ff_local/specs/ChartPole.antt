-- The pole modules of an order of a chart as residue lattices: moduli d*(u-a)^j, and the planes of
-- the space and of the powers of one element over them.
use Rattle.std.specs.Prelude.{◌≡◌, ℕ, suc, ◌-◌, ◌<◌, pred}
use Rattle.ff_theory.specs.Ring.{RingOps, power}
use Rattle.ff_theory.specs.Poly.{Poly, polynomials}
use Rattle.ff_theory.specs.Division.{size}
use Rattle.ff_theory.specs.Planes.{row_of}
use Rattle.ff_charts.specs.Chart.{Chart, at_u, at_theta}
use Rattle.ff_charts.specs.Lattice.{HasShape, IsResidue}
use Rattle.ff_local.specs.ChartOrder.{ChartOrder, root_at, plane_sum}

module _ {k A : RingOps} (c : Chart k A) (o : ChartOrder c) (a : k.carrier) where
  -- (u - a)^j
  abbrev pub root_power : ℕ → Poly k
  root_power j = power (polynomials k) (root_at k a) j

  -- (u - a)^j * d, for the modulus d of the order
  abbrev pub pole_modulus : ℕ → Poly k
  pole_modulus j = (polynomials k).mul (root_power j) o.modulus

  -- (u-a)^j * M + c 0 * (u-a)^(j-1) * W 1 + .. + c (j-1) * W j, for a plane M of the order's space
  pub record IsPolePlane (j : ℕ) (W : ℕ → Poly (polynomials k)) (N : Poly (polynomials k))
      : Type 0 where
    pub part : Poly (polynomials k)
    pub shape : HasShape k c.degree (pred (size k o.modulus)) part
    pub is_in : o.space.In part
    pub coefficients : ℕ → k.carrier
    pub sum : N ≡ (polynomials (polynomials k)).add
        ((polynomials (polynomials k)).mul (row_of k (root_power j)) part)
        (plane_sum k j coefficients (λ i. (polynomials (polynomials k)).mul
        (row_of k (root_power (j - suc i))) (W (suc i))))

  -- V times G is d times a plane, of which W is the residue modulo d*(u-a)^i
  pub record IsPoleStep (i : ℕ) (G V W : Poly (polynomials k)) : Type 0 where
    pub quotient : Poly (polynomials k)
    pub product : A.mul (at_theta c V) (at_theta c G)
        ≡ A.mul (at_u c o.modulus) (at_theta c quotient)
    pub residue : IsResidue c (pole_modulus i) (at_theta c quotient) W

  -- W 1 is the residue of G modulo d*(u-a), and W (i+1) that of W i times G, divided by d
  pub record ArePolePowers (j : ℕ) (G : Poly (polynomials k)) (W : ℕ → Poly (polynomials k))
      : Type 0 where
    pub first : 0 < j → IsResidue c (pole_modulus 1) (at_theta c G) (W 1)
    pub next : (i : ℕ) → suc i < j → IsPoleStep (suc (suc i)) G (W (suc i)) (W (suc (suc i)))
