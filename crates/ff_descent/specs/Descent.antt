-- The descent by p-th powers from the elements that the different carries into the power order.
use Rattle.std.specs.Prelude.{◌≡◌, ℕ, zero, suc, pred}
use Rattle.ff_theory.specs.Ring.{RingOps, power}
use Rattle.ff_theory.specs.Poly.{Poly, polynomials}
use Rattle.ff_theory.specs.Division.{size}
use Rattle.ff_charts.specs.Chart.{Chart, at_u, at_theta, InPowers}
use Rattle.ff_charts.specs.Lattice.{HasShape}

-- b is the derivative of the equation at theta; q + 1 is the characteristic
module _ {k A : RingOps} (c : Chart k A) where
  -- level 0: the elements that b carries into the power order; then those that stay with their
  -- p-th power
  abbrev pub InLevel : A.carrier → ℕ → ℕ → A.carrier → Type 0
  InLevel b q zero w = InPowers c (A.mul b w)
  InLevel b q (suc i) w = InLevel b q i w × InLevel b q i (power A w (suc q))

  -- residues modulo d that b carries to multiples of d
  pub record IsCarried (b : A.carrier) (d : Poly k) (N : Poly (polynomials k)) : Type 0 where
    pub rest : A.carrier
    pub in_powers : InPowers c rest
    pub sum : A.mul b (at_theta c N) ≡ A.mul (at_u c d) rest

  -- residues modulo d whose p-th power is d^(p-1) times one with the property T, modulo d^p
  pub record IsStepped (q : ℕ) (d : Poly k) (T : Poly (polynomials k) → Type 0)
      (N : Poly (polynomials k)) : Type 0 where
    pub is_in : T N
    pub next : Poly (polynomials k)
    pub shape : HasShape k c.degree (pred (size k d)) next
    pub next_in : T next
    pub rest : A.carrier
    pub in_powers : InPowers c rest
    pub sum : power A (at_theta c N) (suc q)
        ≡ A.add (A.mul (power A (at_u c d) q) (at_theta c next))
        (A.mul (power A (at_u c d) (suc q)) rest)

  -- the residues of each level
  abbrev pub LevelSpace : A.carrier → ℕ → Poly k → ℕ → Poly (polynomials k) → Type 0
  LevelSpace b q d zero N = IsCarried b d N
  LevelSpace b q d (suc i) N = IsStepped q d (LevelSpace b q d i) N
