-- Charts of a ring A with a field k of constants: polynomials in u, planes in u and theta, and the
-- elements that are integral over the power order.
use Rattle.std.specs.Prelude.{◌≡◌, ℕ, suc, ◌≤◌, false}
use Rattle.ff_theory.specs.Divides.{IsCoprime}
use Rattle.ff_theory.specs.Ring.{RingOps, power}
use Rattle.ff_theory.specs.Poly.{coeff, Poly, polynomials}
use Rattle.ff_theory.specs.Division.{size}
use Rattle.ff_theory.specs.Eval.{eval, plane_at}
use Rattle.ff_theory.specs.Map.{IsMap}

-- u, theta, the equation of theta and its degree; which polynomials in u are units, and which
-- are moduli
pub record Chart (k A : RingOps) : Type 1 where
  pub constant : k.carrier → A.carrier
  pub u : A.carrier
  pub theta : A.carrier
  pub degree : ℕ
  pub equation : Poly (polynomials k)
  pub IsUnit : Poly k → Type 0
  pub IsModulus : Poly k → Type 0

module _ {k A : RingOps} (c : Chart k A) where
  -- the value of a polynomial at u
  abbrev pub at_u : Poly k → A.carrier
  at_u h = eval k A c.constant c.u h

  -- the value of a plane at u and theta
  abbrev pub at_theta : Poly (polynomials k) → A.carrier
  at_theta N = plane_at k A c.constant c.u c.theta N

  -- a polynomial in u, not 0, times a is a plane at u and theta
  pub record Cleared (a : A.carrier) : Type 0 where
    pub den : Poly k
    pub nonzero : (polynomials k).same den (polynomials k).zero ≡ false
    pub nums : Poly (polynomials k)
    pub clears : A.mul (at_u den) a ≡ at_theta nums

  -- the power order: a unit times a is a plane at u and theta
  pub record InPowers (a : A.carrier) : Type 0 where
    pub unit : Poly k
    pub is_unit : c.IsUnit unit
    pub nums : Poly (polynomials k)
    pub clears : A.mul (at_u unit) a ≡ at_theta nums

  -- one modulus times each power of s is in the power order
  pub record IsIntegral (s : A.carrier) : Type 0 where
    pub modulus : Poly k
    pub is_modulus : c.IsModulus modulus
    pub powers : (j : ℕ) → InPowers (A.mul (at_u modulus) (power A s j))

-- the laws of a chart
pub record IsChart (k A : RingOps) (c : Chart k A) : Type 0 where
  pub constants : IsMap k A c.constant
  -- the equation is monic, has theta as a root, and none of lower degree has
  pub rows : size (polynomials k) c.equation ≡ suc c.degree
  pub monic : coeff (polynomials k) c.equation.coeffs c.degree ≡ (polynomials k).one
  pub root : at_theta c c.equation ≡ A.zero
  pub independent : (N : Poly (polynomials k)) → size (polynomials k) N ≤ c.degree
      → at_theta c N ≡ A.zero → N ≡ (polynomials (polynomials k)).zero
  -- elements are planes over polynomials in u, which have inverses
  pub inverse : Poly k → A.carrier
  pub inverts : (h : Poly k) → (polynomials k).same h (polynomials k).zero ≡ false
      → A.mul (inverse h) (at_u c h) ≡ A.one
  pub cleared : (a : A.carrier) → Cleared c a
  -- units and moduli
  pub one_unit : c.IsUnit (polynomials k).one
  pub unit_product : (s t : Poly k) → c.IsUnit s → c.IsUnit t → c.IsUnit ((polynomials k).mul s t)
  pub one_modulus : c.IsModulus (polynomials k).one
  pub modulus_product : (m l : Poly k) → c.IsModulus m → c.IsModulus l
      → c.IsModulus ((polynomials k).mul m l)
  pub modulus_nonzero : (m : Poly k) → c.IsModulus m
      → (polynomials k).same m (polynomials k).zero ≡ false
  pub unit_nonzero : (s : Poly k) → c.IsUnit s → (polynomials k).same s (polynomials k).zero ≡ false
  pub coprime : (s m : Poly k) → c.IsUnit s → c.IsModulus m → IsCoprime (polynomials k) s m
  -- each polynomial but 0 is a modulus times a unit
  pub modulus_of : Poly k → Poly k
  pub unit_of : Poly k → Poly k
  pub is_modulus : (h : Poly k) → (polynomials k).same h (polynomials k).zero ≡ false
      → c.IsModulus (modulus_of h)
  pub is_unit : (h : Poly k) → (polynomials k).same h (polynomials k).zero ≡ false
      → c.IsUnit (unit_of h)
  pub splits : (h : Poly k) → (polynomials k).same h (polynomials k).zero ≡ false
      → h ≡ (polynomials k).mul (modulus_of h) (unit_of h)
