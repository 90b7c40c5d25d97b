-- Congruence modulo a polynomial m in x.
use Rattle.std.specs.Prelude.{◌≡◌, ℕ, ◌<◌, List, false, length}
use Rattle.std.specs.List.{All}
use Rattle.ff_theory.specs.Ring.{RingOps, Elements}
use Rattle.ff_theory.specs.Lawful.{Field}
use Rattle.ff_theory.specs.Poly.{Poly, polynomials}
use Rattle.ff_theory.specs.Division.{size}
use Rattle.ff_theory.specs.Planes.{planes, Plane, row_of}
use Rattle.ff_theory.specs.Algebra.{algebra_of, value_of}
use Rattle.ff_theory.specs.Values.{poly_of, IsPoly, IsPlane}

abbrev pub ArePlanes : Elements ℕ → List (List (List ℕ)) → Type 0
ArePlanes K planes = All (λ p. IsPlane K p) planes

-- a is b and a multiple of m
pub record IsCongruent (R : RingOps) (m a b : R.carrier) : Type 0 where
  pub quotient : R.carrier
  pub sum : a ≡ R.add b (R.mul m quotient)

-- a polynomial that is not 0
pub record IsModulus (K : Elements ℕ) (m : List ℕ) : Type 0 where
  pub poly : IsPoly K m
  pub nonzero : 0 < length m

-- bivariate polynomials modulo m
abbrev pub AreCongruent : (K : Elements ℕ) → List ℕ → (a b : Poly (polynomials K.ring)) → Type 0
AreCongruent K m a b = IsCongruent (polynomials (polynomials K.ring)) (row_of K.ring (poly_of K m))
    a b

module _ (F : Field) (G : Plane F) (m : Poly F.ring) where
  -- N is congruent to a polynomial with fewer rows than G that has the value u in E(G)
  pub record IsValueResidue (N : Plane F) (u : (algebra_of F G).carrier) : Type 0 where
    pub exact : Plane F
    pub small : size (polynomials F.ring) exact < size (polynomials F.ring) G
    pub value : value_of F G exact ≡ u
    pub congruent : IsCongruent (planes F) (row_of F.ring m) N exact

  -- p is congruent to a polynomial in x that is not 0 and has the value t in E(G)
  pub record IsFactorResidue (p : Poly F.ring) (t : (algebra_of F G).carrier) : Type 0 where
    pub exact : Poly F.ring
    pub nonzero : (polynomials F.ring).same exact (polynomials F.ring).zero ≡ false
    pub value : value_of F G (row_of F.ring exact) ≡ t
    pub congruent : IsCongruent (polynomials F.ring) m p exact
