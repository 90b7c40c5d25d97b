-- Normalised parts, and factors of an equation.
use Rattle.std.specs.Prelude.{ℕ, List}
use Rattle.ff_theory.specs.Ring.{Elements}
use Rattle.ff_theory.specs.Poly.{Poly}
use Rattle.ff_theory.specs.Planes.{IsDivisorOver}
use Rattle.ff_theory.specs.Values.{plane_of, IsPlane}
use Rattle.ff_factors.specs.Factors.{IsPrimitivePart, IsFactored}

module _ (F : Elements ℕ) where
  -- part is normalised, and a is a polynomial in x times it
  pub record IsPartOf (a part : List (List ℕ)) : Type 0 where
    pub content : Poly F.ring
    pub primitive : IsPrimitivePart F.ring (plane_of F a) content (plane_of F part)

  -- g and h are normalised factors of f, and g divides N over k(x)
  pub record AreFactors (f N g h : List (List ℕ)) : Type 0 where
    pub first : IsPlane F g
    pub second : IsPlane F h
    pub factored : IsFactored F.ring (plane_of F f) (plane_of F g) (plane_of F h)
    pub divides : IsDivisorOver F.ring (plane_of F g) (plane_of F N)
