-- Planes of a shape, and polynomials that are not 0.
use Rattle.std.proofs.Common.{◌≡◌, ℕ, ◌<◌, ◌≤◌, List, length, ◌∙◌, ap, arith}
use Rattle.ff_theory.specs.Ring.{Elements, power}
use Rattle.ff_theory.specs.Lawful.{Lawful, lawful_field, Domain}
use Rattle.ff_theory.specs.Poly.{polynomials}
use Rattle.ff_theory.specs.Division.{size}
use Rattle.ff_theory.specs.Values.{poly_of, IsPoly, plane_of, IsPlane}
use Rattle.ff_theory.proofs.PolyMap.{polynomial_domain}
use Rattle.ff_charts.specs.Lattice.{HasShape}
use Rattle.ff_charts.proofs.FiniteChart.{power_nonzero}
use Rattle.ff_elem.proofs.PolyLemmas.{poly-nonzero, nonzero-length}
use Rattle.ff_elem.proofs.Reduction.{plane-size}

module _ (F : Elements ℕ) (L : Lawful F) where
  abbrev D : Domain
  D = polynomial_domain (lawful_field L)

  -- a plane with a shape has few rows
  pub few_rows : (rows : List (List ℕ)) → IsPlane F rows → (n l : ℕ)
      → HasShape F.ring n l (plane_of F rows) → length rows ≤ n
  few_rows rows h n l s = let e : size (polynomials F.ring) (plane_of F rows) ≡ length rows =
      plane-size F L rows h in omega (arith, e, s.rows)

  -- a power of a polynomial that is not 0 is not 0
  pub power_length : (root p : List ℕ) → IsPoly F root → 0 < length root → (n : ℕ)
      → poly_of F p ≡ power (polynomials F.ring) (poly_of F root) n → 0 < length p
  power_length root p h l n e = nonzero-length F L p (ap (λ t. D.same t D.zero) e
      ∙ power_nonzero D (poly_of F root) (poly-nonzero F L root h l) n)
