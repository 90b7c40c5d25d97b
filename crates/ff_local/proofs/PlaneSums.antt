-- Combinations of planes: their vectors, their products with a row, and those of a space.
use Rattle.std.proofs.Common.{◌≡◌, ℕ, zero, suc, ◌<◌, [], ◌∷◌, refl, ◌∙◌, ap, ap₂, arith}
use Rattle.ff_theory.specs.Ring.{IsCommRing}
use Rattle.ff_theory.specs.Lawful.{Domain, Field}
use Rattle.ff_theory.specs.Poly.{poly, polynomials}
use Rattle.ff_theory.specs.Planes.{planes, Plane}
use Rattle.ff_theory.specs.Span.{combination}
use Rattle.ff_theory.proofs.Solver.{◌⊕◌, ◌⊗◌, ring4, mul_zero}
use Rattle.ff_theory.proofs.Poly.{polynomial_laws}
use Rattle.ff_theory.proofs.PolyMap.{polynomial_domain}
use Rattle.ff_charts.specs.Lattice.{HasShape, flat}
use Rattle.ff_charts.proofs.Flat.{flat_add, flat_scale, flat_zero}
use Rattle.ff_charts.proofs.Lattice.{shape_zero}
use Rattle.ff_charts.proofs.Closure.{shape_plus, shape_scale}
use Rattle.ff_local.specs.ChartOrder.{PlaneSpace, plane_sum}

module _ (K : Field) where
  abbrev D : Domain
  D = polynomial_domain K

  PL : IsCommRing (planes K)
  PL = polynomial_laws D.ring D.laws D.tests

  pub sum_vector : (l r : ℕ) (e : ℕ → K.carrier) (N : ℕ → Plane K) (j : ℕ)
      → flat K.ring l (plane_sum K.ring r e N) j
      ≡ combination K.ring r e (λ i. flat K.ring l (N i)) j
  sum_vector l zero e N j = flat_zero K l j
  sum_vector l (suc r) e N j = flat_add K l (plane_sum K.ring r e N) _ j
      ∙ ap₂ K.add (sum_vector l r e N j) (flat_scale K l (e r) (N r) j)

  pub times_sum : (G : Plane K) (r : ℕ) (e : ℕ → K.carrier) (N : ℕ → Plane K)
      → (planes K).mul G (plane_sum K.ring r e N)
      ≡ plane_sum K.ring r e (λ i. (planes K).mul G (N i))
  times_sum G zero e N = mul_zero (planes K) PL G
  times_sum G (suc r) e N = ring4 (planes K) PL (λ g s a n. g ⊗ (s ⊕ a ⊗ n))
      (λ g s a n. g ⊗ s ⊕ a ⊗ (g ⊗ n)) refl G (plane_sum K.ring r e N)
      (poly (polynomials K.ring) (poly K.ring (e r ∷ []) ∷ [])) (N r)
      ∙ ap (λ t. (planes K).add t ((planes K).mul
      (poly (polynomials K.ring) (poly K.ring (e r ∷ []) ∷ [])) ((planes K).mul G (N r))))
      (times_sum G r e N)

  pub sum_has_shape : (n l r : ℕ) (e : ℕ → K.carrier) (N : ℕ → Plane K)
      → ((i : ℕ) → i < r → HasShape K.ring n l (N i))
      → HasShape K.ring n l (plane_sum K.ring r e N)
  sum_has_shape n l zero e N h = shape_zero K n l
  sum_has_shape n l (suc r) e N h = shape_plus K n l (plane_sum K.ring r e N) _
      (sum_has_shape n l r e N (λ i q. h i (omega arith)))
      (shape_scale K n l (e r) (N r) (h r (omega arith)))

  -- combinations of the basis are in the space
  pub sum_in : (n l : ℕ) (S : PlaneSpace K.ring n l) (r : ℕ) (e : ℕ → K.carrier)
      (N : ℕ → Plane K) → ((i : ℕ) → i < r → S.In (N i)) → S.In (plane_sum K.ring r e N)
  sum_in n l S zero e N h = S.linear.on_zero
  sum_in n l S (suc r) e N h = S.linear.on_add (plane_sum K.ring r e N) _
      (sum_in n l S r e N (λ i q. h i (omega arith))) (S.linear.on_scale (e r) (N r)
      (h r (omega arith)))
