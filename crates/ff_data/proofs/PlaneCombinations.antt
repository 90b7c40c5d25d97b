-- Combinations of planes with constants: their shapes, their vectors and their values.
use Rattle.std.proofs.Common.{◌≡◌, ℕ, zero, suc, ◌<◌, [], ◌∷◌, ◌∙◌, ap, ap₂, arith}
use Rattle.ff_theory.specs.Ring.{RingOps, IsCommRing}
use Rattle.ff_theory.specs.Lawful.{Field}
use Rattle.ff_theory.specs.Sum.{sum_below}
use Rattle.ff_theory.specs.Poly.{poly, polynomials}
use Rattle.ff_theory.specs.Planes.{planes, Plane}
use Rattle.ff_theory.specs.Span.{combination}
use Rattle.ff_theory.specs.Map.{IsMap}
use Rattle.ff_theory.proofs.Evaluate.{eval-const}
use Rattle.ff_charts.specs.Chart.{Chart, at_theta, IsChart}
use Rattle.ff_charts.specs.Lattice.{HasShape, flat}
use Rattle.ff_charts.proofs.Chart.{at_theta_map, at_row}
use Rattle.ff_charts.proofs.Lattice.{shape_zero}
use Rattle.ff_charts.proofs.Closure.{shape_plus, shape_scale}
use Rattle.ff_charts.proofs.Flat.{flat_add, flat_scale, flat_zero}

module _ (K : Field) where
  -- x 0 * N 0 + .. + x (r - 1) * N (r - 1)
  abbrev pub planes_combined : (ℕ → K.carrier) → (ℕ → Plane K) → ℕ → Plane K
  planes_combined x N r = sum_below (planes K) r (λ a. (planes K).mul
      (poly (polynomials K.ring) (poly K.ring (x a ∷ []) ∷ [])) (N a))

  pub combined_shape : (n l : ℕ) (x : ℕ → K.carrier) (N : ℕ → Plane K) (r : ℕ)
      → ((a : ℕ) → a < r → HasShape K.ring n l (N a))
      → HasShape K.ring n l (planes_combined x N r)
  combined_shape n l x N zero h = shape_zero K n l
  combined_shape n l x N (suc r) h = shape_plus K n l _ _
      (combined_shape n l x N r (λ a q. h a (omega arith)))
      (shape_scale K n l (x r) (N r) (h r (omega arith)))

  pub combined_flat : (l : ℕ) (x : ℕ → K.carrier) (N : ℕ → Plane K) (r j : ℕ)
      → flat K.ring l (planes_combined x N r) j
      ≡ combination K.ring r x (λ a. flat K.ring l (N a)) j
  combined_flat l x N zero j = flat_zero K l j
  combined_flat l x N (suc r) j = flat_add K l _ _ j
      ∙ ap₂ K.add (combined_flat l x N r j) (flat_scale K l (x r) (N r) j)

module _ (K : Field) (A : RingOps) (AL : IsCommRing A) (c : Chart K.ring A) (l : IsChart K.ring A c)
  where
    V : IsMap (planes K) A (at_theta c)
    V = at_theta_map K A AL c l

    constant_at : (a : K.carrier)
        → at_theta c (poly (polynomials K.ring) (poly K.ring (a ∷ []) ∷ [])) ≡ c.constant a
    constant_at a = at_row K A AL c l (poly K.ring (a ∷ []))
        ∙ eval-const K.ring A K.laws K.tests AL c.constant l.constants c.u a

    pub combined_value : (x : ℕ → K.carrier) (N : ℕ → Plane K) (r : ℕ)
        → at_theta c (planes_combined K x N r)
        ≡ sum_below A r (λ a. A.mul (c.constant (x a)) (at_theta c (N a)))
    combined_value x N zero = V.on_zero
    combined_value x N (suc r) = V.on_add _ _
        ∙ ap₂ A.add (combined_value x N r)
        (V.on_mul _ (N r) ∙ ap (λ t. A.mul t (at_theta c (N r))) (constant_at (x r)))
