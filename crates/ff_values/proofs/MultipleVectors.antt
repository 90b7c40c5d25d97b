-- Multiples of planes of a space by their vectors, and combinations of planes up to such multiples.
use Rattle.std.proofs.Common.{◌≡◌, ℕ, ◌<◌, ◌↔◌, sym, ◌∙◌, ap}
use Rattle.ff_theory.specs.Lawful.{Field}
use Rattle.ff_theory.specs.Poly.{Poly}
use Rattle.ff_theory.specs.Planes.{planes, Plane, row_of}
use Rattle.ff_theory.specs.Span.{combination, InSpan, SameSpan}
use Rattle.ff_theory.proofs.Sums.{sum-ext}
use Rattle.ff_theory.proofs.Span.{span-same, span-inside}
use Rattle.ff_charts.specs.Lattice.{HasShape, IsTimes, flat}
use Rattle.ff_charts.proofs.Flat.{flat_add, flat_neg, flat_one}
use Rattle.ff_charts.proofs.Lattice.{shape_minus}
use Rattle.ff_local.specs.ChartOrder.{plane_sum}
use Rattle.ff_local.proofs.PlaneSums.{sum_vector, times_sum, sum_has_shape}

module _ (K : Field) (n l m r : ℕ) (b : ℕ → ℕ → K.carrier) (P : ℕ → Plane K)
    (shape : (i : ℕ) → i < r → HasShape K.ring n l (P i))
    (vector : (i : ℕ) → i < r → (j : ℕ) → flat K.ring l (P i) j ≡ b i j) (g : Poly K.ring)
    (wide : (i : ℕ) → i < r
    → HasShape K.ring n m ((planes K).mul (row_of K.ring g) (P i)))
    (q : ℕ) (w : ℕ → ℕ → K.carrier)
    (same : SameSpan K.ring q w r (λ i. flat K.ring m ((planes K).mul (row_of K.ring g) (P i))))
  where
    G : Plane K
    G = row_of K.ring g

    -- a combination of the vectors of a family of planes
    combined_vector : (k : ℕ) (e : ℕ → K.carrier) (N : ℕ → Plane K) (v : ℕ → ℕ → K.carrier)
        → ((i : ℕ) → i < r → (j : ℕ) → flat K.ring k (N i) j ≡ v i j) → (j : ℕ)
        → flat K.ring k (plane_sum K.ring r e N) j ≡ combination K.ring r e v j
    combined_vector k e N v h j = sum_vector K k r e N j
        ∙ sum-ext K.ring K.laws r _ _ (λ i s. ap (K.mul (e i)) (h i s j))

    -- the planes whose vectors are in the span are g times planes of the space
    pub span_multiple : (N : Plane K) → HasShape K.ring n m N → InSpan K.ring q w (flat K.ring m N)
        → IsTimes K.ring n l g (λ M. InSpan K.ring r b (flat K.ring l M)) N
    span_multiple N s h = record {
      part = plane_sum K.ring r k.coefficients P;
      shape = sum_has_shape K n l r k.coefficients P shape;
      is_in = record {
        coefficients = k.coefficients;
        sum = combined_vector l k.coefficients P b vector;
      };
      product = flat_one K m n N _ s (sum_has_shape K n m r k.coefficients _ wide)
          (λ j. k.sum j ∙ sym (sum_vector K m r k.coefficients
          (λ i. (planes K).mul (row_of K.ring g) (P i)) j))
          ∙ sym (times_sum K (row_of K.ring g) r k.coefficients P);
    }
      where
        k : InSpan K.ring r (λ i. flat K.ring m ((planes K).mul (row_of K.ring g) (P i)))
            (flat K.ring m N)
        k = span-inside K.ring K.laws q w r _ (flat K.ring m N) same.into h

    pub multiple_span : (N : Plane K)
        → IsTimes K.ring n l g (λ M. InSpan K.ring r b (flat K.ring l M)) N
        → InSpan K.ring q w (flat K.ring m N)
    multiple_span N h = span-inside K.ring K.laws r
        (λ i. flat K.ring m ((planes K).mul (row_of K.ring g) (P i))) q w
        (flat K.ring m N) same.back
        (record {
          coefficients = h.is_in.coefficients;
          sum = λ j. ap (λ M. flat K.ring m M j) (h.product
              ∙ ap ((planes K).mul (row_of K.ring g)) whole
              ∙ times_sum K (row_of K.ring g) r h.is_in.coefficients P)
              ∙ sum_vector K m r h.is_in.coefficients
              (λ i. (planes K).mul (row_of K.ring g) (P i)) j;
        })
      where
        whole : h.part ≡ plane_sum K.ring r h.is_in.coefficients P
        whole = flat_one K l n h.part _ h.shape (sum_has_shape K n l r h.is_in.coefficients P shape)
            (λ j. h.is_in.sum j ∙ sym (combined_vector l h.is_in.coefficients P b vector j))

-- combinations of planes up to those whose vectors are in a span
module _ (K : Field) (n m q : ℕ) (w : ℕ → ℕ → K.carrier) (IsMultiple : Plane K → Type 0)
    (exact : (N : Plane K) → HasShape K.ring n m N
    → InSpan K.ring q w (flat K.ring m N) ↔ IsMultiple N)
    (r : ℕ) (v : ℕ → ℕ → K.carrier) (P : ℕ → Plane K)
    (shape : (i : ℕ) → i < r → HasShape K.ring n m (P i))
    (vector : (i : ℕ) → i < r → (j : ℕ) → flat K.ring m (P i) j ≡ v i j) where
  sum_flat : (e : ℕ → K.carrier) (j : ℕ) → flat K.ring m (plane_sum K.ring r e P) j
      ≡ combination K.ring r e v j
  sum_flat e j = sum_vector K m r e P j
      ∙ sum-ext K.ring K.laws r _ _ (λ i s. ap (K.mul (e i)) (vector i s j))

  difference : (e : ℕ → K.carrier) (N : Plane K) (j : ℕ)
      → flat K.ring m ((planes K).add N ((planes K).neg (plane_sum K.ring r e P))) j
      ≡ K.add (flat K.ring m N j) (K.neg (combination K.ring r e v j))
  difference e N j = flat_add K m N _ j
      ∙ ap (K.add (flat K.ring m N j)) (flat_neg K m (plane_sum K.ring r e P) j
      ∙ ap K.neg (sum_flat e j))

  wide : (e : ℕ → K.carrier) (N : Plane K) → HasShape K.ring n m N
      → HasShape K.ring n m ((planes K).add N ((planes K).neg (plane_sum K.ring r e P)))
  wide e N s = shape_minus K n m N _ s (sum_has_shape K n m r e P shape)

  pub combination_into : (e : ℕ → K.carrier) (N : Plane K) → HasShape K.ring n m N
      → InSpan K.ring q w (λ j. K.add (flat K.ring m N j) (K.neg (combination K.ring r e v j)))
      → IsMultiple ((planes K).add N ((planes K).neg (plane_sum K.ring r e P)))
  combination_into e N s h = (exact _ (wide e N s)).0
      (span-same K.ring K.laws q w _ _ (difference e N) h)

  pub combination_back : (e : ℕ → K.carrier) (N : Plane K) → HasShape K.ring n m N
      → IsMultiple ((planes K).add N ((planes K).neg (plane_sum K.ring r e P)))
      → InSpan K.ring q w (λ j. K.add (flat K.ring m N j) (K.neg (combination K.ring r e v j)))
  combination_back e N s h = span-same K.ring K.laws q w _ _ (λ j. sym (difference e N j))
      ((exact _ (wide e N s)).1 h)

  pub sum_back : (e : ℕ → K.carrier) → IsMultiple (plane_sum K.ring r e P)
      → InSpan K.ring q w (combination K.ring r e v)
  sum_back e h = span-same K.ring K.laws q w _ _ (λ j. sym (sum_flat e j))
      ((exact _ (sum_has_shape K n m r e P shape)).1 h)
