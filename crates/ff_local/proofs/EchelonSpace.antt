-- Planes whose vectors are combinations of vectors in echelon form: a space with a finite basis.
use Rattle.std.proofs.Common.{◌≡◌, ℕ, zero, suc, ◌*◌ as times_ℕ, ◌<◌, ◌≤◌, ◌⊎◌}
use Rattle.std.proofs.Common.{inl, inr, [], ◌∷◌, refl, sym, ◌∙◌, ap, ap₂, subst, arith}
use Rattle.std.proofs.lemmas.Bool.{cases_lt}
use Rattle.ff_theory.specs.Ring.{RingOps}
use Rattle.ff_theory.specs.Lawful.{Field}
use Rattle.ff_theory.specs.Poly.{poly, polynomials}
use Rattle.ff_theory.specs.Planes.{planes, Plane}
use Rattle.ff_theory.specs.Span.{combination, EndsAt, InSpan, IsEchelon, reduced}
use Rattle.ff_theory.proofs.Solver.{◌⊕◌, ◌⊗◌, neg, nil, unit, ring1, ring2, mul_zero}
use Rattle.ff_theory.proofs.Sums.{sum-ext, sum-single}
use Rattle.ff_theory.proofs.Span.{span-same, span-zero, span-more, span-one}
use Rattle.ff_theory.proofs.Dependence.{Found, find}
use Rattle.ff_charts.specs.Lattice.{HasShape, IsSubspace, flat}
use Rattle.ff_charts.proofs.Flat.{flat_add, flat_scale, flat_zero, flat_one, flat_ends, plane_with}
use Rattle.ff_charts.proofs.Flat.{plane_with_shape, plane_with_flat}
use Rattle.ff_local.proofs.PlaneSums.{sum_vector, sum_has_shape}
use Rattle.ff_local.specs.ChartOrder.{PlaneSpace, plane_sum}

-- the same space where the length of the rows is given by another term
abbrev pub space_at : (k : RingOps) (n l m : ℕ) → l ≡ m → PlaneSpace k n l → PlaneSpace k n m
space_at k n l m e S = record {
  In = S.In;
  linear = S.linear;
  decide = λ N s. S.decide N (subst (λ i. HasShape k n i N) (sym e) s);
  count = S.count;
  basis = S.basis;
  shape = λ i q. subst (λ j. HasShape k n j (S.basis i)) e (S.shape i q);
  is_in = S.is_in;
  spans = λ N s. S.spans N (subst (λ i. HasShape k n i N) (sym e) s);
}

module _ (K : Field) (r : ℕ) (b : ℕ → ℕ → K.carrier) (pivot : ℕ → ℕ)
    (echelon : IsEchelon K.ring r b pivot) where
  infixl 70 ◌*◌
  open K use {mul as ◌*◌, carrier as C}

  -- a combination has its coefficients at the pivots
  pub at_pivot : (e : ℕ → K.carrier) (i : ℕ) → i < r → combination K.ring r e b (pivot i) ≡ e i
  at_pivot e i q = sum-single K.ring K.laws r i (λ k. e k * b k (pivot i)) q
      (λ k s d. ap (λ t. e k * t) (echelon.zero_at i k q s d) ∙ mul_zero K.ring K.laws (e k))
      ∙ ap (λ t. e i * t) (echelon.one_at i q) ∙ K.laws.mul_one (e i)

module _ (K : Field) (n l r : ℕ) (b : ℕ → ℕ → K.carrier) (pivot : ℕ → ℕ)
    (echelon : IsEchelon K.ring r b pivot)
    (ends : (i : ℕ) → i < r → EndsAt K.ring (times_ℕ n l) (b i)) where
  infixl 60 ◌+◌
  infixl 70 ◌*◌
  open K use {add as ◌+◌, mul as ◌*◌, neg as minus, carrier as C}

  -- the vector of the plane is a combination of the r vectors
  abbrev pub InEchelon : Plane K → Type 0
  InEchelon N = InSpan K.ring r b (flat K.ring l N)

  pub linear : IsSubspace K.ring (λ N. InSpan K.ring r b (flat K.ring l N))
  linear = record {
    on_zero = span-same K.ring K.laws r b (λ j. K.zero) (flat K.ring l (planes K).zero)
        (λ j. flat_zero K l j) (span-zero K.ring K.laws r b);
    on_add = λ M N p q. span-same K.ring K.laws r b
        (λ j. K.one * flat K.ring l M j + flat K.ring l N j)
        (flat K.ring l ((planes K).add M N))
        (λ j. flat_add K l M N j ∙ ring2 K.ring K.laws (λ a b. a ⊕ b) (λ a b. unit ⊗ a ⊕ b) refl
        (flat K.ring l M j) (flat K.ring l N j))
        (span-more K.ring K.laws r b K.one (flat K.ring l M) (flat K.ring l N) p q);
    on_scale = λ a N p. span-same K.ring K.laws r b (λ j. a * flat K.ring l N j + K.zero)
        (flat K.ring l ((planes K).mul (poly (polynomials K.ring) (poly K.ring (a ∷ []) ∷ [])) N))
        (λ j. flat_scale K l a N j ∙ sym (K.laws.add_zero (a * flat K.ring l N j)))
        (span-more K.ring K.laws r b a (flat K.ring l N) (λ j. K.zero) p
        (span-zero K.ring K.laws r b));
  }

  -- without that combination nothing is left of a vector in the span
  left : (v : ℕ → C) → InSpan K.ring r b v → (j : ℕ) → reduced K.ring r b pivot v j ≡ K.zero
  left v h j = ap₂ (λ s t. s + minus t) (h.sum j)
      (sum-ext K.ring K.laws r _ _ (λ i q. ap (λ t. t * b i j)
      (h.sum (pivot i) ∙ at_pivot K r b pivot echelon h.coefficients i q)))
      ∙ K.laws.add_neg (combination K.ring r h.coefficients b j)

  back : (v : ℕ → C) → ((j : ℕ) → reduced K.ring r b pivot v j ≡ K.zero) → InSpan K.ring r b v
  back v h = record {
    coefficients = λ i. v (pivot i);
    sum = λ j. ring2 K.ring K.laws (λ v s. v) (λ v s. (v ⊕ neg s) ⊕ s) refl (v j)
        (combination K.ring r (λ i. v (pivot i)) b j)
        ∙ ap (λ t. t + combination K.ring r (λ i. v (pivot i)) b j) (h j)
        ∙ ring1 K.ring K.laws (λ s. nil ⊕ s) (λ s. s) refl
        (combination K.ring r (λ i. v (pivot i)) b j);
  }

  -- past the length nothing is left
  combination_ends : (e : ℕ → C) (m : ℕ) → ((i : ℕ) → i < m → i < r) → (j : ℕ) → times_ℕ n l ≤ j
      → combination K.ring m e b j ≡ K.zero
  combination_ends e zero h j q = refl
  combination_ends e (suc m) h j q = ap₂ K.add
      (combination_ends e m (λ i s. h i (omega arith)) j q)
      (ap (λ t. e m * t) (ends m (h m (omega arith)) j q) ∙ mul_zero K.ring K.laws (e m))
      ∙ K.laws.add_zero K.zero

  pub decide_vector : (v : ℕ → C) → EndsAt K.ring (times_ℕ n l) v
      → InSpan K.ring r b v ⊎ ¬ (InSpan K.ring r b v)
  decide_vector v e = go (find K.ring K.laws K.tests (times_ℕ n l)
      (λ j. reduced K.ring r b pivot v j))
    where
      past : (j : ℕ) → times_ℕ n l ≤ j → reduced K.ring r b pivot v j ≡ K.zero
      past j q = ap₂ (λ s t. s + minus t) (e j q)
          (combination_ends (λ i. v (pivot i)) r (λ i s. s) j q)
          ∙ K.laws.add_neg K.zero

      go : Found K.ring (times_ℕ n l) (λ j. reduced K.ring r b pivot v j)
          ⊎ ((j : ℕ) → j < times_ℕ n l → reduced K.ring r b pivot v j ≡ K.zero)
          → InSpan K.ring r b v ⊎ ¬ (InSpan K.ring r b v)
      go (inl f) = inr (λ h. f.nonzero (left v h f.index))
      go (inr z) = inl (back v (λ j. pick j (cases_lt j (times_ℕ n l))))
        where
          pick : (j : ℕ) → (j < times_ℕ n l) ⊎ (times_ℕ n l ≤ j)
              → reduced K.ring r b pivot v j ≡ K.zero
          pick j (inl q) = z j q
          pick j (inr q) = past j q

  -- the planes of the vectors
  abbrev pub echelon_plane : ℕ → Plane K
  echelon_plane i = plane_with K l n (b i)

  abbrev pub echelon_space : PlaneSpace K.ring n l
  echelon_space = record {
    In = λ N. InSpan K.ring r b (flat K.ring l N);
    linear = linear;
    decide = λ N s. decide_vector (flat K.ring l N) (flat_ends K l n N s);
    count = r;
    basis = echelon_plane;
    shape = λ i q. plane_with_shape K l n (b i);
    is_in = λ i q. span-same K.ring K.laws r b (b i) (flat K.ring l (echelon_plane i))
        (λ j. plane_with_flat K l n (b i) (ends i q) j) (span-one K.ring K.laws r b i q);
    spans = λ N s h. (
      h.coefficients,
      flat_one K l n N (plane_sum K.ring r h.coefficients echelon_plane) s
          (sum_has_shape K n l r h.coefficients echelon_plane
          (λ i q. plane_with_shape K l n (b i)))
          (λ j. h.sum j ∙ sym (sum_vector K l r h.coefficients echelon_plane j
          ∙ sum-ext K.ring K.laws r _ _ (λ i q. ap (λ t. h.coefficients i * t)
          (plane_with_flat K l n (b i) (ends i q) j)))),
    );
  }
