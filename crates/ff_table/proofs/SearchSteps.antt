-- What the loops of the search cite: weights by the sizes of coordinates, leading coefficients, and
-- lists that grow at their ends.
use Rattle.std.proofs.Common.{◌≡◌, ℕ, zero, suc, pred, ◌+◌, ◌*◌, ◌<◌, ◌≤◌, ◌⊎◌, inl, inr, List}
use Rattle.std.proofs.Common.{[], ◌∷◌, ◌++◌, refl, sym, ◌∙◌, ap, ap₂, arith}
use Rattle.std.proofs.lemmas.Bool.{cases_lt}
use Rattle.std.proofs.lemmas.List.{append_assoc, append-nil}
use Rattle.ff_theory.specs.Ring.{RingOps, FieldOps}
use Rattle.ff_theory.specs.Lawful.{Field}
use Rattle.ff_theory.specs.Lists.{listed}
use Rattle.ff_theory.specs.Poly.{coeff, Poly}
use Rattle.ff_theory.specs.Division.{size, leading_coeff}
use Rattle.ff_theory.proofs.Division.{top_nonzero, coeff-beyond}
use Rattle.ff_charts.proofs.Rows.{exact_size}
use Rattle.ff_table.specs.Weight.{HasWeight}
use Rattle.ff_table.specs.Table.{Table, IsTable}
use Rattle.ff_table.specs.Level.{class_of, power_of, top_constant}
use Rattle.ff_table.specs.Roots.{State, children, next_states}
use Rattle.ff_table.proofs.Weights.{grows}
use Rattle.ff_table.proofs.LevelProducts.{weight-class, weight-power}

-- lists that grow at the end
pub listed-more : {A : Type 0} (n : ℕ) (g : ℕ → A) → listed (suc n) g ≡ listed n g ++ g n ∷ []
listed-more zero g = refl
listed-more (suc n) g = ap (λ t. g zero ∷ t) (listed-more n (λ i. g (suc i)))

module _ (F : FieldOps) (s : Table F.ring) where
  pub next_states-more : (t : ℕ) (states : List (State F.ring s)) (a : State F.ring s)
      → next_states F s t (states ++ a ∷ []) ≡ next_states F s t states ++ children F s t a
  next_states-more t [] a = append-nil (children F s t a)
  next_states-more t (b ∷ states) a = ap (λ x. children F s t b ++ x) (next_states-more t states a)
      ∙ sym (append_assoc (children F s t b) (next_states F s t states) (children F s t a))

module _ (K : Field) (s : Table K.ring) (table : IsTable K.ring s) where
  abbrev k : RingOps
  k = K.ring

  -- the coordinate of the weight has its degree
  pub weight-size : (c : ℕ → Poly K.ring) (w : ℕ) (h : HasWeight K.ring s.rank s.weight c w)
      → size K.ring (c h.place) ≡ suc h.degree
  weight-size c w h = exact_size k K.laws K.tests (c h.place) h.degree h.nonzero
      (λ i l. h.below h.place h.in_range i
      (omega (arith, h.level, grows s.rank h.degree i l, table.algebra.positive)))

  -- the weight from the numbers of coefficients
  pub weight_by_sizes : (c : ℕ → Poly K.ring) (w l d : ℕ) → l < s.rank
      → size K.ring (c l) ≡ suc d → w ≡ s.rank * d + s.weight l
      → ((i : ℕ) → i < s.rank → (x : ℕ) → size K.ring (c i) ≡ suc x
      → s.rank * x + s.weight i ≤ w)
      → HasWeight K.ring s.rank s.weight c w
  weight_by_sizes c w l d q e level most = record {
    place = l;
    degree = d;
    in_range = q;
    level = level;
    nonzero = top_nonzero k K.laws K.tests (c l) d e;
    below = λ i o n r. beyond i o n r (size k (c i)) refl;
  }
    where
      beyond : (i : ℕ) → i < s.rank → (n : ℕ) → suc w ≤ s.rank * n + s.weight i
          → (m : ℕ) → size k (c i) ≡ m → coeff k (c i).coeffs n ≡ k.zero
      beyond i o n r zero z = coeff-beyond k K.laws K.tests (c i).coeffs n (omega arith)
      beyond i o n r (suc x) z = go (cases_lt x n)
        where
          go : (x < n) ⊎ (n ≤ x) → coeff k (c i).coeffs n ≡ k.zero
          go (inl a) = coeff-beyond k K.laws K.tests (c i).coeffs n (omega arith)
          go (inr a) = pick (cases_lt n x)
            where
              pick : (n < x) ⊎ (x ≤ n) → coeff k (c i).coeffs n ≡ k.zero
              pick (inl b) = absurd (omega (arith, most i o x z, r, grows s.rank n x b))
              pick (inr b) = let f : n ≡ x = omega arith in
                  let g : s.rank * n ≡ s.rank * x = ap (λ j. s.rank * j) f in
                  absurd (omega (arith, most i o x z, r, g))

  -- the leading coefficient is the one at the weight
  pub weight-leading : (c : ℕ → Poly K.ring) (w : ℕ) → HasWeight K.ring s.rank s.weight c w
      → leading_coeff K.ring (c (class_of s w))
      ≡ coeff K.ring (c (class_of s w)).coeffs (power_of s w)
  weight-leading c w h = ap (λ i. leading_coeff k (c i)) (weight-class K s table c w h)
      ∙ ap (λ n. coeff k (c h.place).coeffs (pred n)) (weight-size c w h)
      ∙ sym (ap₂ (λ i n. coeff k (c i).coeffs n) (weight-class K s table c w h)
      (weight-power K s table c w h))

  -- and that of the product of two basis vectors
  pub top_constant-leading : (i j : ℕ) → i < s.rank → j < s.rank
      → leading_coeff K.ring (s.product i j (class_of s (s.weight i + s.weight j)))
      ≡ top_constant K.ring s i j
  top_constant-leading i j qi qj = weight-leading (s.product i j) (s.weight i + s.weight j)
      (table.weights i j qi qj)
