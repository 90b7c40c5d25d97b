-- Dimensions of spaces.
use Rattle.std.proofs.Common.{◌≡◌, ℕ, ◌+◌, ◌<◌, ◌≤◌, ◌⊎◌, inl, inr, ◌↔◌, List, [], length, get_or}
use Rattle.std.proofs.Common.{refl, sym, ◌∙◌, ap, arith, All}
use Rattle.std.proofs.lemmas.Bool.{cases_lt}
use Rattle.ff_theory.specs.Ring.{Elements}
use Rattle.ff_theory.proofs.Sums.{sum-ext, sum-zero}
use Rattle.ff_theory.proofs.Solver.{◌⊕◌, nil, ring1, mul_zero}
use Rattle.ff_theory.specs.Vector.{vectors_of, IsVector, combination_of}
use Rattle.ff_theory.specs.Lawful.{Lawful, lawful_field}
use Rattle.ff_lin.specs.Space.{SpaceParts, IsSpace, InSpace, HasExactly, IsRelation, IsSum, pivot}
use Rattle.ff_theory.proofs.Span.{span-one, span-zero}
use Rattle.ff_lin.proofs.Echelon.{echelon-independent}
use Rattle.ff_lin.proofs.Steps.{past}
use Rattle.ff_lin.proofs.Dimension.{at-most, smaller-dimension, rank-bound, meet-sum_above}
use Rattle.ff_lin.proofs.Dimension.{meet-sum_below}

module _ {K : Elements ℕ} (L : Lawful K) where
  open L use {laws}

  -- a subspace has at most the dimension
  pub dimension-subspace : (s t : SpaceParts) → IsSpace K s
      → ((v : ℕ → K.carrier) → InSpace K s v → InSpace K t v) → length s.basis ≤ length t.basis
  dimension-subspace s t space inside = at-most (lawful_field L) (length s.basis)
      (vectors_of K s.basis) (length t.basis) (vectors_of K t.basis)
      (echelon-independent K.ring laws (length s.basis) (vectors_of K s.basis) (pivot s)
      space.echelon) (λ i l. inside (vectors_of K s.basis i)
      (span-one K.ring laws (length s.basis) (vectors_of K s.basis) i l))

  -- and a proper one has less
  pub dimension-proper : (s t : SpaceParts) → IsSpace K s
      → ((v : ℕ → K.carrier) → InSpace K s v → InSpace K t v) → (v : ℕ → K.carrier) → InSpace K t v
      → ¬ (InSpace K s v) → length s.basis < length t.basis
  dimension-proper s t space inside v h outside = smaller-dimension (lawful_field L)
      (length s.basis) (vectors_of K s.basis) (length t.basis) (vectors_of K t.basis) v
      (echelon-independent K.ring laws (length s.basis) (vectors_of K s.basis) (pivot s)
      space.echelon) (λ i l. inside (vectors_of K s.basis i)
      (span-one K.ring laws (length s.basis) (vectors_of K s.basis) i l)) h outside

  -- the relations of vectors of length m
  pub dimension-relations : (s : SpaceParts) (images : List (List ℕ)) (m : ℕ) → IsSpace K s → s.len
      ≡ length images → All (IsVector K m) images → HasExactly K s (IsRelation K images)
      → length images ≤ m + length s.basis
  dimension-relations s images m space len vectors exact =
      rank-bound (lawful_field L) (length images) m (vectors_of K images)
      (length s.basis) (vectors_of K s.basis) (pivot s) space.echelon
      (λ v ends h. (exact v).1 (
        (λ j l. ends j (omega (arith, l, len))),
        λ j. all v h j (cases_lt j
            m),
      ))
    where
      all : (v : ℕ → K.carrier) → ((j : ℕ) → j < m → combination_of K images v j ≡ K.zero) → (j : ℕ)
          → (j < m) ⊎ (m ≤ j) → combination_of K images v j ≡ K.zero
      all v h j (inl l) = h j l
      all v h j (inr l) = sum-ext K.ring laws (length images)
          (λ i. K.mul (v i) (vectors_of K images i j)) (λ i. K.zero)
          (λ i q. ap (K.mul (v i)) (past K m (get_or images i []) j (vectors i [] q) l)
          ∙ mul_zero K.ring laws (v i)) ∙ sum-zero K.ring laws (length images)

  -- dim a + dim b = dim (a + b) + dim (a meet b)
  pub dimension-meet_sum : (a b s t : SpaceParts) → IsSpace K a → IsSpace K b → IsSpace K s
      → IsSpace K t → ((v : ℕ → K.carrier) → InSpace K s v ↔ IsSum K (InSpace K a) (InSpace K b) v)
      → ((v : ℕ → K.carrier) → InSpace K t v ↔ (InSpace K a v × InSpace K b v))
      → length a.basis + length b.basis ≡ length s.basis + length t.basis
  dimension-meet_sum a b s t ha hb hs ht sum meet = omega (arith, above, below)
    where
      from_a : (v : ℕ → K.carrier) → InSpace K a v → InSpace K s v
      from_a v h = (sum v).1 (record {
        left = v;
        right = λ j. K.zero;
        in_left = h;
        in_right = span-zero K.ring laws (length b.basis) (vectors_of K b.basis);
        sum = λ j. sym
            (laws.add_zero (v j));
      })

      from_b : (v : ℕ → K.carrier) → InSpace K b v → InSpace K s v
      from_b v h = (sum v).1 (record {
        left = λ j. K.zero;
        right = v;
        in_left = span-zero K.ring
            laws (length a.basis) (vectors_of K a.basis);
        in_right = h;
        sum = λ j. ring1 K.ring laws
            (λ a. a) (λ a. nil ⊕ a) refl (v j);
      })

      parts : (k : ℕ) → (k < length s.basis) ⊎ (length s.basis ≤ k)
          → IsSum K (InSpace K a) (InSpace K b) (λ j. K.zero)
          ⊎ IsSum K (InSpace K a) (InSpace K b) (vectors_of K s.basis k)
      parts k (inl l) = inr ((sum (vectors_of K s.basis k)).0 (span-one K.ring laws (length s.basis)
          (vectors_of K s.basis) k l))
      parts k (inr l) = inl (record {
        left = λ j. K.zero;
        right = λ j. K.zero;
        in_left = span-zero
            K.ring laws (length a.basis) (vectors_of K a.basis);
        in_right = span-zero K.ring laws
            (length b.basis) (vectors_of K b.basis);
        sum = λ j. sym (laws.add_zero K.zero);
      })

      left_of : (k : ℕ) → IsSum K (InSpace K a) (InSpace K b) (λ j. K.zero)
          ⊎ IsSum K (InSpace K a) (InSpace K b) (vectors_of K s.basis k) → ℕ → K.carrier
      left_of k (inl h) = h.left
      left_of k (inr h) = h.left

      right_of : (k : ℕ) → IsSum K (InSpace K a) (InSpace K b) (λ j. K.zero)
          ⊎ IsSum K (InSpace K a) (InSpace K b) (vectors_of K s.basis k) → ℕ → K.carrier
      right_of k (inl h) = h.right
      right_of k (inr h) = h.right

      left_in : (k : ℕ) (h : IsSum K (InSpace K a) (InSpace K b) (λ j. K.zero)
          ⊎ IsSum K (InSpace K a) (InSpace K b) (vectors_of K s.basis k))
          → InSpace K a (left_of k h)
      left_in k (inl h) = h.in_left
      left_in k (inr h) = h.in_left

      right_in : (k : ℕ) (h : IsSum K (InSpace K a) (InSpace K b) (λ j. K.zero)
          ⊎ IsSum K (InSpace K a) (InSpace K b) (vectors_of K s.basis k))
          → InSpace K b (right_of k h)
      right_in k (inl h) = h.in_right
      right_in k (inr h) = h.in_right

      apart : (k j : ℕ) (c : (k < length s.basis) ⊎ (length s.basis ≤ k)) → k < length s.basis
          → vectors_of K s.basis k j ≡ K.add (left_of k (parts k c) j) (right_of k (parts k c) j)
      apart k j (inl l) q = ((sum (vectors_of K s.basis k)).0
          (span-one K.ring laws (length s.basis) (vectors_of K s.basis) k l)).sum j
      apart k j (inr l) q = absurd (omega (arith, l, q))

      u_in : (i : ℕ) → i < length a.basis → InSpace K s (vectors_of K a.basis i)
      u_in i l = from_a (vectors_of K a.basis i)
          (span-one K.ring laws (length a.basis) (vectors_of K a.basis) i l)

      v_in : (i : ℕ) → i < length b.basis → InSpace K s (vectors_of K b.basis i)
      v_in i l = from_b (vectors_of K b.basis i)
          (span-one K.ring laws (length b.basis) (vectors_of K b.basis) i l)

      above : length a.basis + length b.basis ≤ length s.basis + length t.basis
      above = meet-sum_above (lawful_field L) (length a.basis)
          (vectors_of K a.basis) (pivot a) ha.echelon (length b.basis) (vectors_of K b.basis)
          (pivot b) hb.echelon
          (length s.basis) (vectors_of K s.basis) (pivot s) hs.echelon (length t.basis)
          (vectors_of K t.basis) (pivot t) ht.echelon
          (λ x h. ((meet x).0 h).0) (λ x h. ((meet x).0 h).1) (λ x h k. (meet x).1 (h, k)) u_in v_in

      below : length s.basis + length t.basis ≤ length a.basis + length b.basis
      below = meet-sum_below (lawful_field L) (length a.basis)
          (vectors_of K a.basis) (pivot a) ha.echelon (length b.basis) (vectors_of K b.basis)
          (pivot b) hb.echelon
          (length s.basis) (vectors_of K s.basis) (pivot s) hs.echelon (length t.basis)
          (vectors_of K t.basis) (pivot t) ht.echelon
          (λ x h. ((meet x).0 h).0) (λ x h. ((meet x).0 h).1) (λ x h k. (meet x).1 (h, k)) u_in v_in
          (λ k. left_of k (parts k (cases_lt k (length s.basis))))
          (λ k. right_of k (parts k (cases_lt k (length s.basis))))
          (λ k l. left_in k (parts k (cases_lt k (length s.basis))))
          (λ k l. right_in k (parts k (cases_lt k (length s.basis))))
          (λ k j l. apart k j (cases_lt k (length s.basis)) l)
