-- A null vector as the code fills it.
use Rattle.std.proofs.Common.{◌≡◌, ℕ, suc, ◌+◌, ◌-◌, ◌<◌, ◌⊎◌, inl, inr, List, [], length, get_or}
use Rattle.std.proofs.Common.{set, refl, sym, ◌∙◌, ap, arith}
use Rattle.std.proofs.lemmas.Bool.{cases_order}
use Rattle.ff_theory.specs.Ring.{IsCommRing, Elements}
use Rattle.ff_theory.proofs.Solver.{◌⊕◌, ◌⊗◌, neg, nil, unit, ring2, ring4}
use Rattle.ff_theory.specs.Span.{combination, unit_at}
use Rattle.ff_theory.specs.Vector.{vector_of, vectors_of, IsVector}
use Rattle.ff_lin.specs.Space.{SpaceParts, IsSpace, pivot}
use Rattle.ff_lin.specs.Kernel.{mirror, mirrored, null_before}
use Rattle.ff_theory.proofs.Span.{unit-same, unit-other}
use Rattle.ff_theory.proofs.InPlace.{set-same, set-other}
use Rattle.ff_lin.proofs.Entries.{entry, entry_read}
use Rattle.ff_lin.proofs.Mirror.{mirror-below}

-- an index is the one, or another
same_index : (i j : ℕ) → (j ≡ i) ⊎ (¬ (j ≡ i))
same_index i j = go (cases_order j i)
  where
    go : (j ≡ i) ⊎ ((j < i) ⊎ (i < j)) → (j ≡ i) ⊎ (¬ (j ≡ i))
    go (inl e) = inl e
    go (inr (inl l)) = inr (λ e. absurd (omega arith))
    go (inr (inr l)) = inr (λ e. absurd (omega arith))

module _ (K : Elements ℕ) (laws : IsCommRing K.ring) (s : SpaceParts) where
  pub null-first : (v : List ℕ) (f x : ℕ) → f < length v → ((j : ℕ) → vector_of K v j ≡ K.zero)
      → K.value x ≡ K.one → (j : ℕ) → vector_of K (set v f x) j ≡ null_before K s 0 f j
  null-first v f x l zeros hx j = go (same_index f j)
      ∙ ring2 K.ring laws (λ u z. u) (λ u z. u ⊕ neg (unit ⊗ nil)) refl (unit_at K.ring f j) K.zero
    where
      go : (j ≡ f) ⊎ (¬ (j ≡ f)) → vector_of K (set v f x) j ≡ unit_at K.ring f j
      go (inl e) = ap (vector_of K (set v f x)) e ∙ set-same K.ring K.value v f x l ∙ hx
          ∙ sym (ap (unit_at K.ring f) e ∙ unit-same K.ring f)
      go (inr n) = set-other K.ring K.value v f j x n ∙ zeros j ∙ sym (unit-other K.ring f j n)

  -- the entry at the next pivot
  pub null-next : (v row : List ℕ) (f i p y z : ℕ) → IsSpace K s → IsVector K s.len v
      → i < length s.basis → f < s.len → p ≡ s.len - 1 - pivot s i → get_or s.basis i [] ≡ row
      → y ≡ get_or row (s.len - 1 - f) y → K.value z
      ≡ K.add (K.value (get_or v p 0)) (K.neg (K.value y))
      → ((j : ℕ) → vector_of K v j ≡ null_before K s i f j) → (j : ℕ) → vector_of K (set v p z) j
      ≡ null_before K s (i + 1) f j
  null-next v row f i p y z space vec li lf hp hrow hy hz h j =
      go (same_index p j)
      ∙ ring4 K.ring laws (λ u s b w. u ⊕ neg (unit ⊗ s) ⊕ neg (b ⊗ w))
      (λ u s b w. u ⊕ neg (unit ⊗ (s ⊕ b ⊗ w))) refl (unit_at K.ring f j)
      (combination K.ring i (λ l. mirrored K s l f) (λ l. unit_at K.ring (mirror_pivot l)) j)
      (mirrored K s i f) (unit_at K.ring (mirror_pivot i) j)
      ∙ ap (λ n. null_before K s n f j) (let e : suc i ≡ i + 1 = omega arith in e)
    where
      mirror_pivot : ℕ → ℕ
      mirror_pivot l = mirror s.len (pivot s l)

      bound : pivot s i < s.len
      bound = space.inside i 0 (omega (arith, li, space.count))

      mirror_is : p ≡ mirror_pivot i
      mirror_is = hp ∙ sym (mirror-below s.len (pivot s i) bound)

      inside : p < length v
      inside = omega (arith, hp, bound, vec.len)

      entry_is : K.value y ≡ mirrored K s i f
      entry_is = sym (entry_read K row (s.len - 1 - f) y
          (omega (arith, lf, ap length hrow, (space.rows i [] li).len)) hy)
          ∙ ap (λ t. vector_of K t (s.len - 1 - f)) (sym hrow)
          ∙ ap (vectors_of K s.basis i) (sym (mirror-below s.len f lf))

      go : (j ≡ p) ⊎ (¬ (j ≡ p)) → vector_of K (set v p z) j
          ≡ K.add (null_before K s i f j)
          (K.neg (K.mul (mirrored K s i f) (unit_at K.ring (mirror_pivot i) j)))
      go (inl e) = ap (vector_of K (set v p z)) e ∙ set-same K.ring K.value v p z inside ∙ hz
          ∙ ap (λ t. K.add t (K.neg (K.value y)))
          (sym (entry K v p inside) ∙ h p ∙ ap (null_before K s i f) (sym e))
          ∙ ap (λ t. K.add (null_before K s i f j) (K.neg t))
          (entry_is ∙ sym (ap (K.mul (mirrored K s i f))
          (ap (unit_at K.ring (mirror_pivot i)) (e ∙ mirror_is)
          ∙ unit-same K.ring (mirror_pivot i)) ∙ laws.mul_one (mirrored K s i f)))
      go (inr n) = set-other K.ring K.value v p j z n ∙ h j
          ∙ ring2 K.ring laws (λ a b. a) (λ a b. a ⊕ neg (b ⊗ nil)) refl (null_before K s i f j)
          (mirrored K s i f)
          ∙ ap (λ t. K.add (null_before K s i f j) (K.neg (K.mul (mirrored K s i f) t)))
          (sym (unit-other K.ring (mirror_pivot i) j (λ e. n (e ∙ sym mirror_is))))
