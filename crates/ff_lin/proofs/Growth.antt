-- A space grown by one vector after another.
use Rattle.std.proofs.Common.{◌≡◌, ℕ, zero, suc, ◌+◌, ◌<◌, ◌≤◌, ◌⊎◌, inl, inr, List, [], ◌∷◌, ◌++◌}
use Rattle.std.proofs.Common.{length, get_or, refl, sym, ◌∙◌, ap, arith, subst, Result, Ok, Err}
use Rattle.std.proofs.Common.{IfOk}
use Rattle.std.proofs.lemmas.Bool.{cases_lt}
use Rattle.std.proofs.lemmas.List.{get_or_append_left, get_or-append-add}
use Rattle.ff_theory.specs.Ring.{IsCommRing, Elements, IsField}
use Rattle.ff_theory.proofs.Sums.{sum-ext, sum-mul}
use Rattle.ff_theory.proofs.Solver.{◌⊕◌, ◌⊗◌, neg, unit, ring1, ring3, mul_zero}
use Rattle.ff_theory.specs.Span.{combination, reduced, InSpan, SameSpan}
use Rattle.ff_theory.specs.Vector.{vector_of, vectors_of, IsVector}
use Rattle.ff_lin.specs.Space.{IsIn, IsSpace, SpaceParts, SameSpace}
use Rattle.ff_theory.proofs.Span.{span-same, span-one, span-inside}
use Rattle.ff_lin.proofs.InsertRow.{same-trans, same-head}
use Rattle.ff_lin.proofs.Steps.{past}
use Rattle.ff_lin.proofs.Echelon.{reduced-sum, reduced-inside, reduced-pivot}

module _ (K : Elements ℕ) (laws : IsCommRing K.ring) where
  -- a vector whose rest is zero adds nothing
  pub nothing-new : (s : SpaceParts) (v u : List ℕ) (p : ℕ) → IsVector K s.len u → p ≡ s.len
      → ((j : ℕ) → vector_of K u j ≡ reduced K.ring (length s.basis) (vectors_of K s.basis) (λ i.
      get_or s.pivots i 0) (vector_of K v) j)
      → ((j : ℕ) → j < p → vector_of K u j ≡ K.zero) → SameSpace K s.basis (v ∷ s.basis)
  nothing-new s v u p vec e hu hz = record {
    into = λ i l. span-one K.ring laws (suc (length s.basis)) (vectors_of K (v ∷ s.basis))
        (suc i) (omega arith);
    back = back;
  }
    where
      all : (j : ℕ) → (j < p) ⊎ (p ≤ j) → vector_of K u j ≡ K.zero
      all j (inl l) = hz j l
      all j (inr l) = past K s.len u j vec (omega arith)

      back : (i : ℕ) → i < suc (length s.basis)
          → InSpan K.ring (length s.basis) (vectors_of K s.basis) (vectors_of K (v ∷ s.basis) i)
      back zero l = reduced-inside K.ring laws (length s.basis) (vectors_of K s.basis)
          (λ i. get_or s.pivots i 0) (vector_of K v) (λ j. sym (hu j) ∙ all j (cases_lt j p))
      back (suc i) l = span-one K.ring laws (length s.basis) (vectors_of K s.basis) i (omega arith)

  module _ (field : IsField K.ring K.inverse) (s : SpaceParts) (v u w : List ℕ) (p : ℕ)
      (space : IsSpace K s) (nonzero : ¬ (vector_of K u p ≡ K.zero))
      (hu : (j : ℕ) → vector_of K u j
      ≡ reduced K.ring (length s.basis) (vectors_of K s.basis) (λ i. get_or s.pivots i 0)
      (vector_of K v) j)
      (hw : (j : ℕ) → vector_of K w j ≡ K.mul (K.inverse (vector_of K u p)) (vector_of K u j)) where
    pub new-one : vector_of K w p ≡ K.one
    new-one = hw p ∙ laws.mul_comm (K.inverse (vector_of K u p)) (vector_of K u p)
        ∙ field.mul_inverse (vector_of K u p) nonzero

    pub new-begins : ((j : ℕ) → j < p → vector_of K u j ≡ K.zero) → (j : ℕ) → j < p
        → vector_of K w j ≡ K.zero
    new-begins h j l = hw j ∙ ap (K.mul (K.inverse (vector_of K u p))) (h j l)
        ∙ mul_zero K.ring laws (K.inverse (vector_of K u p))

    pub new-zeros : (i : ℕ) → i < length s.basis → vector_of K w (get_or s.pivots i 0) ≡ K.zero
    new-zeros i l = hw (get_or s.pivots i 0)
        ∙ ap (K.mul (K.inverse (vector_of K u p)))
        (hu (get_or s.pivots i 0) ∙ reduced-pivot K.ring laws (length s.basis) (vectors_of K
        s.basis) (λ i. get_or s.pivots i 0) space.echelon (vector_of K v) i l)
        ∙ mul_zero K.ring laws (K.inverse (vector_of K u p))

    pub new-same : SameSpace K (w ∷ s.basis) (v ∷ s.basis)
    new-same = same-head K laws s.basis v w c (vector_of K u p)
        (λ i. K.mul (K.neg c) (vector_of K v (get_or s.pivots i 0)))
        (λ i. vector_of K v (get_or s.pivots i 0))
        (λ j. hw j ∙ ap (K.mul c) (hu j)
        ∙ ring3 K.ring laws (λ c v s. c ⊗ (v ⊕ neg s)) (λ c v s. c ⊗ v ⊕ neg c ⊗ s) refl c
        (vector_of K v j) (sum j)
        ∙ ap (K.add (K.mul c (vector_of K v j)))
        (sym (sum-mul K.ring laws (length s.basis) (K.neg c)
        (λ i. K.mul (vector_of K v (get_or s.pivots i 0)) (vectors_of K s.basis i j)))
        ∙ sum-ext K.ring laws (length s.basis)
        (λ i. K.mul (K.neg c) (K.mul (vector_of K v (get_or s.pivots i 0)) (vectors_of K s.basis
        i j))) (λ i. K.mul (K.mul (K.neg c) (vector_of K v (get_or s.pivots i 0)))
        (vectors_of K s.basis i j))
        (λ i l. sym (laws.mul_assoc (K.neg c) (vector_of K v (get_or s.pivots i 0))
        (vectors_of K s.basis i j)))))
        (λ j. reduced-sum K.ring laws (length s.basis) (vectors_of K s.basis)
        (λ i. get_or s.pivots i 0) (vector_of K v) j
        ∙ ap (λ t. K.add t (sum j)) (sym (hu j) ∙ sym (times j)))
      where
        c : K.carrier
        c = K.inverse (vector_of K u p)

        sum : ℕ → K.carrier
        sum j = combination K.ring (length s.basis) (λ i. vector_of K v (get_or s.pivots i 0))
            (vectors_of K s.basis) j

        times : (j : ℕ) → K.mul (vector_of K u p) (vector_of K w j) ≡ vector_of K u j
        times j = ap (K.mul (vector_of K u p)) (hw j)
            ∙ sym (laws.mul_assoc (vector_of K u p) c (vector_of K u j))
            ∙ ap (λ t. K.mul t (vector_of K u j)) (field.mul_inverse (vector_of K u p) nonzero)
            ∙ ring1 K.ring laws (λ a. unit ⊗ a) (λ a. a) refl (vector_of K u j)

    pub new-basis : (basis : List (List ℕ)) → SameSpace K basis (w ∷ s.basis)
        → SameSpace K basis (v ∷ s.basis)
    new-basis basis h = same-trans K.ring laws (length basis) (vectors_of K basis)
        (suc (length s.basis)) (vectors_of K (w ∷ s.basis)) (suc (length s.basis))
        (vectors_of K (v ∷ s.basis)) h new-same

  -- one vector more, the next of a family
  pub grow-step : (new old : List (List ℕ)) (v : List ℕ) (A : ℕ → ℕ → K.carrier) (i : ℕ)
      → ((j : ℕ) → vector_of K v j ≡ A i j) → SameSpace K new (v ∷ old)
      → SameSpan K.ring (length old) (vectors_of K old) i A
      → SameSpan K.ring (length new) (vectors_of K new) (i + 1) A
  grow-step new old v A i e h k = subst (λ n. SameSpan K.ring (length new) (vectors_of K new) n A)
      (let q : suc i ≡ i + 1 = omega arith in q)
      (same-trans K.ring laws (length new) (vectors_of K new) (suc (length old))
      (vectors_of K (v ∷ old)) (suc i) A h
      (record { into = into; back = λ l m. back l m (cases_lt l i) }))
    where
      into : (l : ℕ) → l < suc (length old) → InSpan K.ring (suc i) A (vectors_of K (v ∷ old) l)
      into zero m = span-same K.ring laws (suc i) A (A i) (vector_of K v) e
          (span-one K.ring laws (suc i) A i (omega arith))
      into (suc l) m = span-inside K.ring laws i A (suc i) A (vectors_of K old l)
          (λ n o. span-one K.ring laws (suc i) A n (omega arith)) (k.into l (omega arith))

      back : (l : ℕ) → l < suc i → (l < i) ⊎ (i ≤ l)
          → InSpan K.ring (suc (length old)) (vectors_of K (v ∷ old)) (A l)
      back l m (inl o) = span-inside K.ring laws (length old) (vectors_of K old) (suc (length old))
          (vectors_of K (v ∷ old)) (A l)
          (λ n q. span-one K.ring laws (suc (length old)) (vectors_of K (v ∷ old)) (suc n)
          (omega arith)) (k.back l o)
      back l m (inr o) = let q : i ≡ l = omega arith in
          span-same K.ring laws (suc (length old)) (vectors_of K (v ∷ old)) (vector_of K v) (A l)
          (λ j. ap (λ t. A t j) (sym q) ∙ sym (e j))
          (span-one K.ring laws (suc (length old)) (vectors_of K (v ∷ old)) 0 (omega arith))

  -- a space before its first vector more
  pub grow-none : (basis : List (List ℕ)) (A : ℕ → ℕ → K.carrier)
      → ((i j : ℕ) → i < length basis → vectors_of K basis i j ≡ A i j)
      → SameSpan K.ring (length basis) (vectors_of K basis) (length basis) A
  grow-none basis A h = record {
    into = λ i l. span-same K.ring laws (length basis) A (A i) (vectors_of K basis i) (λ j. h i j l)
        (span-one K.ring laws (length basis) A i l);
    back = λ i l. span-same K.ring laws (length basis) (vectors_of K basis) (vectors_of K basis i)
        (A i) (λ j. sym (h i j l)) (span-one K.ring laws (length basis) (vectors_of K basis) i l);
  }

  -- a loop that puts one row after another into a space
  pub extend-first : (basis rows : List (List ℕ))
      → SameSpan K.ring (length basis) (vectors_of K basis) (length basis + 0)
      (vectors_of K (basis ++ rows))
  extend-first basis rows = subst
      (λ n. SameSpan K.ring (length basis) (vectors_of K basis) n (vectors_of K (basis ++ rows)))
      (let q : length basis ≡ length basis + 0 = omega arith in q)
      (grow-none basis (vectors_of K (basis ++ rows))
      (λ i j l. ap (λ t. vector_of K t j) (sym (get_or_append_left basis rows [] i l))))

  pub extend-step : (new old basis rows : List (List ℕ)) (v : List ℕ) (i : ℕ) → v ≡ get_or rows i []
      → SameSpace K new (v ∷ old)
      → SameSpan K.ring (length old) (vectors_of K old) (length basis + i)
      (vectors_of K (basis ++ rows))
      → SameSpan K.ring (length new) (vectors_of K new) (length basis + (i + 1))
      (vectors_of K (basis ++ rows))
  extend-step new old basis rows v i e h k = subst
      (λ n. SameSpan K.ring (length new) (vectors_of K new) n (vectors_of K (basis ++ rows)))
      (let q : length basis + i + 1 ≡ length basis + (i + 1) = omega arith in q)
      (grow-step new old v (vectors_of K (basis ++ rows)) (length basis + i)
      (λ j. ap (λ t. vector_of K t j) (e ∙ sym (get_or-append-add basis rows i []))) h k)

  -- same spaces have the same vectors
  pub same-in : (basis rows : List (List ℕ)) (v : List ℕ) → SameSpace K basis rows
      → (IsIn K basis v → IsIn K rows v) × (IsIn K rows v → IsIn K basis v)
  same-in basis rows v h = (
    span-inside K.ring laws (length basis) (vectors_of K basis)
        (length rows) (vectors_of K rows) (vector_of K v) h.into,
    span-inside K.ring laws
        (length rows) (vectors_of K rows) (length basis) (vectors_of K basis) (vector_of K v)
        h.back,
  )

-- the space with zero alone
pub zero-space : (K : Elements ℕ) (s : SpaceParts) → s.basis ≡ [] → s.pivots ≡ [] → IsSpace K s
zero-space K s hb hp = record {
  rows = λ k d l. absurd (omega (arith, l, ap length hb));
  count = ap length hp ∙ sym (ap length hb);
  inside = λ k d l. absurd (omega (arith, l, ap length hp));
  echelon = record {
    one_at = λ i l. absurd (omega (arith, l, ap length hb));
    zero_at = λ i k l. absurd (omega (arith, l, ap length hb));
    begins = λ i j l. absurd (omega (arith, l, ap length hb));
    rises = λ i k l m. absurd (omega (arith, l, m, ap length hb));
  };
}

pub ok_map2 : {T F : Type 0} (P Q S : T → Type 0) (r : Result T F) → ((x : T) → P x → Q x → S x)
    → IfOk r P → IfOk r Q → IfOk r S
ok_map2 P Q S (Ok x) f h k = f x h k
ok_map2 P Q S (Err e) f h k = h
