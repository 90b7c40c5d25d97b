-- The list of the elements of a finite field that are not 0, and one element more.
use Rattle.std.proofs.Common.{◌≡◌, ℕ, ◌+◌, ◌<◌, List, [], ◌∷◌, ◌++◌, length, get_or}
use Rattle.std.proofs.Common.{refl, sym, ◌∙◌, ap, subst, arith, ⊎_elim}
use Rattle.std.proofs.lemmas.Bool.{cases_lt}
use Rattle.std.proofs.lemmas.List.{get_or_push, get_or_append_left, length-append}
use Rattle.std.proofs.lemmas.List.Elements.{All-push}
use Rattle.ff_theory.specs.Ring.{Elements, IsElement, IsFiniteField}
use Rattle.ff_list.specs.Searches.{IsNonzeroBelow, AreNonzeroBelow}

module _ (F : Elements ℕ) where
  pub none-below : (xs : List ℕ) → xs ≡ [] → AreNonzeroBelow F 0 xs
  none-below xs e = subst (AreNonzeroBelow F 0) (sym e) (record {
    each = λ k d l. absurd (omega (arith, l));
    all = λ v h l. absurd (omega (arith, l));
    rising = λ i j l m. absurd (omega (arith, m));
  })

  module _ (finite : IsFiniteField F.field) (n : ℕ) (list : List ℕ) (a : ℕ)
      (h : AreNonzeroBelow F n list) (is : F.value a ≡ F.element_at n) where
    more : (k d : ℕ) → k < length list → IsNonzeroBelow F (n + 1) (get_or list k d)
    more k d l = let old = h.each k d l in
        record {
          element = old.element;
          nonzero = old.nonzero;
          below = let b = old.below in omega (arith, b);
        }

    -- an element of the index n is the one of the value a
    there : (v : F.carrier) → F.index v ≡ n → F.value a ≡ v
    there v e = is ∙ ap F.element_at (sym e) ∙ finite.at_index v

    -- one of the index n that is 0
    pub with-zero : F.value a ≡ F.zero → AreNonzeroBelow F (n + 1) list
    with-zero z = record {
      each = more;
      all = λ v nz l. ⊎_elim (h.all v nz)
          (λ b. absurd (nz (sym (there v (omega (arith, b, l))) ∙ z))) (cases_lt (F.index v) n);
      rising = h.rising;
    }

    module _ (e : IsElement F a) (nz : ¬ (F.value a ≡ F.zero)) (within : n < F.size) where
      long : length (list ++ a ∷ []) ≡ length list + 1
      long = length-append list (a ∷ [])

      at-n : F.index (F.value a) ≡ n
      at-n = ap F.index is ∙ finite.index_at n within

      low : (i : ℕ) → i < length list → get_or (list ++ a ∷ []) i 0 ≡ get_or list i 0
      low i l = get_or_append_left list (a ∷ []) 0 i l

      last : (i : ℕ) → length list ≡ i → get_or (list ++ a ∷ []) i 0 ≡ a
      last i l = get_or_push list a 0 i l

      found : (v : F.carrier) → ¬ (v ≡ F.zero) → F.index v < n + 1
          → (i : ℕ) × ((i < length (list ++ a ∷ [])) × (F.value (get_or (list ++ a ∷ []) i 0) ≡ v))
      found v z l = ⊎_elim
          (λ b. let (i, (m, is')) = h.all v z b in
          (i, (omega (arith, m, long), ap F.value (low i m) ∙ is')))
          (λ b. (
            length list,
            (
              omega (arith, long),
              ap F.value (last (length list) refl) ∙ there v (omega (arith, b, l)),
            ),
          ))
          (cases_lt (F.index v) n)

      rises : (i j : ℕ) → i < j → j < length (list ++ a ∷ [])
          → F.index (F.value (get_or (list ++ a ∷ []) i 0))
          < F.index (F.value (get_or (list ++ a ∷ []) j 0))
      rises i j l m = ⊎_elim
          (λ b. subst (λ t. F.index (F.value (get_or (list ++ a ∷ []) i 0)) < F.index (F.value t))
          (sym (low j b)) (subst (λ t. F.index (F.value t) < F.index (F.value (get_or list j 0)))
          (sym (low i (omega (arith, l, b)))) (h.rising i j l b)))
          (λ b. let before = (h.each i 0 (omega (arith, l, m, long))).below in
          subst (λ t. F.index (F.value (get_or (list ++ a ∷ []) i 0)) < F.index (F.value t))
          (sym (last j (omega (arith, b, m, long))))
          (subst (λ t. F.index (F.value t) < F.index (F.value a))
          (sym (low i (omega (arith, l, m, long)))) (omega (arith, before, at-n))))
          (cases_lt j (length list))

      -- one of the index n that is not 0
      pub with-nonzero : AreNonzeroBelow F (n + 1) (list ++ a ∷ [])
      with-nonzero = record {
        each = All-push (IsNonzeroBelow F (n + 1)) list a more (record {
          element = e;
          nonzero = nz;
          below = omega (arith, at-n);
        });
        all = found;
        rising = rises;
      }
