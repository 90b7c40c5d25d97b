-- What the tests on the terms of a sum say of the sum.
use Rattle.std.proofs.Common.{◌≡◌, ℕ, ◌+◌, ◌-◌, ◌*◌, ◌<◌, ◌≤◌, Bool, true, false, eqb, ltb, ◌||◌}
use Rattle.std.proofs.Common.{List, [], ◌∷◌, length, get_or, refl, sym, ap, subst, ◌∙◌}
use Rattle.std.proofs.Common.{arith, eq-eqb, ◌⊎◌, inl, inr, ⊎_elim}
use Rattle.std.specs.List.{list_any, Any}
use Rattle.std.proofs.lemmas.List.Folds.{Any-from_list_any, list_any-from_Any}
use Rattle.std.proofs.lemmas.Bool.{ltb-true, lt-ltb, eqb-true, cases_lt}
use Rattle.ff_theory.proofs.Booleans.{both}
use Rattle.ff_text.specs.declared.reader.Monomial.{Monomial}
use Rattle.ff_text.specs.Sums.{total, HasPowers, IsCollected}
use Rattle.ff_text.specs.Limits.{has_y, exceeds, raises, monic_exceeds, top}
use Rattle.ff_text.specs.Values.{Occurs, HasY, IsZero, IsAbove, IsLeading, IsMonicAbove}
use Rattle.ff_text.proofs.Leading.{IsUnder, top_above, top_within, either}
use Rattle.ff_text.proofs.Totals.{none}

-- a test that is true exactly where P holds
pub record Tells (b : Bool) (P : Type 0) : Type 0 where
  pub says : b ≡ true → P
  pub holds : P → b ≡ true

Any-map : (P Q : Monomial → Type 0) (ms : List Monomial) → ((m : Monomial) → P m → Q m) → Any P ms
    → Any Q ms
Any-map P Q ms f a = (a.0, a.1, a.2, a.3, f a.1 a.4)

any-nil : (P : Monomial → Type 0) {A : Type 0} → Any P [] → A
any-nil P a = absurd (omega (arith, a.2))

module _ (p : ℕ) (ms cs : List Monomial) (c : IsCollected p ms cs) where
  -- the power of a term occurs
  member_occurs : (k : ℕ) (m : Monomial) → k < length cs → get_or cs k m ≡ m → Occurs p ms m.x m.y
  member_occurs k m lt e =
      let h = c.each k m lt in
      subst (λ n. Occurs p ms n.x n.y) e (subst (λ n. 0 < n) h.0 h.1)

  -- a test on terms finds one of which f holds, or f holds of none that occurs
  tells : (t : Monomial → Bool) (P : ℕ → ℕ → Type 0) → ((m : Monomial) → t m ≡ true → P m.x m.y)
      → ((m : Monomial) → P m.x m.y → t m ≡ true)
      → Tells (list_any t cs) ((i : ℕ) × (j : ℕ) × Occurs p ms i j × P i j)
  tells t P there back = record {
    says = λ e. let a = Any-from_list_any t cs e in
        (a.1.x, a.1.y, member_occurs a.0 a.1 a.2 a.3, there a.1 a.4);
    holds = λ h. list_any-from_Any t cs (Any-map (HasPowers h.0 h.1) (λ m. t m ≡ true) cs
        (λ m e. back m (subst (λ x. P x m.y) (sym e.0) (subst (λ y. P h.0 y) (sym e.1) h.3)))
        (c.all h.0 h.1 h.2));
  }

  pub tells_y : Tells (has_y cs) (HasY p ms)
  tells_y =
      let t = tells (λ (m : Monomial). ltb 0 m.y) (λ i j. 0 < j) (λ m e. ltb-true _ _ e)
      (λ m h. lt-ltb _ _ h) in
      record {
        says = λ e. let h = t.says e in record
            { i = h.0; j = h.1; occurs = h.2; positive = h.3 };
        holds = λ h. t.holds
            (h.i, h.j, h.occurs, h.positive);
      }

  pub tells_above : (x y : ℕ) → Tells (exceeds x y cs) (IsAbove x y p ms)
  tells_above x y =
      let t = tells (λ (m : Monomial). ltb x m.x || ltb y m.y) (λ i j. (x < i) ⊎ (y < j))
      (λ m e. elim (either (ltb x m.x) (ltb y m.y) e)
      [ inl f ↦ inl (ltb-true _ _ f) | inr f ↦ inr (ltb-true _ _ f) ])
      (λ m h. elim h [
        | inl f ↦ rw (lt-ltb x m.x f) refl
        | inr f ↦ rw (lt-ltb y m.y f)
            (or_true (ltb x m.x))
      ]) in
      record {
        says = λ e. let h = t.says e in record
            { i = h.0; j = h.1; occurs = h.2; above = h.3 };
        holds = λ h. t.holds
            (h.i, h.j, h.occurs, h.above);
      }
    where
      or_true : (b : Bool) → (b || true) ≡ true
      or_true true = refl
      or_true false = refl

  pub tells_zero : Tells (eqb (length cs) 0) (IsZero p ms)
  tells_zero = record {
    says = λ e i j. ⊎_elim
        (λ (lt : 0 < total p ms i j). let a = c.all i j lt in absurd
        (omega (arith, a.2, eqb-true _ _ e)))
        (λ (le : total p ms i j ≤ 0). let h : total p ms i j ≡ 0 = omega arith in h)
        (cases_lt 0 (total p ms i j));
    holds = λ z. ⊎_elim
        (λ (lt : 0 < length cs). let h = c.each 0 none lt in absurd
        (let e = z (get_or cs 0 none).x (get_or cs 0 none).y in omega (arith, h.0, h.1, e)))
        (λ (le : length cs ≤ 0). eq-eqb (length cs) 0 (omega arith))
        (cases_lt 0 (length cs));
  }

  -- the term above all is the leading one
  leading : (first : Monomial) (rest : List Monomial) → cs ≡ first ∷ rest
      → IsLeading p ms (top first rest).x (top first rest).y
  leading first rest e =
      let t = top first rest in
      let w = top_within first rest in
      let lt : w.0 < length cs = rw e w.1 in
      let here : get_or cs w.0 t ≡ t = ap (λ xs. get_or xs w.0 t) e ∙ w.2 t in
      record {
        occurs = member_occurs w.0 t lt here;
        greatest = λ i j h.
            let a = c.all i j h in
            let u : IsUnder t a.1 = subst (IsUnder t) (ap (λ xs. get_or xs a.0 a.1) (sym e) ∙ a.3)
            (top_above first rest a.0 a.1 (subst (λ xs. a.0 < length xs) e a.2)) in
            elim u [
              | inl f ↦ inl (omega (arith, f, a.4.1))
              | inr f ↦ inr (sym a.4.1 ∙ f.0, omega (arith, f.1, a.4.0))
            ];
      }

  -- there is one leading term
  one_leading : (d n d' n' : ℕ) → IsLeading p ms d n → IsLeading p ms d' n' → (d ≡ d') × (n ≡ n')
  one_leading d n d' n' h k =
      elim (h.greatest d' n' k.occurs) [
        | inl a ↦ elim (k.greatest d n h.occurs)
            [ inl b ↦ absurd (omega arith) | inr b ↦ absurd (omega (arith, b.0)) ]
        | inr a ↦ elim (k.greatest d n h.occurs) [
          | inl b ↦ absurd (omega (arith, a.0))
          | inr b ↦
              (omega (arith, a.1, b.1), omega (arith, a.0))
        ]
      ]

  pub tells_monic : (limit : ℕ) → Tells (monic_exceeds limit cs) (IsMonicAbove limit p ms)
  unfolding monic_exceeds
  tells_monic limit = go cs refl
    where
      go : (xs : List Monomial) → cs ≡ xs → Tells (monic_exceeds limit xs) (IsMonicAbove limit p ms)
      go [] e = record {
        says = λ f. absurd cc;
        holds = λ h. any-nil (HasPowers h.i h.j)
            (subst (Any (HasPowers h.i h.j)) e (c.all h.i h.j h.occurs));
      }
      go (first ∷ rest) e =
          let t = top first rest in
          let q = tells (raises limit t) (λ i j. (j < t.y) × (limit < i + (t.y - 1 - j) * t.x))
          (λ m f. let g = both (ltb m.y t.y) (ltb limit (m.x + (t.y - 1 - m.y) * t.x)) f in
          (ltb-true _ _ g.0, ltb-true _ _ g.1))
          (λ m h. rw (lt-ltb m.y t.y h.0, lt-ltb limit (m.x + (t.y - 1 - m.y) * t.x) h.1) refl) in
          let l = leading first rest e in
          record {
            says = λ f. let h = q.says (subst (λ xs. list_any (raises limit t) xs ≡ true) (sym e) f)
                in
                record {
                  d = t.x;
                  n = t.y;
                  leading = l;
                  i = h.0;
                  j = h.1;
                  occurs = h.2;
                  below = h.3.0;
                  above = h.3.1;
                };
            holds = λ h.
                let s = one_leading h.d h.n t.x t.y h.leading l in
                subst (λ xs. list_any (raises limit t) xs ≡ true) e (q.holds (
                  h.i,
                  h.j,
                  h.occurs,
                  (
                    subst (λ n. h.j < n) s.1 h.below,
                    subst (λ d. limit < h.i + (t.y - 1 - h.j) * d)
                        s.0 (subst (λ n. limit < h.i + (n - 1 - h.j) * h.d) s.1 h.above),
                  ),
                ));
          }
