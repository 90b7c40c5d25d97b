-- The parts of a job from the sums of its lines.
use Rattle.std.proofs.Common.{◌≡◌, ℕ, ◌+◌, ◌-◌, ◌<◌, ◌≤◌, min, Bool, true, false, List, length}
use Rattle.std.proofs.Common.{get_or, None, Result, Ok, Err, refl, sym, ap, subst, ◌∙◌}
use Rattle.std.proofs.Common.{arith, inl, inr}
use Rattle.std.specs.Prelude.{IfOk}
use Rattle.std.specs.List.{All}
use Rattle.std.proofs.lemmas.List.{length-drop, get_or-drop, get_or_default}
use Rattle.ff_poly.specs.declared.limits.TheConstants.{MAX_X_DEGREE, MAX_Y_DEGREE, MAX_MONIC_DEGREE}
use Rattle.ff_text.specs.declared.limits.TheConstants.{MAX_ELEM_X_DEGREE, MAX_ELEM_Y_DEGREE}
use Rattle.ff_text.specs.declared.limits.TheConstants.{EQUATION_WIDTH, EQUATION_HEIGHT}
use Rattle.ff_text.specs.declared.limits.TheConstants.{ELEM_WIDTH, ELEM_HEIGHT}
use Rattle.ff_text.specs.declared.fault.TextFault.TheVariants as fault
use Rattle.ff_text.specs.declared.reader.Monomial.{Monomial}
use Rattle.ff_text.specs.declared.sums.Ratio.{Ratio}
use Rattle.ff_text.specs.Limits.{exceeds, monic_exceeds, equation_exceeds, element_exceeds}
use Rattle.ff_text.specs.Limits.{elements, first_fault}
use Rattle.ff_text.specs.Parts.{IsEquationOf, IsElementOf}
use Rattle.ff_text.specs.Sums.{IsCollected, IsSum, IsSumInX}
use Rattle.ff_text.specs.declared.job.RawElem.{RawElem}
use Rattle.ff_text.proofs.First.{IsFound, first_is_found}
use Rattle.ff_text.proofs.Leading.{neither, all_below}

not_true : (b : Bool) → (b ≡ true → ⊥) → b ≡ false
not_true true h = absurd (h refl)
not_true false h = refl

-- lines without a fault are within their limits
module _ (rs : List Ratio) (e : first_fault rs ≡ None) where
  found : IsFound rs None
  found = subst (IsFound rs) e (first_is_found rs)

  pub equation_within : (k : ℕ) (d : Ratio) → k < 2 → k < length rs
      → equation_exceeds (get_or rs k d) ≡ false
  equation_within k d two lt = not_true (equation_exceeds (get_or rs k d)) (λ f.
      found (fault.Degree (k + 1)) (inl (
        omega arith,
        (
          k,
          refl,
          lt,
          λ c. ap equation_exceeds
              (get_or_default rs k c d lt) ∙ f,
        ),
      )))

  pub element_within : (k : ℕ) (d : Ratio) → 2 ≤ k → k < length rs → element_exceeds (get_or rs k d)
      ≡ false
  element_within k d two lt = not_true (element_exceeds (get_or rs k d)) (λ f.
      found (fault.Degree (k + 1)) (inr (
        omega arith,
        (
          k,
          refl,
          lt,
          λ c. ap element_exceeds
              (get_or_default rs k c d lt) ∙ f,
        ),
      )))

  pub elements_within : All (λ s. element_exceeds s ≡ false) (elements rs)
  elements_within k d lt =
      let n : length (elements rs) ≡ length rs - min (length rs) 2 = length-drop (min (length rs) 2)
      rs in
      ap element_exceeds (get_or-drop (min (length rs) 2) rs k d)
      ∙ element_within (min (length rs) 2 + k) d (omega arith) (omega arith)

pub All-elements : (P : Ratio → Type 0) (rs : List Ratio) → All P rs → All P (elements rs)
All-elements P rs h k d lt =
    let n : length (elements rs) ≡ length rs - min (length rs) 2 = length-drop (min (length rs) 2)
    rs in
    subst P (sym (get_or-drop (min (length rs) 2) rs k d))
    (h (min (length rs) 2 + k) d (omega arith))

-- the terms of an equation within its limits
pub equation_height : (s : Ratio) (xs : List Monomial) → xs ≡ s.numerator.items → equation_exceeds s
    ≡ false → All (λ m. m.x < EQUATION_WIDTH) xs × All (λ m. m.y < EQUATION_HEIGHT) xs
equation_height s xs e w =
    let b = all_below MAX_X_DEGREE MAX_Y_DEGREE s.numerator.items
    (neither (exceeds MAX_X_DEGREE MAX_Y_DEGREE s.numerator.items)
    (monic_exceeds MAX_MONIC_DEGREE s.numerator.items) w).0 in (
      subst (All (λ (m : Monomial). m.x < EQUATION_WIDTH)) (sym e) b.0,
      subst (All (λ (m : Monomial). m.y < EQUATION_HEIGHT))
          (sym e) b.1,
    )

pub element_height : (s : Ratio) (xs : List Monomial) → xs ≡ s.numerator.items → element_exceeds s
    ≡ false → All (λ m. m.x < ELEM_WIDTH) xs × All (λ m. m.y < ELEM_HEIGHT) xs
element_height s xs e w =
    let b = all_below MAX_ELEM_X_DEGREE MAX_ELEM_Y_DEGREE s.numerator.items
    (neither (exceeds MAX_ELEM_X_DEGREE MAX_ELEM_Y_DEGREE s.numerator.items)
    (exceeds MAX_ELEM_X_DEGREE MAX_ELEM_Y_DEGREE s.denominator.items) w).0 in (
      subst (All (λ (m : Monomial). m.x < ELEM_WIDTH)) (sym e) b.0,
      subst (All (λ (m : Monomial). m.y < ELEM_HEIGHT))
          (sym e) b.1,
    )

-- a polynomial of the terms xs, which are those of the numerator
pub equation_answers : {E : Type 0} (p : ℕ) (s : Ratio) (result : Result (List (List ℕ)) E)
    (xs : List Monomial) → xs ≡ s.numerator.items
    → IfOk result (λ r. (ms : List Monomial) → IsCollected p ms xs → IsSum p ms r)
    → IfOk result (IsEquationOf p s)
equation_answers p s (Ok r) xs e h = λ ms c. h ms (subst (IsCollected p ms) (sym e) c)
equation_answers p s (Err x) xs e h = tt

pub element_answers : (p : ℕ) (s : Ratio) (r : RawElem) (xs ys : List Monomial) → xs
    ≡ s.numerator.items → ys ≡ s.denominator.items
    → ((ms : List Monomial) → IsCollected p ms xs → IsSum p ms r.num)
    → ((ms : List Monomial) → IsCollected p ms ys → IsSumInX p ms r.den) → IsElementOf p s r
element_answers p s r xs ys e f h k = record {
  numerator = λ ms c. h ms (subst (IsCollected p ms) (sym e) c);
  denominator = λ ms c. k ms (subst (IsCollected p ms) (sym f) c);
}
