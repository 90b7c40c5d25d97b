-- What is spanned by elements that others span is spanned by these, modulo v*O.
use Rattle.std.proofs.Common.{◌≡◌, ℕ, ◌<◌, ◌≤◌, ◌⊎◌, inl, inr, ◌∙◌, ap, refl, arith}
use Rattle.std.proofs.lemmas.Bool.{cases_lt}
use Rattle.ff_theory.specs.Span.{combination}
use Rattle.ff_theory.proofs.Solver.{◌⊕◌, ◌⊗◌, ring4}
use Rattle.ff_local.specs.Point.{OrderIn, IsSpanned, combined}
use Rattle.ff_local.proofs.Combined.{combined_in, spread}

module _ (O : OrderIn) (n m : ℕ) (w e : ℕ → O.carrier)
    (each : (i : ℕ) → i < n → IsSpanned O m e (w i)) where
  infixl 60 ◌+◌
  infixl 70 ◌*◌
  open O use {add as ◌+◌, mul as ◌*◌, carrier as C}

  abbrev coefficients_by : (i : ℕ) → (i < n) ⊎ (n ≤ i) → ℕ → O.field.carrier
  coefficients_by i (inl q) = (each i q).coefficients
  coefficients_by i (inr q) = λ j. O.field.zero

  abbrev rest_by : (i : ℕ) → (i < n) ⊎ (n ≤ i) → C
  rest_by i (inl q) = (each i q).rest
  rest_by i (inr q) = O.zero

  sum_by : (i : ℕ) → i < n → (b : (i < n) ⊎ (n ≤ i))
      → w i ≡ combined O m (coefficients_by i b) e + O.v * rest_by i b
  sum_by i q (inl s) = (each i s).sum
  sum_by i q (inr s) = absurd (omega arith)

  in_by : (i : ℕ) → i < n → (b : (i < n) ⊎ (n ≤ i)) → O.In (rest_by i b)
  in_by i q (inl s) = (each i s).inside
  in_by i q (inr s) = absurd (omega arith)

  pub spanned : (x : O.carrier) → IsSpanned O n w x → IsSpanned O m e x
  spanned x h = record {
    coefficients = combination O.field.ring n h.coefficients
        (λ i. coefficients_by i (cases_lt i n));
    rest = combined O n h.coefficients (λ i. rest_by i (cases_lt i n)) + h.rest;
    inside = O.in_add _ _ (combined_in O n h.coefficients (λ i. rest_by i (cases_lt i n))
        (λ i q. in_by i q (cases_lt i n))) h.inside;
    sum = h.sum ∙ ap (λ t. t + O.v * h.rest) (spread O m e
        (λ i. coefficients_by i (cases_lt i n)) (λ i. rest_by i (cases_lt i n)) w n h.coefficients
        (λ i q. sum_by i q (cases_lt i n)))
        ∙ ring4 O.ring O.laws (λ s v y z. (s ⊕ v ⊗ y) ⊕ v ⊗ z) (λ s v y z. s ⊕ v ⊗ (y ⊕ z)) refl
        (combined O m (combination O.field.ring n h.coefficients
        (λ i. coefficients_by i (cases_lt i n))) e) O.v
        (combined O n h.coefficients (λ i. rest_by i (cases_lt i n))) h.rest;
  }
