-- Lists of zeros as polynomials.
use Rattle.std.proofs.Common.{◌≡◌, ℕ, ◌+◌, ◌*◌, ◌<◌, ◌≤◌, ◌⊎◌, inl, inr, List, ◌++◌, length, map}
use Rattle.std.proofs.Common.{suc, arith, All, ◌∙◌, sym, ap, ap₂, subst}
use Rattle.std.proofs.Math.Nat.{suc-mul}
use Rattle.std.proofs.lemmas.List.{length-append}
use Rattle.std.proofs.lemmas.Bool.{cases_lt}
use Rattle.std.proofs.lemmas.List.Elements.{All-get_or, All-append}
use Rattle.ff_theory.specs.Ring.{Elements}
use Rattle.ff_theory.specs.Lawful.{Lawful}
use Rattle.ff_theory.specs.Poly.{coeff, polynomials}
use Rattle.ff_theory.specs.Values.{poly_of}
use Rattle.ff_theory.proofs.Coeffs.{coeff-map, coeff-past}
use Rattle.ff_theory.proofs.Product.{zeros_poly}

-- a block more at the end
pub grown-len : (new old block : List ℕ) (i n : ℕ) → new ≡ old ++ block → length old ≡ i * n
    → length block ≡ n → length new ≡ (i + 1) * n
grown-len new old block i n e h b = ap length e ∙ length-append old block ∙ ap₂ (λ s t. s + t) h b
    ∙ sym (suc-mul i n) ∙ ap (λ m. m * n) (let e : suc i ≡ i + 1 = omega arith in e)

pub grown-all : (P : ℕ → Type 0) (new old block : List ℕ) → new ≡ old ++ block → All P old
    → All P block → All P new
grown-all P new old block e h b = subst (All P) (sym e) (All-append P old block h b)

module _ {K : Elements ℕ} (L : Lawful K) where
  -- a list of zeros stands for 0
  pub all_zeros : (p : List ℕ) → All (λ e. K.value e ≡ K.zero) p → poly_of K p
      ≡ (polynomials K.ring).zero
  all_zeros p h = zeros_poly K.ring L.laws L.tests (map K.value p)
      (λ i. at i (cases_lt i (length p)))
    where
      at : (i : ℕ) → (i < length p) ⊎ (length p ≤ i) → coeff K.ring (map K.value p) i ≡ K.zero
      at i (inl l) = coeff-map K.ring K.value p i 0 l
          ∙ All-get_or (λ e. K.value e ≡ K.zero) p i 0 l h
      at i (inr l) = coeff-past K.ring K.value p i l
