-- Values of lists of coefficients, from the last one down.
use Rattle.std.proofs.Common.{◌≡◌, ℕ, ◌+◌, ◌-◌, ◌<◌, List, [], ◌∷◌, length, map, get_or, drop}
use Rattle.std.proofs.Common.{sym, ◌∙◌, ap, ap₂, arith, refl}
use Rattle.std.proofs.lemmas.List.{drop_more}
use Rattle.ff_theory.specs.Ring.{Elements}
use Rattle.ff_theory.specs.Eval.{eval_list}
use Rattle.ff_root.specs.States.{value_of}

module _ (F : Elements ℕ) where
  pub value-more : (c : ℕ) (v w : F.carrier) (p : List ℕ) (i j x : ℕ) → 0 < i → j ≡ i - 1
      → i < length p + 1 → x ≡ get_or p j 0 → v ≡ value_of F (drop i p) c
      → w ≡ F.add (F.value x) (F.mul (F.value c) v) → w ≡ value_of F (drop j p) c
  value-more c v w p i j x pos e inside read h k =
      let s : j + 1 ≡ i = omega (arith, pos, e) in
      let below : j < length p = omega (arith, pos, e, inside) in
      let rest : drop j p ≡ x ∷ drop i p = drop_more p j 0 below
      ∙ ap₂ (λ a t. a ∷ t) (sym read) (ap (λ n. drop n p) s) in
      k ∙ ap (λ t. F.add (F.value x) (F.mul (F.value c) t)) h
      ∙ ap (λ t. value_of F t c) (sym rest)

  pub value-none : (c : ℕ) (p : List ℕ) (i : ℕ) → i ≡ length p → value_of F (drop i p) c ≡ F.zero
  value-none c p i e = ap (λ n. value_of F (drop n p) c) e ∙ ap (λ t. value_of F t c) (none p)
    where
      none : (p : List ℕ) → drop (length p) p ≡ []
      none [] = refl
      none (x ∷ p) = none p

  pub value-whole : (c : ℕ) (p : List ℕ) (i : ℕ) → i ≡ 0 → value_of F (drop i p) c ≡ value_of F p c
  value-whole c p i z = ap (λ n. value_of F (drop n p) c) z
