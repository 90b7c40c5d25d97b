-- Roots in the field of the polynomial in theta that the rows of an equation are at an element.
use Rattle.std.proofs.Common.{◌≡◌, ℕ, suc, ◌+◌, ◌<◌, ◌≤◌, ◌⊎◌, inl, inr, true, false}
use Rattle.std.proofs.Common.{List, [], ◌∷◌, ◌++◌, length, map, take, get_or, refl, sym}
use Rattle.std.proofs.Common.{◌∙◌, ap, ap₂, arith}
use Rattle.std.proofs.lemmas.Bool.{cases_lt}
use Rattle.std.proofs.lemmas.List.{map-append}
use Rattle.std.proofs.Math.Seq.{take-suc}
use Rattle.ff_theory.specs.Ring.{RingOps, Elements}
use Rattle.ff_theory.specs.Lawful.{Lawful}
use Rattle.ff_theory.specs.Eval.{eval_list}
use Rattle.ff_data.proofs.EvaluationLemmas.{rows_value}
use Rattle.ff_points.specs.PointLists.{IsRootOver}

value_mapped : {A : Type 0} (R : RingOps) (g : A → R.carrier) (y : R.carrier) (xs : List A)
    → eval_list R (λ s. s) y (map g xs) ≡ eval_list R g y xs
value_mapped R g y [] = refl
value_mapped R g y (x ∷ xs) = ap (λ t. R.add (g x) (R.mul y t)) (value_mapped R g y xs)

-- a root of the rows at a is one of the polynomial whose coefficients are their values
pub root_of_values : (F : Elements ℕ) (L : Lawful F) (rows : List (List ℕ)) (a t : ℕ)
    (coeffs : List ℕ) → map F.value coeffs ≡ map (eval_list F.ring F.value (F.value a)) rows
    → IsRootOver F rows a t → eval_list F.ring F.value (F.value t) coeffs ≡ F.zero
root_of_values F L rows a t coeffs e root = sym (value_mapped F.ring F.value (F.value t) coeffs)
    ∙ ap (eval_list F.ring (λ s. s) (F.value t)) e
    ∙ value_mapped F.ring (eval_list F.ring F.value (F.value a)) (F.value t) rows
    ∙ rows_value F L (F.value a) (F.value t) rows ∙ root

-- the values of one row more
pub one_more : {A B : Type 0} (g : ℕ → B) (h : A → B) (old new : List ℕ) (x : ℕ) (xs : List A)
    (i : ℕ) (d : A) → i < length xs → new ≡ old ++ x ∷ [] → g x ≡ h (get_or xs i d)
    → map g old ≡ map h (take i xs) → map g new ≡ map h (take (i + 1) xs)
one_more g h old new x xs i d l push e before = let next : i + 1 ≡ suc i = omega arith in
    ap (map g) push ∙ map-append g old (x ∷ []) ∙ ap₂ (λ s v. s ++ v ∷ []) before e
    ∙ sym (ap (λ n. map h (take n xs)) next ∙ ap (map h) (take-suc xs i d l)
    ∙ map-append h (take i xs) (get_or xs i d ∷ []))

-- no element with an index below i is a root
module _ (F : Elements ℕ) (L : Lawful F) (coeffs : List ℕ) (i : ℕ)
    (old : (t : F.carrier) → eval_list F.ring F.value t coeffs ≡ F.zero → ¬ (F.index t < i))
  where
    pub not_below_next : i < F.size → (v : F.carrier)
        → v ≡ eval_list F.ring F.value (F.element_at i) coeffs → F.same v F.zero ≡ false
        → (t : F.carrier) → eval_list F.ring F.value t coeffs ≡ F.zero → ¬ (F.index t < i + 1)
    not_below_next l v e differ t root below = absurd (go (cases_lt (F.index t) i))
      where
        go : (F.index t < i) ⊎ (i ≤ F.index t) → ⊥
        go (inl b) = old t root b
        go (inr b) = let at : F.index t ≡ i = omega (arith, b, below) in
            let z : v ≡ F.zero = e ∙ ap (λ x. eval_list F.ring F.value x coeffs)
            (ap F.element_at (sym at) ∙ L.finite.at_index t) ∙ root in
            let yes : F.same v F.zero ≡ true = ap (λ x. F.same x F.zero) z
            ∙ L.tests.same_refl F.zero in
            let clash : true ≡ false = sym yes ∙ differ in absurd cc

    pub no_root : F.size ≤ i → (t : F.carrier) → ¬ (eval_list F.ring F.value t coeffs ≡ F.zero)
    no_root l t root = old t root (let b = L.finite.index_below t in omega (arith, l, b))
