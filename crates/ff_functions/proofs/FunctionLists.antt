-- Lists of the functions and of the weights of classes, with one more.
use Rattle.std.proofs.Common.{◌≡◌, ℕ, ◌+◌, ◌%◌, ◌<◌, ◌≤◌, ◌⊎◌, inl, inr, List, [], ◌∷◌, ◌++◌}
use Rattle.std.proofs.Common.{length, get_or, sym, ◌∙◌, ap, subst, arith}
use Rattle.std.proofs.lemmas.Bool.{cases_lt}
use Rattle.std.proofs.lemmas.List.{get_or_push, get_or_default}
use Rattle.ff_theory.specs.Ring.{Elements}
use Rattle.ff_theory.specs.Lawful.{Lawful}
use Rattle.ff_elem.specs.declared.elem.Elem.{Elem}
use Rattle.ff_elem.specs.Elem.{elem_of}
use Rattle.ff_data.specs.declared.order.Chart.{Chart}
use Rattle.ff_functions.specs.declared.frame.Frame.{Frame}
use Rattle.ff_functions.specs.declared.numbers.PoleNumber.{PoleNumber}
use Rattle.ff_functions.specs.declared.search.Search.{Search}
use Rattle.ff_functions.specs.Combined.{IsFunctionOf, IsNumberAt, IsOfClass, AreClassFunctions}
use Rattle.ff_functions.specs.Combined.{AreClassWeights, HasNextFunction}
use Rattle.ff_functions.proofs.SearchLemmas.{push_below}

-- a number that was read
pub number_at : (numbers : List PoleNumber) (t : ℕ) (p : PoleNumber) → t < length numbers
    → p ≡ get_or numbers t p → IsNumberAt numbers t p
number_at numbers t p l e = (l, λ d. get_or_default numbers t d p l ∙ sym e)

pub class_at : (numbers : List PoleNumber) (e i t : ℕ) (p : PoleNumber) → t < length numbers
    → p ≡ get_or numbers t p → (get_or numbers t p).j % e ≡ i → IsOfClass numbers e i p
class_at numbers e i t p l is own = record {
  index = t;
  at = number_at numbers t p l is;
  own = ap (λ (p : PoleNumber). p.j % e) is ∙ own;
}

-- the weights
pub weights_more : (numbers : List PoleNumber) (e n : ℕ) (list : List ℕ) → 0 < n
    → length list ≡ n → AreClassWeights numbers e n list → (p : PoleNumber)
    → IsOfClass numbers e n p → AreClassWeights numbers e (n + 1) (list ++ p.j ∷ [])
weights_more numbers e n list positive count h p own = record {
  zero = push_below list p.j 0 0 (omega (arith, positive, count)) ∙ h.zero;
  each = λ i q l. go i q l (cases_lt i n);
}
  where
    go : (i : ℕ) → 0 < i → i < n + 1 → (i < n) ⊎ (n ≤ i) → (q : PoleNumber)
        × (IsOfClass numbers e i q × (get_or (list ++ p.j ∷ []) i 0 ≡ q.j))
    go i q l (inl k) = let w = h.each i q k in (
      w.0,
      (w.1.0, push_below list p.j 0 i (omega (arith, k, count)) ∙ w.1.1),
    )
    go i q l (inr k) = let is : n ≡ i = omega (arith, l, k) in (
      p,
      (subst (λ i. IsOfClass numbers e i p) is own, get_or_push list p.j 0 i (count ∙ is)),
    )

module _ {F : Elements ℕ} (L : Lawful F) (f : List (List ℕ)) (chart : Chart) (d : List ℕ)
    (s : Frame) (r : Search) where
  -- the functions
  pub functions_more : (e n : ℕ) (list new : List Elem) → 0 < n → length list ≡ n
      → AreClassFunctions L f chart d s r e n list
      → HasNextFunction L f chart d s r e n list new
      → AreClassFunctions L f chart d s r e (n + 1) new
  functions_more e n list new positive count h next = record {
    one = λ a. ap (elem_of L f) (ap (λ t. get_or t 0 a) next.list
        ∙ push_below list next.function a 0 (omega (arith, positive, count))) ∙ h.one a;
    each = λ i q l a. go i q l a (cases_lt i n);
  }
    where
      go : (i : ℕ) → 0 < i → i < n + 1 → (a : Elem) → (i < n) ⊎ (n ≤ i) → (p : PoleNumber)
          × (IsOfClass r.numbers.items e i p
          × IsFunctionOf L f chart d s r.trail p (get_or new i a))
      go i q l a (inl k) = let w = h.each i q k a in (
        w.0,
        (
          w.1.0,
          subst (IsFunctionOf L f chart d s r.trail w.0) (sym (ap (λ t. get_or t i a) next.list
              ∙ push_below list next.function a i (omega (arith, k, count)))) w.1.1,
        ),
      )
      go i q l a (inr k) = let is : n ≡ i = omega (arith, l, k) in (
        next.number,
        (
          subst (λ i. IsOfClass r.numbers.items e i next.number) is next.own,
          subst (IsFunctionOf L f chart d s r.trail next.number) (sym (ap (λ t. get_or t i a)
              next.list ∙ get_or_push list next.function a i (count ∙ is))) next.value,
        ),
      )
