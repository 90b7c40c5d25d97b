-- The last entry of a list, and the entries before it.
use Rattle.std.proofs.Common.{◌≡◌, ◌+◌, List, [], ◌∷◌, ◌++◌, length, get_or, All}
use Rattle.std.proofs.Common.{refl, ◌∙◌, ap, subst, arith}
use Rattle.std.proofs.lemmas.List.{get_or_push, get_or_append_left, length-append}

module _ {X : Type 0} (P : X → Type 0) (old new : List X) (y : X) (h : All P old)
    (e : old ≡ new ++ y ∷ []) where
  long : length old ≡ length new + 1
  long = ap length e ∙ length-append new (y ∷ [])

  pub popped : P y
  popped = subst P (ap (λ xs. get_or xs (length new) y) e ∙ get_or_push new y y (length new) refl)
      (h (length new) y (omega (arith, long)))

  pub left : All P new
  left k d l = subst P (ap (λ xs. get_or xs k d) e ∙ get_or_append_left new (y ∷ []) d k l)
      (h k d (omega (arith, l, long)))
