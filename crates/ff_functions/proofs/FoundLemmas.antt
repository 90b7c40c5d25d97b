-- What a search whose pole numbers are complete says of its trail and of each number.
use Rattle.std.proofs.Common.{◌≡◌, ℕ, ◌<◌, ◌≤◌, List, length, get_or, sym, subst, arith, All}
use Rattle.ff_theory.specs.Ring.{Elements}
use Rattle.ff_theory.specs.Lawful.{Lawful}
use Rattle.ff_data.specs.declared.order.Order.{Order}
use Rattle.ff_forms.specs.declared.functions.TheConstants.{POLE_LIMIT}
use Rattle.ff_functions.specs.declared.numbers.PoleNumber.{PoleNumber}
use Rattle.ff_functions.specs.declared.search.Search.{Search}
use Rattle.ff_functions.specs.Searches.{HasTrailForm, HasFound, IsNumber}

module _ {F : Elements ℕ} (L : Lawful F) (f : List (List ℕ)) (o : Order) (s : Search) (c : ℕ)
    (h : HasFound L f o c s) where
  pub found_trail : HasTrailForm L f o (length s.trail.passed.items)
      (length s.trail.passed.items) s.trail
  found_trail = subst (λ m. HasTrailForm L f o m m s.trail) (sym h.trail.count) h.trail

  pub found_number : (i : ℕ) (p : PoleNumber) → i < length s.numbers.items
      → p ≡ get_or s.numbers.items i p → IsNumber F c (length s.trail.passed.items) p
  found_number i p l e = subst (λ m. IsNumber F c m p) (sym h.trail.count)
      (subst (IsNumber F c h.bound) (sym e) (h.numbers i p l))

  pub found_within : All (λ (p : PoleNumber). p.j ≤ POLE_LIMIT) s.numbers.items
  found_within i d l = let n = h.numbers i d l in omega (arith, n.within, h.within)
