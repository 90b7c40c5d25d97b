-- The pole modules by lists of elements of the kernel.
use Rattle.std.proofs.Common.{ℕ, zero, suc, List, [], ◌∷◌, refl, sym, ap, subst, arith}
use Rattle.std.specs.List.{All}
use Rattle.ff_local.specs.Point.{OrderAt, InKernel}
use Rattle.ff_local.specs.Module.{InModule, product_of, InModuleByLists}

module _ {A : Type 0} (Q : A → Type 0) where
  all-empty : All Q []
  all-empty k d l = absurd (omega arith)

  all-cons : (x : A) (xs : List A) → Q x → All Q xs → All Q (x ∷ xs)
  all-cons x xs h all zero d l = h
  all-cons x xs h all (suc k) d l = all k d (omega arith)

  all-tail : (x : A) (xs : List A) → All Q (x ∷ xs) → All Q xs
  all-tail x xs all k d l = all (suc k) d (omega arith)

module _ (P : OrderAt) where
  pub module_lists : (j : ℕ) (w : P.carrier) → InModule P j w → InModuleByLists P j w
  module_lists zero w h [] e all = subst P.In (sym (P.laws.mul_one w)) h
  module_lists zero w h (r ∷ rs) e all = absurd (omega arith)
  module_lists (suc j) w h [] e all = absurd (omega arith)
  module_lists (suc j) w h (r ∷ rs) e all =
      subst P.In (P.laws.mul_assoc w r (product_of P.ring rs))
      (module_lists j (P.mul w r) (h r (all zero r (omega arith))) rs (omega arith)
      (all-tail (InKernel P) r rs all))

  pub lists_module : (j : ℕ) (w : P.carrier) → InModuleByLists P j w → InModule P j w
  lists_module zero w h = subst P.In (P.laws.mul_one w) (h [] refl (all-empty (InKernel P)))
  lists_module (suc j) w h = λ r m. lists_module j (P.mul w r) (λ rs e all.
      subst P.In (sym (P.laws.mul_assoc w r (product_of P.ring rs)))
      (h (r ∷ rs) (ap suc e) (all-cons (InKernel P) r rs m all)))
