-- The zeros of a polynomial in a finite field.
use Rattle.std.proofs.Common.{◌≡◌, List, sym, ◌∙◌, ap, subst, arith}
use Rattle.std.specs.List.{All, AllPairs, Contains}
use Rattle.std.proofs.lemmas.List.Elements.{filter_passes}
use Rattle.ff_theory.specs.Ring.{RingOps, Elements}
use Rattle.ff_theory.specs.Lawful.{Lawful}
use Rattle.ff_theory.specs.Lists.{listed}
use Rattle.ff_table.specs.Shift.{value_at}
use Rattle.ff_table.specs.Roots.{zeros_of}
use Rattle.ff_table.proofs.Pairwise.{pairs-filter, pairs-listed, contains-filter, contains-listed}

module _ {E : Type 0} {F : Elements E} (L : Lawful F) where
  abbrev k : RingOps
  k = F.ring

  pub zeros-vanish : (g : List F.carrier)
      → All (λ c. value_at F.ring c g ≡ F.zero) (zeros_of F.field g)
  zeros-vanish g i d l = L.tests.same_true _ _
      (filter_passes (λ c. F.same (value_at k c g) F.zero) (listed F.size F.element_at) i d l)

  pub zeros-distinct : (g : List F.carrier) → AllPairs (λ a b. ¬ (a ≡ b)) (zeros_of F.field g)
  zeros-distinct g = pairs-filter (λ a b. ¬ (a ≡ b)) (λ c. F.same (value_at k c g) F.zero)
      (listed F.size F.element_at)
      (pairs-listed (λ a b. ¬ (a ≡ b)) F.size F.element_at (λ i j l q e.
      absurd (let f : i ≡ j = sym (L.finite.index_at i (omega arith)) ∙ ap F.index e
      ∙ L.finite.index_at j q in omega arith)))

  pub zeros-contain : (g : List F.carrier) (c : F.carrier) → value_at F.ring c g ≡ F.zero
      → Contains (zeros_of F.field g) c
  zeros-contain g c e = contains-filter (λ c. F.same (value_at k c g) F.zero)
      (listed F.size F.element_at) c
      (ap (λ v. F.same v F.zero) e ∙ L.tests.same_refl F.zero)
      (subst (Contains (listed F.size F.element_at)) (L.finite.at_index c)
      (contains-listed F.size F.element_at (F.index c) (L.finite.index_below c)))
