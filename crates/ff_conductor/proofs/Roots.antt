-- Each element of a finite field is the p-th power of one, p its characteristic.
use Rattle.std.proofs.Common.{◌≡◌, ℕ, zero, suc, ◌<◌, sym, ◌∙◌, ap, arith}
use Rattle.ff_theory.specs.Ring.{IsCommRing, power, FieldOps, IsFiniteField}
use Rattle.ff_theory.proofs.Solver.{zero_mul}
use Rattle.ff_conductor.proofs.Pigeonhole.{reached}
use Rattle.ff_conductor.proofs.PowerParts.{HasRoots}

module _ (F : FieldOps) (laws : IsCommRing F.ring) (finite : IsFiniteField F) where
  abbrev p : ℕ
  p = F.characteristic

  -- the index of the p-th power of the element of an index
  step : ℕ → ℕ
  step i = F.index (power F.ring (F.element_at i) p)

  root_of : (a : F.carrier) → (b : F.carrier) × (power F.ring b p ≡ a)
  unfolding step
  root_of a = go (reached F.size step (λ i l. finite.index_below _)
      (λ i j hi hj e. sym (finite.index_at i hi)
      ∙ ap F.index (finite.one_root _ _
      (sym (finite.at_index _) ∙ ap F.element_at e ∙ finite.at_index _)) ∙ finite.index_at j hj)
      (F.index a) (finite.index_below a))
    where
      go : (i : ℕ) × ((i < F.size) × (step i ≡ F.index a)) → (b : F.carrier)
          × (power F.ring b p ≡ a)
      go i = (F.element_at i.0, sym (finite.at_index _) ∙ ap F.element_at i.1.1 ∙ finite.at_index a)

  power_zero : (n : ℕ) → 0 < n → power F.ring F.zero n ≡ F.zero
  power_zero zero l = absurd (omega (arith, l))
  power_zero (suc n) l = zero_mul F.ring laws (power F.ring F.zero n)

  pub roots_exist : HasRoots F.ring F.characteristic
  roots_exist = record {
    root = λ a. (root_of a).0;
    is_root = λ a. (root_of a).1;
    on_zero = finite.one_root _ _ ((root_of F.zero).1 ∙ sym (power_zero p finite.least.positive));
  }
