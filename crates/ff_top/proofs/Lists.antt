-- The answers that lists and refusals are.
use Rattle.std.proofs.Common.{◌≡◌, ◌≤◌, inl, inr, ℕ, List, arith, refl}
use Rattle.ff_theory.specs.Ring.{Elements}
use Rattle.ff_theory.specs.Lawful.{Lawful}
use Rattle.ff_prime.specs.declared.prime.Prime.{Prime}
use Rattle.ff_data.specs.declared.order.Refusal.{Refusal}
use Rattle.ff_data.specs.declared.order.Refusal.TheVariants as refusal
use Rattle.ff_data.specs.declared.pair.IsoList.{IsoList}
use Rattle.ff_sep.specs.declared.separability.SepFault.TheVariants as fault
use Rattle.ff_sep.specs.Faults.{IsCause}
use Rattle.ff_list.specs.Lists.{AreFactors, HoldsOfFirst, IsRefused}
use Rattle.ff_text.specs.Refusals.{HasLine}
use Rattle.ff_top.specs.declared.status.Status.{Status}
use Rattle.ff_top.specs.Lists.{IsListAnswer, IsListed}
use Rattle.ff_top.proofs.Laws.{laws_of}

-- an answer over the field of the prime
pub listed : (k : Prime) (f g : List (List ℕ)) (print : IsoList → List ℕ) (status : Status)
    (text : List ℕ) → IsListAnswer (laws_of k) f g print status text
    → IsListed k f g print status text
listed k f g print status text h = record {
  ring = (laws_of k).laws;
  tested = (laws_of k).tests;
  finite = (laws_of k).finite;
  answer = h;
}

-- a refusal has a line, unless memory ran out
module _ {F : Elements ℕ} (L : Lawful F) (f g : List (List ℕ)) where
  named : (P : List (List ℕ) → Type 0) (w : ℕ) → HoldsOfFirst L f g P w → (1 ≤ w) × (w ≤ 2)
  named P w (inl h) = (omega (arith, h.0), omega (arith, h.0))
  named P w (inr h) = (omega (arith, h.0), omega (arith, h.0))

  pub has_line : (r : Refusal) → IsRefused L f g r → ¬ (r ≡ refusal.NoMemory) → HasLine r
  has_line (refusal.Inseparable w) h n = named (λ e. IsCause L e fault.Inseparable) w h
  has_line (refusal.Reducible w a b) h n = named (λ e. AreFactors L e a b) w h
  has_line (refusal.NoRationalPlace finite infinite) h n = tt
  has_line refusal.PoleLimit h n = tt
  has_line (refusal.SmallGenus s) h n = (h.1.positive, h.1.small)
  has_line refusal.NoMemory h n = absurd (n refl)
