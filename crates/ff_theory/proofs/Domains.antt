-- Domains: what a factor that is not zero makes zero is zero. A field is a domain.
use Rattle.std.proofs.Common.{◌≡◌, Bool, true, false, refl, sym, ◌∙◌, ap}
use Rattle.ff_theory.specs.Lawful.{Domain, Field}
use Rattle.ff_theory.proofs.PolyMap.{same_false, not_same}
use Rattle.ff_theory.proofs.Solver.{mul_zero, ◌⊗◌, unit, ring1}

module _ (D : Domain) where
  pub zero_factor : (a b : D.carrier) → D.same b D.zero ≡ false → D.mul a b ≡ D.zero → a ≡ D.zero
  zero_factor a b nb e = go (D.same a D.zero) refl
    where
      go : (t : Bool) → D.same a D.zero ≡ t → a ≡ D.zero
      go true h = D.tests.same_true a D.zero h
      go false h = absurd (not_same D.ring D.tests (D.mul a b) D.zero (D.no_divisors a b h nb) e)

  pub no_divisors : (a b : D.carrier) → D.mul a b ≡ D.zero → ¬ (b ≡ D.zero) → a ≡ D.zero
  no_divisors a b e n = zero_factor a b (same_false D.ring D.tests b D.zero n) e

abbrev pub field_domain : Field → Domain
field_domain K = record {
  ring = K.ring;
  laws = K.laws;
  tests = K.tests;
  proper = same_false K.ring K.tests K.one K.zero K.is_field.one_not_zero;
  no_divisors = λ a b na nb. same_false K.ring K.tests (K.mul a b) K.zero
      (λ e. not_same K.ring K.tests b K.zero nb
      (ring1 K.ring K.laws (λ b. b) (λ b. unit ⊗ b) refl b
      ∙ ap (λ t. K.mul t b) (sym (K.is_field.mul_inverse a (not_same K.ring K.tests a K.zero na))
      ∙ K.laws.mul_comm a (K.inverse a)) ∙ K.laws.mul_assoc (K.inverse a) a b
      ∙ ap (K.mul (K.inverse a)) e ∙ mul_zero K.ring K.laws (K.inverse a)));
}
