-- Divisors in a commutative ring.
use Rattle.std.proofs.Common.{◌≡◌, refl, sym, ◌∙◌, ap, ap₂}
use Rattle.ff_theory.specs.Ring.{RingOps, IsCommRing}
use Rattle.ff_theory.specs.Divides.{Divides}
use Rattle.ff_theory.proofs.Solver.{◌⊕◌, ◌⊗◌, neg, nil, unit, ring1, ring2, ring3}

module _ (R : RingOps) (laws : IsCommRing R) where
  pub divides_self : (d : R.carrier) → Divides R d d
  divides_self d = (R.one, ring1 R laws (λ d. d) (λ d. unit ⊗ d) refl d)

  pub divides_zero : (d : R.carrier) → Divides R d R.zero
  divides_zero d = (R.zero, ring1 R laws (λ d. nil) (λ d. nil ⊗ d) refl d)

  pub divides_add : (d a b : R.carrier) → Divides R d a → Divides R d b → Divides R d (R.add a b)
  divides_add d a b h k = (
    R.add h.0 k.0,
    ap₂ R.add h.1 k.1
        ∙ ring3 R laws (λ p q d. p ⊗ d ⊕ q ⊗ d) (λ p q d. (p ⊕ q) ⊗ d) refl h.0 k.0 d,
  )

  pub divides_left : (d u a : R.carrier) → Divides R d a → Divides R d (R.mul u a)
  divides_left d u a h = (R.mul u h.0, ap (R.mul u) h.1 ∙ sym (laws.mul_assoc u h.0 d))

  pub divides_right : (d a u : R.carrier) → Divides R d a → Divides R d (R.mul a u)
  divides_right d a u h = (
    R.mul u h.0,
    laws.mul_comm a u ∙ ap (R.mul u) h.1
        ∙ sym (laws.mul_assoc u h.0 d),
  )

  pub divides_trans : (d e a : R.carrier) → Divides R d e → Divides R e a → Divides R d a
  divides_trans d e a h k = (
    R.mul k.0 h.0,
    k.1 ∙ ap (R.mul k.0) h.1
        ∙ sym (laws.mul_assoc k.0 h.0 d),
  )

  -- of a sum and one of its terms, of the other
  pub divides_first : (d a b : R.carrier) → Divides R d (R.add a b) → Divides R d b → Divides R d a
  divides_first d a b h k = (
    R.add h.0 (R.neg k.0),
    ring2 R laws (λ a b. a) (λ a b. (a ⊕ b) ⊕ neg b)
        refl a b ∙ ap₂ (λ s t. R.add s (R.neg t)) h.1 k.1
        ∙ ring3 R laws (λ p q d. p ⊗ d ⊕ neg (q ⊗ d)) (λ p q d. (p ⊕ neg q) ⊗ d) refl h.0 k.0 d,
  )

  -- what divides a * b and is coprime to a divides b
  pub divides_coprime : (d a b u v : R.carrier) → R.add (R.mul u d) (R.mul v a) ≡ R.one
      → Divides R d (R.mul a b) → Divides R d b
  divides_coprime d a b u v h k = (
    R.add (R.mul u b) (R.mul v k.0),
    ring1 R laws (λ b. b) (λ b. unit ⊗ b) refl b ∙ ap (λ t. R.mul t b) (sym h)
        ∙ laws.mul_comm _ b ∙ laws.mul_add b (R.mul u d) (R.mul v a)
        ∙ ap₂ R.add (ring3 R laws (λ b u d. b ⊗ (u ⊗ d)) (λ b u d. (u ⊗ b) ⊗ d) refl b u d)
        (ring3 R laws (λ b v a. b ⊗ (v ⊗ a)) (λ b v a. v ⊗ (a ⊗ b)) refl b v a ∙ ap (R.mul v) k.1
        ∙ sym (laws.mul_assoc v k.0 d))
        ∙ ring3 R laws (λ p q d. p ⊗ d ⊕ q ⊗ d) (λ p q d. (p ⊕ q) ⊗ d) refl (R.mul u b)
        (R.mul v k.0) d,
  )
