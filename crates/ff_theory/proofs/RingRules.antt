-- The laws of a commutative ring as rules for rewriting: `simp ring_rules` at an abstract lawful
-- ring.
use Rattle.std.proofs.Common.{◌≡◌, refl}
use Rattle.ff_theory.specs.Ring.{RingOps, IsCommRing}
use Rattle.ff_theory.proofs.Solver.{add_mul, mul_swap, add_swap, zero_mul, mul_zero, zero_add}
use Rattle.ff_theory.proofs.Solver.{one_mul, Expr, ◌⊕◌, ◌⊗◌, neg, nil, unit, ring1, ring2}

module _ (R : RingOps) (laws : IsCommRing R) where
  infixl 60 ◌+◌
  infixl 70 ◌*◌
  open R use {add as ◌+◌, mul as ◌*◌, neg as minus, carrier as C}

  pub mul_add : (a b c : C) → a * (b + c) ≡ a * b + a * c
  mul_add = laws.mul_add

  pub add_assoc : (a b c : C) → (a + b) + c ≡ a + (b + c)
  add_assoc = laws.add_assoc

  pub mul_assoc : (a b c : C) → (a * b) * c ≡ a * (b * c)
  mul_assoc = laws.mul_assoc

  pub add_comm : (a b : C) → a + b ≡ b + a
  add_comm = laws.add_comm

  pub mul_comm : (a b : C) → a * b ≡ b * a
  mul_comm = laws.mul_comm

  pub add_zero : (a : C) → a + R.zero ≡ a
  add_zero = laws.add_zero

  pub mul_one : (a : C) → a * R.one ≡ a
  mul_one = laws.mul_one

  pub add_neg : (a : C) → a + minus a ≡ R.zero
  add_neg = laws.add_neg

  pub neg_add : (a b : C) → minus (a + b) ≡ minus a + minus b
  neg_add a b = ring2 R laws (λ a b. neg (a ⊕ b)) (λ a b. neg a ⊕ neg b) refl a b

  pub mul_neg : (a b : C) → a * minus b ≡ minus (a * b)
  mul_neg a b = ring2 R laws (λ a b. a ⊗ neg b) (λ a b. neg (a ⊗ b)) refl a b

  pub neg_mul : (a b : C) → minus a * b ≡ minus (a * b)
  neg_mul a b = ring2 R laws (λ a b. neg a ⊗ b) (λ a b. neg (a ⊗ b)) refl a b

  pub neg_neg : (a : C) → minus (minus a) ≡ a
  neg_neg a = ring1 R laws (λ a. neg (neg a)) (λ a. a) refl a

  pub neg_zero : minus R.zero ≡ R.zero
  neg_zero = ring1 R laws (λ a. neg nil) (λ a. nil) refl R.zero

  pub cancel_left : (a b : C) → a + (minus a + b) ≡ b
  cancel_left a b = ring2 R laws (λ a b. a ⊕ (neg a ⊕ b)) (λ a b. b) refl a b

  pub cancel_right : (a b : C) → minus a + (a + b) ≡ b
  cancel_right a b = ring2 R laws (λ a b. neg a ⊕ (a ⊕ b)) (λ a b. b) refl a b

pub ruleset ring_rules = (
  neg_add,
  mul_neg,
  neg_mul,
  neg_neg,
  neg_zero,
  add_neg,
  cancel_left,
  cancel_right,
  mul_add,
  add_mul,
  add_assoc,
  mul_assoc,
  mul_comm,
  add_comm,
  mul_swap,
  add_swap,
  add_zero,
  zero_add,
  mul_one,
  one_mul,
  mul_zero,
  zero_mul,
)
