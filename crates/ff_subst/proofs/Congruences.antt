-- What is equal up to multiples of m, in any commutative ring.
use Rattle.std.proofs.Common.{◌≡◌, refl, sym, ◌∙◌, ap, ap₂}
use Rattle.ff_theory.specs.Ring.{RingOps, IsCommRing}
use Rattle.ff_theory.proofs.Solver.{◌⊕◌, ◌⊗◌, neg, nil, ring2, ring3, ring6}
use Rattle.ff_theory.specs.Divides.{Divides}
use Rattle.ff_subst.specs.Congruence.{IsCongruent}

module _ (R : RingOps) (laws : IsCommRing R) (m : R.carrier) where
  pub congruent-equal : (a b : R.carrier) → a ≡ b → IsCongruent R m a b
  congruent-equal a b e = record
      { quotient = R.zero; sum = e ∙ ring2 R laws (λ b m. b) (λ b m. b ⊕ m ⊗ nil) refl b m }

  pub congruent-add : (a b c d : R.carrier) → IsCongruent R m a b → IsCongruent R m c d
      → IsCongruent R m (R.add a c) (R.add b d)
  congruent-add a b c d h k = record {
    quotient = R.add h.quotient k.quotient;
    sum = ap₂ R.add h.sum k.sum ∙ ring6 R laws (λ b d m q s z. (b ⊕ m ⊗ q) ⊕ (d ⊕ m ⊗ s)) (λ b d m q
        s z. (b ⊕ d) ⊕ m ⊗ (q ⊕ s)) refl b d m h.quotient k.quotient m;
  }

  pub congruent-mul : (a b c d : R.carrier) → IsCongruent R m a b → IsCongruent R m c d
      → IsCongruent R m (R.mul a c) (R.mul b d)
  congruent-mul a b c d h k = record {
    quotient = R.add (R.add (R.mul b k.quotient) (R.mul h.quotient d))
        (R.mul m (R.mul h.quotient k.quotient));
    sum = ap₂ R.mul h.sum k.sum ∙ ring6 R laws (λ b d m q s z. (b ⊕ m ⊗ q) ⊗ (d ⊕ m ⊗ s)) (λ b d m q
        s z. b ⊗ d ⊕ m ⊗ ((b ⊗ s ⊕ q ⊗ d) ⊕ m ⊗ (q ⊗ s))) refl b d m h.quotient k.quotient m;
  }

  pub congruent-neg : (a b : R.carrier) → IsCongruent R m a b → IsCongruent R m (R.neg a) (R.neg b)
  congruent-neg a b h = record {
    quotient = R.neg h.quotient;
    sum = ap R.neg h.sum ∙ ring3 R laws (λ
        b m q. neg (b ⊕ m ⊗ q)) (λ b m q. neg b ⊕ m ⊗ neg q) refl b m h.quotient;
  }

  -- what a is equal to, up to multiples, is that what b is equal to
  pub congruent-back : (a b c : R.carrier) → IsCongruent R m a b → IsCongruent R m a c
      → IsCongruent R m b c
  congruent-back a b c h k = record {
    quotient = R.add k.quotient (R.neg h.quotient);
    sum = ring3 R laws (λ b m q. b) (λ b m q. (b ⊕ m ⊗ q) ⊕ neg (m ⊗ q)) refl b m h.quotient
        ∙ ap (λ t. R.add t (R.neg (R.mul m h.quotient))) (sym h.sum ∙ k.sum)
        ∙ ring6 R laws (λ c m q s y z. (c ⊕ m ⊗ s) ⊕ neg (m ⊗ q))
        (λ c m q s y z. c ⊕ m ⊗ (s ⊕ neg q)) refl c m h.quotient k.quotient m m;
  }

  pub congruent-zero : (a : R.carrier) → IsCongruent R m a R.zero → Divides R m a
  congruent-zero a h = (
    h.quotient,
    h.sum
        ∙ ring2 R laws (λ m q. nil ⊕ m ⊗ q) (λ m q. q ⊗ m) refl m h.quotient,
  )

  pub divides-congruent : (a : R.carrier) → Divides R m a → IsCongruent R m a R.zero
  divides-congruent a h = record
      { quotient = h.0; sum = h.1 ∙ ring2 R laws (λ m q. q ⊗ m) (λ m q. nil ⊕ m ⊗ q) refl m h.0 }
