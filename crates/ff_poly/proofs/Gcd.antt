use Rattle.std.proofs.Common.{◌≡◌, ℕ, List, suc, ◌<◌, ◌≤◌, ◌⊎◌, inl, inr, refl, sym, ◌∙◌, ap, ap₂}
use Rattle.std.proofs.Common.{subst, arith}
use Rattle.std.proofs.lemmas.Bool.{cases_lt}
use Rattle.ff_theory.specs.Ring.{RingOps, IsCommRing}
use Rattle.ff_theory.specs.Poly.{coeff}
use Rattle.ff_theory.proofs.Solver.{◌⊕◌, ◌⊗◌, neg, nil, unit, ring1, ring3, ring4}
use Rattle.ff_theory.specs.Divides.{Divides, IsGcd, IsGcdOfAll}
use Rattle.ff_theory.proofs.Divides.{divides_trans}

module _ (R : RingOps) (laws : IsCommRing R) where
  -- Euclid's algorithm
  pub gcd-zero : (a b : R.carrier) → b ≡ R.zero → IsGcd R a b a
  gcd-zero a b e = record {
    of_first = (R.one, ring1 R laws (λ a. a) (λ a. unit ⊗ a) refl a);
    of_second = (R.zero, e ∙ ring1 R laws (λ a. nil) (λ a. nil ⊗ a) refl a);
    greatest = λ d h k. h;
  }

  pub gcd-step : (a b q r g : R.carrier) → a ≡ R.add (R.mul q b) r → IsGcd R b r g → IsGcd R a b g
  gcd-step a b q r g e h = record {
    of_first = (
      R.add (R.mul q h.of_first.0) h.of_second.0,
      e
          ∙ ap₂ (λ b r. R.add (R.mul q b) r) h.of_first.1 h.of_second.1
          ∙ ring4 R laws (λ q s t g. q ⊗ (s ⊗ g) ⊕ t ⊗ g) (λ q s t g. (q ⊗ s ⊕ t) ⊗ g) refl q
          h.of_first.0 h.of_second.0 g,
    );
    of_second = h.of_first;
    greatest = λ d u v. h.greatest d v (
      R.add u.0 (R.neg (R.mul q v.0)),
      ring3 R laws (λ q b r. r) (λ q b r. (q ⊗ b ⊕ r) ⊕ neg (q ⊗ b)) refl q b r
          ∙ ap (λ t. R.add t (R.neg (R.mul q b))) (sym e)
          ∙ ap₂ (λ a b. R.add a (R.neg (R.mul q b))) u.1 v.1
          ∙ ring4 R laws (λ q u v d. u ⊗ d ⊕ neg (q ⊗ (v ⊗ d))) (λ q u v d. (u ⊕ neg (q ⊗ v)) ⊗ d)
          refl q u.0 v.0 d,
    );
  }

  -- a greatest common divisor times a unit
  module _ (g h u w : R.carrier) (e : h ≡ R.mul u g) (one : R.mul w u ≡ R.one) where
    back : g ≡ R.mul w h
    back = ring1 R laws (λ g. g) (λ g. unit ⊗ g) refl g ∙ ap (λ t. R.mul t g) (sym one)
        ∙ laws.mul_assoc w u g ∙ ap (R.mul w) (sym e)

    divisor : (a : R.carrier) → Divides R g a → Divides R h a
    divisor a k = divides_trans R laws h g a (w, back) k

    multiple : (d : R.carrier) → Divides R d g → Divides R d h
    multiple d k = divides_trans R laws d g h k (u, e)

    pub gcd-unit : (a b : R.carrier) → IsGcd R a b g → IsGcd R a b h
    gcd-unit a b k = record {
      of_first = divisor a k.of_first;
      of_second = divisor b k.of_second;
      greatest = λ d m n. multiple d (k.greatest d m n);
    }

    pub gcds-unit : (a : R.carrier) (f : List R.carrier) (n : ℕ) → IsGcdOfAll R a f n g
        → IsGcdOfAll R a f n h
    gcds-unit a f n k = record {
      of_first = divisor a k.of_first;
      of_each = λ i l. divisor
          (coeff R f i) (k.of_each i l);
      greatest = λ d m n. multiple d (k.greatest d m n);
    }

  -- one after another
  module _ (a : R.carrier) (f : List R.carrier) where
    pub gcds-start : IsGcdOfAll R a f 0 a
    gcds-start = record {
      of_first = (R.one, ring1 R laws (λ a. a) (λ a. unit ⊗ a) refl a);
      of_each = λ i l. absurd (omega arith);
      greatest = λ d m n. m;
    }

    pub gcds-step : (n m : ℕ) (g h : R.carrier) → m ≡ suc n → IsGcdOfAll R a f n g
        → IsGcd R g (coeff R f n) h → IsGcdOfAll R a f m h
    gcds-step n m g h e k s = record {
      of_first = divides_trans R laws h g a s.of_first k.of_first;
      of_each = λ i l. each i l (cases_lt i n);
      greatest = λ d u v. s.greatest d (k.greatest d u (λ i l. v i (omega arith)))
          (v n (omega arith));
    }
      where
        each : (i : ℕ) → i < m → (i < n) ⊎ (n ≤ i) → Divides R h (coeff R f i)
        each i l (inl b) = divides_trans R laws h g (coeff R f i) s.of_first (k.of_each i b)
        each i l (inr b) = let q : n ≡ i = omega arith in subst (λ j. Divides R h (coeff R f j)) q
            s.of_second

    -- a unit divides all that follow
    pub gcds-stop : (n m : ℕ) (g w : R.carrier) → n ≤ m → R.mul w g ≡ R.one → IsGcdOfAll R a f n g
        → IsGcdOfAll R a f m g
    gcds-stop n m g w l one k = record {
      of_first = k.of_first;
      of_each = λ i b. (
        R.mul (coeff R f i) w,
        sym (laws.mul_one (coeff R f i))
            ∙ ap (R.mul (coeff R f i)) (sym one) ∙ sym (laws.mul_assoc (coeff R f i) w g),
      );
      greatest = λ d u v. k.greatest d u (λ i b. v i (omega arith));
    }
