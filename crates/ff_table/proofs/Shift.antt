-- The value of a moved polynomial; the leading polynomial of a moved polynomial is the moved
-- leading polynomial.
use Rattle.std.proofs.Common.{◌≡◌, List, [], ◌∷◌, refl, ◌∙◌, ap, ap₂}
use Rattle.ff_theory.specs.Ring.{RingOps, IsCommRing}
use Rattle.ff_theory.specs.Poly.{coeff}
use Rattle.ff_table.specs.Shift.{value_at}
use Rattle.ff_theory.proofs.Solver.{◌⊕◌, ◌⊗◌, nil, ring2, ring3, ring6, add_mul}
use Rattle.ff_table.specs.Shift.{carry, shift, leading, IsLinear}

module _ (R : RingOps) (laws : IsCommRing R) where
  infixl 60 ◌+◌
  infixl 70 ◌*◌
  open R use {add as ◌+◌, mul as ◌*◌, carrier as C}

  carry-value : (a y h : C) (p : List C) → value_at R y (carry R a h p)
      ≡ h + (a + y) * value_at R y p
  carry-value a y h [] = ring3 R laws (λ a y h. h ⊕ y ⊗ nil) (λ a y h. h ⊕ (a ⊕ y) ⊗ nil) refl a y h
  carry-value a y h (x ∷ p) = ap (λ t. h + a * x + y * t) (carry-value a y x p)
      ∙ regroup R laws a y h x (value_at R y p)
    where
      regroup : (R : RingOps) (laws : IsCommRing R) (a y h x v : R.carrier)
          → R.add (R.add h (R.mul a x)) (R.mul y (R.add x (R.mul (R.add a y) v)))
          ≡ R.add h (R.mul (R.add a y) (R.add x (R.mul y v)))
      regroup R laws a y h x v = ring6 R laws (λ a y h x v z. (h ⊕ a ⊗ x) ⊕ y ⊗ (x ⊕ (a ⊕ y) ⊗ v))
          (λ a y h x v z. h ⊕ (a ⊕ y) ⊗ (x ⊕ y ⊗ v)) refl a y h x v v

  -- p(a + Z) at y is p at a + y
  pub shift-value : (a y : C) (p : List C) → value_at R y (shift R a p) ≡ value_at R (a + y) p
  shift-value a y [] = refl
  shift-value a y (h ∷ p) = carry-value a y h (shift R a p)
      ∙ ap (λ t. h + (a + y) * t) (shift-value a y p)

  -- the value at 0 is the first coefficient
  pub value-first : (q : List C) → value_at R R.zero q ≡ coeff R q 0
  value-first [] = refl
  value-first (h ∷ q) = ring2 R laws (λ h v. h ⊕ nil ⊗ v) (λ h v. h) refl h (value_at R R.zero q)

module _ (R k : RingOps) (laws : IsCommRing R) (scale : k.carrier → R.carrier → R.carrier)
    (moves : (c : k.carrier) (a b : R.carrier) → R.mul (scale c a) b ≡ scale c (R.mul a b)) where
  times_linear : (phi : R.carrier → k.carrier) (u : R.carrier) → IsLinear R k scale phi
      → IsLinear R k scale (λ a. phi (R.mul a u))
  times_linear phi u l = record {
    on_add = λ a b. ap phi (add_mul R laws a b u) ∙ l.on_add _ _;
    on_scale = λ c a. ap phi (moves c a u) ∙ l.on_scale c _;
  }

  leading-carry : (phi : R.carrier → k.carrier) (u h : R.carrier) (c : k.carrier)
      (p : List R.carrier) → IsLinear R k scale phi
      → leading R phi u (carry R (scale c u) h p)
      ≡ carry k c (phi h) (leading R (λ a. phi (R.mul a u)) u p)
  leading-carry phi u h c [] l = refl
  leading-carry phi u h c (x ∷ p) l = ap₂ (λ s t. s ∷ t)
      (l.on_add h _ ∙ ap (k.add (phi h))
      (ap phi (moves c u x) ∙ l.on_scale c _ ∙ ap (λ t. k.mul c (phi t)) (laws.mul_comm u x)))
      (leading-carry (λ a. phi (R.mul a u)) u x c p (times_linear phi u l))

  pub leading-shift : (phi : R.carrier → k.carrier) (u : R.carrier) (c : k.carrier)
      (p : List R.carrier) → IsLinear R k scale phi
      → leading R phi u (shift R (scale c u) p) ≡ shift k c (leading R phi u p)
  leading-shift phi u c [] l = refl
  leading-shift phi u c (h ∷ p) l = leading-carry phi u h c (shift R (scale c u) p) l
      ∙ ap (carry k c (phi h)) (leading-shift (λ a. phi (R.mul a u)) u c p (times_linear phi u l))
