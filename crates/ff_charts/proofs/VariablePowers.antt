-- Each polynomial that is not 0 is a power of the variable times one whose constant coefficient is
-- not 0.
use Rattle.std.proofs.Common.{◌≡◌, ℕ, zero, suc, Bool, true, false, cond, List, [], ◌∷◌, refl, sym}
use Rattle.std.proofs.Common.{◌∙◌, ap, ap₂}
use Rattle.ff_theory.specs.Divides.{IsCoprime}
use Rattle.ff_theory.specs.Ring.{power}
use Rattle.ff_theory.specs.Lawful.{Domain, Field}
use Rattle.ff_theory.specs.Poly.{coeff, Poly, poly, polynomials}
use Rattle.ff_theory.proofs.Solver.{◌⊕◌, ◌⊗◌, neg, nil, unit, ring1, ring4, ring6, mul_zero}
use Rattle.ff_theory.proofs.Poly.{Poly_path, trim_same, trim-coeff}
use Rattle.ff_theory.proofs.Division.{const, x, cons, mul_at}
use Rattle.ff_theory.proofs.Evaluate.{const_map}
use Rattle.ff_theory.proofs.PolyMap.{polynomial_domain, same_false}

module _ (K : Field) where
  abbrev D : Domain
  D = polynomial_domain K

  abbrev X : Poly K.ring
  X = x K.ring K.laws K.tests

  -- the number of zeros at the front of a list, and the polynomial of what follows
  pub zeros : List K.carrier → ℕ
  zeros [] = 0
  zeros (c ∷ p) = cond (K.same c K.zero) (suc (zeros p)) 0

  pub after_zeros : List K.carrier → Poly K.ring
  after_zeros [] = (polynomials K.ring).one
  after_zeros (c ∷ p) = cond (K.same c K.zero) (after_zeros p) (poly K.ring (c ∷ p))

  -- not all entries are zero
  pub splits_list : (p : List K.carrier) → ¬ (poly K.ring p ≡ (polynomials K.ring).zero)
      → poly K.ring p ≡ (polynomials K.ring).mul
      (power (polynomials K.ring) (x K.ring K.laws K.tests) (zeros p)) (after_zeros p)
  unfolding zeros after_zeros
  splits_list [] n = absurd (n refl)
  splits_list (c ∷ p) n = go (K.same c K.zero) refl (λ h. splits_list p h)
    where
      shift : K.same c K.zero ≡ true → poly K.ring (c ∷ p) ≡ D.mul X (poly K.ring p)
      shift e = cons K.ring K.laws K.tests c p
          ∙ ap (λ t. D.add t (D.mul X (poly K.ring p)))
          (ap (const K.ring K.laws K.tests) (K.tests.same_true c K.zero e)
          ∙ (const_map K.ring K.laws K.tests).on_zero)
          ∙ ring1 D.ring D.laws (λ a. nil ⊕ a) (λ a. a) refl (D.mul X (poly K.ring p))

      go : (b : Bool) → K.same c K.zero ≡ b
          → (¬ (poly K.ring p ≡ (polynomials K.ring).zero) → poly K.ring p
          ≡ (polynomials K.ring).mul (power (polynomials K.ring) (x K.ring K.laws K.tests)
          (zeros p)) (after_zeros p))
          → poly K.ring (c ∷ p) ≡ D.mul (power (polynomials K.ring) X (cond b (suc (zeros p)) 0))
          (cond b (after_zeros p) (poly K.ring (c ∷ p)))
      go true e rest = shift e ∙ ap (D.mul X) (rest (λ h. n (shift e ∙ ap (D.mul X) h ∙ mul_zero
          D.ring D.laws X))) ∙ sym (D.laws.mul_assoc X (power (polynomials K.ring) X (zeros p))
          (after_zeros p))
      go false e rest = ring1 D.ring D.laws (λ a. a) (λ a. unit ⊗ a) refl (poly K.ring (c ∷ p))

  pub one_at_zero : coeff K.ring (polynomials K.ring).one.coeffs 0 ≡ K.one
  unfolding poly
  one_at_zero = trim-coeff K.ring K.laws K.tests (K.one ∷ []) 0

  pub starts_nonzero : (p : List K.carrier) → K.same (coeff K.ring (after_zeros p).coeffs 0) K.zero
      ≡ false
  unfolding after_zeros poly
  starts_nonzero [] = ap (λ t. K.same t K.zero) one_at_zero
      ∙ same_false K.ring K.tests K.one K.zero K.is_field.one_not_zero
  starts_nonzero (c ∷ p) = go (K.same c K.zero) refl (starts_nonzero p)
    where
      go : (b : Bool) → K.same c K.zero ≡ b → K.same (coeff K.ring (after_zeros p).coeffs 0) K.zero
          ≡ false → K.same (coeff K.ring (cond b (after_zeros p) (poly K.ring (c ∷ p))).coeffs 0)
          K.zero ≡ false
      go true e rest = rest
      go false e rest = ap (λ t. K.same t K.zero) (trim-coeff K.ring K.laws K.tests (c ∷ p) 0) ∙ e

  pub product_at_zero : (s t : Poly K.ring) → coeff K.ring ((polynomials K.ring).mul s t).coeffs 0
      ≡ K.mul (coeff K.ring s.coeffs 0) (coeff K.ring t.coeffs 0)
  product_at_zero s t = mul_at K.ring K.laws K.tests s t 0

  -- a polynomial whose constant coefficient is not 0 is coprime to the variable
  coprime_x : (p : List K.carrier) (s : Poly K.ring) → s.coeffs ≡ p
      → ¬ (coeff K.ring s.coeffs 0 ≡ K.zero) → IsCoprime (polynomials K.ring) s X
  unfolding poly
  coprime_x [] s e n = absurd (n (ap (λ l. coeff K.ring l 0) e))
  coprime_x (c ∷ p) s e n = record {
    u = const K.ring K.laws K.tests i;
    v = D.neg (D.mul (const K.ring K.laws K.tests i) (poly K.ring p));
    one = ap (λ t. D.add (D.mul (const K.ring K.laws K.tests i) t)
        (D.mul (D.neg (D.mul (const K.ring K.laws K.tests i) (poly K.ring p))) X)) whole
        ∙ ring4 D.ring D.laws (λ i c x p. i ⊗ (c ⊕ x ⊗ p) ⊕ neg (i ⊗ p) ⊗ x) (λ i c x p. i ⊗ c) refl
        (const K.ring K.laws K.tests i) (const K.ring K.laws K.tests c) X (poly K.ring p)
        ∙ sym ((const_map K.ring K.laws K.tests).on_mul i c)
        ∙ ap (const K.ring K.laws K.tests)
        (K.laws.mul_comm i c ∙ K.is_field.mul_inverse c
        (λ h. n (ap (λ l. coeff K.ring l 0) e ∙ h))) ∙ (const_map K.ring K.laws K.tests).on_one;
  }
    where
      i : K.carrier
      i = K.inverse c

      whole : s ≡ D.add (const K.ring K.laws K.tests c) (D.mul X (poly K.ring p))
      whole = sym (Poly_path K.ring (poly K.ring s.coeffs) s
          (trim_same K.ring K.laws K.tests s.coeffs s.canonical)) ∙ ap (poly K.ring) e
          ∙ cons K.ring K.laws K.tests c p

  -- what is coprime to a and to b is coprime to a * b
  pub coprime_product : (s a b : Poly K.ring) → IsCoprime (polynomials K.ring) s a
      → IsCoprime (polynomials K.ring) s b
      → IsCoprime (polynomials K.ring) s ((polynomials K.ring).mul a b)
  coprime_product s a b p q = record {
    u = D.add (D.mul p.u (D.add (D.mul q.u s) (D.mul q.v b))) (D.mul (D.mul p.v a) q.u);
    v = D.mul p.v q.v;
    one = ap (D.add (D.mul (D.add (D.mul p.u (D.add (D.mul q.u s) (D.mul q.v b))) (D.mul (D.mul p.v
        a) q.u)) s)) (ring4 D.ring D.laws (λ v w a b. (v ⊗ w) ⊗ (a ⊗ b))
        (λ v w a b. (v ⊗ a) ⊗ (w ⊗ b)) refl p.v q.v a b)
        ∙ ring6 D.ring D.laws (λ u s v w q z. (u ⊗ (w ⊗ s ⊕ q) ⊕ v ⊗ w) ⊗ s ⊕ v ⊗ q)
        (λ u s v w q z. (u ⊗ s ⊕ v) ⊗ (w ⊗ s ⊕ q)) refl p.u s (D.mul p.v a) q.u (D.mul q.v b) s
        ∙ ap₂ D.mul p.one q.one ∙ D.laws.mul_one D.one;
  }

  -- and to each power of the variable
  pub coprime_power : (s : Poly K.ring) → ¬ (coeff K.ring s.coeffs 0 ≡ K.zero) → (j : ℕ)
      → IsCoprime (polynomials K.ring) s (power (polynomials K.ring) (x K.ring K.laws K.tests) j)
  coprime_power s n zero = record {
    u = D.zero;
    v = D.one;
    one = ring1 D.ring D.laws (λ s. nil ⊗ s ⊕ unit ⊗ unit) (λ s. unit)
        refl s;
  }
  coprime_power s n (suc j) = coprime_product s X (power D.ring X j) (coprime_x s.coeffs s refl n)
      (coprime_power s n j)
