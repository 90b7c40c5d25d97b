-- Division with remainder over a domain, after a multiplication by a power of the leading
-- coefficient.
use Rattle.std.proofs.Common.{◌≡◌, ℕ, zero, suc, ◌<◌, ◌≤◌, ◌⊎◌, inl, inr, false, List, [], ◌∷◌}
use Rattle.std.proofs.Common.{refl, sym, ◌∙◌, ap, ap₂, arith}
use Rattle.std.proofs.lemmas.Bool.{cases_lt}
use Rattle.ff_theory.specs.Ring.{RingOps, IsCommRing}
use Rattle.ff_theory.specs.Lawful.{Domain}
use Rattle.ff_theory.specs.Poly.{coeff, Poly, poly, polynomials}
use Rattle.ff_theory.specs.Division.{size}
use Rattle.ff_theory.proofs.Solver.{◌⊕◌, ◌⊗◌, neg, nil, ring2, ring6}
use Rattle.ff_theory.proofs.Poly.{Poly_path, trim_same, trim-coeff, polynomial_laws}
use Rattle.ff_theory.proofs.Evaluate.{const_map}
use Rattle.ff_theory.proofs.Division.{const, x, cons, const_mul_at, x_mul_suc, add_at, neg_at}
use Rattle.ff_theory.proofs.Division.{zero_from, size_le}

module _ (D : Domain) (F : Poly D.ring) (n : ℕ) (rows : size D.ring F ≡ suc n)
    (lead_nonzero : D.same (coeff D.ring F.coeffs n) D.zero ≡ false) where
  abbrev R : RingOps
  R = D.ring

  abbrev P : RingOps
  P = polynomials D.ring

  PL : IsCommRing (polynomials D.ring)
  PL = polynomial_laws D.ring D.laws D.tests

  abbrev C : D.carrier → Poly D.ring
  C c = const D.ring D.laws D.tests c

  -- c * a is q * F + r for an element c that is not zero, and r has at most n coefficients
  pub record PseudoDivided (a : Poly D.ring) : Type 0 where
    pub c : D.carrier
    pub nonzero : D.same c D.zero ≡ false
    pub q : Poly D.ring
    pub r : Poly D.ring
    pub sum : (polynomials D.ring).mul (const D.ring D.laws D.tests c) a
        ≡ (polynomials D.ring).add ((polynomials D.ring).mul q F) r
    pub small : size D.ring r ≤ n

  -- from p to b + x * p
  step : (b : D.carrier) (p : Poly D.ring) → PseudoDivided p
      → PseudoDivided (P.add (C b) (P.mul (x R D.laws D.tests) p))
  unfolding poly
  step b p d = record {
    c = D.mul lead d.c;
    nonzero = D.no_divisors lead d.c lead_nonzero d.nonzero;
    q = P.add (P.mul (C lead) (P.mul X d.q)) (C a);
    r = r;
    sum = whole;
    small = size_le R D.laws D.tests r n none;
  }
    where
      lead : D.carrier
      lead = coeff R F.coeffs n

      X : Poly R
      X = x R D.laws D.tests

      w : Poly R
      w = P.add (C (D.mul d.c b)) (P.mul X d.r)

      a : D.carrier
      a = coeff R w.coeffs n

      r : Poly R
      r = P.add (P.mul (C lead) w) (P.neg (P.mul (C a) F))

      whole : P.mul (C (D.mul lead d.c)) (P.add (C b) (P.mul X p))
          ≡ P.add (P.mul (P.add (P.mul (C lead) (P.mul X d.q)) (C a)) F) r
      whole = ap (λ t. P.mul t (P.add (C b) (P.mul X p)))
          ((const_map R D.laws D.tests).on_mul lead d.c)
          ∙ ring6 P PL (λ l c b x p o. (l ⊗ c) ⊗ (b ⊕ x ⊗ p))
          (λ l c b x p o. l ⊗ (c ⊗ b ⊕ x ⊗ (c ⊗ p)))
          refl (C lead) (C d.c) (C b) X p p
          ∙ ap (λ t. P.mul (C lead) (P.add (P.mul (C d.c) (C b)) (P.mul X t))) d.sum
          ∙ ap (λ t. P.mul (C lead) (P.add t (P.mul X (P.add (P.mul d.q F) d.r))))
          (sym ((const_map R D.laws D.tests).on_mul d.c b))
          ∙ regroup (C lead) (C (D.mul d.c b)) X d.q F d.r (C a)
        where
          regroup : (l b x q f r a : Poly D.ring)
              → P.mul l (P.add b (P.mul x (P.add (P.mul q f) r)))
              ≡ P.add (P.mul (P.add (P.mul l (P.mul x q)) a) f)
              (P.add (P.mul l (P.add b (P.mul x r))) (P.neg (P.mul a f)))
          regroup l b x q f r a =
              ring6 P PL (λ l b x q f r. l ⊗ (b ⊕ x ⊗ (q ⊗ f ⊕ r)))
              (λ l b x q f r. (l ⊗ (x ⊗ q)) ⊗ f ⊕ l ⊗ (b ⊕ x ⊗ r)) refl l b x q f r
              ∙ ring6 P PL (λ m f v a o z. m ⊗ f ⊕ v)
              (λ m f v a o z. (m ⊕ a) ⊗ f ⊕ (v ⊕ neg (a ⊗ f)))
              refl (P.mul l (P.mul x q)) f (P.mul l (P.add b (P.mul x r))) a a a

      at_r : (i : ℕ) → coeff R r.coeffs i
          ≡ D.add (D.mul lead (coeff R w.coeffs i)) (D.neg (D.mul a (coeff R F.coeffs i)))
      at_r i = add_at R D.laws D.tests (P.mul (C lead) w) (P.neg (P.mul (C a) F)) i
          ∙ ap₂ D.add (const_mul_at R D.laws D.tests lead w i)
          (neg_at R D.laws D.tests (P.mul (C a) F) i
          ∙ ap D.neg (const_mul_at R D.laws D.tests a F i))

      past : (j : ℕ) → n ≤ j → coeff R w.coeffs (suc j) ≡ D.zero
      past j l = add_at R D.laws D.tests (C (D.mul d.c b)) (P.mul X d.r) (suc j)
          ∙ ap₂ D.add (trim-coeff R D.laws D.tests (D.mul d.c b ∷ []) (suc j))
          (x_mul_suc R D.laws D.tests d.r j ∙ zero_from R D.laws D.tests d.r j
          (let s : size R d.r ≤ n = d.small in omega (arith, s)))
          ∙ D.laws.add_zero D.zero

      beyond : (i : ℕ) → n < i → coeff R r.coeffs i ≡ D.zero
      beyond zero l = absurd (omega arith)
      beyond (suc j) l = at_r (suc j)
          ∙ ap₂ (λ s t. D.add (D.mul lead s) (D.neg (D.mul a t))) (past j (omega arith))
          (zero_from R D.laws D.tests F (suc j) (omega (arith, rows)))
          ∙ ring2 R D.laws (λ l a. l ⊗ nil ⊕ neg (a ⊗ nil)) (λ l a. nil) refl lead a

      none : (i : ℕ) → n ≤ i → coeff R r.coeffs i ≡ D.zero
      none i l = go (cases_lt n i)
        where
          go : (n < i) ⊎ (i ≤ n) → coeff R r.coeffs i ≡ D.zero
          go (inl m) = beyond i m
          go (inr m) = let e : i ≡ n = omega arith in ap (coeff R r.coeffs) e ∙ at_r n
              ∙ ring2 R D.laws (λ l a. l ⊗ a ⊕ neg (a ⊗ l)) (λ l a. nil) refl lead a

  transported : {a b : Poly D.ring} → a ≡ b → PseudoDivided b → PseudoDivided a
  transported e d = record {
    c = d.c;
    nonzero = d.nonzero;
    q = d.q;
    r = d.r;
    sum = ap (P.mul (C d.c)) e ∙ d.sum;
    small = d.small;
  }

  divide_list : (p : List D.carrier) → PseudoDivided (poly R p)
  unfolding poly
  divide_list [] = record {
    c = D.one;
    nonzero = D.proper;
    q = P.zero;
    r = P.zero;
    sum = ring2 P PL (λ c f. c ⊗ nil) (λ c f. nil ⊗ f ⊕ nil) refl (C D.one) F;
    small = size_le R D.laws D.tests P.zero n (λ i l. trim-coeff R D.laws D.tests [] i);
  }
  divide_list (c ∷ p) = transported (cons R D.laws D.tests c p) (step c (poly R p) (divide_list p))

  pub pseudo_divide : (a : Poly D.ring) → PseudoDivided a
  unfolding poly
  pseudo_divide a = transported (sym (Poly_path R (poly R a.coeffs) a
      (trim_same R D.laws D.tests a.coeffs a.canonical))) (divide_list a.coeffs)
