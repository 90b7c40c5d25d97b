-- In the chart at t = 1/u: the residue modulo a power of t of an element given by rows in powers of
-- theta over one denominator in u, from quotients in u; and how long these are.
use Rattle.std.proofs.Common.{◌≡◌, ℕ, zero, suc, pred, max, ◌+◌ as plus_ℕ, ◌-◌, ◌*◌ as times_ℕ}
use Rattle.std.proofs.Common.{◌<◌, ◌≤◌, subst}
use Rattle.std.proofs.Common.{◌⊎◌, inl, inr, false, refl, sym, ◌∙◌, ap, ap₂, arith}
use Rattle.std.proofs.lemmas.Bool.{cases_lt}
use Rattle.ff_theory.specs.Ring.{RingOps, IsCommRing, power}
use Rattle.ff_theory.specs.Lawful.{Domain, Field}
use Rattle.ff_theory.specs.Map.{IsMap}
use Rattle.ff_theory.specs.Sum.{sum_below}
use Rattle.ff_theory.specs.Poly.{coeff, Poly, polynomials}
use Rattle.ff_theory.specs.Division.{size, IsDivision}
use Rattle.ff_theory.specs.Planes.{Plane}
use Rattle.ff_theory.specs.Monomial.{variable}
use Rattle.ff_theory.specs.Reversal.{reversal, Fits}
use Rattle.ff_theory.proofs.Solver.{◌⊕◌, ◌⊗◌, neg, unit, ring1, ring2, ring3, ring6}
use Rattle.ff_theory.proofs.Powers.{power-add, power-mul}
use Rattle.ff_theory.proofs.Frobenius.{power-power}
use Rattle.ff_theory.proofs.FrobeniusPoly.{map-power}
use Rattle.ff_theory.proofs.Sums.{sum-ext, sum-add, sum-mul}
use Rattle.ff_theory.proofs.Division.{top_nonzero, size-mul, size-mul-le, size-add, size-neg}
use Rattle.ff_theory.proofs.Division.{zero_from, x_mul_zero, x_mul_suc}
use Rattle.ff_theory.proofs.PolyMap.{polynomial_domain, same_false, size_nonzero, one_size}
use Rattle.ff_theory.proofs.PolyMap.{zero_size}
use Rattle.ff_charts.specs.Chart.{Chart, at_u, at_theta, InPowers, IsChart}
use Rattle.ff_charts.specs.FieldCharts.{inverted}
use Rattle.ff_charts.specs.Lattice.{IsResidue}
use Rattle.ff_charts.proofs.Chart.{at_u_map}
use Rattle.ff_charts.proofs.Reversal.{power-inverse, reversal_at, reversal_size}
use Rattle.ff_charts.proofs.Rows.{polynomial_of, value_of_listed}
use Rattle.ff_charts.proofs.InvertedChart.{to_t, theta_sum, theta_sum_t, at_variable}
use Rattle.ff_charts.proofs.InvertedChart.{variable_size, inverted_is_chart}

-- the size of a power of the variable
pub variable_power_size : (K : Field) (m : ℕ)
    → size K.ring (power (polynomials K.ring) (variable K.ring) m) ≡ suc m
variable_power_size K zero = one_size K
variable_power_size K (suc m) = let s : size K.ring (power (polynomials K.ring) (variable K.ring)
    (suc m)) ≡ suc (plus_ℕ 1 m) = size-mul K
    (variable K.ring) (power (polynomials K.ring) (variable K.ring) m) 1 m (variable_size K)
    (variable_power_size K m) in
    let z : suc (plus_ℕ 1 m) ≡ suc (suc m) = omega arith in s ∙ z

-- the coefficients of x^h times a polynomial
module _ (K : Field) where
  abbrev V : Poly K.ring
  V = variable K.ring

  abbrev DV : Domain
  DV = polynomial_domain K

  shift_step : (h : ℕ) (p : Poly K.ring)
      → DV.mul (power DV.ring (variable K.ring) (suc h)) p
      ≡ DV.mul (variable K.ring) (DV.mul (power DV.ring (variable K.ring) h) p)
  shift_step h p = DV.laws.mul_assoc (variable K.ring) (power DV.ring (variable K.ring) h) p

  pub shift_low : (h : ℕ) (p : Poly K.ring) (i : ℕ) → i < h → coeff K.ring ((polynomials
      K.ring).mul (power (polynomials K.ring) (variable K.ring) h) p).coeffs i ≡ K.zero
  shift_low zero p i l = absurd (omega (arith, l))
  shift_low (suc h) p zero l = ap (λ (q : Poly K.ring). coeff K.ring q.coeffs 0) (shift_step h p)
      ∙ x_mul_zero K.ring K.laws K.tests (DV.mul (power DV.ring (variable K.ring) h) p)
  shift_low (suc h) p (suc i) l = ap (λ (q : Poly K.ring). coeff K.ring q.coeffs (suc i))
      (shift_step h p)
      ∙ x_mul_suc K.ring K.laws K.tests (DV.mul (power DV.ring (variable K.ring) h) p) i
      ∙ shift_low h p i (omega (arith, l))

  -- and their number
  pub shift_size : (h : ℕ) (p : Poly K.ring) (b : ℕ) → size K.ring p ≡ suc b
      → size K.ring ((polynomials K.ring).mul (power (polynomials K.ring) (variable K.ring) h) p)
      ≡ suc (plus_ℕ h b)
  shift_size h p b e = size-mul K
      (power DV.ring (variable K.ring) h) p h b (variable_power_size K h) e

  -- Where x^h * (N + d * q) has a short quotient by x * d, and N is shorter than d, q is short.
  module _ (d N q Q R : Poly K.ring) (k h m : ℕ) (hd : size K.ring d ≡ suc k)
      (hN : size K.ring N ≤ k)
      (division : IsDivision K.ring ((polynomials K.ring).mul (power (polynomials K.ring)
      (variable K.ring) h) ((polynomials K.ring).add N ((polynomials K.ring).mul d q)))
      ((polynomials K.ring).mul (variable K.ring) d) Q R)
      (small : size K.ring Q ≤ m) where
    abbrev S : Poly K.ring
    S = DV.add N (DV.mul d q)

    divisor_size : size K.ring (DV.mul (variable K.ring) d) ≡ suc (suc k)
    divisor_size = let s : size K.ring (DV.mul (variable K.ring) d) ≡ suc (plus_ℕ 1 k)
        = size-mul K (variable K.ring) d 1 k
        (variable_size K) hd in omega (arith, s)

    raised_size : size K.ring (DV.mul (power DV.ring (variable K.ring) h) S)
        ≤ suc (plus_ℕ m k)
    raised_size = let e = ap (size K.ring) division.sum in
        let a : size K.ring (DV.mul Q (DV.mul (variable K.ring) d)) ≤ suc (plus_ℕ m k)
        = size-mul-le K.ring K.laws K.tests Q (DV.mul (variable K.ring) d) (suc (plus_ℕ m k))
        (omega (arith, divisor_size, small)) in
        let b : size K.ring R < size K.ring (DV.mul (variable K.ring) d) = division.smaller in
        let c : size K.ring (DV.add (DV.mul Q (DV.mul (variable K.ring) d)) R)
        ≤ suc (plus_ℕ m k) = size-add K.ring K.laws K.tests _ R (suc (plus_ℕ m k)) a
        (omega (arith, b, divisor_size)) in omega (arith, e, c)

    sum_size : (s : ℕ) → size K.ring S ≡ s → plus_ℕ h s ≤ suc (plus_ℕ m k) ⊎ (s ≡ 0)
    sum_size zero e = inr refl
    sum_size (suc b) e = inl (let z : size K.ring (DV.mul (power DV.ring (variable K.ring) h) S)
        ≡ suc (plus_ℕ h b) = shift_size h S b e in omega (arith, z, raised_size))

    -- d * q is the sum less N
    product_size : size K.ring (DV.mul d q) ≤ max (size K.ring S) k
    product_size = subst (λ p. size K.ring p ≤ max (size K.ring S) k)
        (ring2 DV.ring DV.laws (λ n p. (n ⊕ p) ⊕ neg n) (λ n p. p) refl N (DV.mul d q))
        (size-add K.ring K.laws K.tests S (DV.neg N) (max (size K.ring S) k)
        (omega arith)
        (let s : size K.ring (DV.neg N) ≤ size K.ring N = size-neg K.ring K.laws K.tests N in
        omega (arith, s, hN)))

    pub short_quotient : size K.ring q ≤ suc m - h
    short_quotient = go (size K.ring q) refl (sum_size (size K.ring S) refl)
      where
        go : (s : ℕ) → size K.ring q ≡ s
            → (plus_ℕ h (size K.ring S) ≤ suc (plus_ℕ m k)) ⊎ (size K.ring S ≡ 0)
            → size K.ring q ≤ suc m - h
        go zero e c = omega (arith, e)
        go (suc b) e (inl c) = let z : size K.ring (DV.mul d q) ≡ suc (plus_ℕ k b)
            = size-mul K d q k b hd e in
            omega (arith, e, c, z, product_size)
        go (suc b) e (inr c) = absurd (let z : size K.ring (DV.mul d q) ≡ suc (plus_ℕ k b)
            = size-mul K d q k b hd e in
            omega (arith, e, c, z, product_size))

module _ (K : Field) (A : RingOps) (AL : IsCommRing A) (c : Chart K.ring A) (l : IsChart K.ring A c)
    (t : A.carrier) (tu : A.mul t c.u ≡ A.one) (e : ℕ) (fits : Fits K.ring c.degree c.equation e)
    (n : ℕ) (d : Poly K.ring) (k : ℕ) (hd : size K.ring d ≡ suc k)
    (N : Plane K) (r : ℕ) (few : size (polynomials K.ring) N ≤ r) (within : r ≤ c.degree)
    (j : ℕ) (Q R : ℕ → Poly K.ring)
    (division : (i : ℕ) → i < r → IsDivision K.ring ((polynomials K.ring).mul
    (power (polynomials K.ring) (variable K.ring) (times_ℕ (plus_ℕ n i) e))
    (coeff (polynomials K.ring) N.coeffs i)) ((polynomials K.ring).mul (variable K.ring) d)
    (Q i) (R i))
    (small : (i : ℕ) → i < r → size K.ring (Q i) ≤ suc j) where
  infixl 60 ◌+◌
  infixl 70 ◌*◌
  open A use {add as ◌+◌, mul as ◌*◌, carrier as C}

  abbrev P : Domain
  P = polynomial_domain K

  abbrev X : Poly K.ring
  X = variable K.ring

  abbrev B : Chart K.ring A
  B = inverted c t e

  BL : IsChart K.ring A (inverted c t e)
  BL = inverted_is_chart K A AL c l t tu e fits

  abbrev E : C
  E = power A t e

  abbrev U : C
  U = power A c.u e

  abbrev ψ : C
  ψ = A.mul (power A t e) c.theta

  abbrev row_at : ℕ → Poly K.ring
  row_at i = coeff (polynomials K.ring) N.coeffs i

  map : IsMap (polynomials K.ring) A (at_u c)
  map = at_u_map K A AL c l

  map_t : IsMap (polynomials K.ring) A (at_u (inverted c t e))
  map_t = at_u_map K A AL B BL

  UE : (i : ℕ) → power A U i * power A E i ≡ A.one
  UE i = power-inverse A AL U E (AL.mul_comm E U ∙ power-inverse A AL c.u t tu e) i

  nd : (polynomials K.ring).same d (polynomials K.ring).zero ≡ false
  nd = size_nonzero K d k hd

  -- b / d, times powers of t and u
  abbrev pub inverted_b : A.carrier
  inverted_b = power A t (suc j) * (power A U n * (l.inverse d * at_theta c N))

  pub modulus_at : at_u (inverted c t e) (power (polynomials K.ring) (variable K.ring) (suc j))
      ≡ power A t (suc j)
  modulus_at = map-power (polynomials K.ring) A (at_u B) map_t (variable K.ring) (suc j)
      ∙ ap (λ s. power A s (suc j)) (at_variable K A AL c l t tu e fits t)

  -- a power of u
  at_power : (h : ℕ) → at_u c (power (polynomials K.ring) (variable K.ring) h) ≡ power A c.u h
  at_power h = map-power (polynomials K.ring) A (at_u c) map (variable K.ring) h
      ∙ ap (λ s. power A s h) (at_variable K A AL c l t tu e fits c.u)

  -- row i times its power of u, over d
  row_over : (i : ℕ) → i < r → l.inverse d * (power A U n * power A U i * at_u c (row_at i))
      ≡ at_u c (Q i) * c.u + l.inverse d * at_u c (R i)
  row_over i q = ap (λ s. l.inverse d * (s * at_u c (row_at i)))
      (sym (power-add A AL U n i) ∙ power-power A AL c.u e (plus_ℕ n i)
      ∙ sym (at_power (times_ℕ (plus_ℕ n i) e)))
      ∙ ap (A.mul (l.inverse d)) (sym (map.on_mul _ (row_at i)) ∙ ap (at_u c) (division i q).sum
      ∙ map.on_add _ (R i) ∙ ap (λ s. s + at_u c (R i)) (map.on_mul (Q i) (P.mul X d)
      ∙ ap (A.mul (at_u c (Q i))) (map.on_mul X d ∙ ap (λ s. s * at_u c d)
      (at_variable K A AL c l t tu e fits c.u))))
      ∙ ring6 A AL (λ i q u d r z. i ⊗ (q ⊗ (u ⊗ d) ⊕ r)) (λ i q u d r z. q ⊗ u ⊗ (i ⊗ d) ⊕ i ⊗ r)
      refl (l.inverse d) (at_u c (Q i)) c.u (at_u c d) (at_u c (R i)) t
      ∙ ap (λ s. at_u c (Q i) * c.u * s + l.inverse d * at_u c (R i)) (l.inverts d nd)
      ∙ ap (λ s. s + l.inverse d * at_u c (R i)) (AL.mul_one _)

  -- a power of theta by the one of t^e * theta
  theta_power : (i : ℕ) → power A c.theta i ≡ power A U i * power A ψ i
  theta_power i = ring1 A AL (λ s. s) (λ s. unit ⊗ s) refl (power A c.theta i)
      ∙ ap (λ s. s * power A c.theta i) (sym (UE i)) ∙ AL.mul_assoc _ _ _
      ∙ ap (A.mul (power A U i)) (sym (power-mul A AL E c.theta i))

  term : (i : ℕ) → i < r → power A t (suc j) * (power A U n * (l.inverse d
      * (at_u c (row_at i) * power A c.theta i)))
      ≡ at_u B (reversal K.ring j (Q i)) * power A ψ i
      + power A t (suc j) * (l.inverse d * at_u c (R i) * power A ψ i)
  term i q = ap (λ s. power A t (suc j) * (power A U n * (l.inverse d * (at_u c (row_at i) * s))))
      (theta_power i)
      ∙ ring6 A AL (λ t u d r v p. t ⊗ (u ⊗ (d ⊗ (r ⊗ (v ⊗ p)))))
      (λ t u d r v p. t ⊗ (d ⊗ (u ⊗ v ⊗ r)) ⊗ p) refl (power A t (suc j)) (power A U n)
      (l.inverse d)
      (at_u c (row_at i)) (power A U i) (power A ψ i)
      ∙ ap (λ s. power A t (suc j) * s * power A ψ i) (row_over i q)
      ∙ ring6 A AL (λ t s q u r p. (t ⊗ s) ⊗ (q ⊗ u ⊕ r) ⊗ p)
      (λ t s q u r p. (s ⊗ q) ⊗ (t ⊗ u) ⊗ p ⊕ (t ⊗ s) ⊗ (r ⊗ p)) refl t (power A t j)
      (at_u c (Q i)) c.u (l.inverse d * at_u c (R i)) (power A ψ i)
      ∙ ap (λ s. s * power A ψ i + power A t (suc j) * (l.inverse d * at_u c (R i) * power A ψ i))
      (ap₂ A.mul (to_t K A AL c l t tu e fits j (Q i) (small i q)) tu ∙ AL.mul_one _)

  abbrev rest : C
  rest = sum_below A r (λ i. l.inverse d * at_u c (R i) * power A ψ i)

  remainder_size : (i : ℕ) → i < r → size K.ring (R i) ≤ suc k
  remainder_size i q = let s : size K.ring (R i) < size K.ring (P.mul X d) = (division i q).smaller
      in
      let z : size K.ring (P.mul X d) ≡ suc (plus_ℕ 1 k) = size-mul K X d 1 k (variable_size K) hd
      in omega (arith, s, z)

  rest_powers : InPowers (inverted c t e)
      (sum_below A r (λ i. l.inverse d * at_u c (R i) * power A ψ i))
  rest_powers = record {
    unit = reversal K.ring k d;
    is_unit = ap (λ a. K.same a K.zero)
        (reversal_at K k d 0 (omega arith)
        ∙ (let z : k - 0 ≡ k = omega arith in ap (coeff K.ring d.coeffs) z))
        ∙ same_false K.ring K.tests _ K.zero (λ z. top_nonzero K.ring K.laws K.tests d k hd z);
    nums = polynomial_of (polynomials K.ring) P.laws P.tests r (λ i. reversal K.ring k (R i));
    clears = ap (λ p. p * rest) (sym (to_t K A AL c l t tu e fits k d (omega (arith, hd))))
        ∙ sym (sum-mul A AL r (power A t k * at_u c d) _)
        ∙ sum-ext A AL r _ _ (λ i q. ring6 A AL (λ t d i r p z. (t ⊗ d) ⊗ (i ⊗ r ⊗ p))
        (λ t d i r p z. (i ⊗ d) ⊗ (t ⊗ r) ⊗ p) refl (power A t k) (at_u c d) (l.inverse d)
        (at_u c (R i)) (power A ψ i) t
        ∙ ap (λ s. s * power A ψ i) (ap₂ A.mul (l.inverts d nd)
        (to_t K A AL c l t tu e fits k (R i) (remainder_size i q))
        ∙ ring1 A AL (λ s. unit ⊗ s) (λ s. s) refl (at_u B (reversal K.ring k (R i)))))
        ∙ sym (value_of_listed (polynomials K.ring) P.laws P.tests A AL (at_u B) map_t.on_zero
        ψ r (λ i. reversal K.ring k (R i)));
  }

  pub quotients_residue : (M : Plane K) → size (polynomials K.ring) M ≤ r
      → ((i : ℕ) → i < r → coeff (polynomials K.ring) M.coeffs i ≡ reversal K.ring j (Q i))
      → IsResidue (inverted c t e) (power (polynomials K.ring) (variable K.ring) (suc j)) inverted_b
      M
  quotients_residue M fewM rows = record {
    shape = record {
      rows = omega (arith, fewM, within);
      each = λ i. each i (cases_lt i r);
    };
    rest = rest;
    in_powers = rest_powers;
    sum = ap (λ s. power A t (suc j) * (power A U n * (l.inverse d * s)))
        (theta_sum K A AL c l t tu e fits N r few)
        ∙ ap (λ s. power A t (suc j) * (power A U n * s)) (sym (sum-mul A AL r (l.inverse d) _))
        ∙ ap (λ s. power A t (suc j) * s) (sym (sum-mul A AL r (power A U n) _))
        ∙ sym (sum-mul A AL r (power A t (suc j)) _)
        ∙ sum-ext A AL r _ _ term
        ∙ sum-add A AL r (λ i. at_u B (reversal K.ring j (Q i)) * power A ψ i)
        (λ i. power A t (suc j) * (l.inverse d * at_u c (R i) * power A ψ i))
        ∙ ap₂ A.add (sum-ext A AL r _ _ (λ i q. ap (λ h. at_u B h * power A ψ i) (sym (rows i q)))
        ∙ sym (theta_sum_t K A AL c l t tu e fits M r fewM))
        (sum-mul A AL r (power A t (suc j)) (λ i. l.inverse d * at_u c (R i) * power A ψ i)
        ∙ ap (λ s. s * rest) (sym modulus_at));
  }
    where
      each : (i : ℕ) → (i < r) ⊎ (r ≤ i) → size K.ring (coeff (polynomials K.ring) M.coeffs i)
          ≤ pred (size K.ring (power (polynomials K.ring) (variable K.ring) (suc j)))
      each i (inl q) = let s : size K.ring (coeff (polynomials K.ring) M.coeffs i)
          ≡ size K.ring (reversal K.ring j (Q i)) = ap (size K.ring) (rows i q) in
          let b : size K.ring (reversal K.ring j (Q i)) ≤ suc j = reversal_size K j (Q i) in
          let z : size K.ring (power (polynomials K.ring) (variable K.ring) (suc j)) ≡ suc (suc j)
          = variable_power_size K (suc j) in omega (arith, s, b, z)
      each i (inr q) = let s : size K.ring (coeff (polynomials K.ring) M.coeffs i)
          ≡ size K.ring P.zero = ap (size K.ring) (zero_from (polynomials K.ring) P.laws P.tests M i
          (omega (arith, fewM, q))) in
          let z : size K.ring P.zero ≡ 0 = zero_size K in omega (arith, s, z)

  -- w is the element, and w has a residue in the lattice of the power of t
  module _ (w : A.carrier) (over : A.mul (at_u c d) w ≡ at_theta c N) (first : n ≡ 0) where
    element_is : A.mul (power A U n) (l.inverse d * at_theta c N) ≡ w
    element_is = ap (λ n. power A U n * (l.inverse d * at_theta c N)) first
        ∙ ap (λ s. A.one * (l.inverse d * s)) (sym over)
        ∙ ring3 A AL (λ i d w. unit ⊗ (i ⊗ (d ⊗ w))) (λ i d w. (i ⊗ d) ⊗ w) refl (l.inverse d)
        (at_u c d) w ∙ ap (λ s. s * w) (l.inverts d nd) ∙ ring1 A AL (λ w. unit ⊗ w) (λ w. w) refl w

    pub element_residue : (M : Plane K) → size (polynomials K.ring) M ≤ r
        → ((i : ℕ) → i < r → coeff (polynomials K.ring) M.coeffs i ≡ reversal K.ring j (Q i))
        → IsResidue (inverted c t e) (power (polynomials K.ring) (variable K.ring) (suc j))
        (A.mul (at_u (inverted c t e) (power (polynomials K.ring) (variable K.ring) (suc j))) w) M
    element_residue M fewM rows = subst (λ b. IsResidue (inverted c t e)
        (power (polynomials K.ring) (variable K.ring) (suc j)) b M)
        (ap₂ A.mul (sym modulus_at) element_is) (quotients_residue M fewM rows)
