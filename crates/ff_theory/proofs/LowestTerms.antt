-- Common divisors of lists of polynomials; fractions in lowest terms exist, and are unique.
use Rattle.std.proofs.Common.{◌≡◌, ℕ, zero, suc, pred, ◌+◌, ◌<◌, ◌≤◌, ◌⊎◌, inl, inr, Bool, true}
use Rattle.std.proofs.Common.{false, cond, ltb, List, [], ◌∷◌, length, refl}
use Rattle.std.proofs.Common.{sym, ◌∙◌, ap, ap₂, subst, arith}
use Rattle.std.proofs.lemmas.Bool.{cases_lt, ltb-true, lt-ltb, eqb-true, eq-eqb}
use mathlib.Core.HLevel.{is_prop→PathP}
use mathlib.Core.Bool.{Bool-set}
use Rattle.ff_theory.specs.Ring.{RingOps, IsCommRing}
use Rattle.ff_theory.specs.Lawful.{Domain, Field}
use Rattle.ff_theory.specs.Poly.{coeff, Poly, poly, polynomials}
use Rattle.ff_theory.specs.Division.{size, leading_coeff}
use Rattle.ff_theory.specs.Divides.{Divides}
use Rattle.ff_theory.specs.Euclid.{quotient, gcd_within, common_divisor}
use Rattle.ff_theory.specs.Lists.{listed}
use Rattle.ff_theory.specs.LowestTerms.{IsLowest, cancelled, lowest_den, lowest_nums}
use Rattle.ff_theory.proofs.Euclid.{exact_quotient}
use Rattle.ff_theory.proofs.Divides.{divides_add, divides_left, divides_trans}
use Rattle.ff_theory.proofs.Solver.{◌⊕◌, ◌⊗◌, neg, unit, ring1, ring3, ring4, ring6, mul_zero}
use Rattle.ff_theory.proofs.Solver.{zero_mul, add_cancel}
use Rattle.ff_theory.proofs.Poly.{Poly_ext, trim-coeff, polynomial_laws}
use Rattle.ff_theory.proofs.Division.{const, const_mul_at, zero_from, top_nonzero, size-mul}
use Rattle.ff_theory.proofs.Gcd.{Bezout, bezout, no_size, gcd_matches}
use Rattle.ff_theory.proofs.PolyMap.{same_false, not_same, zero_size, nonzero_size, one_size}
use Rattle.ff_theory.proofs.PolyMap.{polynomial_domain}
use Rattle.ff_theory.proofs.QuotientUnits.{unit_poly}

-- cancelling in a domain
module _ (D : Domain) where
  pub cancel : (a b c : D.carrier) → D.same c D.zero ≡ false → D.mul a c ≡ D.mul b c → a ≡ b
  cancel a b c n e = go (D.same d D.zero) refl
    where
      d : D.carrier
      d = D.add a (D.neg b)

      product : D.mul d c ≡ D.zero
      product = ring3 D.ring D.laws (λ a b c. (a ⊕ neg b) ⊗ c) (λ a b c. a ⊗ c ⊕ neg (b ⊗ c)) refl a
          b c ∙ ap (λ t. D.add t (D.neg (D.mul b c))) e ∙ D.laws.add_neg (D.mul b c)

      go : (t : Bool) → D.same d D.zero ≡ t → a ≡ b
      go true h = add_cancel D.ring D.laws a b (D.neg b) (D.tests.same_true d D.zero h
          ∙ sym (D.laws.add_neg b))
      go false h = absurd (not_same D.ring D.tests (D.mul d c) D.zero (D.no_divisors d c h n)
          product)

module _ (K : Field) where
  abbrev P : Type 0
  P = Poly K.ring

  abbrev R : RingOps
  R = polynomials K.ring

  abbrev D : Domain
  D = polynomial_domain K

  PL : IsCommRing (polynomials K.ring)
  PL = polynomial_laws K.ring K.laws K.tests

  -- g is the greatest common divisor of c and h 0 .. h (n - 1)
  pub record ListGcd (c : Poly K.ring) (h : ℕ → Poly K.ring) (n : ℕ) : Type 0 where
    pub g : Poly K.ring
    pub of_c : Divides (polynomials K.ring) g c
    pub part : ℕ → Poly K.ring
    pub of_each : (i : ℕ) → i < n → h i ≡ (polynomials K.ring).mul (part i) g
    pub greatest : (a w : Poly K.ring)
        → Divides (polynomials K.ring) a ((polynomials K.ring).mul w c)
        → ((i : ℕ) → i < n → Divides (polynomials K.ring) a ((polynomials K.ring).mul w (h i)))
        → Divides (polynomials K.ring) a ((polynomials K.ring).mul w g)

  gcd_step : (c : P) (h : ℕ → P) (n : ℕ) → (d : ListGcd c h n) → Bezout K.ring d.g (h n)
      → ListGcd c h (suc n)
  gcd_step c h n d e = record {
    g = e.g;
    of_c = divides_trans (polynomials K.ring) PL e.g d.g c (e.s, e.of_a) d.of_c;
    part = part;
    of_each = λ i l. each i (ltb i n) refl (cases_lt i n) l;
    greatest = λ a w hc hs. subst (Divides (polynomials K.ring) a) (sym (whole w))
        (divides_add (polynomials K.ring) PL a _ _ (divides_left (polynomials K.ring) PL a e.u
        (R.mul w d.g) (d.greatest a w hc (λ i l. hs i (omega arith))))
        (divides_left (polynomials K.ring) PL a e.v (R.mul w (h n)) (hs n (omega arith))));
  }
    where
      part : ℕ → P
      part i = cond (ltb i n) (R.mul (d.part i) e.s) e.t

      each : (i : ℕ) (b : Bool) → ltb i n ≡ b → (i < n) ⊎ (n ≤ i) → i < suc n → h i
          ≡ R.mul (part i) e.g
      each i b k (inl l) m = d.of_each i l ∙ ap (R.mul (d.part i)) e.of_a
          ∙ sym (PL.mul_assoc (d.part i) e.s e.g)
          ∙ ap (λ b. R.mul (cond b (R.mul (d.part i) e.s) e.t) e.g) (sym (lt-ltb i n l))
      each i true k (inr l) m = let x : i < n = ltb-true i n k in absurd (omega (arith, x))
      each i false k (inr l) m = let x : i ≡ n = omega arith in ap h x ∙ e.of_b
          ∙ ap (λ b. R.mul (cond b (R.mul (d.part i) e.s) e.t) e.g) (sym k)

      whole : (w : P) → R.mul w e.g ≡ R.add (R.mul e.u (R.mul w d.g)) (R.mul e.v (R.mul w (h n)))
      whole w = ap (R.mul w) e.combination ∙ ring6 R PL (λ w u a v b z. w ⊗ (u ⊗ a ⊕ v ⊗ b))
          (λ w u a v b z. u ⊗ (w ⊗ a) ⊕ v ⊗ (w ⊗ b)) refl w e.u d.g e.v (h n) w

  pub list_gcd : (c : Poly K.ring) (h : ℕ → Poly K.ring) (n : ℕ) → ListGcd c h n
  list_gcd c h zero = record {
    g = c;
    of_c = (R.one, ring1 R PL (λ c. c) (λ c. unit ⊗ c) refl c);
    part = λ i. c;
    of_each = λ i l. absurd (omega arith);
    greatest = λ a w hc hs. hc;
  }
  list_gcd c h (suc n) = gcd_step c h n (list_gcd c h n)
      (bezout K (size K.ring (h n)) (list_gcd c h n).g (h n) (omega arith))

  -- it is the one of specs/Euclid
  pub common_matches : (c : Poly K.ring) (h : ℕ → Poly K.ring) (n : ℕ) → (list_gcd c h n).g
      ≡ common_divisor K c h n
  unfolding list_gcd gcd_step
  common_matches c h zero = refl
  common_matches c h (suc n) = gcd_matches K
      (size K.ring (h n)) (list_gcd c h n).g (h n) (omega arith)
      ∙ ap (λ t. gcd_within K (size K.ring (h n)) t (h n)) (common_matches c h n)

  abbrev leading : Poly K.ring → K.carrier
  leading p = leading_coeff K.ring p

  -- a denominator and n numerators in lowest terms
  pub record Reduced (n : ℕ) : Type 0 where
    pub den : Poly K.ring
    pub nums : List (Poly K.ring)
    pub lowest : IsLowest K n den nums

  pub lowest_prop : (n : ℕ) (den : Poly K.ring) (nums : List (Poly K.ring))
      → IsProp (IsLowest K n den nums)
  lowest_prop n den nums s t = λ i. record {
    monic = Bool-set _ true s.monic t.monic i;
    count = Bool-set _ true s.count t.count i;
    lowest = λ d h k. Bool-set _ true (s.lowest d h k) (t.lowest d h k) i;
  }

  Reduced_path : (n : ℕ) (s t : Reduced n) → s.den ≡ t.den → s.nums ≡ t.nums → s ≡ t
  Reduced_path n s t e h = λ i. record {
    den = e i;
    nums = h i;
    lowest = is_prop→PathP (λ i. IsLowest K n (e i) (h i)) (λ i. lowest_prop n (e i) (h i))
        s.lowest t.lowest i;
  }

  -- the sizes of a quotient
  quotient_size : (a b q : P) (m n : ℕ) → b ≡ R.mul q a → size K.ring a ≡ suc m → size K.ring b
      ≡ suc n → (j : ℕ) × ((size K.ring q ≡ suc j) × (n ≡ j + m))
  quotient_size a b q m n e ha hb = go (size K.ring q) refl
    where
      go : (k : ℕ) → size K.ring q ≡ k → (j : ℕ) × ((size K.ring q ≡ suc j) × (n ≡ j + m))
      go zero h = let z : size K.ring b
          ≡ 0 = ap (size K.ring) (e ∙ ap (λ t. R.mul t a) (no_size K q h) ∙ zero_mul R PL a)
          ∙ zero_size K in absurd (omega (arith, z, hb))
      go (suc j) h = let z : size K.ring b ≡ suc (j + m) = ap (size K.ring) e
          ∙ size-mul K q a j m h ha in
          (j, (h, omega (arith, z, hb)))

  -- the factor of a polynomial that is not zero is not zero
  factor_nonzero : (a b q : P) → b ≡ R.mul q a → R.same b R.zero ≡ false → R.same a R.zero ≡ false
  factor_nonzero a b q e h = same_false R D.tests a R.zero (λ z. not_same R D.tests b R.zero h (e
      ∙ ap (R.mul q) z ∙ mul_zero R PL q))

  is_const : (q : P) → size K.ring q ≡ 1 → q ≡ const K.ring K.laws K.tests (coeff K.ring q.coeffs 0)
  unfolding poly
  is_const q h = Poly_ext K.ring K.laws K.tests q _ (λ i. go i
      ∙ sym (trim-coeff K.ring K.laws K.tests (coeff K.ring q.coeffs 0 ∷ []) i))
    where
      go : (i : ℕ) → coeff K.ring q.coeffs i ≡ coeff K.ring (coeff K.ring q.coeffs 0 ∷ []) i
      go zero = refl
      go (suc i) = zero_from K.ring K.laws K.tests q (suc i) (omega arith)

  leading_at : (p : P) (m : ℕ) → size K.ring p ≡ suc m → leading p ≡ coeff K.ring p.coeffs m
  leading_at p m h = ap (λ k. coeff K.ring p.coeffs (pred k)) h

  -- monic polynomials that divide each other are equal
  monic_equal : (a b : P) → R.same a R.zero ≡ false → R.same b R.zero ≡ false → leading a ≡ K.one
      → leading b ≡ K.one → Divides (polynomials K.ring) a b → Divides (polynomials K.ring) b a → a
      ≡ b
  monic_equal a b na nb la lb h k =
      let sa : (m : ℕ) × (size K.ring a ≡ suc m) = nonzero_size K a na in
      let sb : (m : ℕ) × (size K.ring b ≡ suc m) = nonzero_size K b nb in
      let x : (j : ℕ) × ((size K.ring h.0 ≡ suc j) × (sb.0 ≡ j + sa.0)) = quotient_size a b h.0 sa.0
      sb.0 h.1 sa.1 sb.1 in
      let y : (j : ℕ) × ((size K.ring k.0 ≡ suc j) × (sa.0 ≡ j + sb.0)) = quotient_size b a k.0 sb.0
      sa.0 k.1 sb.1 sa.1 in
      finish sa.0 sa.1 (omega (arith, sb.1, x.1.1, y.1.1)) (omega (arith, x.1.0, x.1.1, y.1.1))
    where
      finish : (m : ℕ) → size K.ring a ≡ suc m → size K.ring b ≡ suc m → size K.ring h.0 ≡ 1 → a ≡ b
      finish m ha hb hq = Poly_ext K.ring K.laws K.tests a b (λ i. ring1 K.ring K.laws (λ a. a)
          (λ a. unit ⊗ a) refl (coeff K.ring a.coeffs i)
          ∙ ap (λ t. K.mul t (coeff K.ring a.coeffs i)) (sym q_one) ∙ sym (b_at i))
        where
          q : K.carrier
          q = coeff K.ring h.0.coeffs 0

          b_at : (i : ℕ) → coeff K.ring b.coeffs i ≡ K.mul q (coeff K.ring a.coeffs i)
          b_at i = ap (λ (t : P). coeff K.ring t.coeffs i) (h.1
              ∙ ap (λ t. R.mul t a) (is_const h.0 hq)) ∙ const_mul_at K.ring K.laws K.tests q a i

          q_one : q ≡ K.one
          q_one = sym (K.laws.mul_one q) ∙ ap (K.mul q) (sym la ∙ leading_at a m ha) ∙ sym (b_at m)
              ∙ sym (leading_at b m hb) ∙ lb

  pub den_monic : (n : ℕ) (t : Reduced n) → leading_coeff K.ring t.den ≡ K.one
  den_monic n t = K.tests.same_true _ _ t.lowest.monic

  pub den_nonzero : (n : ℕ) (t : Reduced n)
      → (polynomials K.ring).same t.den (polynomials K.ring).zero ≡ false
  unfolding poly
  den_nonzero n t = same_false R D.tests t.den R.zero
      (λ e. K.is_field.one_not_zero (sym (den_monic n t) ∙ ap leading e))

  -- the numerators and the denominator have no divisor in common
  den_divides : (n : ℕ) (s t : Reduced n) → ((i : ℕ) → i < n → R.mul (coeff R s.nums i) t.den
      ≡ R.mul (coeff R t.nums i) s.den) → Divides (polynomials K.ring) s.den t.den
  den_divides n s t cross =
      let small : size K.ring d.g < 2 = ltb-true (size K.ring d.g) 2
      (s.lowest.lowest d.g d.of_c (λ i l. (d.part i, d.of_each i l))) in
      let sg : (m : ℕ) × (size K.ring d.g ≡ suc m) = nonzero_size K d.g
      (factor_nonzero d.g s.den d.of_c.0 d.of_c.1 (den_nonzero n s)) in
      let u : (h : P) × (R.mul h d.g ≡ R.one) = unit_poly K d.g (omega (arith, small, sg.1)) in
      let w : Divides (polynomials K.ring) s.den (R.mul t.den d.g) = d.greatest s.den t.den
      (t.den, refl) (λ i l. (
        coeff R t.nums i,
        PL.mul_comm t.den (coeff R s.nums i)
            ∙ cross i l,
      )) in
      subst (Divides (polynomials K.ring) s.den) (ring3 R PL (λ h t g. h ⊗ (t ⊗ g))
      (λ h t g. t ⊗ (h ⊗ g)) refl u.0 t.den d.g ∙ ap (R.mul t.den) u.1 ∙ PL.mul_one t.den)
      (divides_left (polynomials K.ring) PL s.den u.0 (R.mul t.den d.g) w)
    where
      d : ListGcd s.den (coeff R s.nums) n
      d = list_gcd s.den (coeff R s.nums) n

  list_ext : (p q : List P) → length p ≡ length q → ((i : ℕ) → i < length p → coeff R p i
      ≡ coeff R q i) → p ≡ q
  list_ext [] [] e h = refl
  list_ext [] (b ∷ q) e h = absurd (omega arith)
  list_ext (a ∷ p) [] e h = absurd (omega arith)
  list_ext (a ∷ p) (b ∷ q) e h = ap₂ (λ c r. c ∷ r) (h zero (omega arith))
      (list_ext p q (omega arith) (λ i l. h (suc i) (omega arith)))

  -- lowest terms are unique
  pub reduced_unique : (n : ℕ) (s t : Reduced n)
      → ((i : ℕ) → i < n → (polynomials K.ring).mul (coeff (polynomials K.ring) s.nums i) t.den
      ≡ (polynomials K.ring).mul (coeff (polynomials K.ring) t.nums i) s.den) → s ≡ t
  reduced_unique n s t cross = Reduced_path n s t dens (list_ext s.nums t.nums (cs ∙ sym ct)
      (λ i l. cancel D (coeff R s.nums i) (coeff R t.nums i) t.den (den_nonzero n t)
      (cross i (omega (arith, cs)) ∙ ap (R.mul (coeff R t.nums i)) dens)))
    where
      cs : length s.nums ≡ n
      cs = eqb-true (length s.nums) n s.lowest.count

      ct : length t.nums ≡ n
      ct = eqb-true (length t.nums) n t.lowest.count

      dens : s.den ≡ t.den
      dens = monic_equal s.den t.den (den_nonzero n s) (den_nonzero n t) (den_monic n s)
          (den_monic n t) (den_divides n s t cross) (den_divides n t s (λ i l. sym (cross i l)))

  listed_length : (n : ℕ) (h : ℕ → P) → length (listed n h) ≡ n
  listed_length zero h = refl
  listed_length (suc n) h = let e : length (listed n (λ i. h (suc i)))
      ≡ n = listed_length n (λ i. h (suc i)) in omega (arith, e)

  pub listed_at : (n : ℕ) (h : ℕ → Poly K.ring) (i : ℕ) → i < n
      → coeff (polynomials K.ring) (listed n h) i ≡ h i
  listed_at zero h i l = absurd (omega arith)
  listed_at (suc n) h zero l = refl
  listed_at (suc n) h (suc i) l = listed_at n (λ i. h (suc i)) i (omega arith)

  const_size : (a : K.carrier) → ¬ (a ≡ K.zero) → size K.ring (const K.ring K.laws K.tests a) ≡ 1
  unfolding poly
  const_size a na = ap (λ b. length (cond b [] (a ∷ []))) (same_false K.ring K.tests a K.zero na)

  inverse_nonzero : (a : K.carrier) → ¬ (a ≡ K.zero) → ¬ (K.inverse a ≡ K.zero)
  inverse_nonzero a na e = K.is_field.one_not_zero (sym (K.is_field.mul_inverse a na)
      ∙ ap (K.mul a) e ∙ mul_zero K.ring K.laws a)

  -- lowest terms exist
  pub lowest_terms : (n : ℕ) (c : Poly K.ring) (h : ℕ → Poly K.ring)
      → (polynomials K.ring).same c (polynomials K.ring).zero ≡ false
      → (t : Reduced n) × ((i : ℕ) → i < n
      → (polynomials K.ring).mul (coeff (polynomials K.ring) t.nums i) c
      ≡ (polynomials K.ring).mul (h i) t.den)
  lowest_terms n c h nc = make (nonzero_size K s (factor_nonzero s c d.g (d.of_c.1
      ∙ PL.mul_comm s d.g) nc))
    where
      d : ListGcd c h n
      d = list_gcd c h n

      s : P
      s = d.of_c.0

      make : (m : ℕ) × (size K.ring s ≡ suc m) → (t : Reduced n)
          × ((i : ℕ) → i < n → R.mul (coeff R t.nums i) c ≡ R.mul (h i) t.den)
      make z = (
        record {
          den = R.mul ι s;
          nums = listed n (λ i. R.mul ι (d.part i));
          lowest = record {
            monic = ap (λ t. K.same t K.one) lead_one ∙ K.tests.same_refl K.one;
            count = eq-eqb (length (listed n (λ i. R.mul ι (d.part i)))) n
                (listed_length n (λ i. R.mul ι (d.part i)));
            lowest = λ e hd hn. lt-ltb (size K.ring e) 2 (small e hd hn);
          };
        },
        λ i l. ap (λ t. R.mul t c) (listed_at n (λ i. R.mul ι (d.part i)) i l)
            ∙ ap (R.mul (R.mul ι (d.part i))) d.of_c.1 ∙ ring4 R PL (λ ι p s g. (ι ⊗ p) ⊗ (s ⊗ g))
            (λ ι p s g. (p ⊗ g) ⊗ (ι ⊗ s)) refl ι (d.part i) s d.g
            ∙ ap (λ t. R.mul t (R.mul ι s)) (sym (d.of_each i l)),
      )
        where
          m : ℕ
          m = z.0

          a : K.carrier
          a = coeff K.ring s.coeffs m

          na : ¬ (a ≡ K.zero)
          na = top_nonzero K.ring K.laws K.tests s m z.1

          ι : P
          ι = const K.ring K.laws K.tests (K.inverse a)

          ι_size : size K.ring ι ≡ 1
          ι_size = const_size (K.inverse a) (inverse_nonzero a na)

          den_size : size K.ring (R.mul ι s) ≡ suc m
          den_size = let x : size K.ring (R.mul ι s) ≡ suc (0 + m) = size-mul K ι s 0 m ι_size z.1
              in x
              ∙ (let y : suc (0 + m) ≡ suc m = omega arith in y)

          lead_one : leading (R.mul ι s) ≡ K.one
          lead_one = leading_at (R.mul ι s) m den_size
              ∙ const_mul_at K.ring K.laws K.tests (K.inverse a) s m
              ∙ K.laws.mul_comm (K.inverse a) a ∙ K.is_field.mul_inverse a na

          κ : (k : P) × (R.mul k ι ≡ R.one)
          κ = unit_poly K ι ι_size

          -- what divides ι * p divides p
          up : (e p g : P) → Divides (polynomials K.ring) e (R.mul ι p)
              → Divides (polynomials K.ring) (R.mul e g) (R.mul R.one (R.mul p g))
          up e p g k = (
            R.mul κ.0 k.0,
            ring3 R PL (λ p g z. unit ⊗ (p ⊗ g)) (λ p g z. unit ⊗ p ⊗ g) refl p g p
                ∙ ap (λ t. R.mul (R.mul t p) g) (sym κ.1)
                ∙ ring4 R PL (λ k ι p g. ((k ⊗ ι) ⊗ p) ⊗ g) (λ k ι p g. (k ⊗ (ι ⊗ p)) ⊗ g) refl κ.0
                ι p g ∙ ap (λ t. R.mul (R.mul κ.0 t) g) k.1
                ∙ ring4 R PL (λ k q e g. (k ⊗ (q ⊗ e)) ⊗ g) (λ k q e g. (k ⊗ q) ⊗ (e ⊗ g)) refl κ.0
                k.0 e g,
          )

          small : (e : P) → Divides (polynomials K.ring) e (R.mul ι s)
              → ((i : ℕ) → i < n → Divides (polynomials K.ring) e
              (coeff R (listed n (λ i. R.mul ι (d.part i))) i)) → size K.ring e < 2
          small e hd hn =
              let w : Divides (polynomials K.ring) (R.mul e d.g) (R.mul R.one d.g) = d.greatest
              (R.mul e d.g) R.one (subst (λ t. Divides (polynomials K.ring) (R.mul e d.g)
              (R.mul R.one t)) (sym d.of_c.1) (up e s d.g hd))
              (λ i l. subst (λ t. Divides (polynomials K.ring) (R.mul e d.g) (R.mul R.one t))
              (sym (d.of_each i l)) (up e (d.part i) d.g (subst (Divides (polynomials K.ring) e)
              (listed_at n (λ i. R.mul ι (d.part i)) i l) (hn i l)))) in
              let one : R.one ≡ R.mul w.0 e = cancel D R.one (R.mul w.0 e) d.g
              (factor_nonzero d.g c s d.of_c.1 nc) (w.1 ∙ sym (PL.mul_assoc w.0 e d.g)) in
              let se : (j : ℕ) × (size K.ring e ≡ suc j) = nonzero_size K e
              (factor_nonzero e R.one w.0 one D.proper) in
              let q : (j : ℕ) × ((size K.ring w.0 ≡ suc j) × (0 ≡ j + se.0)) = quotient_size e R.one
              w.0 se.0 0 one se.1 (one_size K) in
              omega (arith, se.1, q.1.1)

  -- the lowest terms are those of specs/LowestTerms
  cancelled_part : (n : ℕ) (c : Poly K.ring) (h : ℕ → Poly K.ring)
      → (polynomials K.ring).same c (polynomials K.ring).zero ≡ false → (p q : Poly K.ring) → p
      ≡ (polynomials K.ring).mul q (list_gcd c h n).g → q ≡ cancelled K n c h p
  cancelled_part n c h nc p q e = let some : (m : ℕ) × (size K.ring (list_gcd c h n).g ≡ suc m) =
      nonzero_size K (list_gcd c h n).g (factor_nonzero (list_gcd c h n).g c (list_gcd c h n).of_c.0
      (list_gcd c h n).of_c.1 nc) in
      sym (exact_quotient K p (list_gcd c h n).g q some.0 some.1 e)
      ∙ ap (quotient K p) (common_matches c h n)

  listed_ext : {A : Type 0} (n : ℕ) (g h : ℕ → A) → ((i : ℕ) → i < n → g i ≡ h i) → listed n g
      ≡ listed n h
  listed_ext zero g h e = refl
  listed_ext (suc n) g h e = ap₂ (λ c r. c ∷ r) (e zero (omega arith))
      (listed_ext n (λ i. g (suc i)) (λ i. h (suc i)) (λ i l. e (suc i) (omega arith)))

  den_matches : (n : ℕ) (c : Poly K.ring) (h : ℕ → Poly K.ring)
      (nc : (polynomials K.ring).same c (polynomials K.ring).zero ≡ false)
      → (lowest_terms n c h nc).0.den ≡ lowest_den K n c h
  unfolding lowest_terms lowest_den
  den_matches n c h nc = let some : (m : ℕ) × (size K.ring (list_gcd c h n).of_c.0 ≡ suc m) =
      nonzero_size K (list_gcd c h n).of_c.0 (factor_nonzero (list_gcd c h n).of_c.0 c
      (list_gcd c h n).g ((list_gcd c h n).of_c.1
      ∙ PL.mul_comm (list_gcd c h n).of_c.0 (list_gcd c h n).g) nc) in
      ap (λ k. R.mul (poly K.ring (K.inverse (coeff K.ring (list_gcd c h n).of_c.0.coeffs k) ∷ []))
      (list_gcd c h n).of_c.0) (sym (ap pred some.1))
      ∙ ap (λ t. R.mul (poly K.ring (K.inverse (leading_coeff K.ring t) ∷ [])) t)
      (cancelled_part n c h nc c (list_gcd c h n).of_c.0 (list_gcd c h n).of_c.1)

  nums_matches : (n : ℕ) (c : Poly K.ring) (h : ℕ → Poly K.ring)
      (nc : (polynomials K.ring).same c (polynomials K.ring).zero ≡ false)
      → (lowest_terms n c h nc).0.nums ≡ lowest_nums K n c h
  unfolding lowest_terms lowest_nums
  nums_matches n c h nc = let some : (m : ℕ) × (size K.ring (list_gcd c h n).of_c.0 ≡ suc m) =
      nonzero_size K (list_gcd c h n).of_c.0 (factor_nonzero (list_gcd c h n).of_c.0 c
      (list_gcd c h n).g ((list_gcd c h n).of_c.1
      ∙ PL.mul_comm (list_gcd c h n).of_c.0 (list_gcd c h n).g) nc) in
      listed_ext n _ _ (λ i l. ap₂ R.mul
      (ap (λ k. poly K.ring (K.inverse (coeff K.ring (list_gcd c h n).of_c.0.coeffs k) ∷ []))
      (sym (ap pred some.1))
      ∙ ap (λ t. poly K.ring (K.inverse (leading_coeff K.ring t) ∷ []))
      (cancelled_part n c h nc c (list_gcd c h n).of_c.0 (list_gcd c h n).of_c.1))
      (cancelled_part n c h nc (h i) ((list_gcd c h n).part i) ((list_gcd c h n).of_each i l)))

  pub lowest_is_lowest : (n : ℕ) (c : Poly K.ring) (h : ℕ → Poly K.ring)
      → (polynomials K.ring).same c (polynomials K.ring).zero ≡ false
      → IsLowest K n (lowest_den K n c h) (lowest_nums K n c h)
  lowest_is_lowest n c h nc = let t = (lowest_terms n c h nc).0 in
      subst (λ N. IsLowest K n (lowest_den K n c h) N) (nums_matches n c h nc)
      (subst (λ d. IsLowest K n d t.nums) (den_matches n c h nc)
      t.lowest)

  pub lowest_cross : (n : ℕ) (c : Poly K.ring) (h : ℕ → Poly K.ring)
      → (polynomials K.ring).same c (polynomials K.ring).zero ≡ false
      → (i : ℕ) → i < n → (polynomials K.ring).mul (coeff (polynomials K.ring) (lowest_nums K n c h)
      i) c ≡ (polynomials K.ring).mul (h i) (lowest_den K n c h)
  lowest_cross n c h nc i l = ap (λ N. R.mul (coeff R N i) c) (sym (nums_matches n c h nc))
      ∙ (lowest_terms n c h nc).1 i l ∙ ap (R.mul (h i)) (den_matches n c h nc)
