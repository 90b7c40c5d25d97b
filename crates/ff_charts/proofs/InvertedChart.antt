-- From a chart at u to the chart at t = 1/u.
use Rattle.std.proofs.Common.{◌≡◌, ℕ, zero, suc, ◌-◌, ◌+◌ as plus_ℕ, ◌*◌ as times_ℕ, ◌<◌, ◌≤◌, ◌⊎◌}
use Rattle.std.proofs.Common.{inl, inr, false, [], ◌∷◌, length, refl, sym, ◌∙◌, ap, ap₂, subst}
use Rattle.std.proofs.Common.{arith}
use Rattle.std.proofs.lemmas.Bool.{cases_lt}
use Rattle.ff_theory.specs.Divides.{IsCoprime}
use Rattle.ff_theory.specs.Ring.{RingOps, IsCommRing, IsTested, power}
use Rattle.ff_theory.specs.Lawful.{Domain, Field}
use Rattle.ff_theory.specs.Sum.{sum_below}
use Rattle.ff_theory.specs.Poly.{coeff, Poly, poly, polynomials}
use Rattle.ff_theory.specs.Division.{size}
use Rattle.ff_theory.specs.Eval.{eval}
use Rattle.ff_theory.proofs.Solver.{◌⊕◌, ◌⊗◌, nil, unit, ring1, ring3, ring4, ring6, mul_zero}
use Rattle.ff_theory.specs.Map.{IsMap}
use Rattle.ff_theory.proofs.Powers.{power-add, power-mul}
use Rattle.ff_theory.proofs.Frobenius.{power-power}
use Rattle.ff_theory.proofs.FrobeniusPoly.{map-power}
use Rattle.ff_theory.proofs.Sums.{sum-ext, sum-mul}
use Rattle.ff_theory.proofs.Poly.{Poly_path, trim_same, trim-coeff}
use Rattle.ff_theory.proofs.Division.{x, size_le, coeff-beyond}
use Rattle.ff_theory.proofs.Evaluate.{eval_map}
use Rattle.ff_theory.proofs.PolyMap.{polynomial_domain, not_same, same_false, one_size}
use Rattle.ff_theory.proofs.Domains.{zero_factor}
use Rattle.ff_theory.specs.Planes.{planes, Plane}
use Rattle.ff_charts.specs.Chart.{Chart, at_u, at_theta, Cleared, IsChart}
use Rattle.ff_theory.specs.Reversal.{reversal, reversed, Fits}
use Rattle.ff_charts.specs.FieldCharts.{inverted}
use Rattle.ff_charts.proofs.Rows.{polynomial_of, polynomial_at, polynomial_past, polynomial_size}
use Rattle.ff_charts.proofs.Rows.{equal_below, exact_size, value_sum, value_of_listed}
use Rattle.ff_charts.proofs.Reversal.{power-inverse, power-less, reversal_at, reversal_size}
use Rattle.ff_charts.proofs.Reversal.{reversal_nonzero, reversal_value}
use Rattle.ff_charts.proofs.VariablePowers.{zeros, after_zeros, splits_list, starts_nonzero}
use Rattle.ff_charts.proofs.VariablePowers.{one_at_zero}
use Rattle.ff_charts.proofs.VariablePowers.{product_at_zero, coprime_power}
use Rattle.ff_charts.proofs.Chart.{at_u_map}
use Rattle.ff_charts.proofs.FiniteChart.{power_split, power_nonzero}

-- a bound of finitely many numbers
pub bound : (n : ℕ) (g : ℕ → ℕ) → (b : ℕ) × ((i : ℕ) → i < n → g i ≤ b)
bound zero g = (0, λ i l. absurd (omega arith))
bound (suc n) g = (plus_ℕ (bound n g).0 (g n), go (bound n g))
  where
    go : (h : (b : ℕ) × ((i : ℕ) → i < n → g i ≤ b)) (i : ℕ) → i < suc n → g i ≤ plus_ℕ h.0 (g n)
    go h i l = pick (cases_lt i n)
      where
        pick : (i < n) ⊎ (n ≤ i) → g i ≤ plus_ℕ h.0 (g n)
        pick (inl m) = omega (arith, h.1 i m)
        pick (inr m) = let e : i ≡ n = omega arith in omega (arith, ap g e)

-- the variable has two coefficients
pub variable_size : (K : Field) → size K.ring (x K.ring K.laws K.tests) ≡ 2
unfolding poly
variable_size K = exact_size K.ring K.laws K.tests (x K.ring K.laws K.tests) 1
    (λ z. K.is_field.one_not_zero (sym (trim-coeff K.ring K.laws K.tests (K.zero ∷ K.one ∷ []) 1)
    ∙ z))
    (λ i l. trim-coeff K.ring K.laws K.tests (K.zero ∷ K.one ∷ []) i
    ∙ coeff-beyond K.ring K.laws K.tests (K.zero ∷ K.one ∷ []) i
    (let e : length (K.zero ∷ K.one ∷ []) ≡ 2 = refl in omega (arith, e, l)))

-- the value of the variable
pub at_x : (R : RingOps) (laws : IsCommRing R) (tests : IsTested R) (A : RingOps)
    (AL : IsCommRing A) (h : R.carrier → A.carrier) → IsMap R A h → (y : A.carrier)
    → eval R A h y (x R laws tests) ≡ y
unfolding poly
at_x R laws tests A AL h map y = value_sum R laws tests A AL h map.on_zero y (x R laws tests) 2
    (polynomial_size R laws tests 2 two)
    ∙ ap₂ (λ p q. A.add (A.add A.zero (A.mul p A.one)) (A.mul q (A.mul y A.one)))
    (ap h (trim-coeff R laws tests (R.zero ∷ R.one ∷ []) 0) ∙ map.on_zero)
    (ap h (trim-coeff R laws tests (R.zero ∷ R.one ∷ []) 1) ∙ map.on_one)
    ∙ ring1 A AL (λ y. (nil ⊕ nil ⊗ unit) ⊕ unit ⊗ (y ⊗ unit)) (λ y. y) refl y
  where
    two : ℕ → R.carrier
    two zero = R.zero
    two (suc i) = R.one

module _ (K : Field) (A : RingOps) (AL : IsCommRing A) (c : Chart K.ring A) (l : IsChart K.ring A c)
    (t : A.carrier) (tu : A.mul t c.u ≡ A.one) (e : ℕ) (fits : Fits K.ring c.degree c.equation e)
  where
    infixl 70 ◌*◌
    open A use {mul as ◌*◌, carrier as C}

    abbrev D : Domain
    D = polynomial_domain K

    abbrev n : ℕ
    n = c.degree

    abbrev F : Plane K
    F = c.equation

    abbrev B : Chart K.ring A
    B = inverted c t e

    abbrev X : Poly K.ring
    X = x K.ring K.laws K.tests

    abbrev row_at : Plane K → ℕ → Poly K.ring
    row_at N i = coeff (polynomials K.ring) N.coeffs i

    ut : A.mul c.u t ≡ A.one
    ut = AL.mul_comm c.u t ∙ tu

    -- t^e and u^e
    abbrev E : C
    E = power A t e

    abbrev U : C
    U = power A c.u e

    EU : E * U ≡ A.one
    EU = AL.mul_comm E U ∙ power-inverse A AL c.u t tu e

    UE : U * E ≡ A.one
    UE = power-inverse A AL c.u t tu e

    abbrev θ : C
    θ = c.theta

    map : IsMap (polynomials K.ring) A (at_u c)
    map = at_u_map K A AL c l

    map_t : IsMap (polynomials K.ring) A (at_u B)
    map_t = eval_map K.ring A K.laws K.tests AL c.constant l.constants t

    -- the value of the variable
    pub at_variable : (y : A.carrier) → eval K.ring A c.constant y (x K.ring K.laws K.tests) ≡ y
    at_variable y = at_x K.ring K.laws K.tests A AL c.constant l.constants y

    pub powers_of : (y : C) (m : ℕ) → eval K.ring A c.constant y (power D.ring (power D.ring X e) m)
        ≡ power A (power A y e) m
    powers_of y m = map-power D.ring A (eval K.ring A c.constant y)
        (eval_map K.ring A K.laws K.tests AL c.constant l.constants y) (power D.ring X e) m
        ∙ ap (λ s. power A s m) (map-power D.ring A (eval K.ring A c.constant y) (eval_map K.ring A
        K.laws K.tests AL c.constant l.constants y) X e ∙ ap (λ s. power A s e) (at_variable y))

    -- u^m times a polynomial in t, and t^m times a polynomial in u
    pub to_u : (m : ℕ) (h : Poly K.ring) → size K.ring h ≤ suc m → power A c.u m * at_u B h
        ≡ at_u c (reversal K.ring m h)
    to_u = reversal_value K A AL c.constant l.constants c.u t tu

    pub to_t : (m : ℕ) (h : Poly K.ring) → size K.ring h ≤ suc m → power A t m * at_u c h
        ≡ at_u B (reversal K.ring m h)
    to_t = reversal_value K A AL c.constant l.constants t c.u ut

    pub theta_sum : (N : Plane K) (m : ℕ) → size (polynomials K.ring) N ≤ m → at_theta c N
        ≡ sum_below A m (λ i. at_u c (row_at N i) * power A θ i)
    theta_sum N m q = value_sum (polynomials K.ring) D.laws D.tests A AL (at_u c) map.on_zero θ N m
        q

    pub theta_sum_t : (N : Plane K) (m : ℕ) → size (polynomials K.ring) N ≤ m → at_theta B N
        ≡ sum_below A m (λ i. at_u B (row_at N i) * power A (E * θ) i)
    theta_sum_t N m q = value_sum (polynomials K.ring) D.laws D.tests A AL (at_u B) map_t.on_zero
        (E * θ) N m q

    abbrev G : Plane K
    G = reversed K.ring n e F

    pub G_at : (i : ℕ) → i < suc n → row_at G i ≡ reversal K.ring (times_ℕ (n - i) e) (row_at F i)
    unfolding reversed
    G_at i q = polynomial_at (polynomials K.ring) D.laws D.tests (suc n)
        (λ i. reversal K.ring (times_ℕ (n - i) e) (row_at F i)) i q

    G_last : row_at G n ≡ D.one
    G_last = G_at n (omega arith) ∙ (let z : times_ℕ (n - n) e ≡ 0 = none in ap₂ (λ m h. reversal
        K.ring m h) z l.monic) ∙ reversal_one
      where
        none : times_ℕ (n - n) e ≡ 0
        none = let z : n - n ≡ 0 = omega arith in let w : times_ℕ 0 e
            ≡ 0 = omega arith in ap (λ k. times_ℕ k e) z ∙ w

        reversal_one : reversal K.ring 0 D.one ≡ D.one
        reversal_one = equal_below K.ring K.laws K.tests (reversal K.ring 0 D.one) D.one 1
            (reversal_size K 0 D.one) (let s : size K.ring D.one ≡ 1 = one_size K in omega (
              arith,
              s,
            ))
            (λ i q. reversal_at K 0 D.one i (omega arith)
            ∙ (let z : 0 - i ≡ i = omega arith in ap (coeff K.ring (polynomials K.ring).one.coeffs)
            z))

    pub G_size : size (polynomials K.ring) G ≡ suc n
    unfolding reversed
    G_size = exact_size (polynomials K.ring) D.laws D.tests G n
        (λ z. not_same (polynomials K.ring) D.tests D.one D.zero D.proper (sym G_last ∙ z))
        (λ i q. polynomial_past (polynomials K.ring) D.laws D.tests (suc n)
        (λ i. reversal K.ring (times_ℕ (n - i) e) (row_at F i)) i (omega arith))

    pub fits_all : (i : ℕ) → i < suc n → size K.ring (row_at F i) ≤ suc (times_ℕ (n - i) e)
    fits_all i q = go (cases_lt i n)
      where
        go : (i < n) ⊎ (n ≤ i) → size K.ring (row_at F i) ≤ suc (times_ℕ (n - i) e)
        go (inl m) = fits i m
        go (inr m) = let z : i ≡ n = omega arith in let s : size K.ring (row_at F i)
            ≡ 1 = ap (λ j. size K.ring (row_at F j)) z ∙ ap (size K.ring) l.monic
            ∙ one_size K in omega (arith, s)

    root : at_theta B G ≡ A.zero
    root = theta_sum_t G (suc n) (omega (arith, G_size))
        ∙ sum-ext A AL (suc n) _ (λ i. power A E n * (at_u c (row_at F i) * power A θ i)) (λ i q.
        ap (λ h. at_u B h * power A (E * θ) i) (G_at i q)
        ∙ ap₂ A.mul (sym (to_t (times_ℕ (n - i) e) (row_at F i) (fits_all i q))
        ∙ ap (λ p. p * at_u c (row_at F i)) (sym (power-power A AL t e (n - i))))
        (power-mul A AL E θ i)
        ∙ ring4 A AL (λ p h q s. (p ⊗ h) ⊗ (q ⊗ s)) (λ p h q s. (p ⊗ q) ⊗ (h ⊗ s)) refl
        (power A E (n - i)) (at_u c (row_at F i)) (power A E i) (power A θ i)
        ∙ ap (λ p. p * (at_u c (row_at F i) * power A θ i))
        (power_split A AL E i (n - i) n (omega arith)))
        ∙ sum-mul A AL (suc n) (power A E n) _
        ∙ ap (λ s. power A E n * s) (sym (theta_sum F (suc n) (let s : size (polynomials K.ring) F
        ≡ suc n = l.rows in omega (arith, s))) ∙ l.root)
        ∙ mul_zero A AL (power A E n)

    -- what is not 0 stays so when it is reversed
    reversal_differs : (m : ℕ) (h : Poly K.ring) → size K.ring h ≤ suc m
        → (polynomials K.ring).same h (polynomials K.ring).zero ≡ false
        → (polynomials K.ring).same (reversal K.ring m h) (polynomials K.ring).zero ≡ false
    reversal_differs m h q nh = same_false (polynomials K.ring) D.tests (reversal K.ring m h) D.zero
        (λ z. not_same (polynomials K.ring) D.tests h D.zero nh (reversal_nonzero K m h q z))

    variable_nonzero : (polynomials K.ring).same X (polynomials K.ring).zero ≡ false
    unfolding poly
    variable_nonzero = same_false (polynomials K.ring) D.tests X D.zero
        (λ z. K.is_field.one_not_zero (sym (trim-coeff K.ring K.laws K.tests (K.zero ∷ K.one ∷ [])
        1)
        ∙ ap (λ (p : Poly K.ring). coeff K.ring p.coeffs 1) z))

    shift_nonzero : (m : ℕ) → (polynomials K.ring).same (power D.ring (power D.ring X e) m)
        (polynomials K.ring).zero ≡ false
    shift_nonzero m = power_nonzero D (power D.ring X e) (power_nonzero D X variable_nonzero e) m

    -- u^b * (u^e)^r times a term at t and E * theta is a term at u and theta
    pub term_u : (b r i : ℕ) (h : Poly K.ring) → size K.ring h ≤ suc b → i ≤ r
        → power A c.u b * power A U r * (at_u B h * power A (E * θ) i)
        ≡ at_u c (D.mul (reversal K.ring b h) (power D.ring (power D.ring X e) (r - i))) * power A
        θ i
    term_u b r i h q s = ap (λ p. power A c.u b * power A U r * (at_u B h * p))
        (power-mul A AL E θ i)
        ∙ ring6 A AL (λ a p h q s z. (a ⊗ p) ⊗ (h ⊗ (q ⊗ s)))
        (λ a p h q s z. ((a ⊗ h) ⊗ (p ⊗ q)) ⊗ s)
        refl (power A c.u b) (power A U r) (at_u B h) (power A E i) (power A θ i) E
        ∙ ap (λ p. p * power A θ i) (ap₂ A.mul (to_u b h q) (power-less A AL U E EU r i s ∙ sym
        (powers_of c.u (r - i))) ∙ sym (map.on_mul (reversal K.ring b h) (power D.ring (power
        D.ring X e) (r - i))))

    -- and the other way round
    pub term_t : (b r i : ℕ) (h : Poly K.ring) → size K.ring h ≤ suc b → i ≤ r
        → power A t b * power A E r * (at_u c h * power A θ i)
        ≡ at_u B (D.mul (reversal K.ring b h) (power D.ring (power D.ring X e) (r - i))) * power A
        (E * θ) i
    term_t b r i h q s = ap (λ p. power A t b * p * (at_u c h * power A θ i))
        (sym (power_split A AL E i (r - i) r (omega arith)))
        ∙ ring6 A AL (λ a p q h s z. (a ⊗ (p ⊗ q)) ⊗ (h ⊗ s))
        (λ a p q h s z. ((a ⊗ h) ⊗ p) ⊗ (q ⊗ s))
        refl (power A t b) (power A E (r - i)) (power A E i) (at_u c h) (power A θ i) E
        ∙ ap₂ A.mul (ap₂ A.mul (to_t b h q) (sym (powers_of t (r - i)))
        ∙ sym (map_t.on_mul (reversal K.ring b h) (power D.ring (power D.ring X e) (r - i))))
        (sym (power-mul A AL E θ i))

    independent : (N : Plane K) → size (polynomials K.ring) N ≤ n → at_theta B N ≡ A.zero → N
        ≡ (planes K).zero
    independent N small z = equal_below (polynomials K.ring) D.laws D.tests N (planes K).zero n
        small
        (size_le (polynomials K.ring) D.laws D.tests (planes K).zero n (λ i q. zero_row i)) rows
      where
        b : (b : ℕ) × ((i : ℕ) → i < n → size K.ring (row_at N i) ≤ b)
        b = bound n (λ i. size K.ring (row_at N i))

        zero_row : (i : ℕ) → row_at (planes K).zero i ≡ D.zero
        zero_row i = polynomial_past (polynomials K.ring) D.laws D.tests 0 (λ i. D.zero) i
            (omega arith)

        g : ℕ → Poly K.ring
        g i = D.mul (reversal K.ring b.0 (row_at N i)) (power D.ring (power D.ring X e) (n - i))

        M_value : at_theta c (polynomial_of (polynomials K.ring) D.laws D.tests n g) ≡ A.zero
        M_value = value_of_listed (polynomials K.ring) D.laws D.tests A AL (at_u c) map.on_zero θ n
            g
            ∙ sum-ext A AL n _ _ (λ i q. sym
            (term_u b.0 n i (row_at N i) (let s : size K.ring (row_at N i) ≤ b.0 = b.1 i q in
            omega (arith, s)) (omega arith)))
            ∙ sum-mul A AL n (power A c.u b.0 * power A U n) _
            ∙ ap (λ s. power A c.u b.0 * power A U n * s) (sym (theta_sum_t N n small) ∙ z)
            ∙ mul_zero A AL _

        M_zero : polynomial_of (polynomials K.ring) D.laws D.tests n g ≡ (planes K).zero
        M_zero = l.independent _ (polynomial_size (polynomials K.ring) D.laws D.tests n g) M_value

        rows : (i : ℕ) → i < n → row_at N i ≡ row_at (planes K).zero i
        rows i q = reversal_nonzero K b.0 (row_at N i)
            (let s : size K.ring (row_at N i) ≤ b.0 = b.1 i q in omega (arith, s))
            (zero_factor D (reversal K.ring b.0 (row_at N i))
            (power D.ring (power D.ring X e) (n - i)) (shift_nonzero (n - i))
            (sym (polynomial_at (polynomials K.ring) D.laws D.tests n g i q)
            ∙ ap (λ (P : Plane K). row_at P i) M_zero ∙ zero_row i)) ∙ sym (zero_row i)

    inverse : Poly K.ring → C
    inverse h = power A c.u (size K.ring h) * l.inverse (reversal K.ring (size K.ring h) h)

    inverts : (h : Poly K.ring) → (polynomials K.ring).same h (polynomials K.ring).zero ≡ false
        → inverse h * at_u B h ≡ A.one
    unfolding inverse
    inverts h nh = ring3 A AL (λ p i h. (p ⊗ i) ⊗ h) (λ p i h. i ⊗ (p ⊗ h)) refl
        (power A c.u (size K.ring h)) (l.inverse (reversal K.ring (size K.ring h) h)) (at_u B h)
        ∙ ap (λ s. l.inverse (reversal K.ring (size K.ring h) h) * s)
        (to_u (size K.ring h) h (omega arith))
        ∙ l.inverts (reversal K.ring (size K.ring h) h)
        (reversal_differs (size K.ring h) h (omega arith) nh)

    cleared : (a : C) → Cleared B a
    cleared a = record {
      den = D.mul (reversal K.ring b s.den) (power D.ring (power D.ring X e) r);
      nonzero = D.no_divisors _ _ (reversal_differs b s.den (omega arith) s.nonzero)
          (shift_nonzero r);
      nums = polynomial_of (polynomials K.ring) D.laws D.tests r g;
      clears = ap (λ p. p * a) (map_t.on_mul (reversal K.ring b s.den) (power D.ring (power D.ring X
          e) r) ∙ ap₂ A.mul (sym (to_t b s.den (omega arith))) (powers_of t r))
          ∙ ring4 A AL (λ p d q a. ((p ⊗ d) ⊗ q) ⊗ a) (λ p d q a. (p ⊗ q) ⊗ (d ⊗ a)) refl
          (power A t b) (at_u c s.den) (power A E r) a
          ∙ ap (λ p. power A t b * power A E r * p) (s.clears ∙ theta_sum s.nums r (omega arith))
          ∙ sym (sum-mul A AL r (power A t b * power A E r) _)
          ∙ sum-ext A AL r _ _ (λ i q. term_t b r i (row_at s.nums i)
          (let k : size K.ring (row_at s.nums i) ≤ rows.0 = rows.1 i q in omega (arith, k))
          (omega arith))
          ∙ sym (value_of_listed (polynomials K.ring) D.laws D.tests A AL (at_u B) map_t.on_zero
          (E * θ) r g);
    }
      where
        s : Cleared c a
        s = l.cleared a

        r : ℕ
        r = size (polynomials K.ring) s.nums

        rows : (b : ℕ) × ((i : ℕ) → i < r → size K.ring (row_at s.nums i) ≤ b)
        rows = bound r (λ i. size K.ring (row_at s.nums i))

        b : ℕ
        b = plus_ℕ rows.0 (size K.ring s.den)

        g : ℕ → Poly K.ring
        g i = D.mul (reversal K.ring b (row_at s.nums i)) (power D.ring (power D.ring X e) (r - i))

    differs : (a : K.carrier) → K.same a K.zero ≡ false → ¬ (a ≡ K.zero)
    differs a h = not_same K.ring K.tests a K.zero h

    whole : (h : Poly K.ring) → poly K.ring h.coeffs ≡ h
    unfolding poly
    whole h = Poly_path K.ring (poly K.ring h.coeffs) h
        (trim_same K.ring K.laws K.tests h.coeffs h.canonical)

    field_product : (a b : K.carrier) → K.same a K.zero ≡ false → K.same b K.zero ≡ false
        → K.same (K.mul a b) K.zero ≡ false
    field_product a b na nb = same_false K.ring K.tests (K.mul a b) K.zero (λ z. differs b nb (
        ring1 K.ring K.laws (λ b. b) (λ b. unit ⊗ b) refl b
        ∙ ap (λ t. K.mul t b) (sym (K.is_field.mul_inverse a (differs a na)))
        ∙ ring3 K.ring K.laws (λ a i b. (a ⊗ i) ⊗ b) (λ a i b. i ⊗ (a ⊗ b)) refl a (K.inverse a) b
        ∙ ap (K.mul (K.inverse a)) z ∙ mul_zero K.ring K.laws (K.inverse a)))

    pub inverted_is_chart : IsChart K.ring A (inverted c t e)
    inverted_is_chart = record {
      constants = l.constants;
      rows = G_size;
      monic = G_last;
      root = root;
      independent = independent;
      inverse = inverse;
      inverts = inverts;
      cleared = cleared;
      one_unit = ap (λ s. K.same s K.zero) (one_at_zero K)
          ∙ same_false K.ring K.tests K.one K.zero K.is_field.one_not_zero;
      unit_product = λ s r hs hr. ap (λ a. K.same a K.zero) (product_at_zero K s r)
          ∙ field_product (coeff K.ring s.coeffs 0) (coeff K.ring r.coeffs 0) hs hr;
      one_modulus = (0, refl);
      modulus_product = λ m k h j. (
        plus_ℕ h.0 j.0,
        ap₂ D.mul h.1 j.1 ∙ sym (power-add D.ring D.laws X
            h.0 j.0),
      );
      modulus_nonzero = λ m h. ap (λ p. (polynomials K.ring).same p (polynomials K.ring).zero) h.1
          ∙ power_nonzero D X variable_nonzero h.0;
      unit_nonzero = λ s h. same_false (polynomials K.ring) D.tests s D.zero
          (λ z. differs (coeff K.ring s.coeffs 0) h
          (ap (λ (p : Poly K.ring). coeff K.ring p.coeffs 0) z
          ∙ polynomial_past K.ring K.laws K.tests 0 (λ i. K.zero) 0 (omega arith)));
      coprime = λ s m h k. subst (IsCoprime (polynomials K.ring) s) (sym k.1)
          (coprime_power K s (differs (coeff K.ring s.coeffs 0) h) k.0);
      modulus_of = λ h. power D.ring X (zeros K h.coeffs);
      unit_of = λ h. after_zeros K h.coeffs;
      is_modulus = λ h nh. (zeros K h.coeffs, refl);
      is_unit = λ h nh. starts_nonzero K h.coeffs;
      splits = λ h nh. sym (whole h)
          ∙ splits_list K h.coeffs (λ z. not_same (polynomials K.ring) D.tests h D.zero nh (sym
          (whole
          h) ∙ z));
    }
