use Rattle.std.proofs.Common.{◌≡◌, ℕ, zero, suc, ◌+◌, ◌-◌, ◌<◌, ◌≤◌, ◌⊎◌, inl, inr, List, [], ◌∷◌}
use Rattle.std.proofs.Common.{length, map, get_or, refl, sym, ◌∙◌, ap, ap₂, subst, arith, All}
use Rattle.std.proofs.lemmas.Bool.{cases_lt}
use Rattle.std.proofs.lemmas.List.{length-map}
use Rattle.ff_theory.specs.Ring.{RingOps, IsCommRing, IsTested, Elements, IsElement}
use Rattle.ff_theory.specs.Poly.{coeff, Poly, poly, polynomials, list_scale}
use Rattle.ff_theory.specs.Division.{size}
use Rattle.ff_theory.proofs.Division.{size-mul}
use Rattle.ff_theory.proofs.Solver.{◌⊕◌, ◌⊗◌, neg, nil, unit, ring1, ring2, ring3, ring4, mul_zero}
use Rattle.ff_theory.proofs.Poly.{polynomial_laws, polynomial_tests, scale-coeff}
use Rattle.ff_theory.proofs.Coeffs.{coeff-past, add_by_coeffs}
use Rattle.ff_theory.specs.Values.{poly_of, IsPoly, IsPlane}
use Rattle.ff_theory.specs.Planes.{row_of, IsPseudoDivision}
use Rattle.ff_theory.specs.Monomial.{raised, monomial}
use Rattle.ff_theory.specs.Lawful.{Lawful, lawful_field}
use Rattle.ff_theory.proofs.Monomial.{monomial-mul, raised-at, raised-below, raised-past}
use Rattle.ff_poly.proofs.LongDivision.{last_nonzero, poly-size}
use Rattle.ff_poly.proofs.RowLists.{row-value, row-each}
use Rattle.ff_poly.proofs.Negative.{neg_by_coeffs, neg-zero}

-- a list of one entry
pub single : {E C : Type 0} (f : E → C) (p : List E) (x : E) → length p ≡ 1 → x ≡ get_or p 0 x
    → map f p ≡ f x ∷ []
single f [] x l e = absurd (omega arith)
single f (a ∷ []) x l e = ap (λ t. f t ∷ []) (sym e)
single f (a ∷ b ∷ p) x l e = absurd (omega arith)

module _ {E : Type 0} (K : Elements E) (laws : IsCommRing K.ring) (tests : IsTested K.ring) where
  -- the leading row
  pub last_row : (rows : List (List E)) (p : List E) → IsPlane K rows → 0 < length rows → p
      ≡ get_or rows (length rows - 1) p → IsPoly K p × (0 < length p)
  last_row rows p h pos e = (
    subst (IsPoly K) (sym e) (h.each (length rows - 1) p (omega arith)),
    go
        p refl,
  )
    where
      nonzero : ¬ (poly_of K p ≡ (polynomials K.ring).zero)
      nonzero = last_nonzero (polynomials K.ring) (polynomial_laws K.ring laws tests)
          (polynomial_tests K.ring laws tests) (λ p. poly_of K p) rows p (length rows - 1)
          h.canonical (omega arith) e

      go : (q : List E) → p ≡ q → 0 < length p
      go [] e = absurd (nonzero (ap (poly_of K) e))
      go (x ∷ q) e = omega (arith, ap length e)

module _ {E : Type 0} {K : Elements E} (L : Lawful K) where
  open L use {laws, tests}

  -- a product of polynomials that are not zero
  pub product_nonzero : (p q r : List E) → IsPoly K p → IsPoly K q
      → IsPoly K r → poly_of K r ≡ (polynomials K.ring).mul (poly_of K p) (poly_of K q)
      → 0 < length p → 0 < length q → 0 < length r
  product_nonzero p q r hp hq hr e lp lq =
      let sp : size K.ring (poly_of K p) ≡ suc (length p - 1) = poly-size K.ring laws tests K.value
      p hp.canonical ∙ (let n : length p ≡ suc (length p - 1) = omega arith in n) in
      let sq : size K.ring (poly_of K q) ≡ suc (length q - 1) = poly-size K.ring laws tests K.value
      q hq.canonical ∙ (let n : length q ≡ suc (length q - 1) = omega arith in n) in
      omega (
        arith,
        sym (poly-size K.ring laws tests K.value r hr.canonical) ∙ ap (size K.ring) e
            ∙ size-mul (lawful_field L) (poly_of K p) (poly_of K q) (length p - 1)
            (length q - 1) sp sq,
      )

module _ {E : Type 0} (K : Elements E) where
  -- a row of y^at times rows
  pub row_above-each : (rows : List (List E)) (at i : ℕ) (r : List E) → (i < at → r ≡ [])
      → (at ≤ i → r ≡ get_or rows (i - at) []) → All (λ p. IsPoly K p) rows → All (IsElement K) r
  row_above-each rows at i r low high h = go (cases_lt i at)
    where
      go : (i < at) ⊎ (at ≤ i) → All (IsElement K) r
      go (inl l) = subst (All (IsElement K)) (sym (low l)) (λ k d m. absurd (omega arith))
      go (inr l) = subst (All (IsElement K)) (sym (high l)) (row-each K rows (i - at) h)

  pub row_above-value : (rows : List (List E)) (at i : ℕ) (r : List E) → (i < at → r ≡ [])
      → (at ≤ i → r ≡ get_or rows (i - at) [])
      → poly_of K r ≡ coeff (polynomials K.ring)
      (raised (polynomials K.ring) at (map (λ p. poly_of K p) rows)) i
  row_above-value rows at i r low high = go (cases_lt i at)
    where
      go : (i < at) ⊎ (at ≤ i) → poly_of K r ≡ coeff (polynomials K.ring)
          (raised (polynomials K.ring) at (map (λ p. poly_of K p) rows)) i
      go (inl l) = ap (poly_of K) (low l) ∙ sym
          (raised-below (polynomials K.ring) at (map (λ p. poly_of K p) rows) i l)
      go (inr l) = ap (poly_of K) (high l) ∙ row-value K rows (i - at)
          ∙ sym (raised-at (polynomials K.ring) at (map (λ p. poly_of K p) rows) (i - at) i
          (omega arith))

module _ (R : RingOps) (laws : IsCommRing R) (tests : IsTested R) where
  raised-scale : (n : ℕ) (c : R.carrier) (p : List R.carrier) (i : ℕ)
      → coeff R (raised R n (list_scale R c p)) i ≡ R.mul c (coeff R (raised R n p) i)
  raised-scale zero c p i = scale-coeff R laws tests c p i
  raised-scale (suc n) c p zero = sym (mul_zero R laws c)
  raised-scale (suc n) c p (suc i) = raised-scale n c p i

  -- lists whose combination a loop computed, where nothing is left past its end
  pub combination_by_loop : {A : Type 0} (f : A → R.carrier) (c t : R.carrier) (a b r : List A)
      (n at : ℕ) → length r ≡ n
      → ((i : ℕ) → i < n → coeff R (map f r) i ≡ R.add (R.mul c (coeff R (map f a) i))
      (R.mul t (coeff R (raised R at (map f b)) i)))
      → ((i : ℕ) → n ≤ i → R.add (R.mul c (coeff R (map f a) i))
      (R.mul t (coeff R (raised R at (map f b)) i)) ≡ R.zero)
      → poly R (map f r) ≡ (polynomials R).add
      ((polynomials R).mul (poly R (c ∷ [])) (poly R (map f a)))
      ((polynomials R).mul (monomial R t at) (poly R (map f b)))
  combination_by_loop f c t a b r n at lr h past =
      add_by_coeffs R laws tests (list_scale R c (map f a)) (raised R at (list_scale R t (map f b)))
      (map f r)
      (λ i. all i (cases_lt i n) ∙ sym (ap₂ R.add (scale-coeff R laws tests c (map f a) i)
      (raised-scale at t (map f b) i)))
      ∙ sym (ap₂ (polynomials R).add (monomial-mul R laws tests 0 c (map f a))
      (monomial-mul R laws tests at t (map f b)))
    where
      all : (i : ℕ) → (i < n) ⊎ (n ≤ i) → coeff R (map f r) i
          ≡ R.add (R.mul c (coeff R (map f a) i)) (R.mul t (coeff R (raised R at (map f b)) i))
      all i (inl l) = h i l
      all i (inr l) = coeff-past R f r i (omega arith) ∙ sym (past i l)

  -- past the ends of both lists
  pub past_rows : {A : Type 0} (f : A → R.carrier) (c t : R.carrier) (a b : List A) (at i : ℕ)
      → length a ≤ i → at + length b ≤ i
      → R.add (R.mul c (coeff R (map f a) i)) (R.mul t (coeff R (raised R at (map f b)) i)) ≡ R.zero
  past_rows f c t a b at i la lb =
      ap₂ (λ x y. R.add (R.mul c x) (R.mul t y)) (coeff-past R f a i la)
      (raised-past R at (map f b) i (let e : length (map f b)
      ≡ length b = length-map b f in omega (arith, e)))
      ∙ ring2 R laws (λ c t. c ⊗ nil ⊕ t ⊗ nil) (λ c t. nil) refl c t

  -- from the last coefficients on, where these cancel
  pub past_cancelled : {A : Type 0} (f : A → R.carrier) (c t : R.carrier) (a b : List A) (n at : ℕ)
      → length a ≡ suc n → suc n ≡ at + length b → 0 < length b
      → R.add (R.mul c (coeff R (map f a) n)) (R.mul t (coeff R (map f b) (length b - 1))) ≡ R.zero
      → (i : ℕ) → n ≤ i → R.add (R.mul c (coeff R (map f a) i))
      (R.mul t (coeff R (raised R at (map f b)) i)) ≡ R.zero
  past_cancelled f c t a b n at la lb pos top i l = go (cases_lt n i)
    where
      last : coeff R (raised R at (map f b)) n ≡ coeff R (map f b) (length b - 1)
      last = raised-at R at (map f b) (length b - 1) n (omega arith)

      go : (n < i) ⊎ (i ≤ n) → R.add (R.mul c (coeff R (map f a) i))
          (R.mul t (coeff R (raised R at (map f b)) i)) ≡ R.zero
      go (inl m) = past_rows f c t a b at i (omega arith) (omega arith)
      go (inr m) = let e : i ≡ n = omega arith in ap
          (λ i. R.add (R.mul c (coeff R (map f a) i)) (R.mul t (coeff R (raised R at (map f b)) i)))
          e ∙ ap (λ x. R.add (R.mul c (coeff R (map f a) n)) (R.mul t x)) last ∙ top

  PL : IsCommRing (polynomials R)
  PL = polynomial_laws R laws tests

  PPL : IsCommRing (polynomials (polynomials R))
  PPL = polynomial_laws (polynomials R) PL (polynomial_tests R laws tests)

  -- a multiple of b taken away
  pub pseudo_step : (c : Poly R) (m a b r s : Poly (polynomials R)) → s ≡ r → r
      ≡ (polynomials (polynomials R)).add ((polynomials (polynomials R)).mul (row_of R c) a)
      ((polynomials (polynomials R)).mul m b) → IsPseudoDivision R c a b s
  pseudo_step c m a b r s e h = record {
    quotient = (polynomials (polynomials R)).neg m;
    sum = ring4 (polynomials (polynomials R)) PPL (λ c a m b. c ⊗ a)
        (λ c a m b. neg m ⊗ b ⊕ (c ⊗ a ⊕ m ⊗ b)) refl (row_of R c) a m b
        ∙ ap ((polynomials (polynomials R)).add
        ((polynomials (polynomials R)).mul ((polynomials (polynomials R)).neg m) b)) (sym (e ∙ h));
  }

  row_of-mul : (c d : Poly R) → row_of R ((polynomials R).mul c d)
      ≡ (polynomials (polynomials R)).mul (row_of R c) (row_of R d)
  row_of-mul c d = sym (monomial-mul (polynomials R) PL (polynomial_tests R laws tests) 0 c
      (d ∷ []))

  -- the factor 1 and the whole as the rest
  pub pseudo_start : (c : Poly R) (a b r : Poly (polynomials R)) → c ≡ (polynomials R).one → r ≡ a
      → IsPseudoDivision R c a b r
  pseudo_start c a b r hc hr = record {
    quotient = (polynomials (polynomials R)).zero;
    sum = ap (λ t. (polynomials (polynomials R)).mul (row_of R t) a) hc
        ∙ ring2 (polynomials (polynomials R)) PPL (λ a b. unit ⊗ a) (λ a b. nil ⊗ b ⊕ a) refl a b
        ∙ ap ((polynomials (polynomials R)).add
        ((polynomials (polynomials R)).mul (polynomials (polynomials R)).zero b)) (sym hr);
  }

  -- one reduction after another
  pub pseudo_next : (c d e : Poly R) (a b r s : Poly (polynomials R)) → e ≡ (polynomials R).mul d c
      → IsPseudoDivision R c a b r → IsPseudoDivision R d r b s → IsPseudoDivision R e a b s
  pseudo_next c d e a b r s he h k = record {
    quotient = (polynomials (polynomials R)).add
        ((polynomials (polynomials R)).mul (row_of R d) h.quotient) k.quotient;
    sum = ap (λ t. (polynomials (polynomials R)).mul (row_of R t) a) he
        ∙ ap (λ t. (polynomials (polynomials R)).mul t a) (row_of-mul d c)
        ∙ PPL.mul_assoc (row_of R d) (row_of R c) a ∙ ap
        ((polynomials (polynomials R)).mul (row_of R d)) h.sum
        ∙ ring4 (polynomials (polynomials R)) PPL (λ d q b r. d ⊗ (q ⊗ b ⊕ r))
        (λ d q b r. d ⊗ q ⊗ b ⊕ d ⊗ r) refl (row_of R d) h.quotient b r
        ∙ ap ((polynomials (polynomials R)).add
        ((polynomials (polynomials R)).mul ((polynomials (polynomials R)).mul (row_of R d)
        h.quotient) b)) k.sum
        ∙ ring4 (polynomials (polynomials R)) PPL (λ u b v s. u ⊗ b ⊕ (v ⊗ b ⊕ s))
        (λ u b v s. (u ⊕ v) ⊗ b ⊕ s) refl ((polynomials (polynomials R)).mul (row_of R d)
        h.quotient) b k.quotient s;
  }

  -- multipliers that cancel the leading rows
  pub crossed : (l t : Poly R) (c m : Poly R) → c ≡ l → m ≡ (polynomials R).neg t
      → (polynomials R).add ((polynomials R).mul c t) ((polynomials R).mul m l)
      ≡ (polynomials R).zero
  crossed l t c m hc hm = ap₂ (λ c m. (polynomials R).add ((polynomials R).mul c t)
      ((polynomials R).mul m l)) hc hm ∙ ring2 (polynomials R) PL (λ l t. l ⊗ t ⊕ neg t ⊗ l)
      (λ l t. nil) refl l t

  pub crossed_constant : (a i : R.carrier) (l t c m : Poly R) → R.mul a i ≡ R.one → l
      ≡ poly R (a ∷ []) → c ≡ (polynomials R).one → m
      ≡ (polynomials R).mul t (poly R (R.neg i ∷ []))
      → (polynomials R).add ((polynomials R).mul c t) ((polynomials R).mul m l)
      ≡ (polynomials R).zero
  crossed_constant a i l t c m one hl hc hm =
      ap₂ (λ c m. (polynomials R).add ((polynomials R).mul c t) ((polynomials R).mul m l)) hc hm
      ∙ ap (λ l. (polynomials R).add ((polynomials R).mul (polynomials R).one t)
      ((polynomials R).mul ((polynomials R).mul t (poly R (R.neg i ∷ []))) l)) hl
      ∙ ring3 (polynomials R) PL (λ t i a. unit ⊗ t ⊕ (t ⊗ i) ⊗ a) (λ t i a. t ⊕ t ⊗ (i ⊗ a)) refl t
      (poly R (R.neg i ∷ [])) (poly R (a ∷ []))
      ∙ ap (λ u. (polynomials R).add t ((polynomials R).mul t u)) minus_one
      ∙ ring1 (polynomials R) PL (λ t. t ⊕ t ⊗ neg unit) (λ t. nil) refl t
    where
      minus_one : (polynomials R).mul (poly R (R.neg i ∷ [])) (poly R (a ∷ []))
          ≡ (polynomials R).neg (polynomials R).one
      minus_one = monomial-mul R laws tests 0 (R.neg i) (a ∷ [])
          ∙ ap (λ x. poly R (x ∷ [])) (ring2 R laws (λ i a. neg i ⊗ a) (λ i a. neg (a ⊗ i)) refl i a
          ∙ ap R.neg one) ∙ neg_by_coeffs R laws tests (R.one ∷ []) (R.neg R.one ∷ []) single
        where
          single : (j : ℕ) → coeff R (R.neg R.one ∷ []) j ≡ R.neg (coeff R (R.one ∷ []) j)
          single zero = refl
          single (suc j) = sym (neg-zero R laws)
