use Rattle.std.proofs.Common.{◌≡◌, ℕ, zero, suc, ◌+◌, ◌-◌, ◌<◌, ◌≤◌, IsTrue, List, [], ◌∷◌, ◌++◌}
use Rattle.std.proofs.Common.{length, map, get_or, set, take, drop, refl, sym, ◌∙◌, ap, ap₂, subst}
use Rattle.std.proofs.Common.{arith}
use Rattle.std.proofs.lemmas.List.{take_all, drop_all, length-map, length-take-le, length-drop}
use Rattle.ff_theory.specs.Ring.{RingOps, IsCommRing, IsTested}
use Rattle.ff_theory.specs.Poly.{coeff, ends_in_nonzero, list_scale, Poly, poly, polynomials}
use Rattle.ff_theory.specs.Division.{size, IsDivision}
use Rattle.ff_theory.proofs.Solver.{◌⊕◌, ◌⊗◌, neg, nil, ring1, ring2, ring3, ring6, mul_zero}
use Rattle.ff_theory.proofs.Solver.{zero_add}
use Rattle.ff_theory.proofs.Poly.{trim_same, scale-coeff, polynomial_laws}
use Rattle.ff_theory.proofs.Coeffs.{coeff-map, coeff-past, poly_ext, add_by_coeffs}
use Rattle.ff_theory.proofs.Division.{size_le, top_nonzero}
use Rattle.ff_theory.specs.Monomial.{raised, monomial}
use Rattle.ff_theory.proofs.Monomial.{monomial-mul}
use Rattle.ff_poly.proofs.Negative.{neg_by_coeffs}
use Rattle.ff_theory.proofs.Product.{poly-coeff, take-suc, zeros_poly}

-- a list whose first entries were replaced and the next one written
take-written : {E : Type 0} (p q : List E) (n : ℕ) (y : E) → length p ≡ n
    → take n (set (p ++ q) n y) ≡ p
take-written [] q zero y e = refl
take-written [] q (suc n) y e = absurd (omega arith)
take-written (a ∷ p) q zero y e = absurd (omega arith)
take-written (a ∷ p) q (suc n) y e = ap (λ t. a ∷ t) (take-written p q n y (omega arith))

drop-written : {E : Type 0} (p row : List E) (n m : ℕ) (y : E) → length p ≡ n → m < length row
    → drop n (set (p ++ drop m row) n y) ≡ y ∷ drop (suc m) row
drop-written {E = E} [] row zero m y e l = go row m l
  where
    go : (row : List E) (m : ℕ) → m < length row → set (drop m row) 0 y ≡ y ∷ drop (suc m) row
    go [] m l = absurd (omega arith)
    go (a ∷ row) zero l = refl
    go (a ∷ row) (suc m) l = go row m (omega arith)
drop-written [] row (suc n) m y e l = absurd (omega arith)
drop-written (a ∷ p) row zero m y e l = absurd (omega arith)
drop-written (a ∷ p) row (suc n) m y e l = drop-written p row n m y (omega arith) l

-- what follows the first n entries
pub rest_whole : {E : Type 0} (n : ℕ) (p : List E) → take (length p - n) (drop n p) ≡ drop n p
rest_whole n p = take_all (length p - n) (drop n p) (omega (arith, length-drop n p))

module _ (R : RingOps) (laws : IsCommRing R) (tests : IsTested R) where
  PL : IsCommRing (polynomials R)
  PL = polynomial_laws R laws tests

  raised-nil : (n : ℕ) → poly R (raised R n []) ≡ (polynomials R).zero
  raised-nil n = zeros_poly R laws tests (raised R n []) (go n)
    where
      go : (n i : ℕ) → coeff R (raised R n []) i ≡ R.zero
      go zero i = refl
      go (suc n) zero = refl
      go (suc n) (suc i) = go n i

  raised-cons : (n : ℕ) (c : R.carrier) (p : List R.carrier) → poly R (raised R n (c ∷ p))
      ≡ (polynomials R).add (monomial R c n) (poly R (raised R (suc n) p))
  raised-cons n c p = add_by_coeffs R laws tests (raised R n (c ∷ [])) (raised R (suc n) p)
      (raised R n (c ∷ p)) (go n)
    where
      go : (n i : ℕ) → coeff R (raised R n (c ∷ p)) i
          ≡ R.add (coeff R (raised R n (c ∷ [])) i) (coeff R (raised R (suc n) p) i)
      go zero zero = sym (laws.add_zero c)
      go zero (suc i) = sym (zero_add R laws (coeff R p i))
      go (suc n) zero = sym (laws.add_zero R.zero)
      go (suc n) (suc i) = go n i

  monomial-neg : (n : ℕ) (c : R.carrier) → monomial R (R.neg c) n
      ≡ (polynomials R).neg (monomial R c n)
  monomial-neg n c = neg_by_coeffs R laws tests (raised R n (c ∷ [])) (raised R n (R.neg c ∷ []))
      (go n)
    where
      none : R.zero ≡ R.neg R.zero
      none = ring1 R laws (λ a. nil) (λ a. neg nil) refl R.zero

      go : (n i : ℕ) → coeff R (raised R n (R.neg c ∷ [])) i
          ≡ R.neg (coeff R (raised R n (c ∷ [])) i)
      go zero zero = refl
      go zero (suc i) = none
      go (suc n) zero = none
      go (suc n) (suc i) = go n i

  pub monomial-mul-monomial : (m n k : ℕ) (c d : R.carrier) → k ≡ m + n
      → (polynomials R).mul (monomial R c m) (monomial R d n) ≡ monomial R (R.mul c d) k
  monomial-mul-monomial m n k c d e = monomial-mul R laws tests m c (raised R n (d ∷ []))
      ∙ poly_ext R laws tests (raised R m (list_scale R c (raised R n (d ∷ []))))
      (raised R k (R.mul c d ∷ [])) (λ i. go m k i e)
    where
      base : (n i : ℕ) → R.mul c (coeff R (raised R n (d ∷ [])) i)
          ≡ coeff R (raised R n (R.mul c d ∷ [])) i
      base zero zero = refl
      base zero (suc i) = mul_zero R laws c
      base (suc n) zero = mul_zero R laws c
      base (suc n) (suc i) = base n i

      go : (m k i : ℕ) → k ≡ m + n → coeff R (raised R m (list_scale R c (raised R n (d ∷ [])))) i
          ≡ coeff R (raised R k (R.mul c d ∷ [])) i
      go zero k i e = scale-coeff R laws tests c (raised R n (d ∷ [])) i ∙ base n i
          ∙ ap (λ m. coeff R (raised R m (R.mul c d ∷ [])) i) (let h : n ≡ k = omega arith in h)
      go (suc m) zero i e = absurd (omega arith)
      go (suc m) (suc k) zero e = refl
      go (suc m) (suc k) (suc i) e = go m k i (omega arith)

  -- the next term d of the quotient, where d * l is the top term of what is left
  next_term : (s u t d l low : Poly R) → s ≡ (polynomials R).add
      ((polynomials R).mul u ((polynomials R).add low l))
      ((polynomials R).add t ((polynomials R).mul d l))
      → s ≡ (polynomials R).add ((polynomials R).mul ((polynomials R).add d u)
      ((polynomials R).add low l)) ((polynomials R).add t
      ((polynomials R).mul ((polynomials R).neg d) low))
  next_term s u t d l low h = h ∙ ring6 (polynomials R) PL
      (λ u t d l low z. u ⊗ (low ⊕ l) ⊕ (t ⊕ d ⊗ l))
      (λ u t d l low z. (d ⊕ u) ⊗ (low ⊕ l) ⊕ (t ⊕ neg d ⊗ low)) refl u t d l low low

  module _ {E : Type 0} (f : E → R.carrier) where
    pub divide-start : (b row : List E) (n m : ℕ) → length row ≤ m → poly R (map f row)
        ≡ (polynomials R).add ((polynomials R).mul (poly R (raised R n (map f (drop m row))))
        (poly R (map f b))) (poly R (map f (take m row)))
    divide-start b row n m l = ring2 (polynomials R) PL (λ r b. r) (λ r b. nil ⊗ b ⊕ r) refl
        (poly R (map f row)) (poly R (map f b))
        ∙ ap (λ u. (polynomials R).add ((polynomials R).mul u (poly R (map f b)))
        (poly R (map f row))) (sym (ap (λ p. poly R (raised R n (map f p))) (drop_all m row l)
        ∙ raised-nil n))
        ∙ ap (λ p. (polynomials R).add ((polynomials R).mul
        (poly R (raised R n (map f (drop m row)))) (poly R (map f b))) (poly R (map f p)))
        (sym (take_all m row l))

    pub divide-step : (s : Poly R) (row low b : List E) (n at degree top : ℕ) (x y l : E)
        (c i : R.carrier) → n ≡ suc at → top ≡ at + degree → length b ≡ suc degree → length low
        ≡ top → top < length row
        → x ≡ get_or row top x → l ≡ get_or b degree l → f y ≡ R.mul (f x) i → R.mul (f l) i ≡ R.one
        → c ≡ R.neg (f y)
        → poly R (map f low) ≡ (polynomials R).add (poly R (map f (take top row)))
        ((polynomials R).mul (monomial R c at) (poly R (map f (take degree b))))
        → s ≡ (polynomials R).add ((polynomials R).mul
        (poly R (raised R n (map f (drop (n + degree) row)))) (poly R (map f b)))
        (poly R (map f (take (n + degree) row)))
        → s ≡ (polynomials R).add ((polynomials R).mul
        (poly R (raised R at (map f (drop top (set (low ++ drop top row) top y)))))
        (poly R (map f b))) (poly R (map f (take top (set (low ++ drop top row) top y))))
    divide-step s row low b n at degree top x y l c i hn ht hb hlow bound hx hl hy one hc new old =
        next_term s u (poly R (map f (take top row))) d lead below
        (old ∙ ap (λ n. (polynomials R).add ((polynomials R).mul
        (poly R (raised R n (map f (drop (n + degree) row)))) (poly R (map f b)))
        (poly R (map f (take (n + degree) row)))) hn
        ∙ ap (λ m. (polynomials R).add ((polynomials R).mul
        (poly R (raised R (suc at) (map f (drop m row)))) (poly R (map f b)))
        (poly R (map f (take m row)))) place
        ∙ ap (λ t. (polynomials R).add ((polynomials R).mul u t)
        (poly R (map f (take (suc top) row)))) divisor
        ∙ ap (λ t. (polynomials R).add ((polynomials R).mul u ((polynomials R).add below lead)) t)
        (take-suc R laws tests f row top (suc top) x bound hx refl
        ∙ ap ((polynomials R).add (poly R (map f (take top row)))) top_term))
        ∙ ap (λ t. (polynomials R).add ((polynomials R).mul ((polynomials R).add d u) t)
        ((polynomials R).add (poly R (map f (take top row)))
        ((polynomials R).mul ((polynomials R).neg d) below))) (sym divisor)
        ∙ ap (λ t. (polynomials R).add ((polynomials R).mul t (poly R (map f b)))
        ((polynomials R).add (poly R (map f (take top row)))
        ((polynomials R).mul ((polynomials R).neg d) below))) (sym quotient)
        ∙ ap ((polynomials R).add ((polynomials R).mul
        (poly R (raised R at (map f (drop top (set (low ++ drop top row) top y)))))
        (poly R (map f b)))) (sym rest)
      where
        place : suc at + degree ≡ suc top
        place = omega arith

        u : Poly R
        u = poly R (raised R (suc at) (map f (drop (suc top) row)))

        d : Poly R
        d = monomial R (f y) at

        lead : Poly R
        lead = monomial R (f l) degree

        below : Poly R
        below = poly R (map f (take degree b))

        divisor : poly R (map f b) ≡ (polynomials R).add below lead
        divisor = ap (λ p. poly R (map f p)) (sym (take_all (suc degree) b (omega arith)))
            ∙ take-suc R laws tests f b degree (suc degree) l (omega arith) hl refl

        top_term : monomial R (f x) top ≡ (polynomials R).mul d lead
        top_term = ap (λ t. monomial R t top)
            (sym (ap (λ t. R.mul t (f l)) hy ∙ ring3 R laws (λ x i l. (x ⊗ i) ⊗ l)
            (λ x i l. x ⊗ (l ⊗ i)) refl (f x) i (f l) ∙ ap (R.mul (f x)) one ∙ laws.mul_one (f x)))
            ∙ sym (monomial-mul-monomial at degree top (f y) (f l) ht)

        quotient : poly R (raised R at (map f (drop top (set (low ++ drop top row) top y))))
            ≡ (polynomials R).add d u
        quotient = ap (λ p. poly R (raised R at (map f p)))
            (drop-written low row top top y hlow bound) ∙ raised-cons at (f y)
            (map f (drop (suc top) row))

        rest : poly R (map f (take top (set (low ++ drop top row) top y)))
            ≡ (polynomials R).add (poly R (map f (take top row)))
            ((polynomials R).mul ((polynomials R).neg d) below)
        rest = ap (λ p. poly R (map f p)) (take-written low (drop top row) top y hlow) ∙ new
            ∙ ap (λ t. (polynomials R).add (poly R (map f (take top row)))
            ((polynomials R).mul t below)) (ap (λ t. monomial R t at) hc ∙ monomial-neg at (f y))

    pub divide-end : (s : Poly R) (b row : List E) (n degree : ℕ) → 0 ≡ n → s
        ≡ (polynomials R).add ((polynomials R).mul
        (poly R (raised R n (map f (drop (n + degree) row)))) (poly R (map f b)))
        (poly R (map f (take (n + degree) row)))
        → s ≡ (polynomials R).add ((polynomials R).mul (poly R (map f (drop degree row)))
        (poly R (map f b))) (poly R (map f (take degree row)))
    divide-end s b row n degree e h = h ∙ ap
        (λ n. (polynomials R).add ((polynomials R).mul
        (poly R (raised R n (map f (drop (n + degree) row)))) (poly R (map f b)))
        (poly R (map f (take (n + degree) row)))) (sym e)
        ∙ ap (λ m. (polynomials R).add ((polynomials R).mul (poly R (map f (drop m row)))
        (poly R (map f b))) (poly R (map f (take m row))))
        (let k : 0 + degree ≡ degree = omega arith in k)

    -- sizes
    pub poly-size-le : (p : List E) → size R (poly R (map f p)) ≤ length p
    poly-size-le p = size_le R laws tests (poly R (map f p)) (length p)
        (λ i l. poly-coeff R laws tests (map f p) i ∙ coeff-past R f p i l)

    pub poly-size : (p : List E) → IsTrue (ends_in_nonzero R (map f p)) → size R (poly R (map f p))
        ≡ length p
    unfolding poly
    poly-size p h = ap length (trim_same R laws tests (map f p) h) ∙ length-map p f

    pub last_nonzero : (p : List E) (x : E) (n : ℕ) → IsTrue (ends_in_nonzero R (map f p))
        → length p ≡ suc n → x ≡ get_or p n x → ¬ (f x ≡ R.zero)
    last_nonzero p x n h e hx z = top_nonzero R laws tests (poly R (map f p)) n (poly-size p h ∙ e)
        (poly-coeff R laws tests (map f p) n ∙ coeff-map R f p n x (omega arith) ∙ ap f (sym hx)
        ∙ z)

    -- the two parts of a row that was divided in place
    pub division_parts : (a c row b d : List E) (n : ℕ) (q r : Poly R) → c ≡ a → d ≡ b
        → IsTrue (ends_in_nonzero R (map f b)) → n < length d → n ≤ length row
        → poly R (map f c) ≡ (polynomials R).add
        ((polynomials R).mul (poly R (map f (drop n row))) (poly R (map f d)))
        (poly R (map f (take n row)))
        → q ≡ poly R (map f (drop n row)) → r ≡ poly R (map f (take n row))
        → IsDivision R (poly R (map f a)) (poly R (map f b)) q r
    division_parts a c row b d n q r hc hd h l k e hq hr = record {
      sum = ap (λ p. poly R (map f p)) (sym hc) ∙ e ∙ ap
          (λ p. (polynomials R).add ((polynomials R).mul (poly R (map f (drop n row)))
          (poly R (map f p))) (poly R (map f (take n row)))) hd
          ∙ ap₂ (λ q r. (polynomials R).add ((polynomials R).mul q (poly R (map f b))) r) (sym hq)
          (sym hr);
      smaller = let s : size R r ≤ length (take n row) = subst
          (λ (t : Poly R). size R t ≤ length (take n row)) (sym hr) (poly-size-le (take n row)) in
          omega (arith, s, poly-size b h, l, length-take-le n row k, ap length hd);
    }

    pub division_lengths : (a b r : List E) (q : Poly R) → IsTrue (ends_in_nonzero R (map f b))
        → IsTrue (ends_in_nonzero R (map f r)) → IsDivision R (poly R (map f a)) (poly R (map f b))
        q (poly R (map f r)) → length r < length b
    division_lengths a b r q hb hr d = omega (arith, poly-size b hb, poly-size r hr, d.smaller)
