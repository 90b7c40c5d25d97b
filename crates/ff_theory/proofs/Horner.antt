-- Evaluation from the top coefficient down, of polynomials in one and in two variables.
use Rattle.std.proofs.Common.{◌≡◌, ℕ, zero, suc, ◌+◌ as plus_ℕ, ◌-◌, ◌<◌, ◌≤◌, List, [], ◌∷◌}
use Rattle.std.proofs.Common.{length, refl, sym, ◌∙◌, ap, arith}
use Rattle.ff_theory.specs.Ring.{RingOps, IsCommRing, power}
use Rattle.ff_theory.specs.Sum.{sum_below}
use Rattle.ff_theory.specs.Poly.{coeff, Poly, poly, polynomials}
use Rattle.ff_theory.specs.Eval.{eval_list, eval, plane_at}
use Rattle.ff_theory.proofs.Solver.{◌⊕◌, ◌⊗◌, nil, ring1, ring3}
use Rattle.ff_theory.proofs.Series.{tail}
use Rattle.ff_theory.proofs.Sums.{sum-ext, sum-front, sum-mul, sum-swap}

-- c 0 + y * (c 1 + y * (c 2 + ..)), with n terms
abbrev pub horner : (R : RingOps) → R.carrier → (ℕ → R.carrier) → ℕ → R.carrier
horner R y c zero = R.zero
horner R y c (suc n) = R.add (c zero) (R.mul y (horner R y (tail c) n))

-- the terms from index m on
abbrev pub from_index : {A : Type 0} → ℕ → (ℕ → A) → ℕ → A
from_index m c i = c (plus_ℕ m i)

module _ (R : RingOps) (laws : IsCommRing R) where
  infixl 60 ◌+◌
  infixl 70 ◌*◌
  open R use {add as ◌+◌, mul as ◌*◌, carrier as C}

  pub horner-ext : (y : C) (c d : ℕ → C) (n : ℕ) → ((i : ℕ) → i < n → c i ≡ d i) → horner R y c n
      ≡ horner R y d n
  horner-ext y c d zero h = refl
  horner-ext y c d (suc n) h = ap (λ t. t + y * horner R y (tail c) n) (h zero (omega arith))
      ∙ ap (λ t. d zero + y * t) (horner-ext y (tail c) (tail d) n (λ i l. h (suc i) (omega arith)))

  -- a step down: the term at index m, and y times what stands above
  pub horner-step : (y : C) (c : ℕ → C) (m n : ℕ) → horner R y (from_index m c) (suc n)
      ≡ c m + y * horner R y (from_index (suc m) c) n
  horner-step y c m n =
      let e : plus_ℕ m zero ≡ m = omega arith in
      ap (λ i. c i + y * horner R y (tail (from_index m c)) n) e
      ∙ ap (λ t. c m + y * t) (horner-ext y (tail (from_index m c)) (from_index (suc m) c) n
      (λ i l. let e : plus_ℕ m (suc i) ≡ plus_ℕ (suc m) i = omega arith in ap c e))

  pub horner-sum : (y : C) (c : ℕ → C) (n : ℕ) → horner R y c n
      ≡ sum_below R n (λ i. c i * power R y i)
  horner-sum y c zero = refl
  horner-sum y c (suc n) =
      ap (λ t. c zero + y * t) (horner-sum y (tail c) n)
      ∙ ap (λ t. c zero + t) (sym (sum-mul R laws n y (λ i. tail c i * power R y i))
      ∙ sum-ext R laws n (λ i. y * (tail c i * power R y i)) (λ i. c (suc i) * power R y (suc i))
      (λ i l. ring3 R laws (λ y c p. y ⊗ (c ⊗ p)) (λ y c p. c ⊗ (y ⊗ p)) refl y (c (suc i))
      (power R y i)))
      ∙ ap (λ t. t + sum_below R n (λ i. c (suc i) * power R y (suc i)))
      (sym (laws.mul_one (c zero)))
      ∙ sym (sum-front R laws n (λ i. c i * power R y i))

  -- terms that are zero add nothing
  pub horner-longer : (y : C) (c : ℕ → C) (n k : ℕ) → ((i : ℕ) → n ≤ i → c i ≡ R.zero)
      → horner R y c (plus_ℕ n k) ≡ horner R y c n
  horner-longer y c zero k h = let e : plus_ℕ zero k ≡ k = omega arith in ap (horner R y c) e
      ∙ zeros k c (λ i. h i (omega arith))
    where
      zeros : (k : ℕ) (c : ℕ → C) → ((i : ℕ) → c i ≡ R.zero) → horner R y c k ≡ R.zero
      zeros zero c h = refl
      zeros (suc k) c h = ap (λ t. t + y * horner R y (tail c) k) (h zero)
          ∙ ap (λ t. R.zero + y * t) (zeros k (tail c) (λ i. h (suc i)))
          ∙ ring1 R laws (λ y. nil ⊕ y ⊗ nil) (λ y. nil) refl y
  horner-longer y c (suc n) k h = let e : plus_ℕ (suc n) k ≡ suc (plus_ℕ n k) = omega arith in
      ap (horner R y c) e ∙ ap (λ t. c zero + y * t)
      (horner-longer y (tail c) n k (λ i l. h (suc i) (omega arith)))

  -- in two variables: by the powers of x first, or by those of y first
  pub horner-swap : (x y : C) (c : ℕ → ℕ → C) (m n : ℕ)
      → horner R x (λ i. sum_below R n (λ j. c j i * power R y j)) m
      ≡ horner R y (λ j. horner R x (c j) m) n
  horner-swap x y c m n =
      horner-sum x (λ i. sum_below R n (λ j. c j i * power R y j)) m
      ∙ sum-ext R laws m (λ i. sum_below R n (λ j. c j i * power R y j) * power R x i)
      (λ i. sum_below R n (λ j. c j i * power R x i * power R y j)) (λ i l.
      laws.mul_comm (sum_below R n (λ j. c j i * power R y j)) (power R x i)
      ∙ sym (sum-mul R laws n (power R x i) (λ j. c j i * power R y j))
      ∙ sum-ext R laws n (λ j. power R x i * (c j i * power R y j))
      (λ j. c j i * power R x i * power R y j) (λ j k. ring3 R laws (λ p c q. p ⊗ (c ⊗ q))
      (λ p c q. c ⊗ p ⊗ q) refl (power R x i) (c j i) (power R y j)))
      ∙ sum-swap R laws m n (λ i j. c j i * power R x i * power R y j)
      ∙ sum-ext R laws n (λ j. sum_below R m (λ i. c j i * power R x i * power R y j))
      (λ j. horner R x (c j) m * power R y j) (λ j k.
      sum-ext R laws m (λ i. c j i * power R x i * power R y j)
      (λ i. power R y j * (c j i * power R x i)) (λ i l. laws.mul_comm (c j i * power R x i)
      (power R y j))
      ∙ sum-mul R laws m (power R y j) (λ i. c j i * power R x i)
      ∙ laws.mul_comm (power R y j) (sum_below R m (λ i. c j i * power R x i))
      ∙ ap (λ t. t * power R y j) (sym (horner-sum x (c j) m)))
      ∙ sym (horner-sum y (λ j. horner R x (c j) m) n)

pub eval-zero : (S R : RingOps) (h : S.carrier → R.carrier) (y : R.carrier)
    → eval S R h y (polynomials S).zero ≡ R.zero
unfolding eval poly
eval-zero S R h y = refl

-- the value of a list of coefficients
module _ (S R : RingOps) (laws : IsCommRing R) (h : S.carrier → R.carrier) (nothing : h S.zero
    ≡ R.zero) where
  pub eval_list-horner : (y : R.carrier) (p : List S.carrier) → eval_list R h y p
      ≡ horner R y (λ i. h (coeff S p i)) (length p)
  eval_list-horner y [] = refl
  eval_list-horner y (c ∷ p) = ap (λ t. R.add (h c) (R.mul y t)) (eval_list-horner y p)

  past : (p : List S.carrier) (i : ℕ) → length p ≤ i → h (coeff S p i) ≡ R.zero
  past [] i l = nothing
  past (c ∷ p) zero l = absurd (omega arith)
  past (c ∷ p) (suc i) l = past p i (omega arith)

  -- with as many terms as one likes, from the length of the list on
  pub eval-horner : (y : R.carrier) (p : Poly S) (n : ℕ) → length p.coeffs ≤ n → eval S R h y p
      ≡ horner R y (λ i. h (coeff S p.coeffs i)) n
  unfolding eval
  eval-horner y p n l = let e : plus_ℕ (length p.coeffs) (n - length p.coeffs) ≡ n = omega arith in
      eval_list-horner y p.coeffs ∙ sym (horner-longer R laws y (λ i. h (coeff S p.coeffs i))
      (length p.coeffs) (n - length p.coeffs) (past p.coeffs))
      ∙ ap (horner R y (λ i. h (coeff S p.coeffs i))) e

-- the value of a polynomial in x and y: by the powers of X from the top, each with a sum over the
-- powers of Y
module _ (S R : RingOps) (laws : IsCommRing R) (h : S.carrier → R.carrier) (nothing : h S.zero
    ≡ R.zero) where
  pub plane_at-horner : (X Y : R.carrier) (N : Poly (polynomials S)) (m n : ℕ) → length N.coeffs ≤ n
      → ((j : ℕ) → length (coeff (polynomials S) N.coeffs j).coeffs ≤ m)
      → plane_at S R h X Y N ≡ horner R X
      (λ i. sum_below R n (λ j. R.mul (h (coeff S (coeff (polynomials S) N.coeffs j).coeffs i))
      (power R Y j))) m
  plane_at-horner X Y N m n rows columns =
      eval-horner (polynomials S) R laws (eval S R h X) (eval-zero S R h X) Y N n rows
      ∙ horner-ext R laws Y (λ j. eval S R h X (coeff (polynomials S) N.coeffs j))
      (λ j. horner R X (λ i. h (coeff S (coeff (polynomials S) N.coeffs j).coeffs i)) m) n
      (λ j l. eval-horner S R laws h nothing X (coeff (polynomials S) N.coeffs j) m (columns j))
      ∙ sym (horner-swap R laws X Y (λ j i. h (coeff S (coeff (polynomials S) N.coeffs j).coeffs i))
      m n)
