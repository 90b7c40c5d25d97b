-- The slope is the least e for which the rows fit.
use Rattle.std.proofs.Common.{◌≡◌, ℕ, zero, suc, pred, max, ◌+◌, ◌-◌, ◌*◌, ◌/◌, ◌<◌, ◌≤◌, ◌⊎◌, inl}
use Rattle.std.proofs.Common.{inr, subst, arith}
use Rattle.std.proofs.lemmas.Bool.{cases_lt}
use Rattle.std.proofs.lemmas.Nat.{div_below}
use Rattle.std.proofs.Math.Nat.{le-div_iff_mul-le}
use Rattle.ff_theory.specs.Ring.{RingOps}
use Rattle.ff_theory.specs.Poly.{coeff, Poly, polynomials}
use Rattle.ff_theory.specs.Division.{size}
use Rattle.ff_theory.specs.Reversal.{IsSlope, quotient_up, slope_below, slope}

-- a is at most b times the quotient, and the quotient at most each e with a at most b * e
quotient_fits : (a b : ℕ) → 0 < b → a ≤ b * quotient_up a b
quotient_fits a b h = go (cases_lt (b * q) a)
  where
    q : ℕ
    q = quotient_up a b

    go : (b * q < a) ⊎ (a ≤ b * q) → a ≤ b * q
    go (inr l) = l
    go (inl l) = absurd (let w : suc q * b ≡ b * q + b = omega arith in
        let m : suc q ≤ (a + (b - 1)) / b = (le-div_iff_mul-le h).1 (omega (arith, w, l, h)) in
        omega (arith, m))

quotient_least : (a b e : ℕ) → 0 < b → a ≤ b * e → quotient_up a b ≤ e
quotient_least a b e h l = let w : suc e * b ≡ b * e + b = omega arith in
    let m : (a + (b - 1)) / b < suc e = div_below (a + (b - 1)) b (suc e) h (omega (arith, w, l, h))
    in omega (arith, m)

module _ (k : RingOps) (F : Poly (polynomials k)) where
  abbrev rows : ℕ → ℕ
  rows i = size k (coeff (polynomials k) F.coeffs i)

  slope_fits : (n m : ℕ) → m ≤ n → (i : ℕ) → i < m → rows i ≤ suc ((n - i) * slope_below k n F m)
  slope_fits n zero h i l = absurd (omega (arith, l))
  slope_fits n (suc m) h i l = go (λ q. slope_fits n m (omega (arith, h)) i q) (cases_lt i m)
    where
      s : ℕ
      s = slope_below k n F m

      t : ℕ
      t = quotient_up (pred (rows m)) (n - m)

      wider : (a b c : ℕ) → b ≤ c → a * b ≤ a * c
      wider zero b c l = omega (arith, l)
      wider (suc a) b c l = let p : a * b ≤ a * c = wider a b c l in let u : suc a * b
          ≡ b + a * b = omega arith in let v : suc a * c
          ≡ c + a * c = omega arith in omega (arith, p, u, v, l)

      go : (i < m → rows i ≤ suc ((n - i) * slope_below k n F m)) → (i < m) ⊎ (m ≤ i)
          → rows i ≤ suc ((n - i) * max s t)
      go before (inl q) = let p : rows i ≤ suc ((n - i) * s) = before q in
          let w : (n - i) * s ≤ (n - i) * max s t = wider (n - i) s (max s t) (omega arith) in omega
          (arith, p, w)
      go before (inr q) = let e : m ≡ i = omega (arith, q, l) in subst (λ i. rows i ≤ suc ((n - i) *
          max s t)) e
          (let p : pred (rows m) ≤ (n - m) * t = quotient_fits (pred (rows m)) (n - m)
          (omega (arith, h)) in
          let w : (n - m) * t ≤ (n - m) * max s t = wider (n - m) t (max s t) (omega arith) in
          omega (arith, p, w))

  slope_least : (n m d : ℕ) → m ≤ n → ((i : ℕ) → i < m → rows i ≤ suc ((n - i) * d))
      → slope_below k n F m ≤ d
  slope_least n zero d h fits = omega arith
  slope_least n (suc m) d h fits = let p : slope_below k n F m ≤ d = slope_least n m d
      (omega (arith, h)) (λ i l. fits i (omega (arith, l))) in
      let f : rows m ≤ suc ((n - m) * d) = fits m (omega arith) in
      let q : quotient_up (pred (rows m)) (n - m) ≤ d = quotient_least (pred (rows m)) (n - m) d
      (omega (arith, h)) (omega (arith, f)) in omega (arith, p, q)

  pub slope_is : (n : ℕ) → IsSlope k n F (slope k n F)
  slope_is n = record {
    fits = slope_fits n n (omega arith);
    least = λ d h. slope_least n n d
        (omega arith) h;
  }
