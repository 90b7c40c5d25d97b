-- A map from the numbers below n into themselves that keeps different numbers different reaches
-- each of them.
use Rattle.std.proofs.Common.{◌≡◌, ℕ, zero, suc, ◌-◌, ◌<◌, ◌≤◌, ◌⊎◌, inl, inr, Bool, true, false}
use Rattle.std.proofs.Common.{refl, sym, ◌∙◌, ap, arith}
use Rattle.std.proofs.lemmas.Bool.{cases_lt, eqb-true, eq-eqb}
use Rattle.std.specs.Prelude.{nat_eq}
use Rattle.ff_theory.proofs.Booleans.{differ}

-- v, less one where it is above j
lowered : (j v : ℕ) → (j < v) ⊎ (v ≤ j) → ℕ
lowered j v (inl l) = v - 1
lowered j v (inr l) = v

before : (v j : ℕ) → v ≤ j → ¬ (v ≡ j) → v < j
before v j l n = go (cases_lt v j)
  where
    go : (v < j) ⊎ (j ≤ v) → v < j
    go (inl m) = m
    go (inr m) = absurd (n (omega (arith, l, m)))

lowered-one : (j v w : ℕ) (s : (j < v) ⊎ (v ≤ j)) (t : (j < w) ⊎ (w ≤ j)) → ¬ (v ≡ j) → ¬ (w ≡ j)
    → lowered j v s ≡ lowered j w t → v ≡ w
unfolding lowered
lowered-one j v w (inl l) (inl m) nv nw e = let z : v - 1 ≡ w - 1 = e in omega (arith, l, m, z)
lowered-one j v w (inl l) (inr m) nv nw e = let b : w < j = before w j m nw in absurd
    (let z : v - 1 ≡ w = e in omega (arith, l, b, z))
lowered-one j v w (inr l) (inl m) nv nw e = let b : v < j = before v j l nv in absurd
    (let z : v ≡ w - 1 = e in omega (arith, m, b, z))
lowered-one j v w (inr l) (inr m) nv nw e = e

lowered-below : (j v k : ℕ) (s : (j < v) ⊎ (v ≤ j)) → ¬ (v ≡ j) → j < suc k → v < suc k
    → lowered j v s < k
unfolding lowered
lowered-below j v k (inl l) n hj hv = let r : v - 1 < k = omega (arith, l, hv) in r
lowered-below j v k (inr l) n hj hv = let b : v < j = before v j l n in let r : v < k = omega
    (arith, b, hj) in r

-- different numbers below n have different values
abbrev pub IsInjective : ℕ → (ℕ → ℕ) → Type 0
IsInjective n g = (i j : ℕ) → i < n → j < n → g i ≡ g j → i ≡ j

-- no such map goes from more numbers into fewer
pub no_injection : (m : ℕ) (g : ℕ → ℕ) → ((i : ℕ) → i < suc m → g i < m) → ¬ (IsInjective (suc m) g)
no_injection zero g h one = absurd (let z : g 0 < 0 = h 0 (omega arith) in omega (arith, z))
no_injection (suc k) g h one = no_injection k (λ i. lowered j (g i) (cases_lt j (g i)))
    (λ i l. lowered-below j (g i) k (cases_lt j (g i)) (apart i l) (h (suc k) (omega arith))
    (h i (omega arith)))
    (λ i l hi hl e. one i l (omega arith) (omega arith)
    (lowered-one j (g i) (g l) (cases_lt j (g i)) (cases_lt j (g l)) (apart i hi) (apart l hl)
    e))
  where
    j : ℕ
    j = g (suc k)

    apart : (i : ℕ) → i < suc k → ¬ (g i ≡ g (suc k))
    apart i l e = let z : i ≡ suc k = one i (suc k) (omega arith) (omega arith) e in absurd (omega
        (arith, z, l))

-- some number below n has the value j, or none has
found : (n : ℕ) (g : ℕ → ℕ) (j : ℕ) → ((i : ℕ) × ((i < n) × (g i ≡ j)))
    ⊎ ((i : ℕ) → i < n → ¬ (g i ≡ j))
found zero g j = inr (λ i l e. absurd (omega arith))
found (suc n) g j = go (found n g j) (nat_eq (g n) j) refl
  where
    go : ((i : ℕ) × ((i < n) × (g i ≡ j))) ⊎ ((i : ℕ) → i < n → ¬ (g i ≡ j)) → (b : Bool)
        → nat_eq (g n) j ≡ b → ((i : ℕ) × ((i < suc n) × (g i ≡ j)))
        ⊎ ((i : ℕ) → i < suc n → ¬ (g i ≡ j))
    go (inl f) b e = inl (f.0, (let l : f.0 < n = f.1.0 in omega (arith, l), f.1.1))
    go (inr none) true e = inl (n, (omega arith, eqb-true (g n) j e))
    go (inr none) false e = inr (λ i l. pick i (cases_lt i n) l)
      where
        pick : (i : ℕ) → (i < n) ⊎ (n ≤ i) → i < suc n → ¬ (g i ≡ j)
        pick i (inl m) l = none i m
        pick i (inr m) l = λ h. let z : i
            ≡ n = omega (arith, m, l) in differ (nat_eq (g n) j) (eq-eqb (g n) j (sym (ap g z) ∙ h))
            e

pub reached : (n : ℕ) (g : ℕ → ℕ) → ((i : ℕ) → i < n → g i < n) → IsInjective n g → (j : ℕ) → j < n
    → (i : ℕ) × ((i < n) × (g i ≡ j))
reached n g h one j hj = go (found n g j) n refl
  where
    go : ((i : ℕ) × ((i < n) × (g i ≡ j))) ⊎ ((i : ℕ) → i < n → ¬ (g i ≡ j)) → (k : ℕ) → n ≡ k
        → (i : ℕ) × ((i < n) × (g i ≡ j))
    go (inl f) k e = f
    go (inr none) zero e = absurd (omega (arith, hj, e))
    go (inr none) (suc k) e = absurd
        (no_injection k (λ i. lowered j (g i) (cases_lt j (g i)))
        (λ i l. lowered-below j (g i) k (cases_lt j (g i)) (none i (omega (arith, l, e)))
        (omega (arith, hj, e)) (let z : g i < n = h i (omega (arith, l, e)) in omega (arith, z, e)))
        (λ i l hi hl s. one i l (omega (arith, hi, e)) (omega (arith, hl, e))
        (lowered-one j (g i) (g l) (cases_lt j (g i)) (cases_lt j (g l))
        (none i (omega (arith, hi, e))) (none l (omega (arith, hl, e))) s)))
