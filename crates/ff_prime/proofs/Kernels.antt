-- Lists of numbers as vectors of residues.
use Rattle.std.proofs.Common.{◌≡◌, ℕ, ◌+◌, ◌*◌, ◌%◌, ◌<◌, ◌≤◌, ◌⊎◌, inl, inr, List, length, get_or}
use Rattle.std.proofs.Common.{◌-◌, zero, suc, IsTrue, nat_lt, subst, map, refl, sym, ◌∙◌, ap, ap₂}
use Rattle.std.proofs.Common.{arith}
use Rattle.std.proofs.Math.Nat.{mul-suc, suc-mul}
use Rattle.std.proofs.lemmas.Nat.{mul-le}
use Rattle.std.proofs.lemmas.List.{length-map}
use Rattle.std.proofs.lemmas.Bool.{cases_lt}
use Rattle.ff_theory.specs.Ring.{RingOps, IsCommRing, IsTested}
use Rattle.ff_theory.specs.Poly.{coeff, list_scale, polynomials}
use Rattle.ff_theory.specs.Monomial.{raised, monomial}
use Rattle.ff_theory.specs.Values.{poly_of}
use Rattle.ff_theory.specs.Residue.{residue, residues}
use Rattle.ff_theory.specs.PrimeTable.{primes, is_in, prime_elements}
use Rattle.ff_theory.specs.Vector.{vector_of}
use Rattle.ff_theory.proofs.Coeffs.{coeff-map, coeff-past, poly_ext}
use Rattle.ff_theory.proofs.Monomial.{add_monomial_by_coeffs, add_monomial-below}
use Rattle.ff_theory.proofs.Monomial.{add_monomial-past, add_monomial-at}
use Rattle.ff_theory.proofs.Prime.{residue_equal, residue_add_product, prime_remainder}
use Rattle.ff_theory.proofs.Solver.{◌⊕◌, ◌⊗◌, nil, ring1}

-- each entry grows by one product at most
pub accumulated-bound : (old new b : List ℕ) (at c : ℕ)
    → ((j : ℕ) → j < length b → c * get_or b j 0 ≤ 9216)
    → ((i : ℕ) → i < at → get_or new i 0 ≡ get_or old i 0)
    → ((j : ℕ) → j < length b → get_or new (at + j) 0 ≡ get_or old (at + j) 0 + c * get_or b j 0)
    → ((i : ℕ) → at + length b ≤ i → get_or new i 0 ≡ get_or old i 0)
    → (i : ℕ) → get_or new i 0 ≤ get_or old i 0 + 9216
accumulated-bound old new b at c small before entries after i = go (cases_lt i at)
    (cases_lt i (at + length b))
  where
    go : (i < at) ⊎ (at ≤ i) → (i < at + length b) ⊎ (at + length b ≤ i)
        → get_or new i 0 ≤ get_or old i 0 + 9216
    go (inl l) m = omega (arith, before i l)
    go (inr l) (inr m) = omega (arith, after i m)
    go (inr l) (inl m) =
        let e : at + (i - at) ≡ i = omega (arith, l) in
        let short : i - at < length b = omega (arith, m, l) in
        let h : get_or new i 0 ≡ get_or old i 0 + c * get_or b (i - at) 0 =
        ap (λ i. get_or new i 0) (sym e) ∙ entries (i - at) short
        ∙ ap (λ n. get_or old n 0 + c * get_or b (i - at) 0) e
        in
        omega (arith, h, small (i - at) short)

module _ (p : ℕ) where
  pub vector-at : (xs : List ℕ) (j : ℕ) → j < length xs → vector_of (prime_elements p) xs j
      ≡ residue p (get_or xs j 0)
  vector-at xs j l = coeff-map (residues p) (residue p) xs j 0 l

  past : (xs : List ℕ) (j : ℕ) → length xs ≤ j → vector_of (prime_elements p) xs j ≡ residue p 0
  past xs j l = coeff-past (residues p) (residue p) xs j l

  -- numbers with the same remainders
  pub vector-remainders : (xs ys : List ℕ) → length xs ≡ length ys
      → ((j : ℕ) → j < length ys → get_or xs j 0 % p ≡ get_or ys j 0 % p)
      → (j : ℕ) → vector_of (prime_elements p) xs j ≡ vector_of (prime_elements p) ys j
  vector-remainders xs ys len h j = go (cases_lt j (length ys))
    where
      go : (j < length ys) ⊎ (length ys ≤ j) → vector_of (prime_elements p) xs j
          ≡ vector_of (prime_elements p) ys j
      go (inl l) = vector-at xs j (omega (arith, l, len))
          ∙ residue_equal p (get_or xs j 0) (get_or ys j 0) (h j l) ∙ sym (vector-at ys j l)
      go (inr l) = past xs j (omega (arith, l, len)) ∙ sym (past ys j l)

  -- a multiple that is added, with no remainder taken
  pub vector-accumulated : IsCommRing (residues p) → (new old b : List ℕ) (c : ℕ) → length new
      ≡ length old → length b ≡ length old
      → ((j : ℕ) → j < length old → get_or new j 0 ≡ get_or old j 0 + c * get_or b j 0)
      → (j : ℕ) → vector_of (prime_elements p) new j
      ≡ (residues p).add (vector_of (prime_elements p) old j)
      ((residues p).mul (residue p c) (vector_of (prime_elements p) b j))
  vector-accumulated laws new old b c len long h j = go (cases_lt j (length old))
    where
      go : (j < length old) ⊎ (length old ≤ j)
          → vector_of (prime_elements p) new j
          ≡ (residues p).add (vector_of (prime_elements p) old j)
          ((residues p).mul (residue p c) (vector_of (prime_elements p) b j))
      go (inl l) = vector-at new j (omega (arith, l, len)) ∙ ap (residue p) (h j l)
          ∙ residue_add_product p (get_or old j 0) c (get_or b j 0)
          ∙ ap (λ t. (residues p).add t ((residues p).mul (residue p c) (residue p (get_or b j 0))))
          (sym (vector-at old j l))
          ∙ ap (λ t. (residues p).add (vector_of (prime_elements p) old j)
          ((residues p).mul (residue p c) t)) (sym (vector-at b j (omega (arith, l, long))))
      go (inr l) = past new j (omega (arith, l, len))
          ∙ ring1 (residues p) laws (λ c. nil) (λ c. nil ⊕ c ⊗ nil) refl (residue p c)
          ∙ ap (λ t. (residues p).add t ((residues p).mul (residue p c) (residue p 0)))
          (sym (past old j l))
          ∙ ap (λ t. (residues p).add (vector_of (prime_elements p) old j)
          ((residues p).mul (residue p c) t)) (sym (past b j (omega (arith, l, long))))

  -- lists as polynomials: entries with the same remainder
  same-at : (xs ys : List ℕ) → length xs ≡ length ys → (i : ℕ) → get_or xs i 0 ≡ get_or ys i 0
      → coeff (residues p) (map (residue p) xs) i ≡ coeff (residues p) (map (residue p) ys) i
  same-at xs ys len i e = go (cases_lt i (length ys))
    where
      go : (i < length ys) ⊎ (length ys ≤ i) → coeff (residues p) (map (residue p) xs) i
          ≡ coeff (residues p) (map (residue p) ys) i
      go (inl l) = vector-at xs i (omega (arith, l, len)) ∙ ap (residue p) e
          ∙ sym (vector-at ys i l)
      go (inr l) = past xs i (omega (arith, l, len)) ∙ sym (past ys i l)

  pub poly-remainders : IsCommRing (residues p) → IsTested (residues p) → (xs ys : List ℕ)
      → length xs ≡ length ys → ((j : ℕ) → j < length ys → get_or xs j 0 % p ≡ get_or ys j 0 % p)
      → poly_of (prime_elements p) xs ≡ poly_of (prime_elements p) ys
  poly-remainders laws tests xs ys len h = poly_ext (residues p) laws tests
      (map (residue p) xs) (map (residue p) ys) (vector-remainders xs ys len h)

  -- a multiple that is added from an index on, up to remainders
  pub poly-accumulated : IsCommRing (residues p) → IsTested (residues p) → (new old b : List ℕ)
      → (at c : ℕ) → length new ≡ length old → at + length b ≤ length old
      → ((i : ℕ) → i < at → get_or new i 0 ≡ get_or old i 0)
      → ((j : ℕ) → j < length b → get_or new (at + j) 0 % p
      ≡ (get_or old (at + j) 0 + c * get_or b j 0) % p)
      → ((i : ℕ) → at + length b ≤ i → get_or new i 0 ≡ get_or old i 0)
      → poly_of (prime_elements p) new ≡ (polynomials (residues p)).add
      (poly_of (prime_elements p) old)
      ((polynomials (residues p)).mul (monomial (residues p) (residue p c) at)
      (poly_of (prime_elements p) b))
  poly-accumulated laws tests new old b at c len room before entries after =
      add_monomial_by_coeffs R laws tests at (residue p c) (map (residue p) old) q
      (map (residue p) new)
      (λ i. go i (cases_lt i at) (cases_lt i (at + length b)))
    where
      R : RingOps
      R = residues p

      q : List (residues p).carrier
      q = map (residue p) b

      go : (i : ℕ) → (i < at) ⊎ (at ≤ i) → (i < at + length b) ⊎ (at + length b ≤ i)
          → coeff R (map (residue p) new) i
          ≡ R.add (coeff R (map (residue p) old) i)
          (coeff R (raised R at (list_scale R (residue p c) q)) i)
      go i (inl l) m = same-at new old len i (before i l)
          ∙ add_monomial-below R laws tests at (residue p c) (coeff R (map (residue p) old) i) q i l
      go i (inr l) (inr m) = same-at new old len i (after i m)
          ∙ add_monomial-past R laws tests at (residue p c) (coeff R (map (residue p) old) i) q i
          (omega (arith, m, length-map b (residue p)))
      go i (inr l) (inl m) =
          let j : ℕ = i - at in
          let e : at + j ≡ i = omega (arith, l) in
          let short : j < length b = omega (arith, m, l) in
          vector-at new i (omega (arith, len, m, room))
          ∙ residue_equal p (get_or new i 0) (get_or old i 0 + c * get_or b j 0)
          (ap (λ i. get_or new i 0 % p) (sym e) ∙ entries j short
          ∙ ap (λ i. (get_or old i 0 + c * get_or b j 0) % p) e)
          ∙ residue_add_product p (get_or old i 0) c (get_or b j 0)
          ∙ ap₂ (λ s t. R.add s (R.mul (residue p c) t))
          (sym (vector-at old i (omega (arith, m, room)))) (sym (vector-at b j short))
          ∙ add_monomial-at R laws tests at (residue p c) (coeff R (map (residue p) old) i) q j i
          (sym e)

-- a number below p, and a product of two, are together below the square of p
pub small-sum : (p a c b : ℕ) → a < p → c < p → b < p → a + c * b < p * p
small-sum zero a c b ha hc hb = absurd (omega (arith, ha))
small-sum (suc q) a c b ha hc hb =
    let small = mul-le c b q q (omega (arith, hc)) (omega (arith, hb)) in
    omega (arith, ha, small, mul-suc (suc q) q, suc-mul q q)

-- where remainders replace the entries from an index on, each entry is a residue
pub each-entry : (p : ℕ) → IsTrue (is_in p primes) → (old new b : List ℕ) (at c : ℕ)
    → length new ≡ length old
    → ((i : ℕ) → i < at → get_or new i 0 ≡ get_or old i 0)
    → ((j : ℕ) → j < length b
    → get_or new (at + j) 0 ≡ (get_or old (at + j) 0 + c * get_or b j 0) % p)
    → ((i : ℕ) → at + length b ≤ i → get_or new i 0 ≡ get_or old i 0)
    → ((i : ℕ) → i < length old → IsTrue (nat_lt (get_or old i 0) p))
    → (i : ℕ) → i < length new → IsTrue (nat_lt (get_or new i 0) p)
each-entry p known old new b at c len before entries after h i l =
    go (cases_lt i at) (cases_lt i (at + length b))
  where
    kept : get_or new i 0 ≡ get_or old i 0 → IsTrue (nat_lt (get_or new i 0) p)
    kept e = subst (λ n. IsTrue (nat_lt n p)) (sym e) (h i (omega (arith, l, len)))

    go : (i < at) ⊎ (at ≤ i) → (i < at + length b) ⊎ (at + length b ≤ i)
        → IsTrue (nat_lt (get_or new i 0) p)
    go (inl l) m = kept (before i l)
    go (inr l) (inr m) = kept (after i m)
    go (inr l) (inl m) =
        let e : at + (i - at) ≡ i = omega (arith, l) in
        subst (λ n. IsTrue (nat_lt n p)) (sym (ap (λ i. get_or new i 0) (sym e)
        ∙ entries (i - at) (omega (arith, m, l))))
        (prime_remainder p (get_or old (at + (i - at)) 0 + c * get_or b (i - at) 0) known)
