-- The odd primes of the table, and the exponents that they do not divide.
use Rattle.std.proofs.Common.{◌≡◌, ℕ, zero, suc, ◌<◌, ◌≤◌, ◌%◌, ◌==◌, ◌+◌, Bool, true, false, not}
use Rattle.std.proofs.Common.{cond}
use Rattle.std.proofs.Common.{List, [], ◌∷◌, get_or, nat_eq, nat_lt, refl, sym, ◌∙◌, ap}
use Rattle.std.proofs.Common.{subst, lit≤, arith}
use Rattle.std.specs.List.{filter}
use Rattle.std.proofs.lemmas.List.Elements.{All-get_or}
use Rattle.std.proofs.lemmas.List.Sums.{AllPass-from_list_all}
use Rattle.std.proofs.lemmas.Bool.{eqb-true, ltb-true}
use Rattle.std.proofs.Math.Nat.{mod-eq_of_lt}
use Rattle.ff_theory.specs.PrimeTable.{primes, is_in}
use Rattle.ff_make.specs.Generator.{exponents_for}

abbrev pub odd_primes : List ℕ
odd_primes =
    3 ∷ 5 ∷ 7 ∷ 11 ∷ 13 ∷ 17 ∷ 19 ∷ 23 ∷ 29 ∷ 31 ∷ 37 ∷ 41 ∷ 43 ∷ 47 ∷ 53 ∷ 59
    ∷ 61 ∷ 67 ∷ 71 ∷ 73 ∷ 79 ∷ 83 ∷ 89 ∷ 97 ∷ []

-- an odd prime is in the table
pub odd_in_table : (i : ℕ) → i < 24 → is_in (get_or odd_primes i 0) primes ≡ true
odd_in_table i h = All-get_or (λ p. is_in p primes ≡ true) odd_primes i 0 h
    (AllPass-from_list_all (λ p. is_in p primes) odd_primes refl)

-- it is 3, 5, 7, 11, or greater than 12
abbrev pub is_small_or_large : ℕ → Bool
is_small_or_large p = cond (nat_eq p 3) true (cond (nat_eq p 5) true (cond (nat_eq p 7) true
    (cond (nat_eq p 11) true (nat_lt 12 p))))

pub odd_by_size : (i : ℕ) → i < 24 → is_small_or_large (get_or odd_primes i 0) ≡ true
odd_by_size i h = All-get_or (λ p. is_small_or_large p ≡ true) odd_primes i 0 h
    (AllPass-from_list_all is_small_or_large odd_primes refl)

-- without multiples of p, by the remainders of 11, 9, 7 and 5
abbrev by_remainders : (a b c d : ℕ) → List ℕ
by_remainders a b c d =
    let third = cond (not (d == 0)) (5 ∷ []) [] in
    let second = cond (not (c == 0)) (7 ∷ third) third in
    let first = cond (not (b == 0)) (9 ∷ second) second in
    cond (not (a == 0)) (11 ∷ first) first

-- an odd prime above 12 divides none of the four
pub large_exponents : (p : ℕ) → 12 < p → exponents_for p ≡ 11 ∷ 9 ∷ 7 ∷ 5 ∷ []
large_exponents p h = ap (λ a. by_remainders a (9 % p) (7 % p) (5 % p)) (below 11 (omega arith))
    ∙ ap (λ b. by_remainders 11 b (7 % p) (5 % p)) (below 9 (omega arith))
    ∙ ap (λ c. by_remainders 11 9 c (5 % p)) (below 7 (omega arith))
    ∙ ap (λ d. by_remainders 11 9 7 d) (below 5 (omega arith))
  where
    below : (m : ℕ) → m < p → m % p ≡ m
    below m l = mod-eq_of_lt l

-- an odd prime of the table that is none of 3, 5, 7 and 11
module _ (p : ℕ) (g : (i : ℕ) × ((i < 24) × (p ≡ get_or primes (i + 1) 0)))
    (three : ¬ (p ≡ 3)) (five : ¬ (p ≡ 5)) (seven : ¬ (p ≡ 7)) (eleven : ¬ (p ≡ 11)) where
  by_index : p ≡ get_or odd_primes g.0 0
  by_index = let next : g.0 + 1 ≡ suc g.0 = omega arith in
      g.1.1 ∙ ap (λ j. get_or primes j 0) next

  differs : (m : ℕ) → ¬ (p ≡ m) → nat_eq p m ≡ false
  differs m n = go (nat_eq p m) refl
    where
      go : (b : Bool) → nat_eq p m ≡ b → nat_eq p m ≡ false
      go true e = absurd (n (eqb-true p m e))
      go false e = e

  by_size : is_small_or_large p ≡ nat_lt 12 p
  by_size = ap (λ b. cond b true (cond (nat_eq p 5) true (cond (nat_eq p 7) true
      (cond (nat_eq p 11) true (nat_lt 12 p))))) (differs 3 three)
      ∙ ap (λ b. cond b true (cond (nat_eq p 7) true (cond (nat_eq p 11) true (nat_lt 12 p))))
      (differs 5 five)
      ∙ ap (λ b. cond b true (cond (nat_eq p 11) true (nat_lt 12 p))) (differs 7 seven)
      ∙ ap (λ b. cond b true (nat_lt 12 p)) (differs 11 eleven)

  pub all_exponents : exponents_for p ≡ 11 ∷ 9 ∷ 7 ∷ 5 ∷ []
  all_exponents = large_exponents p (ltb-true 12 p (sym by_size
      ∙ subst (λ q. is_small_or_large q ≡ true) (sym by_index) (odd_by_size g.0 g.1.0)))

-- no exponent is above 11
abbrev AllFew : List ℕ → Type 0
AllFew [] = Unit {0}
AllFew (x ∷ xs) = (x ≤ 11) × AllFew xs

few_left : (test : ℕ → Bool) (xs : List ℕ) → AllFew xs → AllFew (filter test xs)
few_left test [] h = tt
few_left test (x ∷ xs) h = go (test x) (few_left test xs h.1)
  where
    go : (b : Bool) → AllFew (filter test xs)
        → AllFew (cond b (x ∷ filter test xs) (filter test xs))
    go true rest = (h.0, rest)
    go false rest = rest

few_at : (xs : List ℕ) (j : ℕ) → AllFew xs → get_or xs j 0 ≤ 11
few_at [] j h = lit≤ tt
few_at (x ∷ xs) zero h = h.0
few_at (x ∷ xs) (suc j) h = few_at xs j h.1

pub exponent_few : (p j : ℕ) → get_or (exponents_for p) j 0 ≤ 11
exponent_few p j = few_at (exponents_for p) j
    (few_left (λ m. not (m % p == 0)) (11 ∷ 9 ∷ 7 ∷ 5 ∷ [])
    (lit≤ tt, (lit≤ tt, (lit≤ tt, (lit≤ tt, tt)))))
