-- The leading term: the greatest power of y and, among those, the greatest power of x.
use Rattle.std.proofs.Common.{◌≡◌, ℕ, zero, suc, ◌+◌, ◌-◌, ◌<◌, ◌≤◌, Bool, true, false, cond, eqb}
use Rattle.std.proofs.Common.{ltb, ◌&&◌, ◌||◌, List, [], ◌∷◌, length, get_or, take, drop}
use Rattle.std.proofs.Common.{refl, sym, ap, ◌∙◌, arith, ◌≢◌, ◌⊎◌, inl, inr, ⊎_elim}
use Rattle.std.specs.List.{All}
use Rattle.std.proofs.lemmas.List.{take_all}
use Rattle.std.proofs.lemmas.Bool.{ltb-true, ltb-false, eqb-true, eqb-false, cases_eq}
use Rattle.ff_theory.proofs.Booleans.{both}
use Rattle.ff_text.specs.declared.reader.Monomial.{Monomial}
use Rattle.ff_text.specs.Limits.{exceeds, is_above, higher, top}

-- no power of x above the one, and none of y above the other
abbrev pub IsBelow : ℕ → ℕ → Monomial → Type 0
IsBelow x y m = (m.x ≤ x) × (m.y ≤ y)

pub neither : (a b : Bool) → (a || b) ≡ false → (a ≡ false) × (b ≡ false)
neither true b e = absurd cc
neither false b e = (refl, e)

below : (x y : ℕ) (m : Monomial) → (ltb x m.x || ltb y m.y) ≡ false → IsBelow x y m
below x y m e =
    let n = neither (ltb x m.x) (ltb y m.y) e in
    (ltb-false _ _ n.0, ltb-false _ _ n.1)

higher_below : (x y : ℕ) (t m : Monomial) → IsBelow x y t → IsBelow x y m → IsBelow x y (higher t m)
higher_below x y t m h k = go (is_above m t)
  where
    go : (b : Bool) → IsBelow x y (cond b m t)
    go true = k
    go false = h

top_below : (x y : ℕ) (t : Monomial) (ms : List Monomial) → IsBelow x y t → exceeds x y ms ≡ false
    → IsBelow x y (top t ms)
top_below x y t [] h e = h
top_below x y t (m ∷ ms) h e =
    let n = neither (ltb x m.x || ltb y m.y) (exceeds x y ms) e in
    top_below x y (higher t m) ms (higher_below x y t m h (below x y m n.0)) n.1

-- the leading term of a list is within what the list is within
pub leading_below : (x y : ℕ) (ms : List Monomial) (t d : Monomial) → 1 ≤ length ms → exceeds x y ms
    ≡ false → t ≡ top (get_or ms 0 d) (take (length ms - 1) (drop 1 ms)) → IsBelow x y t
leading_below x y [] t d lt e f = absurd (omega arith)
leading_below x y (m ∷ ms) t d lt e f =
    let n = neither (ltb x m.x || ltb y m.y) (exceeds x y ms) e in
    let rest : take (length (m ∷ ms) - 1) ms
    ≡ ms = take_all (length (m ∷ ms) - 1) ms (omega arith) in
    rw (f ∙ ap (top m) rest) (top_below x y m ms (below x y m n.0) n.1)

-- ---- The leading term is above all

-- m is not above t
abbrev pub IsUnder : Monomial → Monomial → Type 0
IsUnder t m = (m.y < t.y) ⊎ ((m.y ≡ t.y) × (m.x ≤ t.x))

IsUnder-refl : (t : Monomial) → IsUnder t t
IsUnder-refl t = inr (refl, omega arith)

IsUnder-trans : (t u m : Monomial) → IsUnder t u → IsUnder u m → IsUnder t m
IsUnder-trans t u m (inl h) (inl k) = inl (omega arith)
IsUnder-trans t u m (inl h) (inr k) = inl (omega (arith, k.0))
IsUnder-trans t u m (inr h) (inl k) = inl (omega (arith, h.0))
IsUnder-trans t u m (inr h) (inr k) = inr (omega (arith, h.0, k.0), omega (arith, h.1, k.1))

pub either : (a b : Bool) → (a || b) ≡ true → (a ≡ true) ⊎ (b ≡ true)
either true b e = inl refl
either false b e = inr e

not_both : (a b : Bool) → (a && b) ≡ false → (a ≡ false) ⊎ (b ≡ false)
not_both true b e = inr e
not_both false b e = inl refl

higher_under : (t m : Monomial) → IsUnder (higher t m) t × IsUnder (higher t m) m
higher_under t m = go (is_above m t) refl
  where
    go : (b : Bool) → is_above m t ≡ b → IsUnder (cond b m t) t × IsUnder (cond b m t) m
    go true e = (
      elim (either (ltb t.y m.y) (eqb m.y t.y && ltb t.x m.x) e) [
        | inl f ↦ inl (ltb-true _ _ f)
        | inr f ↦ (let g = both (eqb m.y t.y) (ltb t.x m.x) f in inr
            (sym (eqb-true _ _ g.0), (let h : t.x < m.x = ltb-true _ _ g.1 in omega arith)))
      ],
      IsUnder-refl m,
    )
    go false e =
        let n = neither (ltb t.y m.y) (eqb m.y t.y && ltb t.x m.x) e in
        let le : m.y ≤ t.y = ltb-false _ _ n.0 in (
          IsUnder-refl t,
          elim (not_both (eqb m.y t.y) (ltb t.x m.x) n.1) [
            | inl f ↦ inl (let ne : m.y ≢ t.y = eqb-false _ _ f in omega arith)
            | inr f ↦ ⊎_elim (λ (h : m.y ≡ t.y). inr (h, ltb-false _ _ f))
                (λ (h : m.y ≢ t.y). inl (omega arith)) (cases_eq m.y t.y)
          ],
        )

-- all of a list are under it
abbrev pub EachUnder : Monomial → List Monomial → Type 0
EachUnder t ms = (k : ℕ) (d : Monomial) → k < length ms → IsUnder t (get_or ms k d)

pub top_above : (t : Monomial) (ms : List Monomial) → EachUnder (top t ms) (t ∷ ms)
top_above t [] zero d lt = IsUnder-refl t
top_above t [] (suc k) d lt = absurd (omega arith)
top_above t (m ∷ ms) k d lt = go k lt (top_above (higher t m) ms)
  where
    go : (k : ℕ) → k < length (t ∷ m ∷ ms) → EachUnder (top (higher t m) ms) (higher t m ∷ ms)
        → IsUnder (top (higher t m) ms) (get_or (t ∷ m ∷ ms) k d)
    go zero lt h = IsUnder-trans (top (higher t m) ms) (higher t m) t (h 0 d (omega arith))
        (higher_under t m).0
    go (suc zero) lt h = IsUnder-trans (top (higher t m) ms) (higher t m) m (h 0 d (omega arith))
        (higher_under t m).1
    go (suc (suc k)) lt h = h (suc k) d (omega arith)

-- and it is one of them
pub top_within : (t : Monomial) (ms : List Monomial) → (k : ℕ) × (k < length (t ∷ ms))
    × ((d : Monomial) → get_or (t ∷ ms) k d ≡ top t ms)
top_within t [] = (0, omega arith, λ d. refl)
top_within t (m ∷ ms) = go (is_above m t) refl (top_within (higher t m) ms)
  where
    go : (b : Bool) → is_above m t ≡ b → (k : ℕ) × (k < length (higher t m ∷ ms))
        × ((d : Monomial) → get_or (higher t m ∷ ms) k d ≡ top (higher t m) ms)
        → (k : ℕ) × (k < length (t ∷ m ∷ ms))
        × ((d : Monomial) → get_or (t ∷ m ∷ ms) k d ≡ top (higher t m) ms)
    go b e (suc k, lt, h) = (suc (suc k), omega arith, h)
    go true e (zero, lt, h) = (1, omega arith, λ d. sym (ap (λ c. cond c m t) e) ∙ h d)
    go false e (zero, lt, h) = (0, omega arith, λ d. sym (ap (λ c. cond c m t) e) ∙ h d)

-- all powers of a list that does not pass
pub all_below : (x y : ℕ) (ms : List Monomial) → exceeds x y ms ≡ false → All (λ m. m.x < x + 1) ms
    × All (λ m. m.y < y + 1) ms
all_below x y [] e = (λ k d l. absurd (omega arith), λ k d l. absurd (omega arith))
all_below x y (m ∷ ms) e =
    let n = neither (ltb x m.x || ltb y m.y) (exceeds x y ms) e in
    let b = below x y m n.0 in
    let r = all_below x y ms n.1 in (
      first_all (λ (m : Monomial). m.x < x + 1) m ms (omega (arith, b.0)) r.0,
      first_all
          (λ (m : Monomial). m.y < y + 1) m ms (omega (arith, b.1)) r.1,
    )
  where
    first_all : (P : Monomial → Type 0) (m : Monomial) (ms : List Monomial) → P m → All P ms
        → All P (m ∷ ms)
    first_all P m ms h r zero d l = h
    first_all P m ms h r (suc k) d l = r k d (omega arith)
