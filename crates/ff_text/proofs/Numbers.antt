-- Numbers that stand alone: one to nine digits and their value.
use Rattle.std.proofs.Common.{◌≡◌, ℕ, zero, suc, ◌+◌, ◌*◌, ◌^◌, ◌<◌, ◌≤◌, List, []}
use Rattle.std.proofs.Common.{◌∷◌, length, take, get_or, Option, Some, None, refl, sym, ◌∙◌, ap}
use Rattle.std.proofs.Common.{subst, arith}
use Rattle.std.specs.List.{All, fold}
use Rattle.std.proofs.lemmas.List.{take_all}
use Rattle.ff_text.specs.declared.symbol.Symbol.{Symbol}
use Rattle.ff_text.specs.Symbols.{symbol_of, symbols, digit_of}
use Rattle.ff_text.specs.Grammar.{Digits, Number}
use Rattle.ff_text.specs.declared.symbol.Symbol.TheVariants as symbol

-- there is a digit
abbrev pub IsDigit : Option ℕ → Type 0
IsDigit None = ⊥
IsDigit (Some d) = Unit {0}

abbrev pub value : Option ℕ → ℕ
value None = 0
value (Some d) = d

-- the number with one digit more
abbrev pub push : ℕ → ℕ → ℕ
push m b = 10 * m + value (digit_of (symbol_of b))

-- ---- Digits one after another are a number

last : (m k : ℕ) (σ : Symbol) → IsDigit (digit_of σ)
    → Digits m (suc k) (σ ∷ []) (10 * m + value (digit_of σ)) []
last m k (symbol.Digit d) h = Digits.last
last m k symbol.Blank h = absurd h
last m k symbol.LineFeed h = absurd h
last m k (symbol.Sign g) h = absurd h
last m k symbol.Times h = absurd h
last m k symbol.Power h = absurd h
last m k symbol.Open h = absurd h
last m k symbol.Close h = absurd h
last m k symbol.Slash h = absurd h
last m k (symbol.Variable v) h = absurd h
last m k (symbol.Letter l) h = absurd h
last m k symbol.Other h = absurd h

more : (m k n : ℕ) (σ : Symbol) (s : List Symbol) → IsDigit (digit_of σ)
    → Digits (10 * m + value (digit_of σ)) k s n [] → Digits m (suc k) (σ ∷ s) n []
more m k n (symbol.Digit d) s h r = Digits.more r
more m k n symbol.Blank s h r = absurd h
more m k n symbol.LineFeed s h r = absurd h
more m k n (symbol.Sign g) s h r = absurd h
more m k n symbol.Times s h r = absurd h
more m k n symbol.Power s h r = absurd h
more m k n symbol.Open s h r = absurd h
more m k n symbol.Close s h r = absurd h
more m k n symbol.Slash s h r = absurd h
more m k n (symbol.Variable v) s h r = absurd h
more m k n (symbol.Letter l) s h r = absurd h
more m k n symbol.Other s h r = absurd h

digits : (m k b : ℕ) (bs : List ℕ) → All (λ c. IsDigit (digit_of (symbol_of c))) (b ∷ bs)
    → length bs ≤ k → Digits m (suc k) (symbols (b ∷ bs)) (fold push m (b ∷ bs)) []
digits m k b [] h l = last m k (symbol_of b) (h 0 0 (omega arith))
digits m zero b (c ∷ bs) h l = absurd (omega (arith, l))
digits m (suc k) b (c ∷ bs) h l = more m (suc k) (fold push m (b ∷ c ∷ bs)) (symbol_of b)
    (symbols (c ∷ bs)) (h 0 0 (omega arith))
    (digits (push m b) k c bs (λ i d lt. h (suc i) d (omega (arith, lt))) (omega (arith, l)))

pub number : (text : List ℕ) (n : ℕ) → All (λ c. IsDigit (digit_of (symbol_of c))) text
    → 0 < length text → length text ≤ 9 → n ≡ fold push 0 text → Number (symbols text) n []
number [] n h some few e = absurd (omega (arith, some))
number (b ∷ bs) n h some few e = subst (λ m. Digits 0 9 (symbols (b ∷ bs)) m []) (sym e)
    (digits 0 8 b bs h (omega (arith, few)))

-- ---- Other texts are none

digits_length : {m k n : ℕ} {s r : List Symbol} → Digits m k s n r → length s ≤ k + length r
digits_length Digits.last = omega arith
digits_length (Digits.more h) = omega (arith, digits_length h)

symbols_length : (text : List ℕ) → length (symbols text) ≡ length text
symbols_length [] = refl
symbols_length (b ∷ bs) = omega (arith, symbols_length bs)

pub not_long : (text : List ℕ) → 9 < length text → (n : ℕ) → ¬ Number (symbols text) n []
not_long text l n h = omega (arith, l, digits_length h, symbols_length text)

digits_some : {m k n : ℕ} {s r : List Symbol} → Digits m k s n r → 0 < length s
digits_some Digits.last = omega arith
digits_some (Digits.more h) = omega arith

pub not_empty : (text : List ℕ) → length text ≡ 0 → (n : ℕ) → ¬ Number (symbols text) n []
not_empty text l n h = omega (arith, l, digits_some h, symbols_length text)

-- each symbol is a digit
abbrev AreDigits : List Symbol → Type 0
AreDigits [] = Unit {0}
AreDigits (σ ∷ s) = IsDigit (digit_of σ) × AreDigits s

each : {m k n : ℕ} {s : List Symbol} → Digits m k s n [] → AreDigits s
each Digits.last = (tt, tt)
each (Digits.more h) = (tt, each h)

digit_at : (text : List ℕ) (i d : ℕ) → i < length text → AreDigits (symbols text)
    → IsDigit (digit_of (symbol_of (get_or text i d)))
digit_at [] i d l h = absurd (omega (arith, l))
digit_at (b ∷ bs) zero d l h = h.0
digit_at (b ∷ bs) (suc i) d l h = digit_at bs i d (omega (arith, l)) h.1

pub not_digits : (text : List ℕ) (i : ℕ) → i < length text
    → digit_of (symbol_of (get_or text i 0)) ≡ None → (n : ℕ) → ¬ Number (symbols text) n []
not_digits text i l none n h = subst (λ o. IsDigit o) none (digit_at text i 0 l (each h))

-- ---- The loop over the digits

-- the first i bytes are digits, and n is their number
pub record IsReadTo (text : List ℕ) (i n : ℕ) : Type 0 where
  pub each : (j : ℕ) → j < i → IsDigit (digit_of (symbol_of (get_or text j 0)))
  pub value_is : n ≡ fold push 0 (take i text)
  pub short : n < 10 ^ i

pub read_all : (text : List ℕ) (i n : ℕ) → IsReadTo text i n → length text ≤ i → 0 < length text
    → length text ≤ 9 → Number (symbols text) n []
read_all text i n h all some few = number text n
    (λ j d l. subst (λ c. IsDigit (digit_of (symbol_of c))) (default_at text j d l)
    (h.each j (omega (arith, l, all)))) some few
    (h.value_is ∙ ap (fold push 0) (take_all i text all))
  where
    default_at : (text : List ℕ) (j d : ℕ) → j < length text → get_or text j 0 ≡ get_or text j d
    default_at [] j d l = absurd (omega (arith, l))
    default_at (c ∷ bs) zero d l = refl
    default_at (c ∷ bs) (suc j) d l = default_at bs j d (omega (arith, l))
