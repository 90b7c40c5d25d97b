-- The words of commands, and what the commands may count.
use Rattle.std.proofs.Common.{◌≡◌, ℕ, List, [], ◌∷◌, inl, refl, arith, codes, subst}
use Rattle.ff_text.specs.declared.layout.Mode.{Mode}
use Rattle.ff_text.specs.declared.layout.Mode.TheVariants as mode
use Rattle.ff_text.specs.Grammar.{Number}
use Rattle.ff_text.specs.Symbols.{symbols}
use Rattle.ff_top.specs.declared.command.Command.{Command}
use Rattle.ff_top.specs.declared.command.Command.TheVariants.{Read, Make}
use Rattle.ff_top.specs.Words.{IsCommand, HasCommand, ReadsSource, word_of}
use Rattle.ff_top.specs.Commands.{Counts, IsReading, NodesFor, TestsFor}

first_of : (a b : List ℕ) (s t : List (List ℕ)) → ◌≡◌ {A = List (List ℕ)} (a ∷ s) (b ∷ t) → a ≡ b
first_of a b s t h = cc

second_of : (a b c d : List ℕ) (s t : List (List ℕ))
    → ◌≡◌ {A = List (List ℕ)} (a ∷ c ∷ s) (b ∷ d ∷ t) → c ≡ d
second_of a b c d s t h = cc

one_is_not_two : (a b c : List ℕ) (s : List (List ℕ))
    → ¬ (◌≡◌ {A = List (List ℕ)} (a ∷ []) (b ∷ c ∷ s))
one_is_not_two a b c s h = cc

-- one word that is none of the four
pub no_word : (word : List ℕ) → ¬ (word ≡ codes "iso") → ¬ (word ≡ codes "aut")
    → ¬ (word ≡ codes "check") → ¬ (word ≡ codes "order") → ¬ HasCommand (word ∷ [])
no_word word i a k o (Read mode.Iso, e) = i (first_of word (codes "iso") [] [] e)
no_word word i a k o (Read mode.Aut, e) = a (first_of word (codes "aut") [] [] e)
no_word word i a k o (Read mode.Check, e) = k (first_of word (codes "check") [] [] e)
no_word word i a k o (Read mode.Order, e) = o (first_of word (codes "order") [] [] e)
no_word word i a k o (Make n, (digits, e, h)) = one_is_not_two word (codes "make") digits [] e

-- two words: `make` and a number, or none
two_is_not_one : (a b c : List ℕ) (s : List (List ℕ))
    → ¬ (◌≡◌ {A = List (List ℕ)} (b ∷ c ∷ s) (a ∷ []))
two_is_not_one a b c s h = cc

pub is_make : (word number text : List ℕ) (n : ℕ) → word ≡ codes "make" → text ≡ number
    → Number (symbols text) n [] → IsCommand (word ∷ number ∷ []) (Make n)
is_make word number text n e f h = (number, same, subst (λ t. Number (symbols t) n []) f h)
  where
    same : ◌≡◌ {A = List (List ℕ)} (word ∷ number ∷ []) (codes "make" ∷ number ∷ [])
    same = cc

pub no_make : (word number : List ℕ) → ¬ (word ≡ codes "make")
    → ¬ HasCommand (word ∷ number ∷ [])
no_make word number h (Read m, e) = two_is_not_one (word_of m) word number [] e
no_make word number h (Make n, (digits, e, k)) =
    h (first_of word (codes "make") (number ∷ []) (digits ∷ []) e)

pub no_number : (word number : List ℕ) → ((n : ℕ) → ¬ Number (symbols number) n [])
    → ¬ HasCommand (word ∷ number ∷ [])
no_number word number h (Read m, e) = two_is_not_one (word_of m) word number [] e
no_number word number h (Make n, (digits, e, k)) = h n (subst (λ t. Number (symbols t) n [])
    (symmetric (second_of word (codes "make") number digits [] [] e)) k)
  where
    symmetric : {x y : List ℕ} → x ≡ y → y ≡ x
    symmetric e = cc

-- no words, or three and more
pub no_words : ¬ HasCommand []
no_words (Read m, e) = absurd cc
no_words (Make n, (digits, e, k)) = absurd cc

pub many_words : (a b c : List ℕ) (s : List (List ℕ)) → ¬ HasCommand (a ∷ b ∷ c ∷ s)
many_words a b c s (Read m, e) = absurd cc
many_words a b c s (Make n, (digits, e, k)) = absurd cc

-- the words are a command by which a counter rises so
pub counted : (rises : Command → ℕ → ℕ → Type 0) (words : List (List ℕ)) (command : Command)
    (before after : ℕ) → IsCommand words command → rises command before after
    → Counts rises words before after
counted rises words command before after c r = inl (command, c, r)

-- a command that does not read is `make`
pub is_reading : (words : List (List ℕ)) (command : Command) → IsCommand words command
    → ¬ ReadsSource words → ¬ IsReading command
is_reading words (Read m) c h r = h (m, c)
is_reading words (Make n) c h r = r

-- ---- Counters

pub tests_stay : (m : Mode) (n : ℕ) → TestsFor m n n
tests_stay mode.Iso n = omega arith
tests_stay mode.Aut n = omega arith
tests_stay mode.Check n = inl refl
tests_stay mode.Order n = refl

pub nodes_stay : (m : Mode) (n : ℕ) → NodesFor m n n
nodes_stay mode.Iso n = omega arith
nodes_stay mode.Aut n = omega arith
nodes_stay mode.Check n = refl
nodes_stay mode.Order n = refl
