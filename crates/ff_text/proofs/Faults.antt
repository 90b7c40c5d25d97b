-- Where reading stops is the index of the fault.
use Rattle.std.proofs.Common.{◌≡◌, ℕ, zero, suc, ◌+◌, ◌<◌, List, [], ◌∷◌, ◌++◌, length, map, take}
use Rattle.std.proofs.Common.{get_or, Option, Some, None, refl, sym, ap, subst, ◌∙◌}
use Rattle.std.proofs.Common.{arith}
use Rattle.std.proofs.lemmas.List.{map-append, append-nil, take_more}
use Rattle.std.proofs.Math.Seq.{take-length}
use Rattle.ff_text.specs.declared.symbol.Symbol.{Symbol}
use Rattle.ff_text.specs.declared.layout.Mode.{Mode}
use Rattle.ff_text.specs.Symbols.{symbol_of, symbols}
use Rattle.ff_text.specs.Grammar.{Text, Derives, Begins, IsFaultAt}
use Rattle.ff_text.specs.Reading.{Progress, step, then_step, walk, finish, reads, initial, before}
use Rattle.ff_text.specs.Reading.{modulus, reduced_entry}
use Rattle.ff_text.proofs.Accepts.{not_accepted, text, walk-none}
use Rattle.ff_text.proofs.Derived.{text_derived}
use Rattle.ff_text.proofs.Completed.{completed, walk_keeps, form_has_letters, Keeps, HasLetters}

pub walk-append : (s t : List Symbol) (o : Option Progress) → walk o (s ++ t) ≡ walk (walk o s) t
walk-append [] t o = refl
walk-append (σ ∷ s) t o = walk-append s t (then_step o σ)

pub reads-append : (mode : Mode) (a b : List ℕ) → reads mode (a ++ b)
    ≡ walk (reads mode a) (symbols b)
reads-append mode a b = rw map-append (walk-append (symbols a) (symbols b) (Some (initial mode)))

-- a prefix and what follows it
split : (bytes : List ℕ) (i n : ℕ) → i < n → i < length bytes → (rest : List ℕ)
    × (take n bytes ≡ take i bytes ++ get_or bytes i 0 ∷ rest)
split [] i n h k = absurd (omega arith)
split (b ∷ bytes) zero zero h k = absurd (omega arith)
split (b ∷ bytes) zero (suc n) h k = (take n bytes, refl)
split (b ∷ bytes) (suc i) zero h k = absurd (omega arith)
split (b ∷ bytes) (suc i) (suc n) h k =
    let r = split bytes i n (omega arith) (omega arith) in
    (r.0, ap (λ t. b ∷ t) r.1)

-- the state that a text leads to
abbrev pub end_of : Text → Progress
end_of v = before [] v.number (map (reduced_entry (modulus v.number)) v.entries)

pub derives_reads : (mode : Mode) (bytes : List ℕ) (v : Text) → Derives mode bytes v
    → finish (reads mode bytes) ≡ Some (end_of v)
derives_reads mode bytes v d = text mode d

pub reads_derives : (mode : Mode) (bytes : List ℕ) (end : Progress) → finish (reads mode bytes)
    ≡ Some end → (v : Text) × Derives mode bytes v
reads_derives mode bytes end e = text_derived mode (symbols bytes) end e

-- what can be read goes on
begins : (mode : Mode) (bytes : List ℕ) (S : Progress) → reads mode bytes ≡ Some S
    → Begins mode bytes
begins mode bytes S e =
    let letters : HasLetters S.lines = subst Keeps e
    (walk_keeps (symbols bytes) (Some (initial mode)) (form_has_letters mode)) in
    let c = completed S letters in
    let f : reads mode (bytes ++ c.0) ≡ walk (Some S) (symbols c.0) = reads-append mode bytes c.0
    ∙ ap (λ o. walk o (symbols c.0)) e in
    let d = reads_derives mode (bytes ++ c.0) c.1.0 (ap finish f ∙ c.1.1) in
    (c.0, d.0, d.1)

-- what can't be read begins no text
no_begin : (mode : Mode) (bytes : List ℕ) → reads mode bytes ≡ None → Begins mode bytes → ⊥
no_begin mode bytes e b =
    let f : reads mode (bytes ++ b.0) ≡ walk None (symbols b.0) = reads-append mode bytes b.0
    ∙ ap (λ o. walk o (symbols b.0)) e in
    not_accepted (end_of b.1) (symbols b.0)
    (sym (ap finish f) ∙ derives_reads mode (bytes ++ b.0) b.1 b.2)

-- A symbol that may not follow is the fault.
pub fault_within : (mode : Mode) (bytes : List ℕ) (i : ℕ) (S : Progress) → i < length bytes
    → reads mode (take i bytes) ≡ Some S
    → step S (symbol_of (get_or bytes i 0)) ≡ None → IsFaultAt mode bytes i
fault_within mode bytes i S lt e f =
    let stops : (n : ℕ) → i < n → reads mode (take n bytes) ≡ None = λ n h.
    let r = split bytes i n h lt in
    ap (reads mode) r.1 ∙ reads-append mode (take i bytes) (get_or bytes i 0 ∷ r.0)
    ∙ ap (λ o. walk o (symbols (get_or bytes i 0 ∷ r.0))) e
    ∙ ap (λ o. walk o (symbols r.0)) f ∙ walk-none (symbols r.0) in
    record {
      no_text = λ v d. no_begin mode (take (length bytes) bytes) (stops (length bytes) lt)
          ([], v, rw (append-nil (take (length bytes) bytes), take-length bytes) d);
      within = omega arith;
      begins = begins mode (take i bytes) S e;
      longest = λ n h le b. no_begin mode (take n bytes) (stops n h) b;
    }

-- So is the end of a text that is not over.
pub fault_at_end : (mode : Mode) (bytes : List ℕ) (S : Progress) → reads mode bytes ≡ Some S
    → finish (Some S) ≡ None → IsFaultAt mode bytes (length bytes)
fault_at_end mode bytes S e f = record {
  no_text = λ v d. let h : finish (reads mode bytes) ≡ None = ap finish e
      ∙ f in let g = derives_reads mode bytes v d in absurd cc;
  within = omega arith;
  begins = rw take-length (begins mode bytes S e);
  longest = λ n h le b. absurd (omega arith);
}

-- One byte more is read.
pub reads_more : (mode : Mode) (bytes : List ℕ) (i : ℕ) (S T : Progress) (σ : Symbol)
    → i < length bytes → reads mode (take i bytes) ≡ Some S
    → σ ≡ symbol_of (get_or bytes i 0) → step S σ ≡ Some T → reads mode (take (i + 1) bytes)
    ≡ Some T
reads_more mode bytes i S T σ lt e f g =
    rw (take_more bytes i 0 lt) (reads-append mode (take i bytes) (get_or bytes i 0 ∷ []) ∙ ap (λ o.
    walk o (symbols (get_or bytes i 0 ∷ []))) e ∙ ap (step S) (sym f) ∙ g)
