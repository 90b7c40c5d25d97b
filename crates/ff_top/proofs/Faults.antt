-- The first fault of an input.
use Rattle.std.proofs.Common.{◌≡◌, ℕ, ◌≤◌, ◌⊎◌, inl, inr, List, length}
use Rattle.std.proofs.Common.{Result, Ok, Err, refl, arith}
use Rattle.std.specs.Prelude.{IfOk}
use Rattle.ff_text.specs.declared.fault.TextFault.{TextFault}
use Rattle.ff_text.specs.declared.fault.TextFault.TheVariants as fault
use Rattle.ff_text.specs.declared.layout.Line.{Line}
use Rattle.ff_text.specs.declared.layout.Mode.{Mode}
use Rattle.ff_text.specs.declared.layout.Mode.TheVariants as mode
use Rattle.ff_text.specs.declared.job.Job.{Job}
use Rattle.ff_text.specs.declared.symbol.Symbol.{Symbol}
use Rattle.ff_text.specs.Grammar.{Entry, Text, Lines, IsText, Derives, IsFaultAt, lines_of}
use Rattle.ff_text.specs.Values.{LacksY, IsOverZero, EquationExceeds, ElementExceeds, IsEntry}
use Rattle.ff_text.specs.Values.{Says, IsFirst, Answers, NeedsText}
use Rattle.ff_text.specs.Printed.{HasText}
use Rattle.ff_top.specs.Input.{HoldsForText, IsFaultOf}

-- ---- A text has at most six entries

lines_length : {ls : List Line} {s : List Symbol} {es : List Entry} → Lines ls s es
    → length es ≡ length ls
lines_length (Lines.none z) = refl
lines_length (Lines.equation a b p e ls) = omega (arith, lines_length ls)
lines_length (Lines.element a b p e ls) = omega (arith, lines_length ls)

at_most_six : (mode : Mode) → length (lines_of mode) ≤ 6
at_most_six mode.Iso = omega arith
at_most_six mode.Aut = omega arith
at_most_six mode.Order = omega arith
at_most_six mode.Check = omega arith

entries_length : (mode : Mode) (bytes : List ℕ) (v : Text) → Derives mode bytes v
    → length v.entries ≤ 6
entries_length mode bytes v (IsText.text a b n c l ls) =
    omega (arith, lines_length ls, at_most_six mode)

-- ---- What is said of a text that is refused

module _ (mode : Mode) (bytes : List ℕ) where
  refused_text : (f : TextFault) → ((v : Text) × Derives mode bytes v)
      → ((v : Text) → Derives mode bytes v → IsFirst v f)
      → HoldsForText mode bytes (λ v. IsFirst v f)
  refused_text f d h = record { text = d.0; derives = d.1; holds = h }

  pub fault_of : (f : TextFault) → ¬ (f ≡ fault.NoMemory)
      → ((at : ℕ) → ◌≡◌ {A = Result Job TextFault} (Err f) (Err (fault.Syntax at))
      → IsFaultAt mode bytes at)
      → ((v : Text) → Derives mode bytes v → Answers v (Err f))
      → (NeedsText (Err f) → (v : Text) × Derives mode bytes v)
      → IsFaultOf mode bytes f
  fault_of (fault.Syntax at) n s h d = s at refl
  fault_of fault.NotPrime n s h d = refused_text fault.NotPrime (d tt) h
  fault_of (fault.NoY w) n s h d = refused_text (fault.NoY w) (d tt) h
  fault_of (fault.ZeroDenominator w) n s h d = refused_text (fault.ZeroDenominator w) (d tt) h
  fault_of (fault.Degree w) n s h d = refused_text (fault.Degree w) (d tt) h
  fault_of fault.NoMemory n s h d = absurd (n refl)

  says_of : (f : TextFault) → (h : HoldsForText mode bytes (λ v. IsFirst v f)) → Says h.text f
  says_of f h = (h.holds h.text h.derives).says

-- an entry of at most six is one of 1 to 6
entry_low : (P : Entry → Type 0) (es : List Entry) (w : ℕ) → IsEntry P es w → 1 ≤ w
entry_low P es w e = omega (arith, e.1)

entry_high : (P : Entry → Type 0) (es : List Entry) (w : ℕ) → length es ≤ 6 → IsEntry P es w
    → w ≤ 6
entry_high P es w six e = omega (arith, e.1, e.2, six)

pub fault_has_text : (mode : Mode) (bytes : List ℕ) (f : TextFault) → IsFaultOf mode bytes f
    → HasText f
fault_has_text mode bytes (fault.Syntax at) h = tt
fault_has_text mode bytes fault.NotPrime h = tt
fault_has_text mode bytes (fault.NoY w) h =
    let s = says_of mode bytes (fault.NoY w) h in
    (entry_low (LacksY h.text.number) h.text.entries w s.1, s.0)
fault_has_text mode bytes (fault.ZeroDenominator w) h =
    let s = says_of mode bytes (fault.ZeroDenominator w) h in
    let six = entries_length mode bytes h.text h.derives in
    (s.0, entry_high (IsOverZero h.text.number) h.text.entries w six s.1)
fault_has_text mode bytes (fault.Degree w) h = degree (says_of mode bytes (fault.Degree w) h)
  where
    degree : ((w ≤ 2) × IsEntry (EquationExceeds h.text.number) h.text.entries w)
        ⊎ ((3 ≤ w) × IsEntry (ElementExceeds h.text.number) h.text.entries w) → (1 ≤ w) × (w ≤ 6)
    degree (inl s) =
        (entry_low (EquationExceeds h.text.number) h.text.entries w s.1, omega (arith, s.0))
    degree (inr s) =
        let six = entries_length mode bytes h.text h.derives in (
          omega (arith, s.0),
          entry_high (ElementExceeds h.text.number) h.text.entries w six s.1,
        )
fault_has_text mode bytes fault.NoMemory h = absurd h

-- ---- What follows from three promises on a value

pub if_ok3 : {T E : Type 0} (r : Result T E) (P Q S R : T → Type 0)
    → ((x : T) → P x → Q x → S x → R x) → IfOk r P → IfOk r Q → IfOk r S → IfOk r R
if_ok3 (Ok x) P Q S R f p q s = f x p q s
if_ok3 (Err e) P Q S R f p q s = tt
