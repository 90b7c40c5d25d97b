-- Bytes that are taken from a source and given to a sink.
use Rattle.std.proofs.Common.{◌≡◌, ◌≤◌, ◌+◌, ◌-◌, ◌++◌, ℕ, List, length, take, drop, min, Some, Ok}
use Rattle.std.proofs.Common.{ap, ap₂, sym, ◌∙◌, subst, arith}
use Rattle.std.proofs.Common.{take-add, take_all, take_at, take-append-drop, drop_of_length-le}
use Rattle.std.proofs.Common.{length-take-le, length-append, length-take, length-drop}
use Rattle.std.specs.Io.KnownBytes.{Appends, Consumes, ReadConsumes}
use Rattle.std.proofs.KnownBytes.{Appends-trans, Consumes-trans}
use Rattle.std.specs.declared.option.Option.{Option}
use Rattle.ff_io.specs.Bytes.{TakesSome}
use Rattle.ff_io.specs.declared.traits.Failed.{Failed}

-- the bytes that were put before a buffer are its first
take-put : (count : ℕ) (left rest : List ℕ) → count ≤ length left
    → take count (take count left ++ rest) ≡ take count left
take-put count left rest within = take_at (take count left) rest count
    (length-take-le count left within)

-- a call that gives as many bytes as the chunk, the buffer and what is left allow
pub ReadConsumes-given : (chunk count : ℕ) (left buf : List ℕ) (buf_new left_new : List ℕ)
    → 1 ≤ chunk
    → count ≡ min chunk (min (length buf) (length left))
    → buf_new ≡ take count left ++ drop count buf → left_new ≡ drop count left
    → ReadConsumes {E = Failed} (Some left) (Some left_new) (Ok count) buf_new
ReadConsumes-given chunk count left buf buf_new left_new least is_given placed rest =
    let within : count ≤ length left = omega arith in
    let prefix : take count buf_new ≡ take count left = ap (take count) placed
    ∙ take-put count left (drop count buf) within in
    let size : length buf_new ≡ min count (length left) + (length buf - count) = simp
    (length-append, length-take, length-drop) at (ap length placed) in (
      sym (ap₂ (λ (first last : List ℕ). first ++ last) prefix rest ∙ take-append-drop count left),
      λ none room. rest ∙ drop_of_length-le left (omega arith),
    )

-- the first bytes were written, and then some of those after them
pub Appends-take : (a b c : Option (List ℕ)) (bytes rest : List ℕ) (done count : ℕ)
    → Appends a b (take done bytes)
    → rest ≡ take (length bytes - done) (drop done bytes) → Appends b c (take count rest)
    → Appends a c (take (done + count) bytes)
Appends-take a b c bytes rest done count first is_rest second =
    let whole : rest ≡ drop done bytes = is_rest ∙ take_all (length bytes - done) (drop done bytes)
    (omega (arith, length-drop done bytes)) in
    subst (Appends a c) (ap (λ l. take done bytes ++ take count l) whole
    ∙ sym (take-add done count bytes)) (Appends-trans a b c _ _ first second)

-- some bytes were taken, and then some more
pub TakesSome-more : (a b c : Option (List ℕ)) (taken : List ℕ) (more limit : ℕ)
    → Consumes a b taken → TakesSome more b c
    → length taken + more ≤ limit → TakesSome limit a c
TakesSome-more a b c taken more limit first (last, within, second) fits = (
  taken ++ last,
  omega (arith, length-append taken last),
  Consumes-trans a b c taken last first
      second,
)
