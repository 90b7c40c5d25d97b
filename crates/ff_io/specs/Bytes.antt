-- Bytes that several calls take from a source or give to a sink, where it tells its bytes.
use Rattle.std.specs.Prelude.{◌≡◌, ◌<◌, ◌≤◌, ℕ, List, length, take, drop, None, Some, ⊤}
use Rattle.std.specs.Io.KnownBytes.{Appends, Consumes}
use Rattle.std.specs.declared.option.Option.{Option}

-- the first `limit` of the bytes that were left are taken, or all where fewer were left
abbrev pub TakesUpTo : ℕ → Option (List ℕ) → Option (List ℕ) → List ℕ → Type 0
TakesUpTo limit None new taken = ⊤
TakesUpTo limit (Some old) None taken = ⊥
TakesUpTo limit (Some old) (Some new) taken = (taken ≡ take limit old) × (new ≡ drop limit old)

-- a prefix of the bytes that were left is taken, at most `limit` of them
abbrev pub TakesSome : ℕ → Option (List ℕ) → Option (List ℕ) → Type 0
TakesSome limit old new = (taken : List ℕ) × (length taken ≤ limit) × Consumes old new taken

-- a prefix of the bytes is appended, and not all of them
abbrev pub AppendsProperPrefix : Option (List ℕ) → Option (List ℕ) → List ℕ → Type 0
AppendsProperPrefix old new bytes =
    (count : ℕ) × (count < length bytes) × Appends old new (take count bytes)
