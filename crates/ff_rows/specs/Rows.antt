-- What a row passes by, and what is counted.
use Rattle.std.specs.Prelude.{◌≡◌, ◌+◌, ◌-◌, ◌^◌, ◌⊎◌, ℕ, List, Bool, true, false, min, Some}
use Rattle.ff_top.specs.declared.status.Status.{Status}
use Rattle.ff_rows.specs.declared.row.End.{End}
use Rattle.ff_rows.specs.declared.tally.Tally.{Tally}

-- a run with this status and these bytes ended as it was to end
pub record EndsAs (end : End) (status : Status) (written : List ℕ) : Type 0 where
  pub status_is : end.status ≡ Some status
  pub text_is : end.text.items ≡ written

-- one more, up to the last value of u64
abbrev pub next : ℕ → ℕ
next count = min (count + 1) (2 ^ 64 - 1)

-- one more row is counted, and among those that pass exactly where it passes
abbrev pub Counts : Tally → Tally → Bool → Type 0
Counts old new true = (new.rows ≡ next old.rows) × (new.passed ≡ next old.passed)
Counts old new false = (new.rows ≡ next old.rows) × (new.passed ≡ old.passed)

-- one more row is counted, whether it passes or not
pub record CountsOne (old new : Tally) : Type 0 where
  pub rows_is : new.rows ≡ next old.rows
  pub passed_is : (new.passed ≡ next old.passed) ⊎ (new.passed ≡ old.passed)
