-- Readers and writers with a count of their faults.
use Rattle.std.specs.Prelude.{ℕ}

-- a reader or a writer, and its faults so far
pub record Counted (S : Type 0) : Type 0 where
  pub inner : S
  pub faults : ℕ
