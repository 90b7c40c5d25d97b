-- Counts of faults.
use Rattle.std.proofs.Common.{◌≡◌, ◌≤◌, ℕ, Result, Ok, Err, arith}
use Rattle.ff_io.specs.Causes.{HasCause, faults_after}

-- a count that is raised exactly at a failure, and does not fall, is the cause of the failure
pub HasCause-counted : {T E : Type 0} (result : Result T E) (before now : ℕ) → before ≤ now → now
    ≡ faults_after result before → HasCause before now result
HasCause-counted (Ok x) before now later counted = record { later = later; failed = tt }
HasCause-counted (Err e) before now later counted = record { later = later; failed = omega arith }
