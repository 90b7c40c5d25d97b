use Rattle.std.proofs.Common.{ℕ, ◌<◌, ◌≤◌, All, get_or}
use Rattle.ff_describe.proofs.tables.greatest.Given as goal

abbrev pub invariant-loop-m : goal.invariant-loop-m
invariant-loop-m l = record {
  least : (M : ℕ) → All (λ m. m ≤ M) l.weights → l.greatest ≤ M;
  above : (i d : ℕ) → i < l.m-index → get_or l.weights i d ≤ l.greatest;
}
