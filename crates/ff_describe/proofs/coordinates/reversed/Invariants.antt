use Rattle.std.proofs.Common.{◌≡◌, ℕ, ◌-◌, ◌<◌, length, All}
use Rattle.ff_theory.specs.Ring.{IsElement}
use Rattle.ff_theory.specs.Vector.{vector_of}
use Rattle.ff_describe.proofs.coordinates.reversed.Given as goal

abbrev pub invariant-loop-a : goal.invariant-loop-a
invariant-loop-a g l =
    let F = g.K.Ring.elements l.k in
    record {
      len : length l.list.items ≡ l.a;
      each : All (IsElement F) l.list.items;
      value : (a : ℕ) → a < l.a → vector_of F l.list.items a
          ≡ vector_of F l.row (l.n - 1 - a);
    }
