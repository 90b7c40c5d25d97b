use Rattle.std.proofs.Common.{◌≡◌, ℕ, ◌<◌, length, All}
use Rattle.ff_theory.specs.Ring.{IsElement}
use Rattle.ff_theory.specs.Vector.{vector_of}
use Rattle.ff_theory.specs.Values.{plane_of}
use Rattle.ff_charts.specs.Lattice.{flat}
use Rattle.ff_lattice.proofs.vectors.entries.Given as goal

abbrev pub invariant-loop-j : goal.invariant-loop-j
invariant-loop-j g l =
    let F = g.K.Ring.elements l.k in
    record {
      len : length l.entries.items ≡ l.j;
      each : All (IsElement F) l.entries.items;
      value : (i : ℕ) → i < l.j → vector_of F l.entries.items i
          ≡ flat F.ring l.l (plane_of F l.rows) i;
    }
