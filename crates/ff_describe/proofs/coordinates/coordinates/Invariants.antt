use Rattle.std.proofs.Common.{◌≡◌, ℕ, ◌+◌, ◌<◌, ◌≤◌, length, get_or, []}
use Rattle.ff_theory.specs.Values.{ArePolys}
use Rattle.ff_theory.specs.Vector.{vector_of}
use Rattle.ff_describe.specs.Levels.{offset}
use Rattle.ff_describe.proofs.coordinates.coordinates.Given as goal

abbrev pub invariant-loop-l : goal.invariant-loop-l
invariant-loop-l g l =
    let F = g.K.Ring.elements l.k in
    record {
      at : l.at ≡ l.start + offset l.counts l.l;
      len : length l.list.items ≡ l.l;
      each : ArePolys F l.list.items;
      short : (i : ℕ) → i < l.l → length (get_or l.list.items i []) ≤ get_or l.counts i 0;
      value : (i : ℕ) → i < l.l → (a : ℕ) → a < get_or l.counts i 0
          → vector_of F (get_or l.list.items i []) a
          ≡ F.neg (vector_of F l.row (l.start + (offset l.counts i + a)));
    }
