use Rattle.std.proofs.Common.{◌≡◌, ℕ, ◌-◌, ◌<◌}
use Rattle.ff_theory.specs.Vector.{vector_of, IsVector}
use Rattle.ff_theory.specs.Values.{polys_of}
use Rattle.ff_basis.specs.Blocks.{entry_in}
use Rattle.ff_basis.proofs.parts.reversed_vector.Given as goal

abbrev pub invariant-loop-j : goal.invariant-loop-j
invariant-loop-j g l =
    let F = g.K.Ring.elements l.k in
    record {
      vector : IsVector F l.j l.v.items;
      value : (i : ℕ) → i < l.j → vector_of F l.v.items i
          ≡ entry_in F.ring (polys_of F l.rows) l.from l.l (l.len - 1 - i);
    }
