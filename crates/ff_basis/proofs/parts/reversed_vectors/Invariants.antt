use Rattle.std.proofs.Common.{◌≡◌, ℕ, ◌-◌, ◌*◌, ◌<◌, length, map, All}
use Rattle.ff_theory.specs.Vector.{vectors_of, IsVector}
use Rattle.ff_theory.specs.Values.{polys_of}
use Rattle.ff_basis.specs.Blocks.{entry_in}
use Rattle.ff_basis.proofs.parts.reversed_vectors.Given as goal

abbrev pub invariant-loop-a : goal.invariant-loop-a
invariant-loop-a g l =
    let F = g.K.Ring.elements l.k in
    record {
      len : length l.list.items ≡ l.a;
      vectors : All (λ v. IsVector F l.len v.items) l.list.items;
      value : (a j : ℕ) → a < l.a → j < l.len
          → vectors_of F (map (λ v. v.items) l.list.items) a j
          ≡ entry_in F.ring (polys_of F l.rows) (a * l.n) l.l (l.len - 1 - j);
    }
