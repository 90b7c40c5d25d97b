use Rattle.std.proofs.Common.{◌≡◌, ℕ, ◌<◌, length, All}
use Rattle.ff_theory.specs.Ring.{IsElement}
use Rattle.ff_theory.specs.Span.{product}
use Rattle.ff_theory.specs.Vector.{vector_of, vectors_of}
use Rattle.ff_lin.specs.Space.{rows_of}
use Rattle.ff_points.proofs.fibres.products.Given as goal

abbrev pub invariant-loop-v : goal.invariant-loop-v
invariant-loop-v g l =
    let F = g.K.Ring.elements l.k in
    record {
      len : length l.products.items ≡ l.v-index;
      each : All (IsElement F) l.products.items;
      value : (i : ℕ) → i < l.v-index → vector_of F l.products.items i
          ≡ product F.ring (length l.chi) (vectors_of F (rows_of l.vectors) i) (vector_of F l.chi);
    }
