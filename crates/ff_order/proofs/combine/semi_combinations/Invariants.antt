use Rattle.std.proofs.Common.{◌≡◌, ℕ, ◌<◌, length, map, All}
use Rattle.ff_theory.specs.Vector.{vectors_of, IsVector, combination_of}
use Rattle.ff_lin.specs.Space.{frobenius}
use Rattle.ff_order.proofs.combine.semi_combinations.Given as goal

abbrev pub invariant-loop-v : goal.invariant-loop-v
invariant-loop-v g l = let F = g.K.Ring.elements l.k in record {
  len : length l.list.items ≡ l.v-index;
  vectors : All (λ v. IsVector F l.n v.items) l.list.items;
  value : (i j : ℕ) → i < l.v-index → vectors_of F (map (λ v. v.items) l.list.items) i j
      ≡ combination_of F (map (λ v. v.items) l.rows)
      (frobenius F (vectors_of F (map (λ v. v.items) l.lists) i)) j;
}
