use Rattle.std.proofs.Common.{◌≡◌, ℕ, suc, ◌<◌, length, map, All}
use Rattle.ff_theory.specs.Vector.{vectors_of, IsVector}
use Rattle.ff_lin.specs.Kernel.{augmented_of}
use Rattle.ff_lin.proofs.equations.augmented_columns.Given as goal

abbrev pub invariant-loop-col : goal.invariant-loop-col
invariant-loop-col g l = record {
  len : length l.images.items ≡ suc l.col-index;
  vectors : All (λ v. IsVector (g.K.Ring.elements l.k) l.m v.items) l.images.items;
  value : (i j : ℕ) → i < suc l.col-index
      → vectors_of (g.K.Ring.elements l.k) (map (λ v. v.items) l.images.items) i j
      ≡ augmented_of (g.K.Ring.elements l.k) (map (λ v. v.items) l.cols) l.rhs i j;
}
