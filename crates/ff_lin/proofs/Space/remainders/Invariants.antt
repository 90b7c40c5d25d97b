use Rattle.std.proofs.Common.{◌≡◌, ℕ, ◌<◌, length, map, All}
use Rattle.ff_theory.specs.Vector.{vectors_of, IsVector}
use Rattle.ff_lin.specs.Space.{remainder_of}
use Rattle.ff_lin.proofs.Space.remainders.Given as goal

abbrev pub invariant-loop-image : goal.invariant-loop-image
invariant-loop-image g l = record {
  len : length l.remainders.items ≡ l.image-index;
  vectors : All (λ v. IsVector (g.K.Ring.elements l.k) l.self.len v.items) l.remainders.items;
  value : (i j : ℕ) → i < l.image-index
      → vectors_of (g.K.Ring.elements l.k) (map (λ v. v.items) l.remainders.items) i j
      ≡ remainder_of (g.K.Ring.elements l.k) l.self
      (vectors_of (g.K.Ring.elements l.k) (map (λ v. v.items) l.images) i) j;
}
