-- Tables of products, the table rule, and the weights of elements.
use Rattle.std.specs.Prelude.{◌≡◌, ℕ, ◌+◌, ◌%◌, ◌<◌}
use Rattle.ff_theory.specs.Ring.{RingOps}
use Rattle.ff_theory.specs.Poly.{Poly, polynomials}
use Rattle.ff_table.specs.Coords.{IsAlgebra, coords_ring, at}
use Rattle.ff_table.specs.Weight.{IsBelow, HasWeight, weight_below}

-- e, the weights of the basis vectors, and the coordinates of their products
pub record Table (k : RingOps) : Type 0 where
  pub rank : ℕ
  pub weight : ℕ → ℕ
  pub product : ℕ → ℕ → ℕ → Poly k

-- the table rule
pub record IsTable (k : RingOps) (s : Table k) : Type 0 where
  pub algebra : IsAlgebra (polynomials k) s.rank s.product
  pub classes : (i : ℕ) → i < s.rank → s.weight i % s.rank ≡ i
  pub weights : (i j : ℕ) → i < s.rank → j < s.rank
      → HasWeight k s.rank s.weight (s.product i j) (s.weight i + s.weight j)

-- the ring of the table
abbrev pub table_ring : (k : RingOps) → Table k → RingOps
table_ring k s = coords_ring (polynomials k) s.rank s.product

-- the weight of an element
abbrev pub Weighs : (k : RingOps) (s : Table k) → (table_ring k s).carrier → ℕ → Type 0
Weighs k s a w = HasWeight k s.rank s.weight (at (polynomials k) s.rank a) w

-- a is zero or its weight is below n
abbrev pub WeighsBelow : (k : RingOps) (s : Table k) → ℕ → (table_ring k s).carrier → Type 0
WeighsBelow k s n a = IsBelow k s.rank s.weight n (at (polynomials k) s.rank a)

-- the weight of an element that is not zero, and 0 for zero
abbrev pub weight_of : (k : RingOps) (s : Table k) → (table_ring k s).carrier → ℕ
weight_of k s a = weight_below k s.rank s.weight (at (polynomials k) s.rank a) s.rank
