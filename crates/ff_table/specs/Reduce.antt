-- Reduction by elements of known weights.
use Rattle.std.specs.Prelude.{◌≡◌, ℕ, ◌+◌, ◌*◌, ◌<◌, ◌≤◌, Bool, true}
use Rattle.ff_theory.specs.Ring.{RingOps}
use Rattle.ff_table.specs.Table.{Table, table_ring, Weighs}
use Rattle.ff_table.specs.Leading.{part}

module _ (k : RingOps) (s : Table k) where
  -- a is zero at the levels from n on that are reached
  abbrev pub IsClear : (ℕ → Bool) → ℕ → (table_ring k s).carrier → Type 0
  IsClear reached n a = (l d : ℕ) → l < s.rank → n ≤ s.rank * d + s.weight l
      → reached (s.rank * d + s.weight l) ≡ true
      → part k s l d a ≡ k.zero

  -- an element of N of weight t
  pub record Pivot (N : (table_ring k s).carrier → Type 0) (t : ℕ) : Type 0 where
    pub element : (table_ring k s).carrier
    pub inside : N element
    pub weight : Weighs k s element t

  -- a is an element of N plus a rest that is zero at each reached level
  pub record Reduction (N : (table_ring k s).carrier → Type 0) (reached : ℕ → Bool)
      (a : (table_ring k s).carrier) : Type 0 where
    pub multiple : (table_ring k s).carrier
    pub rest : (table_ring k s).carrier
    pub inside : N multiple
    pub sum : a ≡ (table_ring k s).add multiple rest
    pub clear : IsClear reached 0 rest
