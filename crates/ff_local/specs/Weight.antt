-- The spaces L_j of a point: the elements of the pole modules that have a second property, as that
-- of standing in the order of the other chart. Weights of elements, and pole numbers.
use Rattle.std.specs.Prelude.{ℕ, zero, suc}
use Rattle.ff_local.specs.Point.{OrderAt, InKernel}
use Rattle.ff_local.specs.Module.{InModule}

-- a subring with the constants
pub record IsSubring (P : OrderAt) (In : P.carrier → Type 0) : Type 0 where
  pub on_constant : (c : P.field.carrier) → In (P.constant c)
  pub on_add : (a b : P.carrier) → In a → In b → In (P.add a b)
  pub on_mul : (a b : P.carrier) → In a → In b → In (P.mul a b)

-- L_j
pub record InL (P : OrderAt) (Other : P.carrier → Type 0) (j : ℕ) (w : P.carrier) : Type 0 where
  pub in_module : InModule P j w
  pub in_other : Other w

-- below L_j: L_(j-1), and for j = 0 the elements of value 0
abbrev pub IsBelow : (P : OrderAt) → (P.carrier → Type 0) → ℕ → P.carrier → Type 0
IsBelow P Other zero w = InKernel P w
IsBelow P Other (suc j) w = InL P Other j w

-- w is in L_j and not below it
pub record HasWeight (P : OrderAt) (Other : P.carrier → Type 0) (j : ℕ)
    (w : P.carrier) : Type 0 where
  pub inside : InL P Other j w
  pub not_below : ¬ IsBelow P Other j w

-- a pole number: some element has the weight j
abbrev pub IsPoleNumber : (P : OrderAt) → (P.carrier → Type 0) → ℕ → Type 0
IsPoleNumber P Other j = (w : P.carrier) × HasWeight P Other j w
