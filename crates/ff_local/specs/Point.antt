-- An order O of a ring E over a field k, at one of its points: a map of O to k that keeps sums,
-- products and constants. Its kernel has the elements with the value 0. In it stands v = u - a,
-- which has an inverse in E.
use Rattle.std.specs.Prelude.{◌≡◌, ℕ, ◌<◌, ◌⊎◌}
use Rattle.ff_theory.specs.Ring.{RingOps, IsCommRing}
use Rattle.ff_theory.specs.Lawful.{Field}
use Rattle.ff_theory.specs.Map.{IsMap}
use Rattle.ff_theory.specs.Sum.{sum_below}

-- an order in a ring over a field, with an element v that has an inverse in the ring
pub record OrderIn : Type 1 where
  pub field : Field
  pub ring : RingOps
  pub open ring use *
  pub laws : IsCommRing ring
  -- the elements of k in E
  pub constant : field.carrier → ring.carrier
  pub constants : IsMap field.ring ring constant
  -- the elements of the order
  pub In : ring.carrier → Type 0
  pub decide : (a : carrier) → In a ⊎ ¬ (In a)
  pub in_constant : (c : field.carrier) → In (constant c)
  pub in_add : (a b : carrier) → In a → In b → In (add a b)
  pub in_mul : (a b : carrier) → In a → In b → In (mul a b)
  -- u - a, and its inverse in E
  pub v : ring.carrier
  pub over_v : ring.carrier
  pub in_v : In v
  pub v_inverse : mul v over_v ≡ one

-- c 0 * w 0 + c 1 * w 1 + .. , n terms, with c in k
abbrev pub combined : (O : OrderIn) → ℕ → (ℕ → O.field.carrier) → (ℕ → O.carrier) → O.carrier
combined O n c w = sum_below O.ring n (λ i. O.mul (O.constant (c i)) (w i))

-- a is in v*O
abbrev pub IsMultiple : (O : OrderIn) → O.carrier → Type 0
IsMultiple O a = O.In (O.mul a O.over_v)

-- a is a combination of n elements plus an element of v*O
pub record IsSpanned (O : OrderIn) (n : ℕ) (w : ℕ → O.carrier) (a : O.carrier) : Type 0 where
  pub coefficients : ℕ → O.field.carrier
  pub rest : O.carrier
  pub inside : O.In rest
  pub sum : a ≡ O.add (combined O n coefficients w) (O.mul O.v rest)

-- finitely many elements of the order that span it modulo v*O
pub record Spanning (O : OrderIn) : Type 0 where
  pub count : ℕ
  pub element : ℕ → O.carrier
  pub inside : (i : ℕ) → i < count → O.In (element i)
  pub spans : (a : O.carrier) → O.In a → IsSpanned O count element a

-- an order at a point: the values of its elements there, of which that of v is 0
pub record OrderAt : Type 1 where
  pub order : OrderIn
  pub open order use *
  pub value : order.carrier → order.field.carrier
  pub value_constant : (c : order.field.carrier) → value (order.constant c) ≡ c
  pub value_add : (a b : order.carrier) → order.In a → order.In b
      → value (order.add a b) ≡ order.field.add (value a) (value b)
  pub value_mul : (a b : order.carrier) → order.In a → order.In b
      → value (order.mul a b) ≡ order.field.mul (value a) (value b)
  pub value_v : value order.v ≡ order.field.zero

-- an element of the order with the value 0
pub record InKernel (P : OrderAt) (a : P.carrier) : Type 0 where
  pub inside : P.In a
  pub vanishes : P.value a ≡ P.field.zero

-- only elements of the order carry the kernel into itself
abbrev pub IsMaximalAt : (P : OrderAt) → Type 0
IsMaximalAt P = (s : P.carrier) → ((r : P.carrier) → InKernel P r → InKernel P (P.mul s r)) → P.In s
