-- Pole modules of a point, and leading values.
use Rattle.std.specs.Prelude.{◌≡◌, ℕ, zero, suc, ◌<◌, List, [], ◌∷◌, length}
use Rattle.std.specs.List.{All}
use Rattle.ff_theory.specs.Ring.{RingOps, power}
use Rattle.ff_local.specs.Point.{OrderAt, InKernel, combined}

-- w times any j elements with the first property has the second
abbrev pub IsCarried : (R : RingOps) → (R.carrier → Type 0) → (R.carrier → Type 0) → ℕ
    → R.carrier → Type 0
IsCarried R Kernel In zero w = In w
IsCarried R Kernel In (suc j) w = (r : R.carrier) → Kernel r
    → IsCarried R Kernel In j (R.mul w r)

-- the pole module M_j: w times any j elements of the kernel is in the order
abbrev pub InModule : (P : OrderAt) → ℕ → P.carrier → Type 0
InModule P j w = IsCarried P.ring (InKernel P) P.In j w

-- the product of a list
abbrev pub product_of : (R : RingOps) → List R.carrier → R.carrier
product_of R [] = R.one
product_of R (r ∷ rs) = R.mul r (product_of R rs)

-- the same by lists: w times the product of any j elements of the kernel is in the order
abbrev pub InModuleByLists : (P : OrderAt) → ℕ → P.carrier → Type 0
InModuleByLists P j w = (rs : List P.carrier) → length rs ≡ j → All (InKernel P) rs
    → P.In (P.mul w (product_of P.ring rs))

-- s carries the kernel into the order, and h in the kernel to an element of value 1
pub record IsLocalPair (P : OrderAt) (s h : P.carrier) : Type 0 where
  pub into : InModule P 1 s
  pub kernel : InKernel P h
  pub unit : P.value (P.mul s h) ≡ P.field.one

-- the leading value of w at level j
abbrev pub lead : (P : OrderAt) → P.carrier → ℕ → P.carrier → P.field.carrier
lead P h j w = P.value (P.mul w (power P.ring h j))

-- w is an element of the order plus a combination of u 1, .., u j
pub record IsBuilt (P : OrderAt) (j : ℕ) (u : ℕ → P.carrier) (w : P.carrier) : Type 0 where
  pub coefficients : ℕ → P.field.carrier
  pub rest : P.carrier
  pub inside : P.In rest
  pub sum : w ≡ P.add rest (combined P.order j coefficients (λ i. u (suc i)))

-- u 1, .., u j are the powers of s, each up to an element of the order and the one before it
pub record ArePowers (P : OrderAt) (s : P.carrier) (j : ℕ) (u : ℕ → P.carrier) : Type 0 where
  pub first : 0 < j → P.In (P.add (u 1) (P.neg s))
  pub next : (i : ℕ) → suc i < j → P.In (P.add (u (suc (suc i))) (P.neg (P.mul (u (suc i)) s)))
