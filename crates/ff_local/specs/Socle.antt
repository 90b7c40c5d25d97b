-- The socle of O/(v*O) at a point: the classes that the kernel carries to 0.
use Rattle.std.specs.Prelude.{ℕ}
use Rattle.ff_theory.specs.Ring.{power}
use Rattle.ff_local.specs.Point.{OrderAt, InKernel, IsMultiple}

-- an element of the order that is not in v*O, but that each element of the kernel carries there
pub record IsSocle (P : OrderAt) (g : P.carrier) : Type 0 where
  pub inside : P.In g
  pub outside : ¬ (IsMultiple P.order g)
  pub killed : (r : P.carrier) → InKernel P r → IsMultiple P.order (P.mul r g)

-- some power of r carries a into v*O
abbrev pub IsKilledBy : (P : OrderAt) → P.carrier → P.carrier → Type 0
IsKilledBy P r a = (n : ℕ) × IsMultiple P.order (P.mul (power P.ring r n) a)
