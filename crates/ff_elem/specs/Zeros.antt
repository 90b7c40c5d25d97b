-- Lists that zeros were added to.
use Rattle.std.specs.Prelude.{◌≡◌, ℕ, List, ◌++◌, length, map}
use Rattle.ff_theory.specs.Ring.{RingOps}
use Rattle.ff_theory.specs.Poly.{coeff}

module _ (R : RingOps) {X : Type 0} (f : X → R.carrier) where
  -- n values that stand for zero were added at the end
  pub record AddsZeros (old new : List X) (n : ℕ) : Type 0 where
    pub zeros : List X
    pub added : new ≡ old ++ zeros
    pub count : length zeros ≡ n
    pub nothing : (i : ℕ) → coeff R (map f zeros) i ≡ R.zero
