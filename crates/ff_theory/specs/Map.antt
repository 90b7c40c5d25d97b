-- Maps of rings.
use Rattle.std.specs.Prelude.{◌≡◌}
use Rattle.ff_theory.specs.Ring.{RingOps}

-- a map that keeps the operations
pub record IsMap (S R : RingOps) (f : S.carrier → R.carrier) : Type 0 where
  pub on_zero : f S.zero ≡ R.zero
  pub on_one : f S.one ≡ R.one
  pub on_add : (a b : S.carrier) → f (S.add a b) ≡ R.add (f a) (f b)
  pub on_neg : (a : S.carrier) → f (S.neg a) ≡ R.neg (f a)
  pub on_mul : (a b : S.carrier) → f (S.mul a b) ≡ R.mul (f a) (f b)
