-- Truth values.
use Rattle.std.proofs.Common.{◌≡◌, Bool, true, false, ◌&&◌, refl}

pub differ : {A : Type 0} (b : Bool) → b ≡ true → b ≡ false → A
differ true e f = cc
differ false e f = cc

pub both : (a b : Bool) → (a && b) ≡ true → (a ≡ true) × (b ≡ true)
both true b e = (refl, e)
both false b e = absurd cc
