-- What a call's result keeps.
use Rattle.std.proofs.Common.{Result, Ok, Err, IfOk}

-- what holds of a value that is passed on
pub ok_map : {T F : Type 0} (P Q : T → Type 0) (r : Result T F) → ((x : T) → P x → Q x) → IfOk r P
    → IfOk r Q
ok_map P Q (Ok x) f h = f x h
ok_map P Q (Err e) f h = h

-- and of two facts
pub ok_both : {T F : Type 0} (P Q S : T → Type 0) (r : Result T F) → ((x : T) → P x → Q x → S x)
    → IfOk r P → IfOk r Q → IfOk r S
ok_both P Q S (Ok x) f h k = f x h k
ok_both P Q S (Err e) f h k = h
