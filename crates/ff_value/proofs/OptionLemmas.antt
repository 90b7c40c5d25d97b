-- What follows from facts of an answer.
use Rattle.std.proofs.Common.{Option, Some, None, IfNone, IfSome, Result, Ok, Err, IfOk}

pub if_none : {T : Type 0} (o : Option T) (P Q : Type 0) → (P → Q) → IfNone o P → IfNone o Q
if_none None P Q k h = k h
if_none (Some x) P Q k h = tt

-- what follows from three facts of a result
pub ok_three : {T E : Type 0} (P Q S V : T → Type 0) (r : Result T E)
    → ((x : T) → P x → Q x → S x → V x) → IfOk r P → IfOk r Q → IfOk r S → IfOk r V
ok_three P Q S V (Ok x) f p q s = f x p q s
ok_three P Q S V (Err e) f p q s = p

-- and from facts of what it holds
pub some_four : {T E : Type 0} (P Q S V W : T → Type 0) (r : Result (Option T) E)
    → ((x : T) → P x → Q x → S x → V x → W x) → IfOk r (λ o. IfSome o P)
    → IfOk r (λ o. IfSome o Q) → IfOk r (λ o. IfSome o S) → IfOk r (λ o. IfSome o V)
    → IfOk r (λ o. IfSome o W)
some_four P Q S V W (Ok (Some x)) f p q s v = f x p q s v
some_four P Q S V W (Ok None) f p q s v = tt
some_four P Q S V W (Err e) f p q s v = p
