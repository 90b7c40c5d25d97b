-- What holds of an answer that may be none.
use Rattle.std.proofs.Common.{Option, Some, None, IfSome, IfNone}

pub some-map : {T : Type 0} (o : Option T) (P Q : T → Type 0) → ((x : T) → P x → Q x) → IfSome o P
    → IfSome o Q
some-map None P Q k h = tt
some-map (Some x) P Q k h = k x h

pub none-map : {T : Type 0} (o : Option T) (P Q : Type 0) → (P → Q) → IfNone o P → IfNone o Q
none-map None P Q k h = k h
none-map (Some x) P Q k h = tt

-- two things that hold of an answer that may be none give a third
pub some-both : {T : Type 0} (o : Option T) (P Q R : T → Type 0) → ((x : T) → P x → Q x → R x)
    → IfSome o P → IfSome o Q → IfSome o R
some-both None P Q R k g h = tt
some-both (Some x) P Q R k g h = k x g h
