-- What was taken from a source.
use Rattle.std.proofs.Common.{◌≤◌, ℕ, List, [], length, refl, arith, drop, ◌++◌}
use Rattle.std.proofs.Common.{Some, None, Ok, Err}
use Rattle.std.proofs.Common.{OnErr, Result, sym, ◌∙◌, ap, Option}
use Rattle.std.proofs.lemmas.List.{take-append-drop}
use Rattle.ff_io.specs.Bytes.{TakesSome, TakesUpTo}

-- what is taken up to a limit is some bytes from the front
pub takes_some : (limit : ℕ) (old new : Option (List ℕ)) (bytes : List ℕ)
    → TakesUpTo limit old new bytes → length bytes ≤ limit → TakesSome limit old new
takes_some limit None new bytes h l = (bytes, l, tt)
takes_some limit (Some old) None bytes h l = absurd h
takes_some limit (Some old) (Some new) bytes h
    l = (
      bytes,
      l,
      sym (take-append-drop limit old) ∙ ap (λ t. t ++ drop limit old) (sym h.0)
          ∙ ap (λ t. bytes ++ t) (sym h.1),
    )

-- nothing is taken where all is left
pub takes_none : (limit : ℕ) (left : Option (List ℕ)) → TakesSome limit left left
takes_none limit None = ([], omega arith, tt)
takes_none limit (Some left) = ([], omega arith, refl)

-- what holds in any case holds at an error
pub on_err : {T E : Type 0} (result : Result T E) (P : Type 0) → P → OnErr result P
on_err (Ok x) P h = tt
on_err (Err e) P h = h
