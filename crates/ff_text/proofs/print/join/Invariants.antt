use Rattle.std.proofs.Common.{◌≡◌, ◌++◌, map, take}
use Rattle.std.specs.String.{string_bytes}
use Rattle.std.specs.List.{flat_map}
use Rattle.ff_text.proofs.print.join.Given as goal

abbrev pub invariant-loop-text : goal.invariant-loop-text
invariant-loop-text l = string_bytes l.joined
    ≡ string_bytes l.initial.joined ++ flat_map (λ u. l.separator ++ u)
    (map string_bytes (take l.text-index l.rest))
