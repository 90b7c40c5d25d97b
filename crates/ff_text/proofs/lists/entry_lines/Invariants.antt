use Rattle.std.proofs.Common.{◌≡◌, take}
use Rattle.std.specs.List.{flat_map}
use Rattle.std.specs.String.{string_bytes}
use Rattle.ff_text.specs.Lists.{entry_text}
use Rattle.ff_text.proofs.lists.entry_lines.Given as goal

abbrev pub invariant-loop-e : goal.invariant-loop-e
invariant-loop-e l = string_bytes l.lines ≡ flat_map entry_text (take l.e-index l.entries)
