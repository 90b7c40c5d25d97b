use Rattle.std.proofs.Common.{◌≡◌, take}
use Rattle.std.specs.List.{flat_map}
use Rattle.std.specs.String.{string_bytes}
use Rattle.ff_text.specs.Lists.{elem_line}
use Rattle.ff_text.proofs.lists.elem_lines.Given as goal

abbrev pub invariant-loop-e : goal.invariant-loop-e
invariant-loop-e l = string_bytes l.lines ≡ flat_map elem_line (take l.e-index l.elems)
