use Rattle.std.proofs.Common.{◌≡◌, map, take}
use Rattle.std.specs.String.{string_bytes}
use Rattle.ff_text.specs.Printed.{term_text}
use Rattle.ff_text.proofs.print.terms.Given as goal

abbrev pub invariant-loop-m : goal.invariant-loop-m
invariant-loop-m l = map string_bytes l.terms.items ≡ map term_text (take l.m-index l.monomials)
