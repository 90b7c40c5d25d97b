use Rattle.std.proofs.Common.{take}
use Rattle.std.specs.List.{AllZip}
use Rattle.ff_prime.specs.Number.{number_of}
use Rattle.ff_text.specs.Parts.{IsElementOf}
use Rattle.ff_text.proofs.job.elements.Given as goal

abbrev pub invariant-loop-sum : goal.invariant-loop-sum
invariant-loop-sum l = AllZip (IsElementOf (number_of l.k)) (take l.sum-index l.sums) l.elems.items
