use Rattle.ff_text.proofs.Numbers.{IsReadTo}
use Rattle.ff_text.proofs.number.read_number.Given as goal

abbrev pub invariant-loop-byte : goal.invariant-loop-byte
invariant-loop-byte l = IsReadTo l.text l.byte-index l.number
