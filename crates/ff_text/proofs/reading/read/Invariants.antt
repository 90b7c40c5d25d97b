use Rattle.std.proofs.Common.{◌≡◌, take, Some}
use Rattle.ff_text.specs.Reading.{reads, IsWithin}
use Rattle.ff_text.proofs.reading.read.Given as goal

abbrev pub invariant-loop-at : goal.invariant-loop-at
invariant-loop-at l = record {
  state : reads l.fn.mode (take l.at l.bytes) ≡ Some l.reader;
  sizes : IsWithin l.at l.reader;
}
