use Rattle.std.proofs.Common.{length, ◌-◌, ◌≤◌, take}
use Rattle.std.specs.Io.KnownBytes.{Appends}
use Rattle.ff_io.proofs.stream.write_all.Given as goal

-- the first `done` bytes were written
abbrev pub invariant-loop-done : goal.invariant-loop-done
invariant-loop-done g l =
    (l.done ≤ length l.bytes)
    × Appends (g.T.Sink.written l.initial.sink) (g.T.Sink.written l.sink) (take l.done l.bytes)
    × (g.T.Sink.faults l.initial.sink ≤ g.T.Sink.faults l.sink)

abbrev pub decreases-loop-done : goal.decreases-loop-done
decreases-loop-done g l = length l.bytes - l.done
