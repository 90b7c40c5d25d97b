use Rattle.std.proofs.Common.{ℕ, ◌<◌, ◌≤◌, length}
use Rattle.ff_theory.specs.Vector.{vectors_of}
use Rattle.ff_describe.specs.Readings.{AreZero}
use Rattle.ff_describe.proofs.expression.last_led.Given as goal

abbrev pub invariant-loop-i : goal.invariant-loop-i
invariant-loop-i g l =
    let F = g.K.Ring.elements l.k in
    record {
      below : l.i ≤ length l.space.basis;
      zeros : (i : ℕ) → l.i ≤ i → i < length l.space.basis
          → AreZero F l.n (vectors_of F l.space.basis i);
    }

abbrev pub decreases-loop-i : goal.decreases-loop-i
decreases-loop-i g l = l.i
