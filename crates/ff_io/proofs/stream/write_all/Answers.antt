use Rattle.std.proofs.Common.{arith, refl}
use Rattle.ff_io.proofs.Bytes.{Appends-take}
use Rattle.ff_io.proofs.stream.write_all.Goals as goal

pub loop-done-preserved : goal.loop-done-preserved
loop-done-preserved g c = (
  omega (arith, c.in_ok-done.ensures.bound),
  Appends-take _ _ _ c.args.bytes.now _ _ _
      c.loop-done.invariant.1 refl c.in_ok-done.ensures.bytes,
  omega arith,
)
