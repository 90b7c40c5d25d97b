use Rattle.std.proofs.Common.{arith, length-take, ℕ}
use Rattle.std.proofs.lemmas.Result.{err_from_is_err_and}
use Rattle.ff_io.proofs.Bytes.{TakesSome-more}
use Rattle.ff_io.proofs.stream.read_up_to.Goals as goal

pub returns-in_err-count-clause-lost : goal.returns-in_err-count-clause-lost
returns-in_err-count-clause-lost g c =
    let error = err_from_is_err_and c.from_residual.result c.from_residual.ensures.1 in
    rw error.1 (TakesSome-more _ _ _ c.loop-chunk.taken.items _ _ c.loop-chunk.invariant.1
    c.in_err-count.ensures.lost (omega (arith, length-take {A = ℕ})))
