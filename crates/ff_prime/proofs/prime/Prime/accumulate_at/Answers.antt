use Rattle.std.proofs.Common.{◌*◌, ◌+◌, ◌≤◌, get_or, arith}
use Rattle.ff_theory.proofs.Prime.{prime_product}
use Rattle.ff_prime.proofs.prime.Prime.accumulate_at.Goals as goal

pub overflow_add-sum-in-loop-j : goal.overflow_add-sum-in-loop-j
overflow_add-sum-in-loop-j c =
    let product : c.args.c * get_or c.args.b.now c.loop-j.j 0 ≤ 9216 =
    prime_product c.args.self.now.number c.args.c (get_or c.args.b.now c.loop-j.j 0)
    c.args.self.now.known c.requires.c (c.requires.b c.loop-j.j (omega arith))
    in
    omega (
      arith,
      product,
      c.requires.room (c.args.at + c.loop-j.j) (omega (arith, c.requires.len)),
      c.loop-j.invariant.above (c.args.at + c.loop-j.j) (omega arith),
    )
