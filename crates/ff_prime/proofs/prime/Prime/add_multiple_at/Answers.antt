use Rattle.std.proofs.Common.{◌+◌, ◌<◌, length, get_or, subst, sym, arith}
use Rattle.ff_prime.proofs.Kernels.{small-sum}
use Rattle.ff_prime.proofs.prime.Prime.add_multiple_at.Goals as goal

pub reduced-requires : goal.reduced-requires
reduced-requires c =
    let p = c.args.self.now.number in
    let at = c.args.at + c.loop-j.j in
    let inside : at < length c.args.sum.now = omega (arith, c.requires.len) in
    small-sum p (get_or c.loop-j.sum at 0) c.args.c (get_or c.args.b.now c.loop-j.j 0)
    (subst (λ n. n < p) (sym (c.loop-j.invariant.above at (omega arith)))
    (c.requires.sum at inside))
    c.requires.c
    (c.requires.b c.loop-j.j (omega arith))
