use Rattle.std.proofs.Common.{◌%◌, length, get_or, ap, sym}
use Rattle.ff_make.proofs.OddPrimes.{all_exponents}
use Rattle.ff_make.proofs.generator.exponent.Goals as goal

pub returns : goal.returns
returns c =
    ap (λ M. get_or M (c.args.q % length M) 0) (sym (all_exponents c.args.p c.requires
    c.if-p-eq3.false c.if-p-eq5.false c.if-p-eq7.false c.if-p-eq11.false))
