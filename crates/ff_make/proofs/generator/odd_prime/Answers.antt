use Rattle.ff_make.proofs.OddPrimes.{odd_in_table}
use Rattle.ff_make.proofs.generator.odd_prime.Goals as goal

pub unwrap-requires : goal.unwrap-requires
unwrap-requires c = c.of.ensures.some.1 (odd_in_table c.args.i c.requires)
