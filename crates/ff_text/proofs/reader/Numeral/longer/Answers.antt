use Rattle.std.proofs.Common.{arith}
use Rattle.ff_text.proofs.Sizes.{short_below}
use Rattle.ff_text.proofs.reader.Numeral.longer.Goals as goal

pub overflow_mul-result : goal.overflow_mul-result
overflow_mul-result c = let h = short_below c.args.self c.if-self-lt-MAX_DIGITS.true
    c.requires.short in omega arith

pub overflow_add-result : goal.overflow_add-result
overflow_add-result c = let h = short_below c.args.self c.if-self-lt-MAX_DIGITS.true
    c.requires.short in omega arith
