use Rattle.std.proofs.Common.{◌<◌, ◌≤◌, ◌∙◌, length, sym, arith, rules}
use Rattle.ff_text.proofs.Numbers.{not_digits, not_long, read_all}
use Rattle.ff_text.proofs.number.read_number.Goals as goal

pub returns-then-text-clause-none : goal.returns-then-text-clause-none
returns-then-text-clause-none c = not_long c.args.text.now c.if-text.true

pub returns-in-None-clause-none : goal.returns-in-None-clause-none
returns-in-None-clause-none c = not_digits c.args.text.now c.loop-byte.byte-index
    c.loop-byte-test.true (sym c.digit.ensures.value ∙ c.in-None.is)

pub returns-clause-some : goal.returns-clause-some
returns-clause-some c =
    let some : 0 < length c.args.text.now = search rules in
    read_all c.args.text.now c.loop-byte.byte-index c.loop-byte.number
    c.loop-byte.invariant c.loop-byte-test.false some c.if-text.false
