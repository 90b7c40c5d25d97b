use Rattle.std.proofs.lemmas.Nat.Gcd.{IsGcd-from_zero, IsGcd-from_mod}
use Rattle.ff_relation.proofs.Coprime.{difference-zero, difference-mod}
use Rattle.ff_relation.proofs.choice.+gcd.Goals as goal

pub returns-then-b-eq0-clause-divisor : goal.returns-then-b-eq0-clause-divisor
returns-then-b-eq0-clause-divisor t c = IsGcd-from_zero c.args.a c.args.b c.if-b-eq0.true

pub returns-then-b-eq0-clause-difference : goal.returns-then-b-eq0-clause-difference
returns-then-b-eq0-clause-difference t c = difference-zero c.args.a c.args.b c.if-b-eq0.true

pub returns-clause-divisor : goal.returns-clause-divisor
returns-clause-divisor t c = IsGcd-from_mod c.args.a c.args.b c.gcd.result c.gcd.ensures.divisor

pub returns-clause-difference : goal.returns-clause-difference
returns-clause-difference t c = difference-mod c.args.a c.args.b c.gcd.result
    c.gcd.ensures.difference
