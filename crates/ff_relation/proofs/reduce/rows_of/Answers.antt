use Rattle.std.proofs.Common.{arith}
use Rattle.ff_relation.proofs.reduce.rows_of.Goals as goal

pub returns-clause-rest : goal.returns-clause-rest
returns-clause-rest g c = λ small l q.
    c.in_ok-rest.ensures.value (omega (arith, small, c.in_ok-room.ensures)) l q

pub returns-clause-quotient : goal.returns-clause-quotient
returns-clause-quotient g c = λ l q. c.in_ok-quotient.ensures.value (omega arith) l q
