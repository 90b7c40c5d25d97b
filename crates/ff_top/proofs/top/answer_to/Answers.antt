use Rattle.std.proofs.Common.{IfOk, arith, refl, subst, sym}
use Rattle.ff_theory.proofs.Results.{ok_map}
use Rattle.ff_io.specs.Bytes.{TakesSome}
use Rattle.ff_io.specs.Causes.{Rose}
use Rattle.ff_top.specs.declared.command.Command.{Command}
use Rattle.ff_top.specs.Commands.{IsReading, NodesOf, TestsOf}
use Rattle.ff_top.specs.Lists.{IsMade}
use Rattle.ff_top.specs.Run.{AnswersMake, IsAnswerOf, read_limit}
use Rattle.ff_top.proofs.Taken.{takes_none, on_err}
use Rattle.ff_top.proofs.top.answer_to.Goals as goal

pub returns-in-Read-clause-answer : goal.returns-in-Read-clause-answer
returns-in-Read-clause-answer g c =
    let old = g.S.Source.left c.args.source.now in
    let new = g.S.Source.left c.read_answer.new.source in
    let rose = Rose (g.S.Source.faults c.args.source.now)
    (g.S.Source.faults c.read_answer.new.source) in
    let before = c.args.tests.now in
    let after = c.read_answer.new.tests in
    subst (λ (k : Command). IfOk c.read_answer.result (λ a.
    IsAnswerOf k old new rose before after a.status a.text.items)) (sym c.in-Read.is)
    c.read_answer.ensures.answer

pub returns-in-Read-clause-later : goal.returns-in-Read-clause-later
returns-in-Read-clause-later g c = c.read_answer.ensures.later

pub returns-in-Read-clause-lost : goal.returns-in-Read-clause-lost
returns-in-Read-clause-lost g c = c.read_answer.ensures.lost

pub returns-in-Read-clause-tests : goal.returns-in-Read-clause-tests
returns-in-Read-clause-tests g c = subst (λ (k : Command).
    TestsOf k c.args.tests.now c.read_answer.new.tests) (sym c.in-Read.is)
    c.read_answer.ensures.tests

pub returns-in-Read-clause-nodes : goal.returns-in-Read-clause-nodes
returns-in-Read-clause-nodes g c = subst (λ (k : Command).
    NodesOf k c.args.nodes.now c.read_answer.new.nodes) (sym c.in-Read.is)
    c.read_answer.ensures.nodes

pub returns-in-Read-clause-unread : goal.returns-in-Read-clause-unread
returns-in-Read-clause-unread g c h =
    absurd (h (subst (λ (k : Command). IsReading k) (sym c.in-Read.is) tt))

pub returns-in-Make-clause-answer : goal.returns-in-Make-clause-answer
returns-in-Make-clause-answer g c =
    let left = g.S.Source.left c.args.source.now in
    let faults = g.S.Source.faults c.args.source.now in
    let before = c.args.tests.now in
    let after = c.make.new.tests in
    let n = c.in-Make.number in
    subst (λ (k : Command). IfOk c.make.result (λ a.
    IsAnswerOf k left left (Rose faults faults) before after a.status a.text.items))
    (sym c.in-Make.is) (ok_map (λ a. IsMade n a.status a.text.items)
    (λ a. AnswersMake n left left before after a.status a.text.items) c.make.result
    (λ a h. record { unread = refl; later = c.make.ensures.tests; made = h }) c.make.ensures.made)

pub returns-in-Make-clause-later : goal.returns-in-Make-clause-later
returns-in-Make-clause-later g c = omega arith

pub returns-in-Make-clause-unread : goal.returns-in-Make-clause-unread
returns-in-Make-clause-unread g c h = refl

pub returns-in-Make-clause-lost : goal.returns-in-Make-clause-lost
returns-in-Make-clause-lost g c =
    let left = g.S.Source.left c.args.source.now in
    on_err c.make.result (TakesSome read_limit left left) (takes_none read_limit left)

pub returns-in-Make-clause-tests : goal.returns-in-Make-clause-tests
returns-in-Make-clause-tests g c = subst (λ (k : Command).
    TestsOf k c.args.tests.now c.make.new.tests) (sym c.in-Make.is) c.make.ensures.tests

pub returns-in-Make-clause-nodes : goal.returns-in-Make-clause-nodes
returns-in-Make-clause-nodes g c = subst (λ (k : Command).
    NodesOf k c.args.nodes.now c.make.new.nodes) (sym c.in-Make.is) c.make.ensures.nodes
