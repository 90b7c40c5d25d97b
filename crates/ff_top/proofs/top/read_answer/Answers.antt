use Rattle.std.proofs.Common.{◌≤◌, length, ap, subst, arith, inr}
use Rattle.ff_theory.proofs.Results.{ok_map}
use Rattle.ff_io.specs.Bytes.{TakesSome}
use Rattle.ff_io.specs.Causes.{Rose}
use Rattle.ff_top.specs.Commands.{Judges}
use Rattle.ff_top.specs.Input.{IsInputAnswer}
use Rattle.ff_top.specs.Run.{IsReadAnswer, read_limit}
use Rattle.ff_top.proofs.Commands.{nodes_stay, tests_stay}
use Rattle.ff_top.proofs.Taken.{takes_some, on_err}
use Rattle.ff_top.proofs.top.read_answer.Goals as goal

pub returns-in-Ok-clause-answer : goal.returns-in-Ok-clause-answer
returns-in-Ok-clause-answer g c =
    let old = g.S.Source.left c.args.source.now in
    let new = g.S.Source.left c.read_up_to.new.source in
    let rose = Rose (g.S.Source.faults c.args.source.now)
    (g.S.Source.faults c.read_up_to.new.source) in
    let bytes = c.in-Ok.bytes.items in
    let before = c.args.tests.now in
    let after = c.answer_of.new.tests in
    let mode = c.args.mode in
    ok_map (λ a. IsInputAnswer mode (Judges mode) c.deref.result.now before after
    a.status a.text.items)
    (λ a. IsReadAnswer mode old new rose before after a.status a.text.items)
    c.answer_of.result (λ a h. inr (record {
      bytes = bytes;
      taken = c.in-Ok.ensures.bytes;
      end = λ short. c.in-Ok.ensures.end
          (omega (arith, ap length c.deref.ensures.value, c.deref.ensures.len, short));
      answer = subst
          (λ bs. IsInputAnswer mode (Judges mode) bs before after a.status a.text.items)
          c.deref.ensures.value h;
    })) c.answer_of.ensures.answer

pub returns-in-Ok-clause-tests : goal.returns-in-Ok-clause-tests
returns-in-Ok-clause-tests g c = c.answer_of.ensures.tests

pub returns-in-Ok-clause-nodes : goal.returns-in-Ok-clause-nodes
returns-in-Ok-clause-nodes g c = c.answer_of.ensures.nodes

pub returns-in_ok-text-in-Err-Fault-clause-tests :
    goal.returns-in_ok-text-in-Err-Fault-clause-tests
returns-in_ok-text-in-Err-Fault-clause-tests g c =
    tests_stay c.args.mode c.args.tests.now

pub returns-in_err-text-in-Err-Fault-clause-tests :
    goal.returns-in_err-text-in-Err-Fault-clause-tests
returns-in_err-text-in-Err-Fault-clause-tests g c =
    tests_stay c.args.mode c.args.tests.now

pub returns-in_ok-text-in-Err-Fault-clause-nodes :
    goal.returns-in_ok-text-in-Err-Fault-clause-nodes
returns-in_ok-text-in-Err-Fault-clause-nodes g c =
    nodes_stay c.args.mode c.args.nodes.now

pub returns-in_err-text-in-Err-Fault-clause-nodes :
    goal.returns-in_err-text-in-Err-Fault-clause-nodes
returns-in_err-text-in-Err-Fault-clause-nodes g c =
    nodes_stay c.args.mode c.args.nodes.now

pub returns-in-Err-NoMemory-clause-tests : goal.returns-in-Err-NoMemory-clause-tests
returns-in-Err-NoMemory-clause-tests g c = tests_stay c.args.mode c.args.tests.now

pub returns-in-Err-NoMemory-clause-nodes : goal.returns-in-Err-NoMemory-clause-nodes
returns-in-Err-NoMemory-clause-nodes g c = nodes_stay c.args.mode c.args.nodes.now

pub returns-in-Ok-clause-lost : goal.returns-in-Ok-clause-lost
returns-in-Ok-clause-lost g c =
    let old = g.S.Source.left c.args.source.now in
    let new = g.S.Source.left c.read_up_to.new.source in
    let bytes = c.in-Ok.bytes.items in
    let short : length bytes ≤ read_limit =
    omega (arith, ap length c.deref.ensures.value, c.deref.ensures.len, c.in-Ok.ensures.bound) in
    on_err c.answer_of.result (TakesSome read_limit old new)
    (takes_some read_limit old new bytes c.in-Ok.ensures.bytes short)
