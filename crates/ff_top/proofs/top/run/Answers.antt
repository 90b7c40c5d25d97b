use Rattle.std.proofs.Common.{ℕ, List, inl, inr, map, refl, subst}
use Rattle.ff_io.specs.Causes.{Rose}
use Rattle.ff_top.specs.declared.word.Word.{Word}
use Rattle.ff_top.specs.Run.{Ends, IsAnswer}
use Rattle.ff_top.specs.Commands.{NodesOf, TestsOf}
use Rattle.ff_top.proofs.Commands.{counted, is_reading}
use Rattle.ff_top.proofs.Endings.{ends_writes, answer_has_text, fault_cause, is_read_fault}
use Rattle.ff_top.proofs.Endings.{not_lost}
use Rattle.ff_top.proofs.top.run.Goals as goal

pub returns-in-None-clause-writes : goal.returns-in-None-clause-writes
returns-in-None-clause-writes g c =
    let words = map (λ (w : Word). w.text) c.args.words.now in
    let left = g.S.Source.left c.args.source.now in
    let faults = g.S.Source.faults c.args.source.now in
    let tests = c.args.tests.now in
    ends_writes (IsAnswer words left left (Rose faults faults) tests tests) _ _ _ _
    c.write_text.result tt
    (inl (record {
      no_command = c.in-None.ensures.none;
      unread = refl;
      unticked = refl;
      status_is = refl;
      text_is = c.as_bytes-usage.ensures.value;
    })) c.write_text.ensures.ends

pub returns-in-Ok-clause-writes : goal.returns-in-Ok-clause-writes
returns-in-Ok-clause-writes g c =
    let words = map (λ (w : Word). w.text) c.args.words.now in
    let old = g.S.Source.left c.args.source.now in
    let new = g.S.Source.left c.answer_to.new.source in
    let rose = Rose (g.S.Source.faults c.args.source.now)
    (g.S.Source.faults c.answer_to.new.source) in
    let before = c.args.tests.now in
    let after = c.answer_to.new.tests in
    let written = g.T.Sink.written c.args.sink.now in
    let written' = g.T.Sink.written c.write_text-in-Ok.new.sink in
    let status = c.in-Ok.answer.status in
    let result = c.write_text-in-Ok.result in
    let command = c.in-Some.command in
    ends_writes (IsAnswer words old new rose before after) _ _ _ _ result
    (answer_has_text command old new rose before after status _ c.in-Ok.ensures.answer)
    (inr (record {
      command = command;
      is_command = c.in-Some.ensures.some;
      answer = c.in-Ok.ensures.answer;
    }))
    (subst (λ (text : List ℕ). Ends status text written written' result)
    c.deref.ensures.value c.write_text-in-Ok.ensures.ends)

pub returns-in-Ok-clause-lost : goal.returns-in-Ok-clause-lost
returns-in-Ok-clause-lost g c =
    let old = g.S.Source.left c.args.source.now in
    let new = g.S.Source.left c.answer_to.new.source in
    let rose = Rose (g.S.Source.faults c.args.source.now)
    (g.S.Source.faults c.answer_to.new.source) in
    let status = c.in-Ok.answer.status in
    let has = answer_has_text c.in-Some.command old new rose c.args.tests.now
    c.answer_to.new.tests status _ c.in-Ok.ensures.answer in
    λ e. absurd (not_lost status _ _ _ c.write_text-in-Ok.result has
    c.write_text-in-Ok.ensures.ends e)

pub returns-in-Ok-clause-read_fault : goal.returns-in-Ok-clause-read_fault
returns-in-Ok-clause-read_fault g c e =
    let old = g.S.Source.left c.args.source.now in
    let new = g.S.Source.left c.answer_to.new.source in
    let rose = Rose (g.S.Source.faults c.args.source.now)
    (g.S.Source.faults c.answer_to.new.source) in
    let status = c.in-Ok.answer.status in
    fault_cause c.in-Some.command old new rose c.args.tests.now
    c.answer_to.new.tests status _ c.in-Ok.ensures.answer
    (is_read_fault status _ _ _ c.write_text-in-Ok.result c.write_text-in-Ok.ensures.ends e)

pub returns-in-None-clause-tests : goal.returns-in-None-clause-tests
returns-in-None-clause-tests g c = inr (c.in-None.ensures.none, refl)

pub returns-in-None-clause-nodes : goal.returns-in-None-clause-nodes
returns-in-None-clause-nodes g c = inr (c.in-None.ensures.none, refl)

pub returns-in-Ok-clause-tests : goal.returns-in-Ok-clause-tests
returns-in-Ok-clause-tests g c =
    let words = map (λ (w : Word). w.text) c.args.words.now in
    counted TestsOf words c.in-Some.command _ _ c.in-Some.ensures.some c.answer_to.ensures.tests

pub returns-in-Ok-clause-nodes : goal.returns-in-Ok-clause-nodes
returns-in-Ok-clause-nodes g c =
    let words = map (λ (w : Word). w.text) c.args.words.now in
    counted NodesOf words c.in-Some.command _ _ c.in-Some.ensures.some c.answer_to.ensures.nodes

pub returns-in-Ok-clause-unread : goal.returns-in-Ok-clause-unread
returns-in-Ok-clause-unread g c h =
    let words = map (λ (w : Word). w.text) c.args.words.now in
    c.answer_to.ensures.unread
    (is_reading words c.in-Some.command c.in-Some.ensures.some h)

pub returns-in-Ok-clause-usage : goal.returns-in-Ok-clause-usage
returns-in-Ok-clause-usage g c h = absurd (h (c.in-Some.command, c.in-Some.ensures.some))

pub returns-in-Err-clause-tests : goal.returns-in-Err-clause-tests
returns-in-Err-clause-tests g c =
    let words = map (λ (w : Word). w.text) c.args.words.now in
    counted TestsOf words c.in-Some.command _ _ c.in-Some.ensures.some c.answer_to.ensures.tests

pub returns-in-Err-clause-nodes : goal.returns-in-Err-clause-nodes
returns-in-Err-clause-nodes g c =
    let words = map (λ (w : Word). w.text) c.args.words.now in
    counted NodesOf words c.in-Some.command _ _ c.in-Some.ensures.some c.answer_to.ensures.nodes

pub returns-in-Err-clause-unread : goal.returns-in-Err-clause-unread
returns-in-Err-clause-unread g c h =
    let words = map (λ (w : Word). w.text) c.args.words.now in
    c.answer_to.ensures.unread
    (is_reading words c.in-Some.command c.in-Some.ensures.some h)

pub returns-in-Err-clause-usage : goal.returns-in-Err-clause-usage
returns-in-Err-clause-usage g c h = absurd (h (c.in-Some.command, c.in-Some.ensures.some))
