use Rattle.ff_theory.proofs.Results.{ok_map}
use Rattle.ff_top.specs.Commands.{Judges}
use Rattle.ff_top.specs.Input.{IsInputAnswer}
use Rattle.ff_top.proofs.Jobs.{job_answer, sound_for}
use Rattle.ff_top.proofs.Faults.{fault_of, fault_has_text}
use Rattle.ff_top.proofs.input.answer_of.Goals as goal

pub refuse-requires : goal.refuse-requires
refuse-requires g c n =
    let mode = c.args.mode in
    let bytes = c.args.bytes.now in
    let f = c.in-Err.fault in
    let e = c.in-Err.ensures in
    fault_has_text mode bytes f (fault_of mode bytes f n e.syntax e.text e.derived)

pub judge-requires : goal.judge-requires
judge-requires g c =
    let e = c.in-Ok.ensures in
    let d = e.derived tt in
    sound_for c.args.mode c.args.bytes.now d.0 c.in-Ok.job d.1 (e.text d.0 d.1) e.equations

pub returns-in-Ok-clause-answer : goal.returns-in-Ok-clause-answer
returns-in-Ok-clause-answer g c =
    let mode = c.args.mode in
    let bytes = c.args.bytes.now in
    let before = c.args.tests.now in
    let after = c.judge.new.tests in
    let job = c.in-Ok.job in
    let e = c.in-Ok.ensures in
    ok_map (λ a. Judges mode job before after a.status a.text.items)
    (λ a. IsInputAnswer mode (Judges mode) bytes before after a.status a.text.items)
    c.judge.result
    (λ a h. job_answer mode (Judges mode) bytes job before after a.status a.text.items
    c.if-bytes-gt-MAX_BYTES.false (e.derived tt) e.text h)
    c.judge.ensures.judged
