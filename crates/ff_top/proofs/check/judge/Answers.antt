use Rattle.ff_theory.proofs.Results.{ok_map}
use Rattle.std.proofs.Common.{◌≡◌, subst}
use Rattle.ff_top.specs.Check.{IsVerdict, TestsPairs, verdict_text}
use Rattle.ff_top.proofs.Laws.{laws_of}
use Rattle.ff_top.proofs.Verdicts.{verdict}
use Rattle.ff_top.proofs.check.judge.Goals as goal

pub returns-clause-verdict : goal.returns-clause-verdict
returns-clause-verdict g c =
    let job = c.args.job.now in
    let first = c.in_ok-first in
    let second = c.in_ok-second in
    let b = c.in_ok-inverse.inverse in
    let k = second.second.k in
    let f = first.first.f in
    let g = second.second.f in
    let tests = subst (λ es. TestsPairs (laws_of k) f g es b)
    c.deref.ensures.value c.in_ok-inverse.ensures.answer in
    ok_map (λ a. a.text.items ≡ verdict_text b) (λ a. IsVerdict job a.text.items)
    c.write_verdict.result
    (λ a t. verdict job k f g b a.text.items second.ensures.field first.ensures.equation
    second.ensures.equation tests t)
    c.write_verdict.ensures.text
