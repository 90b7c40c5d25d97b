use Rattle.std.proofs.Common.{◌≡◌, ◌+◌, IfOk, refl, subst, sym}
use Rattle.ff_theory.proofs.Results.{ok_map}
use Rattle.ff_text.specs.declared.layout.Mode.{Mode}
use Rattle.ff_text.specs.declared.layout.Mode.TheVariants as mode
use Rattle.ff_text.specs.Lists.{list_text}
use Rattle.ff_top.specs.declared.status.Status.TheVariants.{Done}
use Rattle.ff_top.specs.Check.{IsChecked, IsVerdict}
use Rattle.ff_top.specs.Lists.{IsJobListed, IsListed}
use Rattle.ff_top.specs.Order.{IsAnswered, IsOrdered}
use Rattle.ff_top.specs.Commands.{Judges}
use Rattle.ff_top.proofs.Faults.{if_ok3}
use Rattle.ff_top.proofs.command.judge.Goals as goal

pub returns-in-Iso-clause-judged : goal.returns-in-Iso-clause-judged
returns-in-Iso-clause-judged g c =
    let job = c.args.job.now in
    let before = c.args.tests.now in
    let after = c.judge.new.tests in
    let result = c.judge.result in
    subst (λ (m : Mode). IfOk result (λ a. Judges m job before after a.status a.text.items))
    (sym c.in-Iso.is)
    (ok_map (λ a. IsListed job.prime job.first job.second (list_text mode.Iso)
    a.status a.text.items)
    (λ a. IsJobListed mode.Iso job before after a.status a.text.items) result
    (λ a h. record { later = c.judge.ensures.tests; listed = h }) c.judge.ensures.listed)

pub returns-in-Aut-clause-judged : goal.returns-in-Aut-clause-judged
returns-in-Aut-clause-judged g c =
    let job = c.args.job.now in
    let before = c.args.tests.now in
    let after = c.judge-in-Aut.new.tests in
    let result = c.judge-in-Aut.result in
    subst (λ (m : Mode). IfOk result (λ a. Judges m job before after a.status a.text.items))
    (sym c.in-Aut.is)
    (ok_map (λ a. IsListed job.prime job.first job.second (list_text mode.Aut)
    a.status a.text.items)
    (λ a. IsJobListed mode.Aut job before after a.status a.text.items) result
    (λ a h. record { later = c.judge-in-Aut.ensures.tests; listed = h })
    c.judge-in-Aut.ensures.listed)

pub returns-in-Check-clause-judged : goal.returns-in-Check-clause-judged
returns-in-Check-clause-judged g c =
    let job = c.args.job.now in
    let before = c.args.tests.now in
    let after = c.judge-in-Check.new.tests in
    let result = c.judge-in-Check.result in
    subst (λ (m : Mode). IfOk result (λ a. Judges m job before after a.status a.text.items))
    (sym c.in-Check.is)
    (if_ok3 result (λ a. a.status ≡ Done) (λ a. IsVerdict job a.text.items)
    (λ _. after ≡ before + 1) (λ a. IsChecked job before after a.status a.text.items)
    (λ a s v t. record { ticked = t; status_is = s; verdict = v })
    c.judge-in-Check.ensures.status c.judge-in-Check.ensures.verdict
    c.judge-in-Check.ensures.ticked)

pub returns-in-Order-clause-judged : goal.returns-in-Order-clause-judged
returns-in-Order-clause-judged g c =
    let job = c.args.job.now in
    let tests = c.args.tests.now in
    let result = c.judge-in-Order.result in
    subst (λ (m : Mode). IfOk result (λ a. Judges m job tests tests a.status a.text.items))
    (sym c.in-Order.is)
    (ok_map (λ a. IsAnswered job a.status a.text.items)
    (λ a. IsOrdered job tests tests a.status a.text.items) result
    (λ a h. record { unticked = refl; answered = h }) c.judge-in-Order.ensures)
