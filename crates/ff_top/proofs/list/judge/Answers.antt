use Rattle.std.proofs.Common.{◌≡◌, inl, inr}
use Rattle.ff_theory.proofs.Results.{ok_both}
use Rattle.ff_text.specs.Lists.{list_text}
use Rattle.ff_text.specs.Refusals.{HasLine, refusal_text}
use Rattle.ff_top.specs.declared.status.Status.TheVariants.{Done}
use Rattle.ff_top.specs.Lists.{IsListed}
use Rattle.ff_top.specs.Refusals.{status_of_refusal}
use Rattle.ff_top.proofs.Faults.{if_ok3}
use Rattle.ff_top.proofs.Laws.{laws_of}
use Rattle.ff_top.proofs.Lists.{has_line, listed}
use Rattle.ff_top.proofs.list.judge.Goals as goal

pub refuse-requires : goal.refuse-requires
refuse-requires g c n =
    let job = c.args.job.now in
    has_line (laws_of job.prime) job.first job.second c.in-Err.refusal c.in-Err.ensures.refused n

pub returns-in-Ok-clause-listed : goal.returns-in-Ok-clause-listed
returns-in-Ok-clause-listed g c =
    let job = c.args.job.now in
    let print = list_text c.args.mode in
    let list = c.in-Ok.list in
    ok_both (λ a. a.status ≡ Done) (λ a. a.text.items ≡ print list)
    (λ a. IsListed job.prime job.first job.second print a.status a.text.items)
    c.write_list.result
    (λ a s t. listed job.prime job.first job.second print a.status a.text.items (inl (record {
      admitted = c.in-Ok.ensures.admitted;
      list = list;
      is_list = c.in-Ok.ensures.list;
      status_is = s;
      text_is = t;
    }))) c.write_list.ensures.status c.write_list.ensures.text

pub returns-in-Err-clause-listed : goal.returns-in-Err-clause-listed
returns-in-Err-clause-listed g c =
    let job = c.args.job.now in
    let print = list_text c.args.mode in
    let found = c.in-Err.refusal in
    if_ok3 c.refuse.result (λ _. HasLine found) (λ a. a.status ≡ status_of_refusal found)
    (λ a. a.text.items ≡ refusal_text found)
    (λ a. IsListed job.prime job.first job.second print a.status a.text.items)
    (λ a l s t. listed job.prime job.first job.second print a.status a.text.items (inr (record {
      found = found;
      is_refused = c.in-Err.ensures.refused;
      has_line = l;
      status_is = s;
      text_is = t;
    }))) c.refuse.ensures.line c.refuse.ensures.status c.refuse.ensures.text
