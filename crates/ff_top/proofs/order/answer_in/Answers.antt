use Rattle.std.proofs.Common.{◌≡◌, inl, inr, refl, subst}
use Rattle.ff_theory.proofs.Results.{ok_both}
use Rattle.ff_data.specs.declared.order.Refusal.TheVariants as refusal
use Rattle.ff_sep.specs.declared.separability.SepFault.{SepFault}
use Rattle.ff_sep.specs.Faults.{IsCause}
use Rattle.ff_text.specs.Refusals.{refusal_text}
use Rattle.ff_top.specs.declared.status.Status.TheVariants.{Done, Premise}
use Rattle.ff_top.specs.Order.{IsOrderAnswer, IsOrderText}
use Rattle.ff_top.proofs.Laws.{laws_of}
use Rattle.ff_top.proofs.order.answer_in.Goals as goal

pub returns-in-Ok : goal.returns-in-Ok
returns-in-Ok c =
    let L = laws_of c.args.alg.now.k in
    let f = c.args.alg.now.f in
    ok_both (λ a. a.status ≡ Done) (λ a. IsOrderText L f a.text.items)
    (λ a. IsOrderAnswer L f a.status a.text.items) c.list_orders.result
    (λ a s t. inl (record {
      separable = c.in-Ok.ensures.separable;
      status_is = s;
      orders = t;
    })) c.list_orders.ensures.status c.list_orders.ensures.text

pub returns-in-Err-Inseparable : goal.returns-in-Err-Inseparable
returns-in-Err-Inseparable c =
    let L = laws_of c.args.alg.now.k in
    let f = c.args.alg.now.f in
    let found = refusal.Inseparable 1 in
    let e = c.in-Err-Inseparable in
    ok_both (λ a. a.status ≡ Premise) (λ a. a.text.items ≡ refusal_text found)
    (λ a. IsOrderAnswer L f a.status a.text.items) c.refuse.result
    (λ a s t. inr (record {
      found = found;
      is_refusal = (refl, subst (λ (x : SepFault). IsCause L f x) e.field-0-is e.ensures.cause);
      status_is = s;
      text_is = t;
    })) c.refuse.ensures.status c.refuse.ensures.text

pub returns-in-Err-Square : goal.returns-in-Err-Square
returns-in-Err-Square c =
    let L = laws_of c.args.alg.now.k in
    let f = c.args.alg.now.f in
    let e = c.in-Err-Square in
    let found = refusal.Reducible 1 e.g e.h in
    ok_both (λ a. a.status ≡ Premise) (λ a. a.text.items ≡ refusal_text found)
    (λ a. IsOrderAnswer L f a.status a.text.items) c.refuse-in-Err-Square.result
    (λ a s t. inr (record {
      found = found;
      is_refusal = (refl, subst (λ (x : SepFault). IsCause L f x) e.field-0-is e.ensures.cause);
      status_is = s;
      text_is = t;
    })) c.refuse-in-Err-Square.ensures.status c.refuse-in-Err-Square.ensures.text
