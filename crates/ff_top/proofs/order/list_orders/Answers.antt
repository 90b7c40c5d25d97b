use Rattle.std.proofs.Common.{◌≡◌, List, subst, sym}
use Rattle.ff_theory.proofs.Results.{ok_map}
use Rattle.ff_elem.specs.declared.elem.Elem.{Elem}
use Rattle.ff_data.specs.declared.order.Chart.TheVariants.{Finite, Infinite}
use Rattle.ff_text.specs.Lists.{order_text}
use Rattle.ff_top.specs.Order.{IsListOf, IsOrderText}
use Rattle.ff_top.proofs.Laws.{laws_of}
use Rattle.ff_top.proofs.order.list_orders.Goals as goal

pub returns-clause-text : goal.returns-clause-text
returns-clause-text c =
    let L = laws_of c.args.alg.now.k in
    let f = c.args.alg.now.f in
    let finite = c.deref.result.now in
    let infinite = c.deref-2.result.now in
    ok_map (λ a. a.text.items ≡ order_text finite infinite) (λ a. IsOrderText L f a.text.items)
    c.write_orders.result (λ a t. record {
      finite = finite;
      infinite = infinite;
      is_finite = subst (λ (es : List Elem). IsListOf L f Finite es) (sym c.deref.ensures.value)
          c.in_ok-finite.ensures;
      is_infinite = subst (λ (es : List Elem). IsListOf L f Infinite es)
          (sym c.deref-2.ensures.value) c.in_ok-infinite.ensures;
      text_is = t;
    }) c.write_orders.ensures.text
