use Rattle.std.proofs.Common.{IfOk, subst}
use Rattle.ff_data.specs.declared.order.Chart.{Chart}
use Rattle.ff_top.specs.Order.{IsListOf}
use Rattle.ff_top.proofs.Laws.{laws_of}
use Rattle.ff_top.proofs.order.list_of.Goals as goal

pub returns : goal.returns
returns c =
    let L = laws_of c.args.alg.now.k in
    let f = c.args.alg.now.f in
    subst (λ (chart : Chart). IfOk c.order_basis.result (λ r. IsListOf L f chart r.items))
    c.in_ok-order.ensures.chart (c.order_basis.ensures.maximal c.in_ok-order.ensures.exact)
