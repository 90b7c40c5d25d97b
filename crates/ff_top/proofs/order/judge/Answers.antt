use Rattle.ff_theory.proofs.Results.{ok_map}
use Rattle.ff_top.specs.Order.{IsAnswered, IsOrderAnswer}
use Rattle.ff_top.proofs.Laws.{laws_of}
use Rattle.ff_top.proofs.Orders.{answered}
use Rattle.ff_top.proofs.order.judge.Goals as goal

pub returns : goal.returns
returns c =
    let job = c.args.job.now in
    let alg = c.in_ok-alg.alg in
    ok_map (λ a. IsOrderAnswer (laws_of alg.k) alg.f a.status a.text.items)
    (λ a. IsAnswered job a.status a.text.items) c.answer_in.result
    (λ a h. answered job alg.k alg.f a.status a.text.items c.in_ok-alg.ensures.field
    c.in_ok-alg.ensures.equation h) c.answer_in.ensures
