use Rattle.std.proofs.Common.{sym, ◌∙◌}
use Rattle.ff_list.proofs.PairKeys.{x-differs, x-agrees}
use Rattle.ff_list.proofs.entry.compare.Goals as goal

pub returns-then-is_ne : goal.returns-then-is_ne
returns-then-is_ne g c =
    let alg = c.args.alg.now in
    x-differs (g.K.Ring.elements alg.k) (g.K.Ring.lawful alg.k) alg.f alg.plane alg.has_y
    c.args.a.now c.args.b.now c.compare-order.result c.requires.a c.requires.b
    c.compare-order.ensures.order (sym c.is_ne.ensures ∙ c.if-is_ne.true)

pub returns : goal.returns
returns g c =
    let alg = c.args.alg.now in
    x-agrees (g.K.Ring.elements alg.k) (g.K.Ring.lawful alg.k) alg.f alg.plane alg.has_y
    c.args.a.now c.args.b.now c.compare-order.result c.compare.result c.requires.a c.requires.b
    c.compare-order.ensures.order (sym c.is_ne.ensures ∙ c.if-is_ne.false)
    c.compare.ensures.order
