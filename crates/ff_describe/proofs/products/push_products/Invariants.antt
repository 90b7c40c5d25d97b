use Rattle.ff_describe.specs.Levels.{product_of, Extends}
use Rattle.ff_describe.proofs.products.push_products.Given as goal

abbrev pub invariant-loop-i : goal.invariant-loop-i
invariant-loop-i g l =
    let L = g.K.Ring.lawful l.alg.k in
    Extends L l.alg.f l.fn.list.items l.i (λ i. product_of L l.alg.f l.b i l.j) l.longer.items
