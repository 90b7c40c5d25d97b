use Rattle.std.proofs.Common.{◌≡◌, subst, arith, length}
use Rattle.ff_describe.specs.Levels.{AreProducts}
use Rattle.ff_describe.proofs.ElemLemmas.{products-none, products-more}
use Rattle.ff_describe.proofs.products.products.Goals as goal

pub push_products-requires : goal.push_products-requires
push_products-requires g c = record {
  b = c.requires;
  index = omega (arith, c.loop-j-test.true);
  list = c.loop-j.invariant.elems;
}

pub loop-j-init : goal.loop-j-init
loop-j-init g c =
    products-none (g.K.Ring.elements c.args.alg.now.k) (g.K.Ring.lawful c.args.alg.now.k)
    c.args.alg.now.f c.args.b.now c.new-list.result.items c.new-list.ensures.items

pub loop-j-preserved : goal.loop-j-preserved
loop-j-preserved g c =
    products-more (g.K.Ring.elements c.args.alg.now.k) (g.K.Ring.lawful c.args.alg.now.k)
    c.args.alg.now.f c.args.b.now c.loop-j.list.items c.in_ok-list.list.items c.loop-j.j
    c.loop-j.invariant c.in_ok-list.ensures

pub returns : goal.returns
returns g c =
    let whole : c.loop-j.j ≡ length c.args.b.now = omega (
      arith,
      c.loop-j-test.false,
      c.loop-j.auto.j-end,
    ) in
    subst (λ n. AreProducts (g.K.Ring.lawful c.args.alg.now.k) c.args.alg.now.f c.args.b.now n
    c.loop-j.list.items) whole c.loop-j.invariant
