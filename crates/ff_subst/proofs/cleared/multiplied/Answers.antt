use Rattle.std.proofs.Common.{ap, length, subst, sym, ◌∙◌}
use Rattle.ff_subst.specs.Congruence.{ArePlanes}
use Rattle.ff_subst.specs.Cleared.{AreMultiplesBy}
use Rattle.ff_subst.proofs.ClearedLemmas.{multiple-one}
use Rattle.ff_subst.proofs.cleared.multiplied.Goals as goal

pub products-requires : goal.products-requires
products-requires g c =
    let K = g.K.Ring.elements c.args.k.now in
    record {
      c = c.requires.c;
      planes = subst (ArePlanes K) (sym c.list.ensures) c.requires.planes;
    }

pub returns-then-is_one-clause-value : goal.returns-then-is_one-clause-value
returns-then-is_one-clause-value g c =
    let K = g.K.Ring.elements c.args.k.now in
    let L = g.K.Ring.lawful c.args.k.now in
    λ j l. multiple-one K L c.args.c.now _ (c.is_one.ensures.0 c.if-is_one.true)

pub returns-clause-count : goal.returns-clause-count
returns-clause-count g c = c.in_ok-items.ensures.count ∙ ap length c.list.ensures

pub returns-clause-value : goal.returns-clause-value
returns-clause-value g c =
    let K = g.K.Ring.elements c.args.k.now in
    subst (λ planes. AreMultiplesBy K c.args.c.now planes c.in_ok-items.items.items) c.list.ensures
    c.in_ok-items.ensures.value
