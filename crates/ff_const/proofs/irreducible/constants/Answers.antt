use Rattle.ff_theory.proofs.Results.{ok_map}
use Rattle.ff_data.specs.declared.order.Chart.TheVariants.{Finite, Infinite}
use Rattle.ff_data.specs.Lattices.{IsCommon, InBoth}
use Rattle.ff_data.specs.Combinations.{IsBasisOf}
use Rattle.ff_const.proofs.CommonLemmas.{order-lattice, common-basis}
use Rattle.ff_const.proofs.irreducible.constants.Goals as goal

pub common-requires : goal.common-requires
common-requires g c =
    let K = g.K.Ring.elements c.args.alg.now.k in
    let L = g.K.Ring.lawful c.args.alg.now.k in
    let f = c.args.alg.now.f in
    record {
      finite = order-lattice K L f c.args.finite.now Finite c.requires.first
          c.requires.finite.order;
      infinite = order-lattice K L f c.args.infinite.now Infinite c.requires.second
          c.requires.infinite.order;
    }

pub returns : goal.returns
returns g c =
    let K = g.K.Ring.elements c.args.alg.now.k in
    let L = g.K.Ring.lawful c.args.alg.now.k in
    let f = c.args.alg.now.f in
    let a = c.args.finite.now in
    let b = c.args.infinite.now in
    ok_map (λ r. IsBasisOf L f (InBoth L f a.d a.space b.d b.space) r.items)
    (λ r. IsBasisOf L f (IsCommon L f a b) r.items) c.common.result
    (λ r h. common-basis K L f a b c.requires.first c.requires.second r.items h) c.common.ensures
