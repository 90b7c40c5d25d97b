use Rattle.std.proofs.Common.{◌≡◌, sym, ◌∙◌}
use Rattle.ff_theory.proofs.Results.{ok_map}
use Rattle.ff_data.specs.declared.order.Chart.TheVariants.{Finite, Infinite}
use Rattle.ff_rr.proofs.FunctionLemmas.{other_of_finite, other_of_infinite, pole-lattice}
use Rattle.ff_rr.proofs.FunctionLemmas.{order-lattice, functions-finite, functions-infinite}
use Rattle.ff_rr.proofs.functions.common_basis.Goals as goal

pub common-requires : goal.common-requires
common-requires g c =
    let F = g.K.Ring.elements c.args.alg.now.k in
    let L = g.K.Ring.lawful c.args.alg.now.k in
    let f = c.args.alg.now.f in
    let m = c.args.pole.now in
    let o = c.args.other.now in
    record {
      finite = pole-lattice F L f m o Finite c.in-Finite.is c.requires.pole;
      infinite = order-lattice F L f m o Infinite (other_of_finite o.chart
          (λ e. c.requires.charts (e ∙ sym c.in-Finite.is))) c.requires.other;
    }

pub common-requires-in-Infinite : goal.common-requires-in-Infinite
common-requires-in-Infinite g c =
    let F = g.K.Ring.elements c.args.alg.now.k in
    let L = g.K.Ring.lawful c.args.alg.now.k in
    let f = c.args.alg.now.f in
    let m = c.args.pole.now in
    let o = c.args.other.now in
    record {
      finite = order-lattice F L f m o Finite (other_of_infinite o.chart
          (λ e. c.requires.charts (e ∙ sym c.in-Infinite.is))) c.requires.other;
      infinite = pole-lattice F L f m o Infinite c.in-Infinite.is c.requires.pole;
    }

pub returns-in-Finite : goal.returns-in-Finite
returns-in-Finite g c =
    let F = g.K.Ring.elements c.args.alg.now.k in
    let L = g.K.Ring.lawful c.args.alg.now.k in
    let f = c.args.alg.now.f in
    let m = c.args.pole.now in
    let o = c.args.other.now in
    ok_map _ _ c.common.result
    (λ r h. functions-finite F L f m o c.in-Finite.is (other_of_finite o.chart
    (λ e. c.requires.charts (e ∙ sym c.in-Finite.is))) r.items h) c.common.ensures

pub returns-in-Infinite : goal.returns-in-Infinite
returns-in-Infinite g c =
    let F = g.K.Ring.elements c.args.alg.now.k in
    let L = g.K.Ring.lawful c.args.alg.now.k in
    let f = c.args.alg.now.f in
    let m = c.args.pole.now in
    let o = c.args.other.now in
    ok_map _ _ c.common-in-Infinite.result
    (λ r h. functions-infinite F L f m o c.in-Infinite.is (other_of_infinite o.chart
    (λ e. c.requires.charts (e ∙ sym c.in-Infinite.is))) r.items h) c.common-in-Infinite.ensures
