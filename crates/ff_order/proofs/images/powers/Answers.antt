use Rattle.std.proofs.Common.{sym, subst, ◌∙◌}
use Rattle.ff_lin.specs.Space.{rows_of}
use Rattle.ff_order.specs.Steps.{ArePowers}
use Rattle.ff_order.proofs.images.powers.Goals as goal

pub returns : goal.returns
returns g c =
    let L = g.K.Ring.lawful c.args.alg.now.k in
    let f = c.args.alg.now.f in
    let d = c.args.rows.now.d in
    let list = c.in_ok-images.images.items in
    record {
      below = c.in_ok-below.ensures.below;
      below_is = c.in_ok-below.ensures.below_is;
      top = c.in_ok-below.ensures.top;
      top_is = c.in_ok-below.ensures.top_is;
      count = c.in_ok-images.ensures.len ∙ c.requires.count;
      vectors = c.in_ok-images.ensures.vectors;
      images = subst (ArePowers L f c.args.chart d c.in_ok-below.top (rows_of list))
          (sym c.in_ok-images.ensures.len) c.in_ok-images.ensures.value;
    }
