use Rattle.std.proofs.Common.{sym, subst}
use Rattle.ff_theory.specs.Vector.{vector_of}
use Rattle.ff_theory.proofs.Results.{ok_map}
use Rattle.ff_common.specs.Common.{AreRowsWithin, IsReversed}
use Rattle.ff_common.proofs.ReversedImages.{by_length}
use Rattle.ff_data.specs.Orders.{y_degree}
use Rattle.ff_functions.proofs.ShortImages.{short_image}
use Rattle.ff_functions.proofs.images.image.Goals as goal

pub quotient_rows-requires : goal.quotient_rows-requires
quotient_rows-requires g c =
    let F = g.K.Ring.elements c.args.alg.now.k in
    let L = g.K.Ring.lawful c.args.alg.now.k in
    let by = c.in_ok-by in
    record {
      slope = c.requires.slope;
      by = by.ensures.poly;
      nonzero = by_length F L c.args.d.now c.requires.d c.requires.nonzero by.by by.ensures.poly
          by.ensures.value;
      vector = c.requires.vector;
    }

pub reversed_vector-requires : goal.reversed_vector-requires
reversed_vector-requires g c =
    let F = g.K.Ring.elements c.args.alg.now.k in
    let L = g.K.Ring.lawful c.args.alg.now.k in
    record {
      rows = subst (AreRowsWithin F (y_degree L c.args.alg.now.f)) (sym c.deref.ensures.value)
          c.in_ok-quotients.ensures.rows;
      positive = c.requires.positive;
    }

pub returns-clause-value : goal.returns-clause-value
returns-clause-value g c =
    let F = g.K.Ring.elements c.args.alg.now.k in
    let L = g.K.Ring.lawful c.args.alg.now.k in
    let a = c.args.alg.now in
    let d = c.args.d.now in
    let by = c.in_ok-by in
    let q = c.in_ok-quotients in
    let V = vector_of F in
    ok_map _ _ c.reversed_vector.result
    (λ r h short. short_image F L a.f a.plane a.has_y d c.requires.d c.requires.nonzero c.args.l
    c.args.h c.requires.positive q.quotients.items (V c.args.v.now) (V r.items) by.by
    by.ensures.value q.ensures
    (subst (λ t. IsReversed F c.args.h t (V r.items)) c.deref.ensures.value h) short)
    c.reversed_vector.ensures.value
