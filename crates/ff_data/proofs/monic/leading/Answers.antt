use Rattle.ff_data.proofs.MonicLemmas.{lead-is, lead-row}
use Rattle.ff_data.proofs.monic.leading.Goals as goal

pub returns-clause-poly : goal.returns-clause-poly
returns-clause-poly g c =
    (lead-row (g.K.Ring.elements c.args.alg.now.k) (g.K.Ring.lawful c.args.alg.now.k)
    c.args.alg.now.f c.args.alg.now.plane c.args.alg.now.has_y c.rows-rows.result.now
    c.index-rows-rows.result c.rows-rows.ensures c.index-rows-rows.is).0

pub returns-clause-nonzero : goal.returns-clause-nonzero
returns-clause-nonzero g c =
    (lead-row (g.K.Ring.elements c.args.alg.now.k) (g.K.Ring.lawful c.args.alg.now.k)
    c.args.alg.now.f c.args.alg.now.plane c.args.alg.now.has_y c.rows-rows.result.now
    c.index-rows-rows.result c.rows-rows.ensures c.index-rows-rows.is).1

pub returns-clause-value : goal.returns-clause-value
returns-clause-value g c =
    lead-is (g.K.Ring.elements c.args.alg.now.k) (g.K.Ring.lawful c.args.alg.now.k)
    c.args.alg.now.f c.args.alg.now.plane c.args.alg.now.has_y c.rows-rows.result.now
    c.index-rows-rows.result c.rows-rows.ensures c.index-rows-rows.is
