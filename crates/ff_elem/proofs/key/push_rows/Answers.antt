use Rattle.ff_elem.proofs.KeyLemmas.{rows-step}
use Rattle.ff_elem.proofs.key.push_rows.Goals as goal

pub loop-p-preserved : goal.loop-p-preserved
loop-p-preserved g c =
    rows-step (g.K.Ring.elements c.args.k.now) c.args.key.now.items c.loop-p.key.items
    c.push_poly.new.key.items c.args.rows.now c.loop-p.p-index c.p-item.result
    c.loop-p-test.true c.p-item.is c.in_ok-push_poly.ensures c.loop-p.invariant
