use Rattle.std.proofs.Common.{refl}
use Rattle.ff_theory.specs.Values.{polys_over}
use Rattle.ff_ring.proofs.EntryLemmas.{entries-push, no-poly, no-poly-is}
use Rattle.ff_ring.proofs.linear.zero_coords.Goals as goal

pub loop-l-preserved : goal.loop-l-preserved
loop-l-preserved g c =
    let F = g.K.Ring.elements c.args.k.now in
    entries-push F (λ j. (polys_over F).zero) c.loop-l.zeros.items c.zero.result
    c.push.new.self.items c.loop-l._l _ c.in_ok-push.ensures.items refl c.loop-l.invariant
    (no-poly F c.zero.result c.zero.ensures) (no-poly-is F c.zero.result c.zero.ensures)
