use Rattle.std.proofs.Common.{refl}
use Rattle.ff_theory.specs.Span.{unit_at}
use Rattle.ff_theory.specs.Values.{polys_over}
use Rattle.ff_ring.proofs.EntryLemmas.{entries-push}
use Rattle.ff_ring.proofs.linear.basis_vector.Goals as goal

pub loop-l-preserved : goal.loop-l-preserved
loop-l-preserved g c =
    let F = g.K.Ring.elements c.args.k.now in
    entries-push F (unit_at (polys_over F) c.args.i) c.loop-l.vector.items c.in_ok-unit.field-0
    c.push.new.self.items c.loop-l.l _ c.in_ok-push.ensures.items refl c.loop-l.invariant
    c.in_ok-unit.ensures.poly c.in_ok-unit.ensures.value
