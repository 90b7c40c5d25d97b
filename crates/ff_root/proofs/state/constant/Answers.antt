use Rattle.std.proofs.Common.{◌≡◌, ◌∙◌, length, ap, sym, subst, arith}
use Rattle.ff_theory.specs.Span.{unit_at}
use Rattle.ff_theory.specs.Values.{poly_of, polys_over}
use Rattle.ff_ring.specs.Entries.{AreEntries}
use Rattle.ff_root.proofs.StateLemmas.{constant-element}
use Rattle.ff_root.proofs.state.constant.Goals as goal

pub returns-clause-value : goal.returns-clause-value
returns-clause-value g c =
    let F = g.K.Ring.elements c.args.k.now in
    let L = g.K.Ring.lawful c.args.k.now in
    let s = c.args.s.now in
    let one = c.deref.result.now in
    let r = c.in_ok-ring_scale.field-0.items in
    let e : s.e ≡ length s.weights = sym c.requires.weights in
    let long : length one ≡ length s.weights = ap length c.deref.ensures.value
    ∙ c.in_ok-one.ensures.count ∙ e in
    constant-element F L s (poly_of F c.args.p.now) one r s.e (length one) e long
    (subst (AreEntries F s.e (unit_at (polys_over F) 0)) (sym c.deref.ensures.value)
    c.in_ok-one.ensures) c.in_ok-ring_scale.ensures
