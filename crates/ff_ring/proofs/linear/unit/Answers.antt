use Rattle.std.proofs.Common.{◌≡◌, ℕ, List, ◌∙◌, sym, ap, arith}
use Rattle.ff_theory.specs.Span.{unit_at}
use Rattle.ff_theory.specs.Values.{poly_of, polys_over}
use Rattle.ff_theory.proofs.Results.{ok_map}
use Rattle.ff_theory.proofs.Span.{unit-same, unit-other}
use Rattle.ff_ring.proofs.EntryLemmas.{no-poly-is}
use Rattle.ff_ring.proofs.linear.unit.Goals as goal

pub returns-then-l-i-clause-value : goal.returns-then-l-i-clause-value
returns-then-l-i-clause-value g c =
    let F = g.K.Ring.elements c.args.k.now in
    let P = polys_over F in
    let same : c.args.i ≡ c.args.l = omega (arith, c.if-l-i.true) in
    ok_map (λ (r : List ℕ). poly_of F r ≡ P.one)
    (λ (r : List ℕ). poly_of F r ≡ unit_at P c.args.i c.args.l) c.one.result
    (λ r h. h ∙ sym (unit-same P c.args.i) ∙ ap (unit_at P c.args.i) same) c.one.ensures.value

pub returns-clause-value : goal.returns-clause-value
returns-clause-value g c =
    let F = g.K.Ring.elements c.args.k.now in
    no-poly-is F c.zero.result c.zero.ensures
    ∙ sym (unit-other (polys_over F) c.args.i c.args.l (λ e. omega (arith, c.if-l-i.false, e)))
