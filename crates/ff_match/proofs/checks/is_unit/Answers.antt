use Rattle.std.proofs.Common.{◌∙◌}
use Rattle.ff_theory.specs.Span.{unit_at}
use Rattle.ff_theory.specs.Values.{polys_over}
use Rattle.ff_match.proofs.CandidateLemmas.{entries-of}
use Rattle.ff_match.proofs.checks.is_unit.Goals as goal

pub returns : goal.returns
returns g c =
    let F = g.K.Ring.elements c.args.k.now in
    λ t. entries-of F (unit_at (polys_over F) 0) c.args.c.now c.in_ok-one.one.items
    c.args.s2.now.e (c.same_rows.ensures.0 t ∙ c.deref.ensures.value) c.in_ok-one.ensures
