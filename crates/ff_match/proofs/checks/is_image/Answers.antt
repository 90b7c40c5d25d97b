use Rattle.std.proofs.Common.{length, ◌∙◌}
use Rattle.ff_ring.specs.Affine.{sum_at_line}
use Rattle.ff_match.proofs.CandidateLemmas.{entries-of}
use Rattle.ff_match.proofs.checks.is_image.Goals as goal

pub returns : goal.returns
returns g c =
    let F = g.K.Ring.elements c.args.k.now in
    let a = c.args.c.now in
    λ t. entries-of F
    (sum_at_line F c.args.alpha c.args.beta a c.args.images.now (length a)) c.args.want.now
    c.in_ok-sum.sum.items c.args.s2.now.e (c.same_rows.ensures.0 t ∙ c.deref.ensures.value)
    c.in_ok-sum.ensures
