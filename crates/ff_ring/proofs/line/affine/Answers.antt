use Rattle.std.proofs.Common.{◌≡◌, List, ℕ, ◌∙◌, ap, ap₂}
use Rattle.ff_theory.specs.Values.{poly_of}
use Rattle.ff_theory.proofs.Results.{ok_map}
use Rattle.ff_ring.specs.Affine.{affine_at, value_of_list}
use Rattle.ff_ring.proofs.LineLemmas.{value-whole}
use Rattle.ff_ring.proofs.line.affine.Goals as goal

pub returns-clause-value : goal.returns-clause-value
returns-clause-value g c =
    let F = g.K.Ring.elements c.args.k.now in
    let L = g.K.Ring.lawful c.args.k.now in
    let p = c.args.p.now in
    ok_map (λ (r : List ℕ). poly_of F r
    ≡ value_of_list F (poly_of F c.in_ok-line.line) c.coeffs.result.now)
    (λ (r : List ℕ). poly_of F r ≡ affine_at F c.args.alpha c.args.beta (poly_of F p))
    c.value_at_line.result
    (λ r h. h ∙ ap₂ (value_of_list F) c.in_ok-line.ensures.value c.coeffs.ensures
    ∙ value-whole F L c.args.alpha c.args.beta p c.requires.p) c.value_at_line.ensures.value
