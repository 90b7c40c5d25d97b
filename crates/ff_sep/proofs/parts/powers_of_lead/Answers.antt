use Rattle.std.proofs.Common.{◌≡◌, ◌-◌, ◌+◌, length, get_or, ◌∙◌, ap, subst, arith}
use Rattle.ff_theory.specs.Values.{poly_of}
use Rattle.ff_theory.proofs.Results.{ok_map}
use Rattle.ff_sep.specs.Parts.{ArePowers}
use Rattle.ff_sep.proofs.SepParts.{lead-is}
use Rattle.ff_sep.proofs.parts.powers_of_lead.Goals as goal

pub returns : goal.returns
returns g c =
    let F = g.K.Ring.elements c.args.alg.now.k in
    let f = c.args.alg.now.f in
    let R = c.rows-rows.result.now in
    let a = c.index-rows-n.result in
    let count : length R - 1 + 1 ≡ length f = omega
    (arith, ap length c.rows-rows.ensures, c.args.alg.now.has_y) in
    let lead = lead-is F (g.K.Ring.lawful c.args.alg.now.k) f c.args.alg.now.plane
    c.args.alg.now.has_y a (length R - 1) (ap (λ r. length r - 1) c.rows-rows.ensures)
    (c.index-rows-n.is ∙ ap (λ r. get_or r (length R - 1) a) c.rows-rows.ensures) in
    ok_map _ _ c.powers_of.result
    (λ r h. subst (λ b. ArePowers F b (length f) r.items) lead
    (subst (λ n. ArePowers F (poly_of F a) n r.items) count h)) c.powers_of.ensures
