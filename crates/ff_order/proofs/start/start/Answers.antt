use Rattle.std.proofs.Common.{map, ◌∙◌, subst}
use Rattle.std.proofs.lemmas.List.{length-map}
use Rattle.ff_theory.proofs.Results.{ok_map}
use Rattle.ff_lin.specs.Space.{SameSpace}
use Rattle.ff_order.proofs.FirstSpace.{first_space}
use Rattle.ff_order.proofs.start.start.Goals as goal

pub returns-clause-exact : goal.returns-clause-exact
returns-clause-exact g c =
    ok_map _ _ c.span.result
    (λ s h. first_space (g.K.Ring.elements c.args.alg.now.k) (g.K.Ring.lawful c.args.alg.now.k)
    c.args.alg.now.f c.args.alg.now.plane c.args.alg.now.has_y c.args.chart c.args.rows.now
    c.requires.rows s (map (λ v. v.items) c.in_ok-list.list.items) c.args.count
    (length-map c.in_ok-list.list.items (λ v. v.items) ∙ c.in_ok-list.ensures.len)
    c.requires.count c.in_ok-list.ensures.value
    (subst (λ t. SameSpace (g.K.Ring.elements c.args.alg.now.k) s.basis (map (λ v. v.items) t))
    c.deref.ensures.value h)) c.span.ensures.same
