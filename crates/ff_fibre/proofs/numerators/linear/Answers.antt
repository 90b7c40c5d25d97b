use Rattle.std.proofs.Common.{◌≡◌, [], ◌∷◌, ◌++◌, sym, ◌∙◌, ap, ap₂, subst, arith, All}
use Rattle.std.proofs.lemmas.List.Elements.{All-push}
use Rattle.ff_theory.specs.Ring.{IsElement}
use Rattle.ff_theory.specs.Poly.{poly}
use Rattle.ff_theory.specs.Values.{poly_of}
use Rattle.ff_theory.proofs.Results.{ok_map, ok_both}
use Rattle.ff_fibre.proofs.PowerPlanes.{root_list}
use Rattle.ff_fibre.proofs.numerators.linear.Goals as goal

pub from_coeffs-requires : goal.from_coeffs-requires
from_coeffs-requires g c =
    let F = g.K.Ring.elements c.args.k.now in
    let x = c.neg.result in
    let y = c.one.result in
    let items : c.deref.result.now ≡ x ∷ y ∷ [] = c.deref.ensures.value
    ∙ c.in_ok-push-2.ensures.items ∙ ap (λ t. t ++ y ∷ []) (c.in_ok-push.ensures.items
    ∙ ap (λ t. t ++ x ∷ []) c.in_ok-coeffs.ensures.items) in
    subst (All (IsElement F)) (sym items) (All-push (IsElement F) (x ∷ []) y
    (All-push (IsElement F) [] x (λ k d l. absurd (omega (arith, l))) c.neg.ensures.element)
    c.one.ensures.element)

pub returns-clause-len : goal.returns-clause-len
returns-clause-len g c =
    let F = g.K.Ring.elements c.args.k.now in
    let L = g.K.Ring.lawful c.args.k.now in
    let x = c.neg.result in
    let y = c.one.result in
    let items : c.deref.result.now ≡ x ∷ y ∷ [] = c.deref.ensures.value
    ∙ c.in_ok-push-2.ensures.items ∙ ap (λ t. t ++ y ∷ []) (c.in_ok-push.ensures.items
    ∙ ap (λ t. t ++ x ∷ []) c.in_ok-coeffs.ensures.items) in
    ok_both _ _ _ c.from_coeffs.result (λ r p h. root_list F L r (F.value c.args.a) p
    (h ∙ ap (poly_of F) items ∙ ap₂ (λ x y. poly F.ring (x ∷ y ∷ [])) c.neg.ensures.value
    c.one.ensures.value)) c.from_coeffs.ensures.poly c.from_coeffs.ensures.value

pub returns-clause-value : goal.returns-clause-value
returns-clause-value g c =
    let F = g.K.Ring.elements c.args.k.now in
    let x = c.neg.result in
    let y = c.one.result in
    let items : c.deref.result.now ≡ x ∷ y ∷ [] = c.deref.ensures.value
    ∙ c.in_ok-push-2.ensures.items ∙ ap (λ t. t ++ y ∷ []) (c.in_ok-push.ensures.items
    ∙ ap (λ t. t ++ x ∷ []) c.in_ok-coeffs.ensures.items) in
    ok_map _ _ c.from_coeffs.result (λ r h. h ∙ ap (poly_of F) items
    ∙ ap₂ (λ x y. poly F.ring (x ∷ y ∷ [])) c.neg.ensures.value c.one.ensures.value)
    c.from_coeffs.ensures.value
