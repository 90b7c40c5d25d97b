use Rattle.std.proofs.Common.{ℕ, ◌++◌, ◌<◌, length, get_or, sym, ◌∙◌, ap, subst, arith, ◌↔◌}
use Rattle.std.proofs.Common.{All}
use Rattle.std.proofs.lemmas.List.Elements.{All-append}
use Rattle.ff_theory.proofs.Coeffs.{coeff-map}
use Rattle.ff_elem.specs.Elem.{algebra_in, elem_of, IsElem}
use Rattle.ff_lin.specs.Space.{rows_of, IsRelation}
use Rattle.ff_data.specs.Combinations.{IsRelationOf}
use Rattle.ff_poles.specs.Spaces.{IsFirstOutside}
use Rattle.ff_poles.proofs.PickLemmas.{none_picked, one_picked}
use Rattle.ff_poles.proofs.pick.pick.Goals as goal

pub returns-clause-elem : goal.returns-clause-elem
returns-clause-elem g c =
    let F = g.K.Ring.elements c.args.alg.now.k in
    let L = g.K.Ring.lawful c.args.alg.now.k in
    let f = c.args.alg.now.f in
    let p = c.index.result.now in
    let all : All (IsElem L f) c.in_ok-list.list.items = subst (All (IsElem L f))
    (sym c.in_ok-list.ensures) (All-append (IsElem L f) c.args.lower.now c.args.upper.now
    c.requires.lower c.requires.upper) in
    subst (IsElem L f) (sym (c.in_ok-picked.ensures ∙ c.index.ensures))
    (all c.in_ok-i.i p (omega (arith, c.if-i-len.false)))

pub returns-clause-picked : goal.returns-clause-picked
returns-clause-picked g c =
    let F = g.K.Ring.elements c.args.alg.now.k in
    let L = g.K.Ring.lawful c.args.alg.now.k in
    let f = c.args.alg.now.f in
    let lower = c.args.lower.now in
    let upper = c.args.upper.now in
    let vectors = c.in_ok-len.vectors.items in
    let p = c.index.result.now in
    let list = c.in_ok-list.ensures in
    let same = c.deref.ensures.value ∙ c.in_ok-list.ensures in
    let l : c.in_ok-i.i < length (lower ++ upper) = omega (arith, c.if-i-len.false, ap length list)
    in
    one_picked F L f c.args.alg.now.plane c.args.alg.now.has_y lower upper vectors
    (subst (λ list. (a : ℕ → F.carrier) → IsRelation F (rows_of vectors) a ↔ IsRelationOf L f list
    a)
    same c.in_ok-len.ensures.exact) (c.in_ok-len.ensures.count ∙ ap length same) c.in_ok-i.i
    (subst (λ t. IsFirstOutside F (rows_of t) (length lower) c.in_ok-i.i) c.deref-2.ensures.value
    c.in_ok-i.ensures.outside) c.in_ok-picked.picked l
    (ap (elem_of L f) (c.in_ok-picked.ensures ∙ c.index.ensures
    ∙ ap (λ t. get_or t c.in_ok-i.i p) list)
    ∙ sym (coeff-map (algebra_in L f) (elem_of L f) (lower ++ upper) c.in_ok-i.i p l))

pub returns-then-i-len-clause-picked : goal.returns-then-i-len-clause-picked
returns-then-i-len-clause-picked g c =
    let F = g.K.Ring.elements c.args.alg.now.k in
    let L = g.K.Ring.lawful c.args.alg.now.k in
    let f = c.args.alg.now.f in
    let lower = c.args.lower.now in
    let upper = c.args.upper.now in
    let vectors = c.in_ok-len.vectors.items in
    let same = c.deref.ensures.value ∙ c.in_ok-list.ensures in
    none_picked F L f c.args.alg.now.plane c.args.alg.now.has_y lower upper vectors
    (subst (λ list. (a : ℕ → F.carrier) → IsRelation F (rows_of vectors) a ↔ IsRelationOf L f list
    a)
    same c.in_ok-len.ensures.exact) (c.in_ok-len.ensures.count ∙ ap length same) c.in_ok-i.i
    (subst (λ t. IsFirstOutside F (rows_of t) (length lower) c.in_ok-i.i) c.deref-2.ensures.value
    c.in_ok-i.ensures.outside) (omega (arith, c.if-i-len.true, ap length c.in_ok-list.ensures))
