use Rattle.std.proofs.Common.{ℕ, ◌∙◌, ◌↔◌, List, length, ap, subst}
use Rattle.std.specs.Global.{Vec}
use Rattle.ff_theory.proofs.Results.{ok_map}
use Rattle.ff_lin.specs.Space.{rows_of, IsSpaceOf, HasExactly, IsRelation}
use Rattle.ff_elem.specs.declared.elem.Elem.{Elem}
use Rattle.ff_data.specs.Combinations.{combination_in, elems_of, IsRelationOf}
use Rattle.ff_const.specs.Fixed.{IsFixed}
use Rattle.ff_const.proofs.FixedLemmas.{fixed-space}
use Rattle.ff_const.proofs.fixed.fixed_space.Goals as goal

pub returns-clause-space : goal.returns-clause-space
returns-clause-space g c =
    let K = g.K.Ring.elements c.args.alg.now.k in
    let count = ap length c.deref-2.ensures.value ∙ c.in_ok-len.ensures.count
    ∙ ap length c.deref.ensures.value ∙ c.in_ok-differences.ensures.count in
    ok_map (IsSpaceOf K (length c.deref-2.result.now)) (IsSpaceOf K (length c.args.list.now))
    c.relations.result (λ s h. subst (λ n. IsSpaceOf K n s) count h) c.relations.ensures.space

pub returns-clause-exact : goal.returns-clause-exact
returns-clause-exact g c =
    let K = g.K.Ring.elements c.args.alg.now.k in
    let L = g.K.Ring.lawful c.args.alg.now.k in
    let f = c.args.alg.now.f in
    let ws = c.args.list.now in
    let vs = c.in_ok-differences.differences.items in
    let rows = rows_of c.in_ok-len.vectors.items in
    let same : (d : ℕ → K.carrier) → IsRelation K rows d ↔ IsRelationOf L f vs d = subst (λ
    (us : List Elem). (d : ℕ → K.carrier) → IsRelation K rows d ↔ IsRelationOf L f us d)
    c.deref.ensures.value c.in_ok-len.ensures.exact in
    ok_map (λ s. HasExactly K s (IsRelation K (rows_of c.deref-2.result.now)))
    (λ s. HasExactly K s (λ d. IsFixed L f (combination_in L f (length ws) d (elems_of L f ws))))
    c.relations.result (λ s h. fixed-space K L f ws vs c.in_ok-differences.ensures rows same s
    (subst (λ (us : List (Vec ℕ)). HasExactly K s (IsRelation K (rows_of us)))
    c.deref-2.ensures.value h)) c.relations.ensures.exact
