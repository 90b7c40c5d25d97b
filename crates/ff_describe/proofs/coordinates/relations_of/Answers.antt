use Rattle.std.proofs.Common.{ℕ, ◌↔◌, sym, subst}
use Rattle.ff_theory.proofs.Results.{ok_map}
use Rattle.ff_lin.specs.Space.{SpaceParts, rows_of, HasExactly, IsRelation}
use Rattle.ff_data.specs.Combinations.{IsRelationOf}
use Rattle.ff_describe.proofs.coordinates.relations_of.Goals as goal

pub returns-clause-exact : goal.returns-clause-exact
returns-clause-exact g c =
    let F = g.K.Ring.elements c.args.alg.now.k in
    let L = g.K.Ring.lawful c.args.alg.now.k in
    let list = c.args.list.now in
    let rows = rows_of c.deref.result.now in
    let exact = subst (λ rs. (v : ℕ → F.carrier) → IsRelation F (rows_of rs) v
    ↔ IsRelationOf L c.args.alg.now.f list v) (sym c.deref.ensures.value)
    c.in_ok-len.ensures.exact in
    ok_map (λ (s : SpaceParts). HasExactly F s (IsRelation F rows))
    (λ (s : SpaceParts). HasExactly F s (IsRelationOf L c.args.alg.now.f list))
    c.relations.result
    (λ s h v. (
      λ i. let t = (h v).0 i in (t.0, (exact v).0 t.1),
      λ t. (h v).1 (t.0, (exact v).1 t.1),
    ))
    c.relations.ensures.exact
