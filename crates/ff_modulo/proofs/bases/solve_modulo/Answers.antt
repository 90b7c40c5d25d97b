use Rattle.std.proofs.Common.{◌≡◌, ℕ, ◌-◌, suc, ◌∷◌, length, sym, ◌∙◌, ap, subst, arith, All}
use Rattle.std.proofs.lemmas.List.{length-map}
use Rattle.std.specs.Global.{Vec}
use Rattle.ff_theory.specs.Vector.{vector_of, IsVector, combination_of}
use Rattle.ff_theory.proofs.Results.{ok_map}
use Rattle.ff_lin.specs.Space.{rows_of, AreVectors, IsSpaceOf, InSpace, HasExactly}
use Rattle.ff_lin.proofs.InsertRow.{all-map, all-unmap}
use Rattle.ff_modulo.proofs.ModuloLemmas.{all-cons, some-map, none-map, relation-solves}
use Rattle.ff_modulo.proofs.ModuloLemmas.{no-relation}
use Rattle.ff_modulo.proofs.bases.solve_modulo.Goals as goal

pub preimage-requires-clause-images : goal.preimage-requires-clause-images
preimage-requires-clause-images g c =
    let F = g.K.Ring.elements c.args.k.now in
    let n = c.args.space.now.len in
    let items = λ (r : Vec ℕ). r.items in
    subst (AreVectors F n) (sym c.deref.ensures.value) (all-unmap (IsVector F n) items
    c.in_ok-images.images.items (subst (All (IsVector F n)) (sym c.in_ok-images.ensures.value)
    (all-cons (IsVector F n) c.args.v.items (rows_of c.args.rows.now) c.requires.v
    (all-map (IsVector F n) items c.args.rows.now c.requires.rows))))

pub returns-clause-some : goal.returns-clause-some
returns-clause-some g c =
    let F = g.K.Ring.elements c.args.k.now in
    let rows = rows_of c.args.rows.now in
    let items = λ (r : Vec ℕ). r.items in
    let s = c.args.space.now in
    let R = c.in_ok-relations.relations in
    let same : rows_of c.deref.result.now ≡ c.args.v.items ∷ rows = ap rows_of
    c.deref.ensures.value ∙ c.in_ok-images.ensures.value in
    let long : length c.deref.result.now ≡ suc (length rows) =
    sym (length-map c.deref.result.now items) ∙ ap length same in
    let space : IsSpaceOf F (suc (length rows)) R =
    subst (λ n. IsSpaceOf F n R) long c.in_ok-relations.ensures.space in
    let exact = subst (λ t. HasExactly F R (λ c. InSpace F s (combination_of F t c))) same
    c.in_ok-relations.ensures.exact in
    ok_map _ _ c.first_tail.result (λ o h. some-map o _ _ (λ r k.
    relation-solves (g.K.Ring.lawful c.args.k.now) s rows c.args.v.items R space exact k.whole
    k.inside
    k.first (vector_of F (items r)) (λ i l. k.rest i (omega (arith, l, space.len)))) h)
    c.first_tail.ensures.some

pub returns-clause-none : goal.returns-clause-none
returns-clause-none g c =
    let F = g.K.Ring.elements c.args.k.now in
    let rows = rows_of c.args.rows.now in
    let items = λ (r : Vec ℕ). r.items in
    let s = c.args.space.now in
    let R = c.in_ok-relations.relations in
    let same : rows_of c.deref.result.now ≡ c.args.v.items ∷ rows = ap rows_of
    c.deref.ensures.value ∙ c.in_ok-images.ensures.value in
    let long : length c.deref.result.now ≡ suc (length rows) =
    sym (length-map c.deref.result.now items) ∙ ap length same in
    let space : IsSpaceOf F (suc (length rows)) R =
    subst (λ n. IsSpaceOf F n R) long c.in_ok-relations.ensures.space in
    let exact = subst (λ t. HasExactly F R (λ c. InSpace F s (combination_of F t c))) same
    c.in_ok-relations.ensures.exact in
    ok_map _ _ c.first_tail.result (λ o h. none-map o _ _ (λ k.
    no-relation (g.K.Ring.lawful c.args.k.now) s rows c.args.v.items R space exact k) h)
    c.first_tail.ensures.none
