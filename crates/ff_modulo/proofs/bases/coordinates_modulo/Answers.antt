use Rattle.std.proofs.Common.{◌≡◌, ℕ, ◌<◌, suc, [], ◌∷◌, length, get_or, sym, ◌∙◌, ap, subst}
use Rattle.std.proofs.Common.{arith, All}
use Rattle.std.proofs.lemmas.List.{length-map}
use Rattle.std.specs.Global.{Vec}
use Rattle.ff_theory.specs.Vector.{vector_of, IsVector, combination_of}
use Rattle.ff_theory.proofs.Results.{ok_map, ok_both}
use Rattle.ff_lin.specs.Space.{rows_of, AreVectors, IsSpaceOf, InSpace, HasExactly}
use Rattle.ff_lin.proofs.InsertRow.{all-map, all-unmap}
use Rattle.ff_modulo.proofs.ModuloLemmas.{all-cons, first-row, some-relation, relation-coordinates}
use Rattle.ff_modulo.proofs.bases.coordinates_modulo.Goals as goal

pub preimage-requires-clause-images : goal.preimage-requires-clause-images
preimage-requires-clause-images g c =
    let F = g.K.Ring.elements c.args.k.now in
    let n = c.args.space.now.len in
    let items = λ (r : Vec ℕ). r.items in
    subst (AreVectors F n) (sym c.deref.ensures.value) (all-unmap (IsVector F n) items
    c.in_ok-images.images.items (subst (All (IsVector F n)) (sym c.in_ok-images.ensures.value)
    (all-cons (IsVector F n) c.args.v.items (rows_of c.args.rows.now) c.requires.v
    (all-map (IsVector F n) items c.args.rows.now c.requires.rows))))

pub bounds-basis-0 : goal.bounds-basis-0
bounds-basis-0 g c =
    let F = g.K.Ring.elements c.args.k.now in
    let rows = rows_of c.args.rows.now in
    let items = λ (r : Vec ℕ). r.items in
    let s = c.args.space.now in
    let R = c.in_ok-relations.relations in
    let same : rows_of c.deref.result.now ≡ c.args.v.items ∷ rows = ap rows_of
    c.deref.ensures.value ∙ c.in_ok-images.ensures.value in
    let long : length c.deref.result.now ≡ suc (length rows) =
    sym (length-map c.deref.result.now items) ∙ ap length same in
    let some : 0 < length R.basis = some-relation (g.K.Ring.lawful c.args.k.now) s rows
    c.args.v.items c.requires.independent c.requires.spanned R
    (subst (λ n. IsSpaceOf F n R) long c.in_ok-relations.ensures.space)
    (subst (λ t. HasExactly F R (λ c. InSpace F s (combination_of F t c))) same
    c.in_ok-relations.ensures.exact) in
    omega (arith, some, ap length c.basis.ensures, length-map c.basis.result.now items)

pub negative_tail-requires : goal.negative_tail-requires
negative_tail-requires g c =
    let F = g.K.Ring.elements c.args.k.now in
    let rows = rows_of c.args.rows.now in
    let items = λ (r : Vec ℕ). r.items in
    let s = c.args.space.now in
    let R = c.in_ok-relations.relations in
    let same : rows_of c.deref.result.now ≡ c.args.v.items ∷ rows = ap rows_of
    c.deref.ensures.value ∙ c.in_ok-images.ensures.value in
    let long : length c.deref.result.now ≡ suc (length rows) =
    sym (length-map c.deref.result.now items) ∙ ap length same in
    let space = subst (λ n. IsSpaceOf F n R) long c.in_ok-relations.ensures.space in
    let some : 0 < length R.basis = some-relation (g.K.Ring.lawful c.args.k.now) s rows
    c.args.v.items c.requires.independent c.requires.spanned R space
    (subst (λ t. HasExactly F R (λ c. InSpace F s (combination_of F t c))) same
    c.in_ok-relations.ensures.exact) in
    let first = first-row F (suc (length rows)) R space some c.basis.result.now
    c.index-basis-0.result c.basis.ensures c.index-basis-0.is in
    let row : IsVector F (suc (length rows)) c.deref-2.result.now =
    subst (IsVector F (suc (length rows))) (sym c.deref-2.ensures.value) first.1 in
    record {
      each = row.each;
      nonempty = omega (arith, row.len);
    }

pub returns-clause-vector : goal.returns-clause-vector
returns-clause-vector g c =
    let F = g.K.Ring.elements c.args.k.now in
    let rows = rows_of c.args.rows.now in
    let items = λ (r : Vec ℕ). r.items in
    let s = c.args.space.now in
    let R = c.in_ok-relations.relations in
    let same : rows_of c.deref.result.now ≡ c.args.v.items ∷ rows = ap rows_of
    c.deref.ensures.value ∙ c.in_ok-images.ensures.value in
    let long : length c.deref.result.now ≡ suc (length rows) =
    sym (length-map c.deref.result.now items) ∙ ap length same in
    let space = subst (λ n. IsSpaceOf F n R) long c.in_ok-relations.ensures.space in
    let some : 0 < length R.basis = some-relation (g.K.Ring.lawful c.args.k.now) s rows
    c.args.v.items c.requires.independent c.requires.spanned R space
    (subst (λ t. HasExactly F R (λ c. InSpace F s (combination_of F t c))) same
    c.in_ok-relations.ensures.exact) in
    let first = first-row F (suc (length rows)) R space some c.basis.result.now
    c.index-basis-0.result c.basis.ensures c.index-basis-0.is in
    let len : length c.deref-2.result.now ≡ suc (length rows) =
    ap length c.deref-2.ensures.value ∙ first.1.len in
    ok_both _ _ _ c.negative_tail.result (λ r h k. record {
      each = k;
      len = omega (arith, h, len, length-map c.args.rows.now items);
    }) c.negative_tail.ensures.len c.negative_tail.ensures.each

pub returns-clause-value : goal.returns-clause-value
returns-clause-value g c =
    let F = g.K.Ring.elements c.args.k.now in
    let rows = rows_of c.args.rows.now in
    let items = λ (r : Vec ℕ). r.items in
    let s = c.args.space.now in
    let R = c.in_ok-relations.relations in
    let same : rows_of c.deref.result.now ≡ c.args.v.items ∷ rows = ap rows_of
    c.deref.ensures.value ∙ c.in_ok-images.ensures.value in
    let long : length c.deref.result.now ≡ suc (length rows) =
    sym (length-map c.deref.result.now items) ∙ ap length same in
    let space = subst (λ n. IsSpaceOf F n R) long c.in_ok-relations.ensures.space in
    let exact = subst (λ t. HasExactly F R (λ c. InSpace F s (combination_of F t c))) same
    c.in_ok-relations.ensures.exact in
    let some : 0 < length R.basis = some-relation (g.K.Ring.lawful c.args.k.now) s rows
    c.args.v.items c.requires.independent c.requires.spanned R space exact in
    let first = first-row F (suc (length rows)) R space some c.basis.result.now
    c.index-basis-0.result c.basis.ensures c.index-basis-0.is in
    let row : get_or R.basis 0 [] ≡ c.deref-2.result.now =
    first.0 ∙ sym c.deref-2.ensures.value in
    let len : length c.deref-2.result.now ≡ suc (length rows) =
    ap length c.deref-2.ensures.value ∙ first.1.len in
    ok_map _ _ c.negative_tail.result
    (λ r h. relation-coordinates
    (g.K.Ring.lawful c.args.k.now) s rows c.args.v.items c.requires.independent
    c.requires.spanned R space exact (vector_of F r.items)
    (λ i l. h i (omega (arith, l, len)) ∙ ap (λ t. F.neg (vector_of F t (suc i))) (sym row)))
    c.negative_tail.ensures.value
