use Rattle.std.proofs.Common.{◌≡◌, ℕ, ◌<◌, [], length, get_or, sym, ◌∙◌, ap, subst}
use mathlib.Core.Path.{fun_ext}
use Rattle.ff_theory.specs.Vector.{vector_of, IsVector}
use Rattle.ff_lin.proofs.Compare.{true-is-false}
use Rattle.ff_characters.specs.Characters.{tables_of, IsTable, IsEigenvector, IsCharacter}
use Rattle.ff_characters.proofs.CharacterLemmas.{first-row, leading-below, found-character}
use Rattle.ff_characters.proofs.CharacterLemmas.{more-characters, has-pushed, has-last}
use Rattle.ff_characters.proofs.functionals.push_character.Goals as goal

pub leading_index-requires : goal.leading_index-requires
leading_index-requires g c =
    let F = g.K.Ring.elements c.args.k.now in
    let first = first-row F (length c.args.one.now) c.args.space.now c.requires.space
    c.requires.nonzero c.basis.result.now c.index-basis-0.result c.basis.ensures
    c.index-basis-0.is in
    (subst (IsVector F (length c.args.one.now)) (sym c.deref-2.ensures.value) first.1).each

pub eigenvalues-requires-clause-table : goal.eigenvalues-requires-clause-table
eigenvalues-requires-clause-table g c =
    let F = g.K.Ring.elements c.args.k.now in
    let first = first-row F (length c.args.one.now) c.args.space.now c.requires.space
    c.requires.nonzero c.basis.result.now c.index-basis-0.result c.basis.ensures
    c.index-basis-0.is in
    subst (λ m. IsTable F m c.args.table.now)
    (sym (ap length c.deref.ensures.value ∙ first.1.len)) c.requires.table

pub eigenvalues-requires-clause-v : goal.eigenvalues-requires-clause-v
eigenvalues-requires-clause-v g c =
    let F = g.K.Ring.elements c.args.k.now in
    let first = first-row F (length c.args.one.now) c.args.space.now c.requires.space
    c.requires.nonzero c.basis.result.now c.index-basis-0.result c.basis.ensures
    c.index-basis-0.is in
    (subst (IsVector F (length c.args.one.now)) (sym c.deref.ensures.value) first.1).each

pub eigenvalues-requires-clause-index : goal.eigenvalues-requires-clause-index
eigenvalues-requires-clause-index g c =
    let F = g.K.Ring.elements c.args.k.now in
    let n = length c.args.one.now in
    let first = first-row F n c.args.space.now c.requires.space
    c.requires.nonzero c.basis.result.now c.index-basis-0.result c.basis.ensures
    c.index-basis-0.is in
    subst (λ m. c.leading_index.result < m) (sym (ap length c.deref.ensures.value ∙ first.1.len))
    (leading-below F (g.met.K.Ring.laws c.args.k.now) (g.met.K.Ring.tests c.args.k.now)
    (g.met.K.Field.is_field c.args.k.now) n c.args.space.now c.requires.space c.requires.nonzero
    c.deref-2.result.now (first.0 ∙ sym c.deref-2.ensures.value) c.leading_index.result
    c.leading_index.ensures.zeros)

pub eigenvalues-requires-clause-nonzero : goal.eigenvalues-requires-clause-nonzero
eigenvalues-requires-clause-nonzero g c =
    let F = g.K.Ring.elements c.args.k.now in
    let n = length c.args.one.now in
    let first = first-row F n c.args.space.now c.requires.space
    c.requires.nonzero c.basis.result.now c.index-basis-0.result c.basis.ensures
    c.index-basis-0.is in
    λ z. c.leading_index.ensures.nonzero
    (subst (λ m. c.leading_index.result < m) (sym (ap length c.deref-2.ensures.value
    ∙ first.1.len)) (leading-below F (g.met.K.Ring.laws c.args.k.now)
    (g.met.K.Ring.tests c.args.k.now) (g.met.K.Field.is_field c.args.k.now) n c.args.space.now
    c.requires.space c.requires.nonzero c.deref-2.result.now
    (first.0 ∙ sym c.deref-2.ensures.value) c.leading_index.result c.leading_index.ensures.zeros))
    (ap (λ t. vector_of F t c.leading_index.result)
    (c.deref-2.ensures.value ∙ sym c.deref.ensures.value) ∙ z)

pub is_character-requires-clause-table : goal.is_character-requires-clause-table
is_character-requires-clause-table g c =
    let F = g.K.Ring.elements c.args.k.now in
    let first = first-row F (length c.args.one.now) c.args.space.now c.requires.space
    c.requires.nonzero c.basis.result.now c.index-basis-0.result c.basis.ensures
    c.index-basis-0.is in
    subst (λ m. IsTable F m c.args.table.now)
    (sym (ap length c.deref-3.ensures.value ∙ c.in_ok-chi.ensures.vector.len
    ∙ ap length c.deref.ensures.value ∙ first.1.len)) c.requires.table

pub is_character-requires-clause-one : goal.is_character-requires-clause-one
is_character-requires-clause-one g c =
    let F = g.K.Ring.elements c.args.k.now in
    let first = first-row F (length c.args.one.now) c.args.space.now c.requires.space
    c.requires.nonzero c.basis.result.now c.index-basis-0.result c.basis.ensures
    c.index-basis-0.is in
    record {
      each = c.requires.one;
      len = sym (ap length c.deref-3.ensures.value ∙ c.in_ok-chi.ensures.vector.len
          ∙ ap length c.deref.ensures.value ∙ first.1.len);
    }

pub returns-in_ok-push-clause-each : goal.returns-in_ok-push-clause-each
returns-in_ok-push-clause-each g c =
    let F = g.K.Ring.elements c.args.k.now in
    let n = length c.args.one.now in
    let first = first-row F n c.args.space.now c.requires.space
    c.requires.nonzero c.basis.result.now c.index-basis-0.result c.basis.ensures
    c.index-basis-0.is in
    let long : length c.deref.result.now ≡ n = ap length c.deref.ensures.value ∙ first.1.len in
    let chi = c.in_ok-chi.chi in
    let table = tables_of c.args.table.now in
    let one = c.args.one.now in
    more-characters F n table one c.args.list.now.items c.push.new.self.items chi
    c.in_ok-push.ensures.items c.requires.list
    (subst (λ m. IsVector F m chi.items) long c.in_ok-chi.ensures.vector)
    (subst (λ t. IsCharacter F n table one (vector_of F t)) c.deref-3.ensures.value
    (subst (λ m. IsCharacter F m table one (vector_of F c.deref-3.result.now))
    (ap length c.deref-3.ensures.value ∙ c.in_ok-chi.ensures.vector.len ∙ long)
    (c.is_character.ensures.0 c.if-is_character.true)))

pub returns-in_ok-push-clause-kept : goal.returns-in_ok-push-clause-kept
returns-in_ok-push-clause-kept g c v h = has-pushed (g.K.Ring.elements c.args.k.now)
    c.args.list.now.items c.push.new.self.items c.in_ok-chi.chi c.in_ok-push.ensures.items v h

pub returns-in_ok-push-clause-all : goal.returns-in_ok-push-clause-all
returns-in_ok-push-clause-all g c =
    let F = g.K.Ring.elements c.args.k.now in
    let n = length c.args.one.now in
    let first = first-row F n c.args.space.now c.requires.space
    c.requires.nonzero c.basis.result.now c.index-basis-0.result c.basis.ensures
    c.index-basis-0.is in
    let long : length c.deref.result.now ≡ n = ap length c.deref.ensures.value ∙ first.1.len in
    let found = found-character F (g.met.K.Ring.laws c.args.k.now)
    (g.met.K.Ring.tests c.args.k.now) (g.met.K.Field.is_field c.args.k.now) n
    (tables_of c.args.table.now) c.args.one.now c.args.space.now c.requires.space
    c.requires.nonzero c.requires.settled c.deref.result.now c.in_ok-chi.chi.items
    (first.0 ∙ sym c.deref.ensures.value)
    (subst (λ m. IsVector F m c.in_ok-chi.chi.items) long c.in_ok-chi.ensures.vector)
    (subst (λ m. (i : ℕ) (a : F.carrier) → i < m → IsEigenvector F m
    (get_or (tables_of c.args.table.now) i []) a (vector_of F c.deref.result.now)
    → vector_of F c.in_ok-chi.chi.items i ≡ a) long c.in_ok-chi.ensures.value) in
    λ chi k h. has-last F c.args.list.now.items c.push.new.self.items c.in_ok-chi.chi
    c.in_ok-push.ensures.items chi (found chi k h)

pub returns-else-is_character-clause-all : goal.returns-else-is_character-clause-all
returns-else-is_character-clause-all g c =
    let F = g.K.Ring.elements c.args.k.now in
    let n = length c.args.one.now in
    let first = first-row F n c.args.space.now c.requires.space
    c.requires.nonzero c.basis.result.now c.index-basis-0.result c.basis.ensures
    c.index-basis-0.is in
    let long : length c.deref.result.now ≡ n = ap length c.deref.ensures.value ∙ first.1.len in
    let table = tables_of c.args.table.now in
    let one = c.args.one.now in
    let found = found-character F (g.met.K.Ring.laws c.args.k.now)
    (g.met.K.Ring.tests c.args.k.now) (g.met.K.Field.is_field c.args.k.now) n
    table one c.args.space.now c.requires.space
    c.requires.nonzero c.requires.settled c.deref.result.now c.in_ok-chi.chi.items
    (first.0 ∙ sym c.deref.ensures.value)
    (subst (λ m. IsVector F m c.in_ok-chi.chi.items) long c.in_ok-chi.ensures.vector)
    (subst (λ m. (i : ℕ) (a : F.carrier) → i < m → IsEigenvector F m
    (get_or table i []) a (vector_of F c.deref.result.now)
    → vector_of F c.in_ok-chi.chi.items i ≡ a) long c.in_ok-chi.ensures.value) in
    λ chi k h. absurd (true-is-false _ c.if-is_character.false (c.is_character.ensures.1
    (subst (λ m. IsCharacter F m table one (vector_of F c.deref-3.result.now))
    (sym (ap length c.deref-3.ensures.value ∙ c.in_ok-chi.ensures.vector.len ∙ long))
    (subst (λ t. IsCharacter F n table one (vector_of F t)) (sym c.deref-3.ensures.value)
    (subst (λ t. IsCharacter F n table one t) (sym (fun_ext (found chi k h))) h)))))
