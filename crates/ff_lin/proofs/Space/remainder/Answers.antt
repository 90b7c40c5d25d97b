use Rattle.std.proofs.Common.{length, ◌∙◌, ap}
use Rattle.std.proofs.lemmas.List.{with_items_is}
use Rattle.ff_lin.specs.Space.{SpaceParts, rows_of, pivot}
use Rattle.ff_theory.specs.Vector.{vector_of, combination_of}
use Rattle.ff_lin.proofs.InsertRow.{basis_vectors}
use Rattle.ff_lin.proofs.Steps.{remainder-value}
use Rattle.ff_lin.proofs.Space.remainder.Goals as goal

pub add_combination-requires-clause-rows : goal.add_combination-requires-clause-rows
add_combination-requires-clause-rows g c =
    basis_vectors (g.K.Ring.elements c.args.k.now) (λ v. v.items) c.deref-3.result.now
    c.self.inside.basis.items c.args.self.now (length c.deref_mut.result.now)
    c.deref-3.ensures.value
    (ap (λ (t : SpaceParts). t.basis) c.self.view_is)
    (ap length c.deref_mut.ensures.value ∙ c.requires.v.len) c.requires.space

pub returns-clause-value : goal.returns-clause-value
returns-clause-value g c j =
    let K = g.K.Ring.elements c.args.k.now in
    let s = c.args.self.now in
    let rows = rows_of c.deref-3.result.now in
    let factors = vector_of K c.deref-2.result.now in
    ap (λ t. vector_of K t j) (with_items_is c.args.v c.add_combination.new.sum
    (c.add_combination.ensures.vector.len ∙ c.deref_mut.ensures.len))
    ∙ remainder-value K (g.met.K.Ring.laws c.args.k.now) (g.met.K.Ring.tests c.args.k.now) s
    (vector_of K c.args.v.items) (vector_of K c.add_combination.new.sum) factors rows
    (ap rows_of c.deref-3.ensures.value ∙ ap (λ (t : SpaceParts). t.basis) c.self.view_is)
    (λ i l. ap (λ t. vector_of K t i) c.deref-2.ensures.value ∙ c.in_ok-factors.ensures.value i l
    ∙ ap (λ t. K.neg (vector_of K t (pivot s i))) c.deref.ensures.value)
    (λ j. c.add_combination.ensures.value j
    ∙ ap (λ t. K.add (vector_of K t j) (combination_of K rows factors j))
    c.deref_mut.ensures.value) j
