use Rattle.std.proofs.Common.{refl, ◌∙◌, ap}
use Rattle.std.proofs.lemmas.List.{with_items_is}
use Rattle.ff_theory.proofs.Solver.{◌⊗◌, neg, unit, ring1}
use Rattle.ff_theory.specs.Vector.{vector_of}
use Rattle.ff_lin.proofs.rows.negative.Goals as goal

pub returns-clause-value : goal.returns-clause-value
returns-clause-value g c j =
    let K = g.K.Ring.elements c.args.k.now in
    ap (λ t. vector_of K t j) (with_items_is c.in_ok-negatives.negatives c.scale.new.v
    (c.scale.ensures.vector.len ∙ c.deref_mut.ensures.len))
    ∙ c.scale.ensures.value j
    ∙ ap (λ t. K.mul t (vector_of K c.deref_mut.result.now j))
    (c.neg.ensures.value ∙ ap K.neg c.one.ensures.value)
    ∙ ap (λ t. K.mul (K.neg K.one) (vector_of K t j))
    (c.deref_mut.ensures.value ∙ c.in_ok-negatives.ensures.items)
    ∙ ring1 K.ring (g.met.K.Ring.laws c.args.k.now) (λ a. neg unit ⊗ a) (λ a. neg a) refl
    (vector_of K c.args.v.now j)
