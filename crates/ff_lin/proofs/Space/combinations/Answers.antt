use Rattle.std.proofs.Common.{ℕ, [], map, sym, ◌∙◌, ap, arith, Vec, Global}
use Rattle.std.proofs.lemmas.List.{get_or-map}
use Rattle.ff_lin.specs.Space.{SpaceParts, combinations_of}
use Rattle.ff_theory.specs.Vector.{vector_of, combination_of}
use Rattle.ff_lin.proofs.InsertRow.{basis_vectors}
use Rattle.ff_lin.proofs.Growth.{grow-step}
use Rattle.ff_lin.proofs.Space.combinations.Goals as goal

pub combine-requires-clause-rows : goal.combine-requires-clause-rows
combine-requires-clause-rows g c =
    basis_vectors (g.K.Ring.elements c.args.k.now) (λ v. v.items) c.deref-in-loop-c.result.now
    c.self.inside.basis.items c.args.self.now c.self.inside.len c.deref-in-loop-c.ensures.value
    (ap (λ (t : SpaceParts). t.basis) c.self.view_is)
    (ap (λ (t : SpaceParts). t.len) c.self.view_is) c.requires.space

pub loop-c-preserved : goal.loop-c-preserved
loop-c-preserved g c =
    let K = g.K.Ring.elements c.args.k.now in
    let items : Vec ℕ Global → _ = λ v. v.items in
    let coefficients = map items c.args.coefficients.now in
    record {
      space = record {
        space = c.in_ok-space.ensures.space.space;
        len = c.in_ok-space.ensures.space.len ∙ c.loop-c.invariant.space.len;
      };
      same = grow-step K (g.met.K.Ring.laws c.args.k.now) c.in_ok-space.space.basis
          c.loop-c.space.basis c.in_ok-combine.field-0.items
          (combinations_of K c.args.self.now.basis coefficients) c.loop-c.c-index
          (λ j. c.in_ok-combine.ensures.value j
          ∙ ap (λ t. combination_of K t (vector_of K c.deref.result.now) j)
          (ap (map items) c.deref-in-loop-c.ensures.value
          ∙ ap (λ (t : SpaceParts). t.basis) c.self.view_is)
          ∙ ap (λ t. combination_of K c.args.self.now.basis (vector_of K t) j)
          (c.deref.ensures.value ∙ ap items c.c-item.is
          ∙ sym (get_or-map items c.args.coefficients.now c.loop-c.c-index c.c-item.result []
          (omega arith))))
          c.in_ok-space.ensures.same c.loop-c.invariant.same;
    }
