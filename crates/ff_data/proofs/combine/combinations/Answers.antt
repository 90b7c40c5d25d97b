use Rattle.std.proofs.Common.{ℕ, [], map, sym, ◌∙◌, ap, Vec, Global}
use Rattle.std.proofs.lemmas.List.{get_or-map}
use Rattle.ff_theory.specs.Vector.{vector_of, combination_of}
use Rattle.ff_lin.specs.Space.{combinations_of}
use Rattle.ff_lin.proofs.Growth.{grow-step}
use Rattle.ff_data.proofs.combine.combinations.Goals as goal

pub loop-c-preserved : goal.loop-c-preserved
loop-c-preserved g c =
    let F = g.K.Ring.elements c.args.k.now in
    let L = g.K.Ring.lawful c.args.k.now in
    let items : Vec ℕ Global → _ = λ v. v.items in
    let vectors = map items c.args.vectors.now in
    let coefficients = map items c.args.coefficients.now in
    record {
      space = record {
        space = c.in_ok-space.ensures.space.space;
        len = c.in_ok-space.ensures.space.len ∙ c.loop-c.invariant.space.len;
      };
      same = grow-step F L.laws c.in_ok-space.space.basis c.loop-c.space.basis
          c.in_ok-combination.field-0.items (combinations_of F vectors coefficients)
          c.loop-c.c-index
          (λ j. c.in_ok-combination.ensures.value j
          ∙ ap (λ t. combination_of F vectors (vector_of F t) j)
          (c.deref.ensures.value ∙ ap items c.c-item.is
          ∙ sym (get_or-map items c.args.coefficients.now c.loop-c.c-index c.c-item.result []
          c.loop-c-test.true)))
          c.in_ok-space.ensures.same c.loop-c.invariant.same;
    }
