use Rattle.std.proofs.Common.{◌*◌, ◌-◌, length, sym, ◌∙◌, ap, subst}
use Rattle.ff_theory.proofs.Results.{ok_map}
use Rattle.ff_theory.specs.Vector.{vector_of, IsVector, combination_of}
use Rattle.ff_lin.specs.Space.{AreVectors, rows_of}
use Rattle.ff_functions.proofs.assembly.base.Goals as goal

pub combination-requires : goal.combination-requires
combination-requires g c =
    let F = g.K.Ring.elements c.args.alg.now.k in
    let frame = c.args.frame.now in
    record {
      coefficients = subst (λ t. IsVector F (length t) c.args.coefficients.now)
          (sym c.deref.ensures.value) c.requires.coefficients;
      vectors = subst (λ n. AreVectors F n c.deref.result.now)
          (sym (c.in-Some.ensures.1 ∙ ap (λ r. (length r - 1) * frame.l) c.rows.ensures))
          (subst (AreVectors F _) (sym c.deref.ensures.value) c.requires.frame.numerators);
    }

pub returns-in-Some-clause-vector : goal.returns-in-Some-clause-vector
returns-in-Some-clause-vector g c =
    let F = g.K.Ring.elements c.args.alg.now.k in
    ok_map _ _ c.combination.result
    (λ r h. subst (λ n. IsVector F n r.items)
    (c.in-Some.ensures.1 ∙ ap (λ r. (length r - 1) * c.args.frame.now.l) c.rows.ensures) h)
    c.combination.ensures.vector

pub returns-in-Some-clause-value : goal.returns-in-Some-clause-value
returns-in-Some-clause-value g c =
    let F = g.K.Ring.elements c.args.alg.now.k in
    ok_map _ _ c.combination.result
    (λ r h j. h j ∙ ap (λ t. combination_of F (rows_of t) (vector_of F c.args.coefficients.now) j)
    c.deref.ensures.value) c.combination.ensures.value
