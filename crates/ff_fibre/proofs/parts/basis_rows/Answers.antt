use Rattle.std.proofs.Common.{sym, subst}
use Rattle.ff_theory.proofs.Results.{ok_map}
use Rattle.ff_lin.specs.Space.{rows_of, AreVectors}
use Rattle.ff_modulo.specs.Modulo.{IsBasisModulo}
use Rattle.ff_fibre.proofs.parts.basis_rows.Goals as goal

pub basis_modulo-requires : goal.basis_modulo-requires
basis_modulo-requires g c =
    let F = g.K.Ring.elements c.args.alg.now.k in
    record {
      space = c.requires.space.space;
      vectors = subst (λ n. AreVectors F n c.deref.result.now) (sym c.requires.space.len)
          (subst (AreVectors F _) (sym c.deref.ensures.value) c.in_ok-vectors.ensures.vectors);
    }

pub returns-clause-vectors : goal.returns-clause-vectors
returns-clause-vectors g c =
    let F = g.K.Ring.elements c.args.alg.now.k in
    ok_map _ _ c.basis_modulo.result (λ r h. subst (λ n. AreVectors F n r.items)
    c.requires.space.len h) c.basis_modulo.ensures.vectors

pub returns-clause-basis : goal.returns-clause-basis
returns-clause-basis g c =
    let F = g.K.Ring.elements c.args.alg.now.k in
    ok_map _ _ c.basis_modulo.result (λ r h. (
      rows_of c.in_ok-vectors.vectors.items,
      (
        c.in_ok-vectors.ensures.spanning,
        subst (λ x. IsBasisModulo F c.args.space.now (rows_of x) (rows_of r.items))
            c.deref.ensures.value h,
      ),
    )) c.basis_modulo.ensures.basis
