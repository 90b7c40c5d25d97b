use Rattle.std.proofs.Common.{length, sym, subst}
use Rattle.ff_theory.proofs.Results.{ok_map}
use Rattle.ff_theory.specs.Vector.{vector_of}
use Rattle.ff_lin.specs.Space.{rows_of, AreVectors}
use Rattle.ff_characters.specs.Characters.{tables_of}
use Rattle.ff_frac.specs.Socle.{AreSocleRows}
use Rattle.ff_frac.proofs.SocleRows.{exact_space}
use Rattle.ff_frac.proofs.socle.socle_space.Goals as goal

pub kernel-requires : goal.kernel-requires
kernel-requires g c =
    let F = g.K.Ring.elements c.args.k.now in
    record {
      rows = subst (AreVectors F (length c.args.table.now)) (sym c.deref.ensures.value)
          c.in_ok-rows.ensures.vectors;
    }

pub returns-clause-exact : goal.returns-clause-exact
returns-clause-exact g c =
    let F = g.K.Ring.elements c.args.k.now in
    let L = g.K.Ring.lawful c.args.k.now in
    let n = length c.args.table.now in
    let tables = tables_of c.args.table.now in
    let chi = vector_of F c.args.chi.now in
    exact_space F n tables chi L _ (subst (λ rows. AreSocleRows F n tables chi n 0
    (rows_of rows)) (sym c.deref.ensures.value) c.in_ok-rows.ensures.value) c.kernel.result
    c.kernel.ensures.space c.kernel.ensures.exact
