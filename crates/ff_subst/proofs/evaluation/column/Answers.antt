use Rattle.std.proofs.Common.{[], ap, arith, get_or, length, subst, sym, ◌∙◌}
use Rattle.ff_theory.specs.Values.{IsPoly, plane_of}
use Rattle.ff_subst.specs.Congruence.{ArePlanes}
use Rattle.ff_subst.specs.Columns.{constant_at, plane_combination}
use Rattle.ff_subst.proofs.ResidueLemmas.{column-residue}
use Rattle.ff_subst.proofs.evaluation.column.Goals as goal

pub column_sum-requires : goal.column_sum-requires
column_sum-requires g c =
    let K = g.K.Ring.elements c.args.alg.now.k in
    record {
      planes = subst (ArePlanes K) (sym c.list.ensures) c.requires.powers.planes;
      rows = c.requires.rows;
      enough = omega (arith, c.requires.enough, ap length c.list.ensures);
    }

pub returns-clause-reduced : goal.returns-clause-reduced
returns-clause-reduced g c =
    let K = g.K.Ring.elements c.args.alg.now.k in
    record {
      factor = subst (IsPoly K) (sym c.in_ok-factor.ensures) c.requires.powers.factor;
      plane = c.in_ok-plane.ensures.plane;
    }

pub returns-clause-residue : goal.returns-clause-residue
returns-clause-residue g c =
    let K = g.K.Ring.elements c.args.alg.now.k in
    let L = g.K.Ring.lawful c.args.alg.now.k in
    let f = c.args.alg.now.f in
    let rows = c.args.rows.now in
    let i = c.args.i in
    let has = c.args.alg.now.has_y in
    λ m Y h. column-residue K L f m Y c.args.powers.now _ rows i c.args.alg.now.plane
    (omega (arith, has)) c.requires.enough c.in_ok-factor.ensures
    (c.in_ok-plane.ensures.value ∙ ap (λ ps. plane_combination K.ring (length rows) (λ j.
    constant_at K rows i j) (λ j. plane_of K (get_or ps j []))) c.list.ensures) h
