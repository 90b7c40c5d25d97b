use Rattle.std.proofs.Common.{length, sym, ◌∙◌, ap, subst, arith}
use Rattle.ff_theory.specs.Poly.{polynomials}
use Rattle.ff_theory.specs.Monic.{monic_form}
use Rattle.ff_theory.specs.Values.{plane_of, IsPlane}
use Rattle.ff_data.proofs.monic.monic_of.Goals as goal

pub monic_rows-requires : goal.monic_rows-requires
monic_rows-requires g c =
    let e = c.rows.ensures in
    record {
      plane = subst (IsPlane (g.K.Ring.elements c.args.alg.now.k)) (sym e) c.args.alg.now.plane;
      has_y = omega (arith, ap length e, c.args.alg.now.has_y);
    }

pub returns-clause-value : goal.returns-clause-value
returns-clause-value g c =
    let F = g.K.Ring.elements c.args.alg.now.k in
    c.from_vec.ensures.value ∙ c.in_ok-rows.ensures.value
    ∙ ap (λ r. monic_form (polynomials F.ring) (plane_of F r)) c.rows.ensures
