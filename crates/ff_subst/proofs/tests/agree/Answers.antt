use Rattle.std.proofs.Common.{IsTrue, ap, subst, sym, ◌∙◌}
use Rattle.ff_theory.specs.Poly.{polynomials}
use Rattle.ff_theory.specs.Divides.{Divides}
use Rattle.ff_theory.specs.Values.{plane_of, poly_of}
use Rattle.ff_theory.specs.Planes.{row_of}
use Rattle.ff_theory.proofs.Results.{ok_map}
use Rattle.ff_elem.specs.Elem.{algebra_in}
use Rattle.ff_theory.specs.Values.{ArePolys}
use Rattle.ff_subst.specs.Residues.{IsResidue}
use Rattle.ff_subst.proofs.ResidueLemmas.{same-divided}
use Rattle.ff_subst.proofs.tests.agree.Goals as goal

pub combine-requires : goal.combine-requires
combine-requires g c =
    record {
      c = c.requires.b.factor;
      a = c.requires.a.plane;
      d = c.in_ok-minus.ensures.poly;
      b = c.requires.b.plane;
    }

pub divides-requires : goal.divides-requires
divides-requires g c =
    let K = g.K.Ring.elements c.args.alg.now.k in
    record {
      m = c.requires.m;
      rows = subst (ArePolys K) (sym c.rows.ensures)
          c.in_ok-difference.ensures.plane.each;
    }

pub returns : goal.returns
returns g c =
    let K = g.K.Ring.elements c.args.alg.now.k in
    let L = g.K.Ring.lawful c.args.alg.now.k in
    let f = c.args.alg.now.f in
    let A = algebra_in L f in
    let P = polynomials (polynomials K.ring) in
    let m = c.args.m.now in
    let a = c.args.a.now in
    let b = c.args.b.now in
    let N = c.rows.result.now in
    ok_map (λ r. Divides P (row_of K.ring (poly_of K m)) (plane_of K N) → IsTrue r)
    (λ r. (u : A.carrier) → IsResidue L f m u a → IsResidue L f m u b → IsTrue r)
    c.divides.result
    (λ r yes u h k. yes (same-divided K L f m u a b c.in_ok-minus.minus N
    c.in_ok-minus.ensures.value (ap (plane_of K) c.rows.ensures
    ∙ c.in_ok-difference.ensures.value) h k)) c.divides.ensures
