use Rattle.std.proofs.Common.{IsTrue, subst, sym, ◌≡◌}
use Rattle.ff_theory.specs.Lawful.{lawful_field}
use Rattle.ff_theory.specs.Poly.{polynomials}
use Rattle.ff_theory.specs.Divides.{Divides}
use Rattle.ff_theory.specs.Values.{plane_of, poly_of}
use Rattle.ff_theory.specs.Planes.{row_of}
use Rattle.ff_theory.proofs.Results.{ok_map}
use Rattle.ff_elem.specs.Elem.{algebra_in}
use Rattle.ff_data.specs.Substitution.{plane_at_pair}
use Rattle.ff_theory.specs.Values.{ArePolys}
use Rattle.ff_subst.specs.Powers.{IsSubstitution}
use Rattle.ff_subst.proofs.ResidueLemmas.{zero-divided}
use Rattle.ff_subst.proofs.tests.vanishes.Goals as goal

pub divides-requires : goal.divides-requires
divides-requires g c =
    let K = g.K.Ring.elements c.args.alg.now.k in
    record {
      m = c.requires.m;
      rows = subst (ArePolys K) (sym c.rows.ensures)
          c.in_ok-value.ensures.reduced.plane.each;
    }

pub returns : goal.returns
returns g c =
    let K = g.K.Ring.elements c.args.alg.now.k in
    let L = g.K.Ring.lawful c.args.alg.now.k in
    let f = c.args.alg.now.f in
    let A = algebra_in L f in
    let P = polynomials (polynomials K.ring) in
    let m = c.args.m.now in
    let value : A.carrier → A.carrier
    → A.carrier = λ X Y. plane_at_pair (lawful_field L) (plane_of K f) X Y
    (plane_of K c.args.rows.now) in
    let N = c.in_ok-value.value in
    ok_map (λ r. Divides P (row_of K.ring (poly_of K m)) (plane_of K c.rows.result.now) → IsTrue r)
    (λ r. (X Y : A.carrier) → IsSubstitution L f m X Y c.args.at.now → value X Y ≡ A.zero
    → IsTrue r) c.divides.result
    (λ r yes X Y h e. yes (subst (λ rows. Divides P (row_of K.ring (poly_of K m)) (plane_of K rows))
    (sym c.rows.ensures) (zero-divided K L f m (value X Y) N (c.in_ok-value.ensures.value X Y h)
    e))) c.divides.ensures
