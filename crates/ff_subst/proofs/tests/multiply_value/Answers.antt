use Rattle.std.proofs.Common.{arith, ap, length, ◌∙◌}
use Rattle.ff_theory.specs.Lawful.{lawful_field}
use Rattle.ff_theory.specs.Values.{IsPoly, plane_of, poly_of}
use Rattle.ff_theory.proofs.Results.{ok_map}
use Rattle.ff_elem.specs.Elem.{algebra_in, elem_of}
use Rattle.ff_data.specs.Substitution.{plane_at_pair, poly_at}
use Rattle.ff_subst.specs.Residues.{IsResidue}
use Rattle.ff_subst.specs.Powers.{IsSubstitution}
use Rattle.ff_subst.proofs.ResidueLemmas.{residue-is}
use Rattle.ff_subst.proofs.PairValues.{each-one, row-at}
use Rattle.ff_subst.proofs.tests.multiply_value.Goals as goal

pub evaluate-requires : goal.evaluate-requires
evaluate-requires g c =
    let K = g.K.Ring.elements c.args.alg.now.k in
    let one = c.from_ref.ensures.value in
    record {
      m = c.requires.m;
      at = c.requires.at;
      rows = each-one (IsPoly K) c.args.p.now c.from_ref.result.now one c.requires.p;
      enough = omega (arith, ap length one, c.requires.some);
    }

pub multiply-requires : goal.multiply-requires
multiply-requires g c =
    record {
      m = c.requires.m;
      at = c.requires.at;
      matrix = c.requires.matrix;
      v = c.requires.v;
      r = c.in_ok-value.ensures.reduced;
    }

pub returns-clause-reduced : goal.returns-clause-reduced
returns-clause-reduced g c = c.multiply.ensures.reduced

pub returns-clause-residue : goal.returns-clause-residue
returns-clause-residue g c =
    let K = g.K.Ring.elements c.args.alg.now.k in
    let L = g.K.Ring.lawful c.args.alg.now.k in
    let f = c.args.alg.now.f in
    let A = algebra_in L f in
    let F = lawful_field L in
    let G = plane_of K f in
    let m = c.args.m.now in
    let v = elem_of L f c.args.v.now in
    let d : A.carrier → A.carrier = λ X. poly_at F G X (poly_of K c.args.p.now) in
    ok_map (λ r. (u : A.carrier) → IsResidue L f m u c.in_ok-value.value
    → IsResidue L f m (A.mul v u) r)
    (λ r. (X Y : A.carrier) → IsSubstitution L f m X Y c.args.at.now
    → IsResidue L f m (A.mul v (d X)) r) c.multiply.result
    (λ r times X Y h. times (d X) (residue-is K L f m _ (d X) c.in_ok-value.value
    (ap (λ rows. plane_at_pair F G X Y (plane_of K rows)) c.from_ref.ensures.value
    ∙ row-at F G X Y (poly_of K c.args.p.now)) (c.in_ok-value.ensures.value X Y h)))
    c.multiply.ensures.residue
