use Rattle.std.proofs.Common.{IsTrue, ap, arith, length, subst, sym, ◌∙◌}
use Rattle.ff_theory.specs.Lawful.{lawful_field}
use Rattle.ff_theory.specs.Values.{ArePolys, plane_of}
use Rattle.ff_theory.proofs.Results.{ok_map}
use Rattle.ff_elem.specs.Elem.{algebra_in, elem_of}
use Rattle.ff_data.specs.Substitution.{plane_at_pair}
use Rattle.ff_subst.specs.Residues.{IsResidue}
use Rattle.ff_subst.specs.Powers.{IsSubstitution}
use Rattle.ff_subst.specs.Inverse.{IsQuotientAt}
use Rattle.ff_subst.proofs.ResidueLemmas.{residue-is}
use Rattle.ff_subst.proofs.tests.takes.Goals as goal

pub multiply_value-requires : goal.multiply_value-requires
multiply_value-requires g c =
    record {
      m = c.requires.m;
      at = c.requires.at;
      matrix = c.requires.matrix;
      v = c.requires.v;
      p = c.requires.s.parts.den;
      some = c.requires.s.some;
    }

pub may_equal-requires : goal.may_equal-requires
may_equal-requires g c =
    let K = g.K.Ring.elements c.args.alg.now.k in
    record {
      m = c.requires.m;
      at = c.requires.at;
      r = c.in_ok-product.ensures.reduced;
      rows = subst (ArePolys K) (sym c.rows.ensures) c.requires.s.parts.num;
      enough = omega (arith, ap length c.rows.ensures, c.requires.s.count);
    }

pub returns : goal.returns
returns g c =
    let K = g.K.Ring.elements c.args.alg.now.k in
    let L = g.K.Ring.lawful c.args.alg.now.k in
    let f = c.args.alg.now.f in
    let A = algebra_in L f in
    let F = lawful_field L in
    let G = plane_of K f in
    let m = c.args.m.now in
    let s = c.args.s.now in
    let value : A.carrier → A.carrier
    → A.carrier = λ X Y. plane_at_pair F G X Y (plane_of K c.rows.result.now) in
    ok_map (λ r. (X Y : A.carrier) → IsSubstitution L f m X Y c.args.at.now
    → IsResidue L f m (value X Y) c.in_ok-product.product → IsTrue r)
    (λ r. (X Y : A.carrier) → IsSubstitution L f m X Y c.args.at.now
    → IsQuotientAt L f s X Y (elem_of L f c.args.v.now) → IsTrue r) c.may_equal.result
    (λ r yes X Y h e. yes X Y h (residue-is K L f m _ (value X Y) c.in_ok-product.product
    (e ∙ ap (λ rows. plane_at_pair F G X Y (plane_of K rows)) (sym c.rows.ensures))
    (c.in_ok-product.ensures.residue X Y h))) c.may_equal.ensures
