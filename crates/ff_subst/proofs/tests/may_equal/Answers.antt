use Rattle.std.proofs.Common.{IsTrue}
use Rattle.ff_theory.specs.Lawful.{lawful_field}
use Rattle.ff_theory.specs.Values.{plane_of}
use Rattle.ff_theory.proofs.Results.{ok_map}
use Rattle.ff_elem.specs.Elem.{algebra_in}
use Rattle.ff_data.specs.Substitution.{plane_at_pair}
use Rattle.ff_subst.specs.Residues.{IsResidue}
use Rattle.ff_subst.specs.Powers.{IsSubstitution}
use Rattle.ff_subst.proofs.tests.may_equal.Goals as goal

pub evaluate-requires : goal.evaluate-requires
evaluate-requires g c =
    record {
      m = c.requires.m;
      at = c.requires.at;
      rows = c.requires.rows;
      enough = c.requires.enough;
    }

pub agree-requires : goal.agree-requires
agree-requires g c =
    record { m = c.requires.m; a = c.requires.r; b = c.in_ok-value.ensures.reduced }

pub returns : goal.returns
returns g c =
    let K = g.K.Ring.elements c.args.alg.now.k in
    let L = g.K.Ring.lawful c.args.alg.now.k in
    let f = c.args.alg.now.f in
    let A = algebra_in L f in
    let m = c.args.m.now in
    let value : A.carrier → A.carrier
    → A.carrier = λ X Y. plane_at_pair (lawful_field L) (plane_of K f) X Y
    (plane_of K c.args.rows.now) in
    ok_map (λ b. (u : A.carrier) → IsResidue L f m u c.args.r.now
    → IsResidue L f m u c.in_ok-value.value → IsTrue b)
    (λ b. (X Y : A.carrier) → IsSubstitution L f m X Y c.args.at.now
    → IsResidue L f m (value X Y) c.args.r.now → IsTrue b) c.agree.result
    (λ b yes X Y h k. yes (value X Y) k (c.in_ok-value.ensures.value X Y h)) c.agree.ensures
