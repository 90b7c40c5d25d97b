use Rattle.std.proofs.Common.{IsTrue, subst, sym}
use Rattle.ff_theory.proofs.Results.{ok_map}
use Rattle.ff_elem.specs.Elem.{algebra_in, elem_of, x_in}
use Rattle.ff_subst.specs.Powers.{IsSubstitution}
use Rattle.ff_subst.specs.Inverse.{IsQuotientAt}
use Rattle.ff_subst.proofs.tests.takes_x.Goals as goal

pub takes-requires : goal.takes-requires
takes-requires g c =
    record {
      m = c.requires.m;
      at = c.requires.at;
      matrix = c.requires.matrix;
      s = c.requires.s;
      v = c.in_ok-x.ensures.element;
    }

pub returns : goal.returns
returns g c =
    let L = g.K.Ring.lawful c.args.alg.now.k in
    let f = c.args.alg.now.f in
    let A = algebra_in L f in
    let at = c.args.at.now in
    let m = c.args.m.now in
    let s = c.args.s.now in
    ok_map (λ r. (X Y : A.carrier) → IsSubstitution L f m X Y at
    → IsQuotientAt L f s X Y (elem_of L f c.in_ok-x.x) → IsTrue r)
    (λ r. (X Y : A.carrier) → IsSubstitution L f m X Y at → IsQuotientAt L f s X Y (x_in L f)
    → IsTrue r) c.takes.result
    (λ r yes X Y h e. yes X Y h
    (subst (IsQuotientAt L f s X Y) (sym c.in_ok-x.ensures.value) e)) c.takes.ensures
