use Rattle.std.proofs.Common.{IsTrue, true, ◌≡◌}
use Rattle.ff_theory.specs.Lawful.{lawful_field}
use Rattle.ff_theory.specs.Values.{plane_of, poly_of}
use Rattle.ff_theory.proofs.Results.{ok_map}
use Rattle.ff_elem.specs.Elem.{algebra_in, elem_of, x_in, y_in}
use Rattle.ff_data.specs.Pairs.{Undoes}
use Rattle.ff_data.specs.declared.pair.Pair.{Pair}
use Rattle.ff_subst.specs.Powers.{IsSubstitution}
use Rattle.ff_subst.specs.Inverse.{IsQuotientAt}
use Rattle.ff_subst.proofs.PairValues.{of-value}
use Rattle.ff_subst.proofs.tests.gives_variables.Goals as goal

pub takes_x-requires : goal.takes_x-requires
takes_x-requires g c =
    record {
      m = c.requires.m;
      at = c.requires.at;
      matrix = c.requires.matrix;
      s = c.requires.back.x;
    }

pub takes_y-requires : goal.takes_y-requires
takes_y-requires g c =
    record {
      m = c.requires.m;
      at = c.requires.at;
      matrix = c.requires.matrix;
      s = c.requires.back.y;
    }

pub returns-then-not-possible : goal.returns-then-not-possible
returns-then-not-possible g c =
    let K = g.K.Ring.elements c.args.alg.now.k in
    let L = g.K.Ring.lawful c.args.alg.now.k in
    let f = c.args.alg.now.f in
    let s = c.args.back.now.x in
    λ pair h u.
    let X = elem_of L f pair.x in
    let Y = elem_of L f pair.y in
    absurd (let t : c.in_ok-possible.possible ≡ true = c.in_ok-possible.ensures X Y h
    (of-value (lawful_field L) (plane_of K f) (poly_of K s.den) (plane_of K s.num) X Y (x_in L f)
    u.x) in cc)

pub returns : goal.returns
returns g c =
    let K = g.K.Ring.elements c.args.alg.now.k in
    let L = g.K.Ring.lawful c.args.alg.now.k in
    let f = c.args.alg.now.f in
    let A = algebra_in L f in
    let m = c.args.m.now in
    let s = c.args.back.now.y in
    ok_map (λ r. (X Y : A.carrier) → IsSubstitution L f m X Y c.args.at.now
    → IsQuotientAt L f s X Y (y_in L f) → IsTrue r)
    (λ r. (pair : Pair) → IsSubstitution L f m (elem_of L f pair.x) (elem_of L f pair.y)
    c.args.at.now → Undoes L f c.args.back.now pair → IsTrue r) c.takes_y.result
    (λ r yes pair h u. yes (elem_of L f pair.x) (elem_of L f pair.y) h
    (of-value (lawful_field L) (plane_of K f) (poly_of K s.den) (plane_of K s.num)
    (elem_of L f pair.x) (elem_of L f pair.y) (y_in L f) u.y)) c.takes_y.ensures
