use Rattle.std.proofs.Common.{IsTrue, ap, arith, length, subst, sym, true, ◌∙◌, ◌≡◌}
use Rattle.ff_theory.specs.Lawful.{lawful_field}
use Rattle.ff_theory.specs.Values.{ArePolys, plane_of}
use Rattle.ff_theory.proofs.Results.{ok_map}
use Rattle.ff_elem.specs.Elem.{elem_of}
use Rattle.ff_data.specs.Pairs.{Undoes}
use Rattle.ff_data.specs.Substitution.{plane_at_pair}
use Rattle.ff_data.specs.declared.pair.Pair.{Pair}
use Rattle.ff_subst.specs.Powers.{IsSubstitution}
use Rattle.ff_subst.specs.Inverse.{IsOneSided, IsSmallPair}
use Rattle.ff_subst.proofs.tests.may_invert_at.Goals as goal

pub vanishes-requires : goal.vanishes-requires
vanishes-requires g c =
    let K = g.K.Ring.elements c.args.alg.now.k in
    record {
      m = c.requires.m;
      at = c.requires.at;
      rows = subst (ArePolys K) (sym c.rows.ensures) c.requires.f.each;
      enough = omega (arith, ap length c.rows.ensures, c.requires.count);
    }

pub gives_variables-requires : goal.gives_variables-requires
gives_variables-requires g c =
    let K = g.K.Ring.elements c.args.alg.now.k in
    record {
      m = c.requires.m;
      at = c.requires.at;
      matrix = c.requires.matrix;
      back = subst (λ n. IsSmallPair K n c.args.back.now) (sym c.requires.count) c.requires.back;
    }

pub returns-then-not-zero : goal.returns-then-not-zero
returns-then-not-zero g c =
    let K = g.K.Ring.elements c.args.alg.now.k in
    let L = g.K.Ring.lawful c.args.alg.now.k in
    let f = c.args.alg.now.f in
    let F = lawful_field L in
    let G = plane_of K f in
    λ pair at u.
    let X = elem_of L f pair.x in
    let Y = elem_of L f pair.y in
    absurd (let t : c.in_ok-zero.zero ≡ true = c.in_ok-zero.ensures X Y at
    (ap (λ rows. plane_at_pair F G X Y (plane_of K rows)) c.rows.ensures ∙ u.satisfies) in cc)

pub returns : goal.returns
returns g c =
    let L = g.K.Ring.lawful c.args.alg.now.k in
    let f = c.args.alg.now.f in
    let m = c.args.m.now in
    let at = c.args.at.now in
    let back = c.args.back.now in
    ok_map (λ r. (p : Pair) → IsSubstitution L f m (elem_of L f p.x) (elem_of L f p.y) at
    → Undoes L f back p → IsTrue r)
    (λ r. (p : Pair) → IsSubstitution L f m (elem_of L f p.x) (elem_of L f p.y) at
    → IsOneSided L c.args.f.now f p back → IsTrue r) c.gives_variables.result
    (λ r yes p at u. yes p at u.undone) c.gives_variables.ensures
