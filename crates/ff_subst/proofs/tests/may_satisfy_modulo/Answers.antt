use Rattle.std.proofs.Common.{IsTrue, ap, arith, length, subst, sym, ◌∙◌, ◌≡◌}
use Rattle.ff_theory.specs.Lawful.{lawful_field}
use Rattle.ff_theory.specs.Values.{plane_of}
use Rattle.ff_theory.proofs.Results.{ok_map}
use Rattle.ff_elem.specs.Elem.{algebra_in, elem_of}
use Rattle.ff_data.specs.Pairs.{Satisfies}
use Rattle.ff_data.specs.Substitution.{plane_at_pair}
use Rattle.ff_theory.specs.Values.{ArePolys}
use Rattle.ff_subst.specs.Powers.{IsSubstitution}
use Rattle.ff_subst.proofs.tests.may_satisfy_modulo.Goals as goal

pub prepare-requires : goal.prepare-requires
prepare-requires g c =
    record { m = c.requires.m; pair = c.requires.pair }

pub vanishes-requires : goal.vanishes-requires
vanishes-requires g c =
    let K = g.K.Ring.elements c.args.alg.now.k in
    record {
      m = c.requires.m;
      at = c.in_ok-at.ensures.reduced;
      rows = subst (ArePolys K)
          (sym c.rows-2.ensures) c.requires.f.each;
      enough = omega
          (arith, ap length c.rows.ensures, ap length c.rows-2.ensures, c.in_ok-at.ensures.count);
    }

pub returns : goal.returns
returns g c =
    let K = g.K.Ring.elements c.args.alg.now.k in
    let L = g.K.Ring.lawful c.args.alg.now.k in
    let f = c.args.alg.now.f in
    let F = lawful_field L in
    let G = plane_of K f in
    let A = algebra_in L f in
    let m = c.args.m.now in
    let X = elem_of L f c.args.pair.now.x in
    let Y = elem_of L f c.args.pair.now.y in
    let rows = c.rows-2.result.now in
    ok_map (λ r. (X Y : A.carrier) → IsSubstitution L f m X Y c.in_ok-at.at
    → plane_at_pair F G X Y (plane_of K rows) ≡ A.zero → IsTrue r)
    (λ r. Satisfies L c.args.f.now f c.args.pair.now → IsTrue r) c.vanishes.result
    (λ r yes e. yes X Y c.in_ok-at.ensures.pair
    (ap (λ rows. plane_at_pair F G X Y (plane_of K rows)) c.rows-2.ensures ∙ e))
    c.vanishes.ensures
