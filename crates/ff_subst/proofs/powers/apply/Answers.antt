use Rattle.std.proofs.Common.{List, [], get_or, length, subst, sym, ℕ}
use Rattle.ff_theory.specs.Values.{plane_of, poly_of}
use Rattle.ff_theory.specs.Values.{ArePolys}
use Rattle.ff_subst.specs.Congruence.{AreCongruent, ArePlanes}
use Rattle.ff_subst.specs.Columns.{plane_combination}
use Rattle.ff_subst.proofs.ResidueLemmas.{product-residue}
use Rattle.ff_subst.proofs.powers.apply.Goals as goal

pub product-requires : goal.product-requires
product-requires g c =
    record { m = c.requires.m; a = c.requires.matrix.factor; b = c.requires.r.factor }

pub dot-requires : goal.dot-requires
dot-requires g c =
    let K = g.K.Ring.elements c.args.alg.now.k in
    record {
      m = c.requires.m;
      planes = subst (ArePlanes K) (sym c.list.ensures)
          c.requires.matrix.planes;
      rows = subst (ArePolys K) (sym c.rows.ensures)
          c.requires.r.plane.each;
    }

pub returns-clause-residue : goal.returns-clause-residue
returns-clause-residue g c =
    let K = g.K.Ring.elements c.args.alg.now.k in
    let L = g.K.Ring.lawful c.args.alg.now.k in
    let f = c.args.alg.now.f in
    let m = c.args.m.now in
    let plane = c.in_ok-plane.plane in
    let sum : List (List (List ℕ)) → List (List ℕ)
    → Type 0 = λ ps rows. AreCongruent K m
    (plane_combination K.ring (length ps) (λ j. poly_of K (get_or rows j []))
    (λ j. plane_of K (get_or ps j []))) (plane_of K plane) in
    λ u v h k. product-residue K L f m v u c.args.matrix.now c.args.r.now _ c.args.alg.now.plane
    c.in_ok-factor.ensures.congruent
    (subst (λ ps. sum ps c.args.r.now.plane) c.list.ensures
    (subst (sum c.list.result.now) c.rows.ensures c.in_ok-plane.ensures.congruent)) h k
