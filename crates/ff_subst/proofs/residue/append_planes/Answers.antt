use Rattle.std.proofs.Common.{List, [], ap, get_or, length, subst, sym, ℕ, ◌<◌, ◌∙◌}
use Rattle.ff_theory.specs.Poly.{polynomials}
use Rattle.ff_theory.specs.Values.{IsPlane, plane_of, poly_of}
use Rattle.ff_theory.specs.Planes.{row_of}
use Rattle.ff_elem.proofs.RowLemmas.{pushed-each, pushed-length}
use Rattle.ff_subst.specs.Congruence.{AreCongruent, ArePlanes}
use Rattle.ff_subst.proofs.ResidueLemmas.{appended-list}
use Rattle.ff_subst.proofs.residue.append_planes.Goals as goal

pub multiples-requires : goal.multiples-requires
multiples-requires g c =
    let K = g.K.Ring.elements c.args.k.now in
    record {
      m = c.requires.m;
      c = c.requires.last.factor;
      planes = subst (ArePlanes K)
          (sym c.list.ensures) c.requires.list.planes;
    }

pub multiple-requires : goal.multiple-requires
multiple-requires g c =
    record { m = c.requires.m; c = c.requires.list.factor; plane = c.requires.last.plane }

pub returns-clause-count : goal.returns-clause-count
returns-clause-count g c =
    pushed-length c.in_ok-planes.planes.items c.in_ok-multiple.field-0 _ _
    c.in_ok-push.ensures.items (c.in_ok-planes.ensures.count ∙ ap length c.list.ensures)

pub returns-clause-each : goal.returns-clause-each
returns-clause-each g c =
    let K = g.K.Ring.elements c.args.k.now in
    pushed-each (IsPlane K) c.in_ok-planes.planes.items c.in_ok-multiple.field-0 _
    c.in_ok-push.ensures.items c.in_ok-planes.ensures.each c.in_ok-multiple.ensures.plane

pub returns-clause-appended : goal.returns-clause-appended
returns-clause-appended g c =
    let K = g.K.Ring.elements c.args.k.now in
    let L = g.K.Ring.lawful c.args.k.now in
    let P = polynomials (polynomials K.ring) in
    let m = c.args.m.now in
    let list = c.args.list.now in
    let last = c.args.last.now in
    let ps = c.in_ok-planes.planes.items in
    appended-list K L [] m list last ps c.in_ok-multiple.field-0 _ c.in_ok-push.ensures.items
    (c.in_ok-planes.ensures.count ∙ ap length c.list.ensures)
    (subst (λ (qs : List (List (List ℕ))). (j : ℕ) → j < length qs
    → AreCongruent K m (P.mul (row_of K.ring (poly_of K last.factor))
    (plane_of K (get_or qs j []))) (plane_of K (get_or ps j []))) c.list.ensures
    c.in_ok-planes.ensures.congruent)
    c.in_ok-multiple.ensures.congruent
