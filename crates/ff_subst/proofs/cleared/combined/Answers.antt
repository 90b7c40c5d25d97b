use Rattle.std.proofs.Common.{ap, ap₂, subst, sym, ◌∙◌, ◌≡◌}
use Rattle.ff_theory.specs.Poly.{polynomials}
use Rattle.ff_theory.specs.Planes.{row_of}
use Rattle.ff_theory.specs.Values.{ArePolys, plane_of, poly_of}
use Rattle.ff_theory.proofs.Results.{ok_map}
use Rattle.ff_subst.specs.Congruence.{ArePlanes}
use Rattle.ff_subst.specs.Cleared.{block_of, IsMixture}
use Rattle.ff_subst.proofs.cleared.combined.Goals as goal

pub combination-requires : goal.combination-requires
combination-requires g c =
    let K = g.K.Ring.elements c.args.k.now in
    record {
      planes = subst (ArePlanes K) (sym c.list.ensures) c.requires.list.planes;
      p = c.requires.p;
    }

pub from_rows-requires : goal.from_rows-requires
from_rows-requires g c =
    let K = g.K.Ring.elements c.args.k.now in
    subst (ArePolys K) (sym c.rows.ensures) c.requires.num

pub combine-requires : goal.combine-requires
combine-requires g c =
    record {
      c = c.requires.c;
      a = c.in_ok-sum.ensures.plane;
      d = c.requires.d;
      b = c.in_ok-rows.ensures.plane;
    }

pub returns-clause-value : goal.returns-clause-value
returns-clause-value g c =
    let K = g.K.Ring.elements c.args.k.now in
    let P = polynomials (polynomials K.ring) in
    let p = c.args.p.now in
    let i = c.args.i in
    let list = c.args.list.now in
    let left = row_of K.ring (poly_of K c.args.c.now) in
    let right = row_of K.ring (poly_of K c.args.d.now) in
    ok_map (λ r. plane_of K r ≡ P.add (P.mul left (plane_of K c.in_ok-sum.sum))
    (P.mul right (plane_of K c.in_ok-rows.rows)))
    (λ r. IsMixture K c.args.c.now p i list.planes c.args.d.now c.args.e.now.num r) c.combine.result
    (λ r h. h ∙ ap₂ (λ M N. P.add (P.mul left M) (P.mul right N))
    (c.in_ok-sum.ensures.value ∙ ap (block_of K p i) c.list.ensures)
    (c.in_ok-rows.ensures.value ∙ ap (plane_of K) c.rows.ensures)) c.combine.ensures.value
