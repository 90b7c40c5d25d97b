use Rattle.std.proofs.Common.{◌∙◌, ap, arith}
use Rattle.ff_theory.specs.Lawful.{lawful_field}
use Rattle.ff_theory.specs.Values.{IsPoly, plane_of}
use Rattle.ff_theory.specs.Planes.{row_of}
use Rattle.ff_theory.specs.Algebra.{value_of}
use Rattle.ff_elem.specs.Elem.{over_in}
use Rattle.ff_elem.proofs.Quotients.{over-one-value}
use Rattle.ff_data.specs.Combinations.{constant_in}
use Rattle.ff_data.proofs.HornerLemmas.{each-one, constant-value, elem-is}
use Rattle.ff_data.proofs.ring.constant.Goals as goal

pub from_rows-requires : goal.from_rows-requires
from_rows-requires g c =
    let K = g.K.Ring.elements c.args.alg.now.k in
    each-one (IsPoly K) c.in_ok-p.p c.from_ref.result.now c.from_ref.ensures.value
    c.in_ok-p.ensures.poly

pub from_parts-requires : goal.from_parts-requires
from_parts-requires g c =
    record {
      num = c.in_ok-plane.ensures.plane;
      den = c.in_ok-one.ensures.poly;
      nonzero = omega
          (arith, c.in_ok-one.ensures.len);
    }

pub returns : goal.returns
returns g c =
    let K = g.K.Ring.elements c.args.alg.now.k in
    let L = g.K.Ring.lawful c.args.alg.now.k in
    let f = c.args.alg.now.f in
    let F = lawful_field L in
    let G = plane_of K f in
    elem-is K L f c.from_parts.result (over_in L f c.in_ok-plane.plane c.in_ok-one.one)
    (constant_in L f (K.value c.args.c)) c.from_parts.ensures.element c.from_parts.ensures.value
    (over-one-value K L f c.in_ok-plane.plane c.in_ok-one.one c.in_ok-one.ensures.value
    ∙ ap (value_of F G) (c.in_ok-plane.ensures.value ∙ ap (plane_of K) c.from_ref.ensures.value
    ∙ ap (row_of K.ring) c.in_ok-p.ensures.value) ∙ constant-value K L f c.args.c)
