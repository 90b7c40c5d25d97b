use Rattle.std.proofs.Common.{◌∙◌, sym, subst}
use Rattle.ff_theory.specs.Values.{ArePolys}
use Rattle.ff_theory.proofs.Results.{ok_map}
use Rattle.ff_elem.proofs.PolyLemmas.{nonzero-length}
use Rattle.ff_elem.proofs.Quotients.{element-nonzero}
use Rattle.ff_value.proofs.MonicRows.{times_value}
use Rattle.ff_value.proofs.monic.times_poly.Goals as goal

pub multiples-requires : goal.multiples-requires
multiples-requires g c = record {
  c = c.requires.c;
  rows = subst (ArePolys (g.K.Ring.elements c.args.alg.now.k)) (sym c.rows.ensures)
      c.requires.w.num;
}

pub from_parts-requires-clause-nonzero : goal.from_parts-requires-clause-nonzero
from_parts-requires-clause-nonzero g c =
    let F = g.K.Ring.elements c.args.alg.now.k in
    let L = g.K.Ring.lawful c.args.alg.now.k in
    let w = c.args.w.now in
    nonzero-length F L w.den (element-nonzero F L c.args.alg.now.f w c.requires.w)

pub returns-clause-value : goal.returns-clause-value
returns-clause-value g c =
    let F = g.K.Ring.elements c.args.alg.now.k in
    let L = g.K.Ring.lawful c.args.alg.now.k in
    ok_map _ _ c.from_parts-2.result
    (λ r h. h ∙ times_value F L c.args.alg.now.f c.args.alg.now.plane c.args.alg.now.has_y
    c.args.c.now c.args.w.now c.requires.w c.rows.result.now c.in_ok-rows.rows.items
    c.from_vec.result c.rows.ensures c.in_ok-rows.ensures.value c.from_vec.ensures.value)
    c.from_parts-2.ensures.value
