use Rattle.std.proofs.Common.{◌∙◌, ap}
use Rattle.ff_theory.specs.Lawful.{lawful_field}
use Rattle.ff_theory.specs.Algebra.{value_of}
use Rattle.ff_theory.specs.Values.{plane_of}
use Rattle.ff_theory.proofs.Results.{ok_map}
use Rattle.ff_sep.proofs.SepParts.{at-monic-is}
use Rattle.ff_sep.proofs.parts.element_at.Goals as goal

pub returns : goal.returns
returns g c =
    let F = g.K.Ring.elements c.args.alg.now.k in
    let L = g.K.Ring.lawful c.args.alg.now.k in
    let f = c.args.alg.now.f in
    ok_map _ _ c.element_of_plane.result
    (λ r h. record {
      element = h.element;
      value = h.value
          ∙ ap (value_of (lawful_field L) (plane_of F f)) c.from_vec-num.ensures.value
          ∙ at-monic-is F L f c.args.alg.now.plane c.args.alg.now.has_y c.args.powers.now
          c.args.rows.now c.in_ok-rows.rows.items c.requires.powers c.requires.count
          c.in_ok-rows.ensures.len c.in_ok-rows.ensures.value;
    }) c.element_of_plane.ensures
