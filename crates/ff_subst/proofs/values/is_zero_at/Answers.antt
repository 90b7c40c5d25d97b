use Rattle.std.proofs.Common.{ap, subst, sym, ◌∙◌}
use Rattle.ff_theory.specs.Lawful.{lawful_field}
use Rattle.ff_theory.specs.Values.{plane_of}
use Rattle.ff_elem.specs.Elem.{elem_of}
use Rattle.ff_data.specs.Substitution.{plane_at_pair}
use Rattle.ff_theory.specs.Values.{ArePolys}
use Rattle.ff_subst.proofs.values.is_zero_at.Goals as goal

pub value_of_rows-requires : goal.value_of_rows-requires
value_of_rows-requires g c =
    let K = g.K.Ring.elements c.args.alg.now.k in
    record {
      at = c.requires.at;
      pair = c.requires.pair;
      rows = subst (ArePolys K) (sym c.rows.ensures)
          c.requires.f.each;
    }

pub returns : goal.returns
returns g c =
    let K = g.K.Ring.elements c.args.alg.now.k in
    let L = g.K.Ring.lawful c.args.alg.now.k in
    let f = c.args.alg.now.f in
    let F = lawful_field L in
    let G = plane_of K f in
    let X = elem_of L f c.args.pair.now.x in
    let Y = elem_of L f c.args.pair.now.y in
    let value = c.in_ok-value.ensures.value
    ∙ ap (λ rows. plane_at_pair F G X Y (plane_of K rows)) c.rows.ensures in (
      λ t. sym value ∙ c.same.ensures.value.0 t
          ∙ c.in_ok-zero.ensures.value,
      λ e. c.same.ensures.value.1
          (value ∙ e ∙ sym c.in_ok-zero.ensures.value),
    )
