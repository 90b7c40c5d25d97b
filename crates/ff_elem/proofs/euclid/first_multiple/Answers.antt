use Rattle.std.proofs.Common.{◌∙◌}
use Rattle.ff_theory.proofs.Results.{ok_map}
use Rattle.ff_elem.proofs.RowLemmas.{single-polys}
use Rattle.ff_elem.proofs.EuclidSteps.{one-plane}
use Rattle.ff_elem.proofs.euclid.first_multiple.Goals as goal

pub multiple_of-requires : goal.multiple_of-requires
multiple_of-requires g c =
    record {
      value = c.requires;
      factor = single-polys (g.K.Ring.elements c.args.k.now)
          c.deref.result.now c.in_ok-one.one (c.deref.ensures.value ∙ c.in_ok-rows.ensures)
          c.in_ok-one.ensures.poly;
    }

pub returns-clause-factor : goal.returns-clause-factor
returns-clause-factor g c =
    let F = g.K.Ring.elements c.args.k.now in
    ok_map _ _ c.multiple_of.result
    (λ r h. h ∙ one-plane F (g.K.Ring.lawful c.args.k.now) c.deref.result.now c.in_ok-one.one
    (c.deref.ensures.value ∙ c.in_ok-rows.ensures) c.in_ok-one.ensures.value)
    c.multiple_of.ensures.factor
