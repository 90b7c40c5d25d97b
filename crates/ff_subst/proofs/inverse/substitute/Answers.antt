use Rattle.ff_subst.proofs.inverse.substitute.Goals as goal

pub power_list-requires : goal.power_list-requires
power_list-requires g c =
    record { x = c.requires.pair.x; some = c.element_count.ensures }

pub value_at-requires : goal.value_at-requires
value_at-requires g c =
    record {
      at = c.in_ok-at.ensures;
      pair = c.requires.pair;
      den = c.requires.den;
      num = c.requires.num;
    }

pub returns-clause-element : goal.returns-clause-element
returns-clause-element g c = c.value_at.ensures.element

pub returns-clause-value : goal.returns-clause-value
returns-clause-value g c = c.value_at.ensures.value

pub returns-clause-none : goal.returns-clause-none
returns-clause-none g c = c.value_at.ensures.none
