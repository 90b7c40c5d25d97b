use Rattle.ff_elem.specs.Elem.{elem_of}
use Rattle.ff_subst.proofs.values.value_at.Goals as goal

pub value_of_poly-requires : goal.value_of_poly-requires
value_of_poly-requires g c =
    record { at = c.requires.at.list; p = c.requires.den }

pub quotient-requires : goal.quotient-requires
quotient-requires g c =
    let L = g.K.Ring.lawful c.args.alg.now.k in
    let X = elem_of L c.args.alg.now.f c.args.pair.now.x in
    record {
      at = c.requires.at;
      pair = c.requires.pair;
      num = c.requires.num;
      den = record {
        element = c.in_ok-den.ensures.element;
        value = c.in_ok-den.ensures.value X c.requires.at;
      };
    }

pub returns-clause-element : goal.returns-clause-element
returns-clause-element g c = c.quotient.ensures.element

pub returns-clause-value : goal.returns-clause-value
returns-clause-value g c = c.quotient.ensures.value

pub returns-clause-none : goal.returns-clause-none
returns-clause-none g c = c.quotient.ensures.none
