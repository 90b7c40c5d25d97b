use Rattle.ff_elem.specs.Elem.{elem_of}
use Rattle.ff_subst.proofs.values.takes.Goals as goal

pub value_of_poly-requires : goal.value_of_poly-requires
value_of_poly-requires g c =
    record { at = c.requires.at.list; p = c.requires.den }

pub takes_over-requires : goal.takes_over-requires
takes_over-requires g c =
    let L = g.K.Ring.lawful c.args.alg.now.k in
    let X = elem_of L c.args.alg.now.f c.args.pair.now.x in
    record {
      at = c.requires.at;
      pair = c.requires.pair;
      num = c.requires.num;
      v = c.requires.v;
      den = record {
        element = c.in_ok-den.ensures.element;
        value = c.in_ok-den.ensures.value X c.requires.at;
      };
    }

pub returns : goal.returns
returns g c = c.takes_over.ensures
