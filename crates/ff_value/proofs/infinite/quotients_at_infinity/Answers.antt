use Rattle.ff_theory.specs.Values.{plane_of}
use Rattle.ff_theory.proofs.Results.{ok_map}
use Rattle.ff_value.proofs.infinite.quotients_at_infinity.Goals as goal

pub quotients_over-requires : goal.quotients_over-requires
quotients_over-requires g c = record {
  den = c.in_ok-den.ensures.den;
  nonzero = c.in_ok-den.ensures.nonzero;
  plane = c.in_ok-den.ensures.plane;
  few = c.in_ok-den.ensures.few;
}

pub returns : goal.returns
returns g c =
    ok_map _ _ c.quotients_over.result
    (λ r h. record {
      den = c.in_ok-den.den;
      poly = c.in_ok-den.ensures.den;
      nonzero = c.in_ok-den.ensures.nonzero;
      plane = plane_of (g.K.Ring.elements c.args.alg.now.k) c.in_ok-den.plane;
      over = c.in_ok-den.ensures.over;
      quotients = h;
    }) c.quotients_over.ensures
