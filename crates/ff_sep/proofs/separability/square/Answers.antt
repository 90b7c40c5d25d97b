use Rattle.ff_sep.proofs.Derivatives.{derivative-nonzero, square-factors}
use Rattle.ff_sep.proofs.separability.square.Goals as goal

pub factors-requires-clause-nonzero : goal.factors-requires-clause-nonzero
factors-requires-clause-nonzero g c =
    derivative-nonzero (g.K.Ring.elements c.args.alg.now.k) (g.K.Ring.lawful c.args.alg.now.k)
    c.args.alg.now.f c.args.alg.now.plane c.args.alg.now.has_y c.args.value.now c.requires.value
    c.requires.nonzero

pub returns-in-Ok : goal.returns-in-Ok
returns-in-Ok g c = (
  c.requires.nonzero,
  square-factors (g.K.Ring.elements c.args.alg.now.k) (g.K.Ring.lawful c.args.alg.now.k)
      c.args.alg.now.f c.args.alg.now.plane c.args.alg.now.has_y c.args.value.now
      c.requires.value c.in-Ok.g c.in-Ok.h c.in-Ok.ensures.factors,
)
