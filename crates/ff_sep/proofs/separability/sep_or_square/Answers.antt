use Rattle.ff_sep.proofs.Derivatives.{separable-if-inverse}
use Rattle.ff_sep.proofs.separability.sep_or_square.Goals as goal

pub returns-in-Ok-clause-separable : goal.returns-in-Ok-clause-separable
returns-in-Ok-clause-separable g c =
    separable-if-inverse (g.K.Ring.elements c.args.alg.now.k)
    (g.K.Ring.lawful c.args.alg.now.k) c.args.alg.now.f c.args.alg.now.plane
    c.args.alg.now.has_y c.args.value.now c.requires.value c.in-Ok.w c.in-Ok.ensures.inverse
