use Rattle.ff_text.proofs.Parts.{equation_height, equation_answers}
use Rattle.ff_text.proofs.job.equation.Goals as goal

pub plane-requires-clause-height : goal.plane-requires-clause-height
plane-requires-clause-height c = (equation_height c.args.sum.now c.deref.result.now
    c.deref.ensures.value c.requires.within).1

pub returns : goal.returns
returns c = equation_answers c.args.k.now.number c.args.sum.now c.plane.result c.deref.result.now
    c.deref.ensures.value c.plane.ensures
