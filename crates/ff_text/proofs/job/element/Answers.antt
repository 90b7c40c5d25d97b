use Rattle.ff_text.proofs.Parts.{element_height, element_answers}
use Rattle.ff_text.proofs.job.element.Goals as goal

pub plane-requires-clause-height : goal.plane-requires-clause-height
plane-requires-clause-height c = (element_height c.args.sum.now c.deref.result.now
    c.deref.ensures.value c.requires.within).1

pub returns : goal.returns
returns c =
    element_answers c.args.k.now.number c.args.sum.now
    (record { num = c.in_ok-num.num; den = c.in_ok-den.den }) c.deref.result.now
    c.deref-2.result.now c.deref.ensures.value c.deref-2.ensures.value c.in_ok-num.ensures
    c.in_ok-den.ensures
