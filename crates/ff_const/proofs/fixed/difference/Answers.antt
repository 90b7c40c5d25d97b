use Rattle.std.proofs.Common.{ap, ap₂, ◌∙◌}
use Rattle.ff_theory.specs.Ring.{power}
use Rattle.ff_elem.specs.Elem.{elem_of, algebra_in}
use Rattle.ff_data.proofs.HornerLemmas.{elem-is}
use Rattle.ff_const.proofs.fixed.difference.Goals as goal

pub returns : goal.returns
returns g c =
    let K = g.K.Ring.elements c.args.alg.now.k in
    let L = g.K.Ring.lawful c.args.alg.now.k in
    let f = c.args.alg.now.f in
    let A = algebra_in L f in
    let v = elem_of L f c.args.w.now in
    elem-is K L f c.add.result
    (A.add (elem_of L f c.in_ok-power.power) (elem_of L f c.in_ok-negative.negative))
    (A.add (power A v K.size) (A.neg v)) c.add.ensures.element c.add.ensures.value
    (ap₂ A.add (c.in_ok-power.ensures.value ∙ ap (power A v) c.count.ensures)
    c.in_ok-negative.ensures.value)
