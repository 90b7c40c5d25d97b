use Rattle.std.proofs.Common.{ap, ◌∙◌}
use Rattle.ff_theory.proofs.Constants.{constant_map}
use Rattle.ff_theory.specs.Lawful.{lawful_field}
use Rattle.ff_theory.specs.Values.{plane_of}
use Rattle.ff_elem.specs.Elem.{elem_of, algebra_in}
use Rattle.ff_data.specs.Combinations.{constant_in}
use Rattle.ff_data.proofs.HornerLemmas.{elem-is}
use Rattle.ff_const.specs.Fixed.{less_constant_of}
use Rattle.ff_const.proofs.factors.less_constant.Goals as goal

pub returns : goal.returns
returns g c =
    let K = g.K.Ring.elements c.args.alg.now.k in
    let L = g.K.Ring.lawful c.args.alg.now.k in
    let f = c.args.alg.now.f in
    let A = algebra_in L f in
    let w = elem_of L f c.args.w.now in
    let M = constant_map (lawful_field L) (plane_of K f) in
    elem-is K L f c.add.result (A.add w (elem_of L f c.in_ok-negative.negative))
    (less_constant_of L f w (K.value c.args.c)) c.add.ensures.element c.add.ensures.value
    (ap (A.add w) (c.in_ok-negative.ensures.value ∙ ap (constant_in L f) c.neg.ensures.value
    ∙ M.on_neg (K.value c.args.c)))
