use Rattle.ff_elem.specs.Elem.{elem_of, algebra_in}
use Rattle.ff_const.specs.Fixed.{IsInverted, less_constant_of, product_below}
use Rattle.ff_const.proofs.factors.factors_from.Given as goal

abbrev pub invariant-loop-i : goal.invariant-loop-i
invariant-loop-i g l =
    let K = g.K.Ring.elements l.alg.k in
    let L = g.K.Ring.lawful l.alg.k in
    let f = l.alg.f in
    record {
      others : IsInverted L f (product_below (algebra_in L f) l.i
          (λ i. less_constant_of L f (elem_of L f l.w) (K.element_at i)));
    }
