use Rattle.ff_theory.specs.Lawful.{lawful_field}
use Rattle.ff_theory.specs.Planes.{row_of}
use Rattle.ff_theory.specs.Vector.{vector_of}
use Rattle.ff_theory.specs.Values.{plane_of}
use Rattle.ff_theory.specs.Algebra.{value_of}
use Rattle.ff_elem.specs.Elem.{algebra_in, elem_of, ElemIs}
use Rattle.ff_basis.specs.Blocks.{block}
use Rattle.ff_basis.proofs.ReadBack.{partial_sum}
use Rattle.ff_basis.proofs.reading.block_sum.Given as goal

abbrev pub invariant-loop-b : goal.invariant-loop-b
invariant-loop-b g l =
    let F = g.K.Ring.elements l.alg.k in
    let L = g.K.Ring.lawful l.alg.k in
    let f = l.alg.f in
    record {
      sum : ElemIs L f (partial_sum (algebra_in L f) (elem_of L f l.theta)
          (λ b. value_of (lawful_field L) (plane_of F f)
          (row_of F.ring (block F.ring l.chart (vector_of F l.v) l.l b))) l.n l.b) l.sum;
    }
