use Rattle.std.proofs.Common.{◌≡◌, ℕ, ◌∙◌, ap, arith}
use Rattle.ff_theory.specs.Lawful.{lawful_field}
use Rattle.ff_theory.specs.Planes.{row_of}
use Rattle.ff_theory.specs.Poly.{Poly}
use Rattle.ff_theory.specs.Vector.{vector_of}
use Rattle.ff_theory.specs.Values.{plane_of}
use Rattle.ff_theory.specs.Algebra.{value_of}
use Rattle.ff_elem.specs.Elem.{algebra_in, elem_of}
use Rattle.ff_basis.specs.Blocks.{block}
use Rattle.ff_data.proofs.ChartLaws.{algebra_laws}
use Rattle.ff_basis.proofs.Pieces.{row_room}
use Rattle.ff_basis.proofs.ReadBack.{partial_step, partial_end}
use Rattle.ff_basis.proofs.reading.block_sum.Goals as goal

pub next_sum-requires-clause-room : goal.next_sum-requires-clause-room
next_sum-requires-clause-room g c =
    let room = row_room c.args.n c.args.l c.loop-b.b c.loop-b-test.true in
    omega (arith, room, c.requires.v.len)

pub loop-b-preserved : goal.loop-b-preserved
loop-b-preserved g c =
    let F = g.K.Ring.elements c.args.alg.now.k in
    let L = g.K.Ring.lawful c.args.alg.now.k in
    let f = c.args.alg.now.f in
    let A = algebra_in L f in
    let theta = elem_of L f c.args.theta.now in
    let value = λ (p : Poly F.ring). value_of (lawful_field L) (plane_of F f) (row_of F.ring p) in
    let terms = λ (b : ℕ). value (block F.ring c.args.chart
    (vector_of F c.args.v.now) c.args.l b) in
    record {
      sum = record {
        element = c.in_ok-sum-2.ensures.element;
        value = c.in_ok-sum-2.ensures.value
            ∙ ap (A.add (terms c.loop-b.b))
            (ap (A.mul theta) c.loop-b.invariant.sum.value)
            ∙ partial_step A (algebra_laws F L f c.args.alg.now.plane c.args.alg.now.has_y) theta
            terms c.args.n c.loop-b.b c.loop-b-test.true;
      };
    }

pub returns : goal.returns
returns g c =
    let F = g.K.Ring.elements c.args.alg.now.k in
    let L = g.K.Ring.lawful c.args.alg.now.k in
    let f = c.args.alg.now.f in
    let A = algebra_in L f in
    let theta = elem_of L f c.args.theta.now in
    let value = λ (p : Poly F.ring). value_of (lawful_field L) (plane_of F f) (row_of F.ring p) in
    let terms = λ (b : ℕ). value (block F.ring c.args.chart
    (vector_of F c.args.v.now) c.args.l b) in
    let all : c.loop-b.b ≡ c.args.n = omega (arith, c.loop-b-test.false, c.loop-b.auto.b-end) in
    record {
      element = c.loop-b.invariant.sum.element;
      value = c.loop-b.invariant.sum.value
          ∙ partial_end A (algebra_laws F L f c.args.alg.now.plane c.args.alg.now.has_y) theta terms
          c.args.n c.loop-b.b all;
    }
