use Rattle.std.proofs.Common.{◌≡◌, ◌+◌, ◌*◌, ◌≤◌, sym, ◌∙◌, ap, subst, arith, All}
use Rattle.std.proofs.lemmas.List.Elements.{All-push}
use Rattle.ff_theory.specs.Poly.{coeff, polynomials}
use Rattle.ff_theory.specs.Vector.{vector_of}
use Rattle.ff_theory.specs.Values.{poly_of, polys_of, IsPoly}
use Rattle.ff_charts.specs.Lattice.{HasShape, flat}
use Rattle.ff_lattice.specs.Vectors.{IsPart}
use Rattle.ff_lattice.proofs.RowResidues.{pushed_at}
use Rattle.ff_lattice.proofs.PlaneVectors.{row_inside, parts_shape, parts_flat}
use Rattle.ff_lattice.proofs.vectors.plane_of_vector.Goals as goal

pub part-requires-clause-room : goal.part-requires-clause-room
part-requires-clause-room g c =
    let h : c.loop-i.i * c.args.l + c.args.l ≤ c.args.n * c.args.l =
    row_inside c.loop-i.i c.args.l c.args.n c.loop-i-test.true in
    omega (arith, h, c.requires.len)

pub loop-i-preserved : goal.loop-i-preserved
loop-i-preserved g c =
    let F = g.K.Ring.elements c.args.k.now in
    let P = polynomials F.ring in
    let e = c.in_ok-push.ensures.items in
    let row = c.in_ok-part.field-0 in
    let old = c.loop-i.rows.items in
    let h = c.loop-i.invariant in
    let Q = IsPart F.ring c.args.l (vector_of F c.args.v.now) in
    record {
      len = omega (arith, c.in_ok-push.ensures.len, h.len);
      each = subst (All (λ p. IsPoly F p)) (sym e)
          (All-push (λ p. IsPoly F p) old row h.each c.in_ok-part.ensures.poly);
      value = λ j l. subst (λ p. Q (j * c.args.l) (coeff P (polys_of F p) j)) (sym e)
          (pushed_at P (λ p. poly_of F p) old row (λ j p. Q (j * c.args.l) p) c.loop-i.i
          h.len h.value c.in_ok-part.ensures.value j l);
    }

pub returns-clause-shape : goal.returns-clause-shape
returns-clause-shape g c =
    let F = g.K.Ring.elements c.args.k.now in
    let all : c.loop-i.i ≡ c.args.n =
    omega (arith, c.loop-i-test.false, c.loop-i.auto.i-end) in
    subst (HasShape F.ring c.args.n c.args.l) (sym c.from_vec.ensures.value)
    (parts_shape (g.K.Ring.lawful c.args.k.now) c.args.v.now c.loop-i.rows.items c.args.n c.args.l
    (c.loop-i.invariant.len ∙ all) c.requires.len
    (λ i l. c.loop-i.invariant.value i (omega (arith, all, l))))

pub returns-clause-value : goal.returns-clause-value
returns-clause-value g c =
    let F = g.K.Ring.elements c.args.k.now in
    let all : c.loop-i.i ≡ c.args.n =
    omega (arith, c.loop-i-test.false, c.loop-i.auto.i-end) in
    λ j. ap (λ N. flat F.ring c.args.l N j) c.from_vec.ensures.value
    ∙ parts_flat (g.K.Ring.lawful c.args.k.now) c.args.v.now c.loop-i.rows.items c.args.n c.args.l
    (c.loop-i.invariant.len ∙ all) c.requires.len
    (λ i l. c.loop-i.invariant.value i (omega (arith, all, l))) j
