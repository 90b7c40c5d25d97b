use Rattle.std.proofs.Common.{length, ◌∙◌, ap, ap₂, arith}
use Rattle.ff_theory.specs.Values.{poly_of, plane_of, planes_over}
use Rattle.ff_theory.specs.Planes.{row_of}
use Rattle.ff_theory.proofs.Results.{ok_map}
use Rattle.ff_elem.proofs.Quotients.{element-count, denominator-length, sum-value}
use Rattle.ff_elem.proofs.algebra.Alg.add.Goals as goal

pub fraction-requires : goal.fraction-requires
fraction-requires g c =
    let F = g.K.Ring.elements c.args.self.now.k in
    let L = g.K.Ring.lawful c.args.self.now.k in
    let f = c.args.self.now.f in
    let a = element-count F L f c.args.a.now c.args.self.now.plane c.args.self.now.has_y
    c.requires.a in
    let b = element-count F L f c.args.b.now c.args.self.now.plane c.args.self.now.has_y
    c.requires.b in
    record {
      den = c.in_ok-den.ensures.poly;
      nonzero = denominator-length F L f c.in_ok-den.den c.args.a.now c.args.b.now c.requires.a
          c.requires.b c.in_ok-den.ensures.value;
      rows = c.in_ok-num.ensures.each;
      small = omega (
        arith,
        a,
        b,
        c.in_ok-num.ensures.len,
        ap length c.rows-left.ensures,
        ap length
            c.rows-right.ensures,
      );
    }

pub returns-clause-value : goal.returns-clause-value
returns-clause-value g c =
    let F = g.K.Ring.elements c.args.self.now.k in
    let Q = planes_over F in
    ok_map _ _ c.fraction.result
    (λ r h. h
    ∙ sum-value F (g.K.Ring.lawful c.args.self.now.k) c.args.self.now.f c.in_ok-den.den
    c.in_ok-num.num.items c.args.a.now c.args.b.now c.requires.a c.requires.b
    c.in_ok-den.ensures.value
    (c.in_ok-num.ensures.value ∙ ap₂ (λ s t. Q.add (Q.mul (row_of F.ring (poly_of F
    c.args.b.now.den)) (plane_of F s))
    (Q.mul (row_of F.ring (poly_of F c.args.a.now.den)) (plane_of F t))) c.rows-left.ensures
    c.rows-right.ensures))
    c.fraction.ensures.value
