use Rattle.std.proofs.Common.{sym, subst, ap, ◌∙◌, ◌≡◌, ◌+◌, length, arith}
use Rattle.ff_theory.specs.Values.{poly_of, ArePolys, plane_of}
use Rattle.ff_theory.specs.Planes.{planes, row_of}
use Rattle.ff_theory.specs.Lawful.{lawful_field}
use Rattle.ff_elem.proofs.PolyLemmas.{nonzero-length}
use Rattle.ff_elem.proofs.Quotients.{element-nonzero, element-count}
use Rattle.ff_data.proofs.Denominators.{numerator-value}
use Rattle.ff_data.proofs.vectors.numerator.Goals as goal

pub divide-requires : goal.divide-requires
divide-requires g c =
    let K = g.K.Ring.elements c.args.alg.now.k in
    let L = g.K.Ring.lawful c.args.alg.now.k in
    let f = c.args.alg.now.f in
    let w = c.args.w.now in
    record {
      a = c.requires.den.each;
      b = c.requires.w.den;
      nonzero = nonzero-length K L w.den (element-nonzero K L f w c.requires.w);
    }

pub multiples-requires : goal.multiples-requires
multiples-requires g c =
    let K = g.K.Ring.elements c.args.alg.now.k in
    record {
      c = c.in_ok-factor.ensures.quotient;
      rows = subst (ArePolys K) (sym c.rows.ensures) c.requires.w.num;
    }

pub returns : goal.returns
returns g c =
    let K = g.K.Ring.elements c.args.alg.now.k in
    let L = g.K.Ring.lawful c.args.alg.now.k in
    let f = c.args.alg.now.f in
    let w = c.args.w.now in
    let P = planes (lawful_field L) in
    let factor = c.in_ok-factor.factor in
    let rows = c.in_ok-rows.ensures in
    let n : length w.num + 1 ≡ length f = element-count K L f w c.args.alg.now.plane
    c.args.alg.now.has_y c.requires.w in
    record {
      plane = c.from_vec.ensures.plane;
      few = omega (arith, c.from_vec.ensures.len, rows.len, ap length c.rows.ensures, n);
      value = numerator-value K L f c.args.den.now factor (poly_of K c.in_ok-factor._zero) w
          c.from_vec.result c.requires.w c.in_ok-factor.ensures.division c.requires.multiple
          (c.from_vec.ensures.value ∙ rows.value ∙ ap (λ r. P.mul (row_of K.ring (poly_of K factor))
          (plane_of K r)) c.rows.ensures);
    }
