use Rattle.std.proofs.Common.{arith, length, take, drop, refl, ◌∙◌, ap}
use Rattle.ff_theory.specs.Poly.{Poly}
use Rattle.ff_theory.specs.Division.{IsDivision}
use Rattle.ff_theory.specs.Values.{poly_of}
use Rattle.ff_poly.proofs.Refill.{refill-whole}
use Rattle.ff_poly.proofs.LongDivision.{division_parts, division_lengths}
use Rattle.ff_poly.proofs.poly.Poly.into_remainder.Goals as goal

pub returns-clause-division : goal.returns-clause-division
returns-clause-division g c =
    let K = g.K.Ring.elements c.args.k.now in
    let row = c.divide_row-cut.new.row in
    let n = c.divide_row-cut.result in
    let whole = refill-whole c.self.inside.items.items row
    (c.divide_row-cut.ensures.len ∙ ap length c.as_mut_slice.ensures.value) in (
      poly_of K (drop n row),
      division_parts K.ring (g.met.K.Ring.laws c.args.k.now) (g.met.K.Ring.tests c.args.k.now)
          K.value c.args.self c.as_mut_slice.result.now row c.args.b.now c.coeffs.result.now n
          (poly_of K (drop n row)) (poly_of K c.trim.result)
          (c.as_mut_slice.ensures.value ∙ c.self.view_is) c.coeffs.ensures c.requires.b.canonical
          c.divide_row-cut.ensures.smaller (omega
          (arith, c.divide_row-cut.ensures.within, c.divide_row-cut.ensures.len))
          c.divide_row-cut.ensures.value
          refl
          (c.trim.ensures.value ∙ ap (poly_of K) (c.truncate.ensures.items ∙ ap (take n) whole)),
    )

pub returns-clause-smaller : goal.returns-clause-smaller
returns-clause-smaller g c =
    let K = g.K.Ring.elements c.args.k.now in
    let d : (q : Poly K.ring) × IsDivision K.ring (poly_of K c.args.self) (poly_of K c.args.b.now) q
    (poly_of K c.trim.result) = returns-clause-division g c in
    division_lengths K.ring (g.met.K.Ring.laws c.args.k.now) (g.met.K.Ring.tests c.args.k.now)
    K.value c.args.self c.args.b.now c.trim.result d.0 c.requires.b.canonical
    c.trim.ensures.poly.canonical d.1
