use Rattle.std.proofs.Common.{◌≡◌, suc, ◌-◌, ◌*◌, length, sym, ◌∙◌, ap, ap₂, subst, arith, All}
use Rattle.std.proofs.lemmas.List.Elements.{All-push}
use Rattle.ff_theory.specs.Poly.{coeff, polynomials}
use Rattle.ff_theory.specs.Reversal.{reversal}
use Rattle.ff_theory.specs.Values.{poly_of, polys_of, IsPoly}
use Rattle.ff_theory.proofs.Coeffs.{coeff-map, coeff-push}
use Rattle.ff_poly.proofs.AtInfinity.{reversed_by_loop}
use Rattle.ff_poly.proofs.infinity.reversed_rows.Goals as goal

pub reversal_of-requires : goal.reversal_of-requires
reversal_of-requires g c =
    let K = g.K.Ring.elements c.args.k.now in
    record {
      poly = subst (IsPoly K) (sym c.index-rows-i.is)
          (c.requires.rows c.loop-i.i c.index-rows-i.result (omega arith));
      room = c.in_ok-degree_bound.ensures.1;
    }

pub loop-i-preserved : goal.loop-i-preserved
loop-i-preserved g c =
    let K = g.K.Ring.elements c.args.k.now in
    let P = polynomials K.ring in
    let old = c.loop-i.reversed.items in
    let rows = c.args.rows.now in
    let row = c.in_ok-reversal_of.field-0 in
    let i = c.loop-i.i in
    let n = length rows - 1 in
    let e = c.in_ok-push.ensures.items in
    let item : poly_of K c.index-rows-i.result ≡ coeff P (polys_of K rows) i = ap (poly_of K)
    c.index-rows-i.is ∙ sym (coeff-map P (poly_of K) rows i c.index-rows-i.result (omega arith)) in
    let v : poly_of K row ≡ reversal K.ring ((n - i) * c.args.e) (coeff P (polys_of K rows) i) =
    c.in_ok-reversal_of.ensures.value ∙ ap₂ (reversal K.ring) c.in_ok-degree_bound.ensures.0 item in
    record {
      len = omega (arith, c.in_ok-push.ensures.len, c.loop-i.invariant.len);
      each = subst (All (λ p. IsPoly K p)) (sym e)
          (All-push (λ p. IsPoly K p) old row c.loop-i.invariant.each
          c.in_ok-reversal_of.ensures.poly);
      rows = λ j l. ap (λ p. coeff P (polys_of K p) j) e
          ∙ coeff-push P (λ p. poly_of K p) old row
          (λ j. reversal K.ring ((n - j) * c.args.e) (coeff P (polys_of K rows) j)) i
          c.loop-i.invariant.len c.loop-i.invariant.rows v j l;
    }

pub returns-clause-value : goal.returns-clause-value
returns-clause-value g c =
    let K = g.K.Ring.elements c.args.k.now in
    let end : c.loop-i.i ≡ suc (length c.args.rows.now - 1) = omega arith in
    reversed_by_loop K.ring (g.met.K.Ring.laws c.args.k.now) (g.met.K.Ring.tests c.args.k.now)
    (λ p. poly_of K p) c.args.rows.now c.loop-i.reversed.items (length c.args.rows.now - 1) c.args.e
    (c.loop-i.invariant.len ∙ end) (λ i l. c.loop-i.invariant.rows i (omega (arith, end, l)))
