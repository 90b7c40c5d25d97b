use Rattle.std.proofs.Common.{◌≡◌, ◌+◌, ◌<◌, length, map, refl, ◌∙◌, ap, arith}
use Rattle.std.proofs.lemmas.List.Elements.{All-set}
use Rattle.std.proofs.lemmas.List.{length-set}
use Rattle.ff_theory.specs.Ring.{IsElement}
use Rattle.ff_theory.specs.Poly.{coeff}
use Rattle.ff_theory.proofs.InPlace.{written-below, written-above, written}
use Rattle.ff_theory.proofs.Values.{entry_at}
use Rattle.ff_poly.proofs.Negative.{neg_by_coeffs, neg-past}
use Rattle.ff_poly.proofs.coefficients.negate.Goals as goal

pub loop-i-preserved : goal.loop-i-preserved
loop-i-preserved g c =
    let K = g.K.Ring.elements c.args.k.now in
    let i = c.loop-i.i in
    let old = map K.value c.args.list.now in
    let bound : i < length c.loop-i.list = omega (arith, c.loop-i.invariant.len) in
    let v : K.value c.neg.result ≡ K.neg (coeff K.ring old i) =
    c.neg.ensures.value ∙ ap K.neg (entry_at K c.loop-i.list i 0 bound
    ∙ c.loop-i.invariant.above i (omega arith))
    in
    record {
      len = length-set c.loop-i.list i c.neg.result ∙ c.loop-i.invariant.len;
      each = All-set (IsElement K) c.loop-i.list i c.neg.result c.neg.ensures.element
          c.loop-i.invariant.each;
      below = written-below K.ring K.value c.loop-i.list i (i + 1) c.neg.result
          (λ i. K.neg (coeff K.ring old i)) bound refl c.loop-i.invariant.below v;
      above = written-above K.ring K.value c.loop-i.list i (i + 1) c.neg.result (coeff K.ring old)
          refl c.loop-i.invariant.above;
    }

pub returns-clause-value : goal.returns-clause-value
returns-clause-value g c =
    let K = g.K.Ring.elements c.args.k.now in
    let laws = g.met.K.Ring.laws c.args.k.now in
    let old = map K.value c.args.list.now in
    neg_by_coeffs K.ring laws (g.met.K.Ring.tests c.args.k.now) old (map K.value c.loop-i.list)
    (written K.ring K.value c.loop-i.list c.loop-i.i (λ i. K.neg (coeff K.ring old i))
    (coeff K.ring old) c.loop-i.invariant.below c.loop-i.invariant.above
    (λ i l. neg-past K.ring laws K.value c.args.list.now i
    (omega (arith, c.loop-i.invariant.len, l))))
