use Rattle.std.proofs.Common.{◌≡◌, ◌+◌, ◌<◌, length, map, refl, sym, ◌∙◌, ap, arith, get_or}
use Rattle.std.proofs.lemmas.List.Elements.{All-set}
use Rattle.std.proofs.lemmas.List.{length-set}
use Rattle.ff_theory.specs.Ring.{IsElement}
use Rattle.ff_theory.specs.Poly.{coeff}
use Rattle.ff_theory.proofs.Coeffs.{coeff-past, add_by_coeffs}
use Rattle.ff_theory.proofs.InPlace.{written-below, written-above, written}
use Rattle.ff_theory.proofs.Values.{entry_at}
use Rattle.ff_poly.proofs.coefficients.add_to.Goals as goal

pub loop-i-preserved : goal.loop-i-preserved
loop-i-preserved g c =
    let K = g.K.Ring.elements c.args.k.now in
    let i = c.loop-i.i in
    let old = map K.value c.args.sum.now in
    let b = map K.value c.args.b.now in
    let bound : i < length c.loop-i.sum = omega (arith, c.loop-i.invariant.len) in
    let v : K.value c.add.result ≡ K.add (coeff K.ring old i) (coeff K.ring b i) =
    c.add.ensures.value ∙ ap (λ t. K.add t (K.value (get_or c.args.b.now i 0)))
    (entry_at K c.loop-i.sum i 0 bound ∙ c.loop-i.invariant.above i (omega arith))
    ∙ ap (K.add (coeff K.ring old i)) (entry_at K c.args.b.now i 0 (omega arith))
    in
    record {
      len = length-set c.loop-i.sum i c.add.result ∙ c.loop-i.invariant.len;
      each = All-set (IsElement K) c.loop-i.sum i c.add.result c.add.ensures.element
          c.loop-i.invariant.each;
      below = written-below K.ring K.value c.loop-i.sum i (i + 1) c.add.result
          (λ i. K.add (coeff K.ring old i) (coeff K.ring b i)) bound refl c.loop-i.invariant.below
          v;
      above = written-above K.ring K.value c.loop-i.sum i (i + 1) c.add.result (coeff K.ring old)
          refl c.loop-i.invariant.above;
    }

pub returns-clause-value : goal.returns-clause-value
returns-clause-value g c =
    let K = g.K.Ring.elements c.args.k.now in
    let laws = g.met.K.Ring.laws c.args.k.now in
    let old = map K.value c.args.sum.now in
    let b = map K.value c.args.b.now in
    add_by_coeffs K.ring laws (g.met.K.Ring.tests c.args.k.now) old b (map K.value c.loop-i.sum)
    (written K.ring K.value c.loop-i.sum c.loop-i.i
    (λ i. K.add (coeff K.ring old i) (coeff K.ring b i)) (coeff K.ring old) c.loop-i.invariant.below
    c.loop-i.invariant.above
    (λ i l. sym (ap (K.add (coeff K.ring old i))
    (coeff-past K.ring K.value c.args.b.now i (omega (arith, l)))
    ∙ laws.add_zero (coeff K.ring old i))))
