use Rattle.std.proofs.Common.{◌≡◌, ◌+◌, ◌<◌, length, map, refl, ◌∙◌, ap, arith}
use Rattle.std.proofs.lemmas.List.Elements.{All-set}
use Rattle.std.proofs.lemmas.List.{length-set, length-map}
use Rattle.ff_theory.specs.Ring.{IsElement}
use Rattle.ff_theory.specs.Poly.{coeff, list_scale}
use Rattle.ff_theory.proofs.InPlace.{written-below, written-above, written}
use Rattle.ff_theory.specs.Monomial.{raised}
use Rattle.ff_theory.proofs.Values.{entry}
use Rattle.ff_theory.proofs.Monomial.{add_monomial_by_coeffs, add_monomial-below, add_monomial-past}
use Rattle.ff_theory.proofs.Monomial.{add_monomial-at}
use Rattle.ff_alg.proofs.Ring.add_scaled.Goals as goal

pub loop-j-init : goal.loop-j-init
loop-j-init g c =
    let K = g.Self.Ring.elements c.args.self.now in
    record {
      len = refl;
      each = c.requires.sum;
      below = λ i l. add_monomial-below K.ring (g.met.Self.Ring.laws c.args.self.now)
          (g.met.Self.Ring.tests c.args.self.now) c.args.at (K.value c.args.c)
          (coeff K.ring (map K.value c.args.sum.now) i) (map K.value c.args.b.now) i
          (omega (arith, l));
      above = λ i l. refl;
    }

pub loop-j-preserved : goal.loop-j-preserved
loop-j-preserved g c =
    let K = g.Self.Ring.elements c.args.self.now in
    let i = c.args.at + c.loop-j.j in
    let b = map K.value c.args.b.now in
    let old = map K.value c.args.sum.now in
    let bound : i < length c.loop-j.sum = omega (arith, c.loop-j.invariant.len) in
    let next : c.args.at + (c.loop-j.j + 1) ≡ i + 1 = omega arith in
    let v : K.value c.add.result ≡ K.add (coeff K.ring old i)
    (K.mul (K.value c.args.c) (coeff K.ring b c.loop-j.j)) =
    c.add.ensures.value ∙ ap (λ t. K.add t (K.value c.mul.result))
    (entry K c.loop-j.sum i c.index-sum-at.result bound c.index-sum-at.is
    ∙ c.loop-j.invariant.above i (omega arith))
    ∙ ap (K.add (coeff K.ring old i)) (c.mul.ensures.value
    ∙ ap (K.mul (K.value c.args.c)) (entry K c.args.b.now c.loop-j.j c.index-b-j.result
    (omega arith) c.index-b-j.is))
    in
    record {
      len = length-set c.loop-j.sum i c.add.result ∙ c.loop-j.invariant.len;
      each = All-set (IsElement K) c.loop-j.sum i c.add.result c.add.ensures.element
          c.loop-j.invariant.each;
      below = written-below K.ring K.value c.loop-j.sum i (c.args.at + (c.loop-j.j + 1))
          c.add.result (λ i. K.add (coeff K.ring old i)
          (coeff K.ring (raised K.ring c.args.at (list_scale K.ring (K.value c.args.c) b)) i)) bound
          next c.loop-j.invariant.below
          (v ∙ add_monomial-at K.ring (g.met.Self.Ring.laws c.args.self.now)
          (g.met.Self.Ring.tests c.args.self.now) c.args.at (K.value c.args.c) (coeff K.ring old i)
          b c.loop-j.j i refl);
      above = written-above K.ring K.value c.loop-j.sum i (c.args.at + (c.loop-j.j + 1))
          c.add.result (coeff K.ring old) next c.loop-j.invariant.above;
    }

pub returns-clause-value : goal.returns-clause-value
returns-clause-value g c =
    let K = g.Self.Ring.elements c.args.self.now in
    let laws = g.met.Self.Ring.laws c.args.self.now in
    let tests = g.met.Self.Ring.tests c.args.self.now in
    let b = map K.value c.args.b.now in
    let old = map K.value c.args.sum.now in
    let len : length b ≡ length c.args.b.now = length-map c.args.b.now K.value in
    add_monomial_by_coeffs K.ring laws tests c.args.at (K.value c.args.c) old b
    (map K.value c.loop-j.sum)
    (written K.ring K.value c.loop-j.sum (c.args.at + c.loop-j.j)
    (λ i. K.add (coeff K.ring old i) (coeff K.ring
    (raised K.ring c.args.at (list_scale K.ring (K.value c.args.c) b)) i)) (coeff K.ring old)
    c.loop-j.invariant.below c.loop-j.invariant.above
    (λ i l. add_monomial-past K.ring laws tests c.args.at (K.value c.args.c) (coeff K.ring old i) b
    i (omega (arith, len, l))))
