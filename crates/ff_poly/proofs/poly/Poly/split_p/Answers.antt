use Rattle.std.proofs.Common.{◌≡◌, ℕ, ◌+◌, ◌*◌, List, [], length, map, get_or, sym, ◌∙◌, ap, subst}
use Rattle.std.proofs.Common.{arith, All}
use Rattle.std.proofs.lemmas.List.{length-map}
use Rattle.std.proofs.lemmas.List.Elements.{All-push}
use Rattle.ff_theory.specs.Ring.{IsElement, power}
use Rattle.ff_theory.specs.Lawful.{lawful_field}
use Rattle.ff_theory.specs.Poly.{coeff, polynomials}
use Rattle.ff_theory.specs.Values.{poly_of, IsPoly, polys_of}
use Rattle.ff_theory.specs.Monomial.{variable}
use Rattle.ff_theory.proofs.Poly.{polynomial_laws}
use Rattle.ff_theory.proofs.Sums.{sum-ext}
use Rattle.ff_theory.proofs.Frobenius.{power-zero}
use Rattle.ff_theory.proofs.ElementPower.{polynomials_characteristic}
use Rattle.ff_theory.proofs.Parts.{parts_sum}
use Rattle.ff_poly.proofs.RowLists.{row-value}
use Rattle.ff_poly.proofs.PthRoots.{family-push, positive-multiple}
use Rattle.ff_poly.proofs.poly.Poly.split_p.Goals as goal

pub part-requires : goal.part-requires
part-requires g c = record {
  c = subst (All (IsElement (g.K.Ring.elements c.args.k.now)))
      (sym c.coeffs.ensures) c.requires.each;
  i = c.loop-i-test.true;
}

pub loop-i-preserved : goal.loop-i-preserved
loop-i-preserved g c =
    let K = g.K.Ring.elements c.args.k.now in
    let old = c.loop-i.parts.items in
    let row = c.in_ok-part.field-0 in
    let e = c.in_ok-push.ensures.items in
    let Q = λ (i : ℕ) (p : List ℕ). (j : ℕ) → power K.ring (coeff K.ring (map K.value p) j)
    K.characteristic ≡ coeff K.ring (map K.value c.args.self.now) (i + j * K.characteristic) in
    let new : Q c.loop-i.i row = λ j. c.in_ok-part.ensures.value j
    ∙ ap (λ p. coeff K.ring (map K.value p) (c.loop-i.i + j * c.characteristic-p.result))
    c.coeffs.ensures
    ∙ ap (λ p. coeff K.ring (map K.value c.args.self.now) (c.loop-i.i + j * p))
    c.characteristic-p.ensures
    in
    record {
      len = omega (arith, c.in_ok-push.ensures.len, c.loop-i.invariant.len);
      each = subst (All (λ p. IsPoly K p)) (sym e)
          (All-push (λ p. IsPoly K p) old row c.loop-i.invariant.each c.in_ok-part.ensures.poly);
      roots = λ i l. subst (λ list. Q i (get_or list i [])) (sym e)
          (family-push Q old row [] c.loop-i.i c.loop-i.invariant.len c.loop-i.invariant.roots new i
          l);
    }

pub returns-clause-value : goal.returns-clause-value
returns-clause-value g c =
    let K = g.K.Ring.elements c.args.k.now in
    let laws = g.met.K.Ring.laws c.args.k.now in
    let tests = g.met.K.Ring.tests c.args.k.now in
    let finite = g.met.K.FiniteField.is_finite_field c.args.k.now in
    let P = polynomials K.ring in
    let q = K.characteristic in
    let parts = c.loop-i.parts.items in
    let p = c.args.self.now in
    let end : q ≡ c.loop-i.i = omega (
      arith,
      c.characteristic-p.ensures,
      c.loop-i-test.false,
      c.loop-i.auto.i-end,
    ) in
    let short = positive-multiple (length p) q finite.least.positive in
    let no_root : (a : K.carrier) → power K.ring a q ≡ K.zero → a
    ≡ K.zero = λ a e. finite.one_root a K.zero
    (e ∙ sym (power-zero K.ring laws q finite.least.positive)) in
    parts_sum K.ring laws tests q (polynomials_characteristic
    (lawful_field (g.K.Ring.lawful c.args.k.now)) q finite.least) no_root (length p) (map K.value p)
    (λ i. map K.value (get_or parts i []))
    (omega (arith, length-map p K.value, short))
    (λ i l. c.loop-i.invariant.roots i (omega (arith, end, l)))
    ∙ sum-ext P (polynomial_laws K.ring laws tests) q
    (λ i. P.mul (power P (variable K.ring) i) (power P (poly_of K (get_or parts i [])) q))
    (λ i. P.mul (power P (variable K.ring) i) (power P (coeff P (polys_of K parts) i) q))
    (λ i l. ap (λ t. P.mul (power P (variable K.ring) i) (power P t q)) (row-value K parts i))
