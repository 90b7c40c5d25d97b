use Rattle.std.proofs.Common.{◌≡◌, ◌-◌, length, map, refl, sym, ◌∙◌, ap, ap₂, subst, arith, All}
use Rattle.std.proofs.lemmas.List.Elements.{All-push}
use Rattle.ff_theory.specs.Ring.{power}
use Rattle.ff_theory.specs.Poly.{coeff, polynomials}
use Rattle.ff_theory.proofs.Poly.{polynomial_laws, polynomial_tests}
use Rattle.ff_theory.proofs.Coeffs.{coeff-push, coeff-map}
use Rattle.ff_theory.specs.Values.{poly_of, IsPoly}
use Rattle.ff_poly.proofs.MonicForm.{monic_by_loop, pushed-below, pushed-at}
use Rattle.ff_poly.proofs.monic.monic_rows.Goals as goal

pub monic_row-requires : goal.monic_row-requires
monic_row-requires g c =
    let K = g.K.Ring.elements c.args.k.now in
    let rows = c.args.rows.now in
    record {
      row = subst (IsPoly K) (sym c.index-rows-i.is)
          (c.requires.plane.each c.loop-i.i c.index-rows-i.result (omega arith));
      lead = subst (IsPoly K) (sym c.index-rows-n.is)
          (c.requires.plane.each (length rows - 1) c.index-rows-n.result
          (omega (arith, c.requires.has_y)));
    }

pub loop-i-preserved : goal.loop-i-preserved
loop-i-preserved g c =
    let K = g.K.Ring.elements c.args.k.now in
    let P = polynomials K.ring in
    let rows = c.args.rows.now in
    let n = length rows - 1 in
    let a = map (λ p. poly_of K p) rows in
    let e = c.in_ok-push.ensures.items in
    let i = c.loop-i.i in
    let row = c.in_ok-monic_row.field-0 in
    let item = ap (poly_of K) c.index-rows-i.is ∙ sym
    (coeff-map P (λ p. poly_of K p) rows i c.index-rows-i.result (omega arith)) in
    let lead = ap (poly_of K) c.index-rows-n.is ∙ sym
    (coeff-map P (λ p. poly_of K p) rows n c.index-rows-n.result (omega (arith, c.requires.has_y)))
    in
    let v : poly_of K row ≡ (polynomials K.ring).mul (coeff P a i)
    (power P (coeff P a n) (n - 1 - i)) =
    c.in_ok-monic_row.ensures.value ∙ ap₂
    (λ x y. (polynomials K.ring).mul x (power P y (n - 1 - i))) item lead
    in
    record {
      each = subst (All (λ p. IsPoly K p)) (sym e)
          (All-push (λ p. IsPoly K p) c.loop-i.form.items row c.loop-i.invariant.each
          c.in_ok-monic_row.ensures.poly);
      length = omega (arith, c.in_ok-push.ensures.len, c.loop-i.invariant.length);
      rows = λ j l. ap (λ p. coeff P (map (λ p. poly_of K p) p) j) e
          ∙ coeff-push P (λ p. poly_of K p) c.loop-i.form.items row
          (λ j. (polynomials K.ring).mul (coeff P a j) (power P (coeff P a n) (n - 1 - j))) i
          c.loop-i.invariant.length c.loop-i.invariant.rows v j l;
    }

pub returns-clause-each : goal.returns-clause-each
returns-clause-each g c =
    let K = g.K.Ring.elements c.args.k.now in
    subst (All (λ p. IsPoly K p)) (sym c.in_ok-push-2.ensures.items)
    (All-push (λ p. IsPoly K p) c.loop-i.form.items c.in_ok-one.field-0 c.loop-i.invariant.each
    c.in_ok-one.ensures.poly)

pub returns-clause-value : goal.returns-clause-value
returns-clause-value g c =
    let K = g.K.Ring.elements c.args.k.now in
    let laws = g.met.K.Ring.laws c.args.k.now in
    let tests = g.met.K.Ring.tests c.args.k.now in
    let P = polynomials K.ring in
    let rows = c.args.rows.now in
    let n = length rows - 1 in
    let form = c.loop-i.form.items in
    let one = c.in_ok-one.field-0 in
    let e = c.in_ok-push-2.ensures.items in
    let end : c.loop-i.i ≡ n = omega arith in
    monic_by_loop P (polynomial_laws K.ring laws tests) (polynomial_tests K.ring laws tests)
    (λ p. poly_of K p) rows c.push-2.new.self.items (coeff P (map (λ p. poly_of K p) rows) n) n
    (omega (arith, c.requires.has_y)) (omega
    (arith, c.in_ok-push-2.ensures.len, c.loop-i.invariant.length, end)) c.requires.plane.canonical
    refl
    (λ i l. ap (λ p. coeff P (map (λ p. poly_of K p) p) i) e
    ∙ pushed-below P (λ p. poly_of K p) form one i
    (omega (arith, c.loop-i.invariant.length, end, l))
    ∙ c.loop-i.invariant.rows i (omega (arith, end, l)))
    (ap (λ p. coeff P (map (λ p. poly_of K p) p) n) e
    ∙ pushed-at P (λ p. poly_of K p) form one n (omega (arith, c.loop-i.invariant.length, end))
    ∙ c.in_ok-one.ensures.value)
