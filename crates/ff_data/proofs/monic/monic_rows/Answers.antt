use Rattle.std.proofs.Common.{◌≡◌, ◌-◌, length, refl, sym, ◌∙◌, ap, ap₂, subst, arith}
use Rattle.std.proofs.lemmas.List.Elements.{All-push}
use Rattle.ff_theory.specs.Ring.{power}
use Rattle.ff_theory.specs.Poly.{coeff, polynomials}
use Rattle.ff_theory.proofs.Poly.{polynomial_laws, polynomial_tests}
use Rattle.ff_theory.proofs.Coeffs.{coeff-push, coeff-map}
use Rattle.ff_theory.specs.Values.{poly_of, polys_of, IsPoly, ArePolys}
use Rattle.ff_poly.proofs.MonicForm.{monic_by_loop, pushed-below, pushed-at}
use Rattle.ff_data.proofs.monic.monic_rows.Goals as goal

pub times_power-requires : goal.times_power-requires
times_power-requires g c =
    let F = g.K.Ring.elements c.args.k.now in
    let rows = c.args.rows.now in
    record {
      row = subst (IsPoly F) (sym c.index-rows-i.is) (c.requires.plane.each c.loop-i.i
          c.index-rows-i.result (omega arith));
      base = subst (IsPoly F) (sym c.index-rows-n.is) (c.requires.plane.each (length rows - 1)
          c.index-rows-n.result (omega (arith, c.requires.has_y)));
    }

pub loop-i-preserved : goal.loop-i-preserved
loop-i-preserved g c =
    let F = g.K.Ring.elements c.args.k.now in
    let P = polynomials F.ring in
    let rows = c.args.rows.now in
    let n = length rows - 1 in
    let e = c.in_ok-push.ensures.items in
    let i = c.loop-i.i in
    let row = c.in_ok-times_power.field-0 in
    let item = ap (poly_of F) c.index-rows-i.is
    ∙ sym (coeff-map P (λ p. poly_of F p) rows i c.index-rows-i.result (omega arith)) in
    let lead = ap (poly_of F) c.index-rows-n.is
    ∙ sym (coeff-map P (λ p. poly_of F p) rows n c.index-rows-n.result
    (omega (arith, c.requires.has_y))) in
    let v : poly_of F row ≡ P.mul (coeff P (polys_of F rows) i)
    (power P (coeff P (polys_of F rows) n) (n - 1 - i)) = c.in_ok-times_power.ensures.value
    ∙ ap₂ (λ x y. P.mul x (power P y (n - 1 - i))) item lead in
    record {
      each = subst (ArePolys F) (sym e) (All-push (IsPoly F) c.loop-i.form.items row
          c.loop-i.invariant.each c.in_ok-times_power.ensures.poly);
      length = omega (arith, c.in_ok-push.ensures.len, c.loop-i.invariant.length);
      rows = λ j l. ap (λ p. coeff P (polys_of F p) j) e
          ∙ coeff-push P (λ p. poly_of F p) c.loop-i.form.items row
          (λ j. P.mul (coeff P (polys_of F rows) j) (power P (coeff P (polys_of F rows) n)
          (n - 1 - j))) i c.loop-i.invariant.length c.loop-i.invariant.rows v j l;
    }

pub returns-clause-each : goal.returns-clause-each
returns-clause-each g c =
    let F = g.K.Ring.elements c.args.k.now in
    subst (ArePolys F) (sym c.in_ok-push-2.ensures.items) (All-push (IsPoly F) c.loop-i.form.items
    c.in_ok-one.field-0 c.loop-i.invariant.each c.in_ok-one.ensures.poly)

pub returns-clause-value : goal.returns-clause-value
returns-clause-value g c =
    let F = g.K.Ring.elements c.args.k.now in
    let laws = g.met.K.Ring.laws c.args.k.now in
    let tests = g.met.K.Ring.tests c.args.k.now in
    let P = polynomials F.ring in
    let rows = c.args.rows.now in
    let n = length rows - 1 in
    let form = c.loop-i.form.items in
    let one = c.in_ok-one.field-0 in
    let e = c.in_ok-push-2.ensures.items in
    let end : c.loop-i.i ≡ n = omega arith in
    monic_by_loop P (polynomial_laws F.ring laws tests) (polynomial_tests F.ring laws tests)
    (λ p. poly_of F p) rows c.push-2.new.self.items (coeff P (polys_of F rows) n) n
    (omega (arith, c.requires.has_y))
    (omega (arith, c.in_ok-push-2.ensures.len, c.loop-i.invariant.length, end))
    c.requires.plane.canonical refl
    (λ i l. ap (λ p. coeff P (polys_of F p) i) e ∙ pushed-below P (λ p. poly_of F p) form one i
    (omega (arith, c.loop-i.invariant.length, end, l)) ∙ c.loop-i.invariant.rows i
    (omega (arith, end, l)))
    (ap (λ p. coeff P (polys_of F p) n) e ∙ pushed-at P (λ p. poly_of F p) form one n
    (omega (arith, c.loop-i.invariant.length, end)) ∙ c.in_ok-one.ensures.value)
