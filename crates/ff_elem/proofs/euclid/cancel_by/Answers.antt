use Rattle.std.proofs.Common.{◌≡◌, suc, ◌+◌, ◌-◌, length, sym, ◌∙◌, ap, ap₂, subst, arith}
use Rattle.std.proofs.lemmas.List.{length-take-le}
use Rattle.std.proofs.lemmas.List.Elements.{All-take}
use Rattle.ff_theory.specs.Lawful.{lawful_field}
use Rattle.ff_theory.specs.Monomial.{monomial}
use Rattle.ff_theory.specs.Planes.{row_of}
use Rattle.ff_theory.specs.Values.{poly_of, polys_over, IsPoly, ArePolys, plane_of, planes_over}
use Rattle.ff_theory.proofs.PolyMap.{polynomial_domain}
use Rattle.ff_elem.specs.Euclid.{top}
use Rattle.ff_elem.proofs.PolyLemmas.{poly-nonzero}
use Rattle.ff_elem.proofs.EuclidSteps.{one-times, cancelled-value, top-of}
use Rattle.ff_elem.proofs.euclid.cancel_by.Goals as goal

pub plane_combination-requires : goal.plane_combination-requires
plane_combination-requires g c =
    let F = g.K.Ring.elements c.args.k.now in
    let R = c.rows-rows.result.now in
    let S = c.rows-by_rows.result.now in
    record {
      e = c.requires.e;
      a = All-take (IsPoly F) (length R - 1) R
          (subst (ArePolys F) (sym c.rows-rows.ensures) c.requires.a.value.each);
      q = c.requires.q;
      b = All-take (IsPoly F) (length S - 1) S
          (subst (ArePolys F) (sym c.rows-by_rows.ensures) c.requires.by.value.each);
    }

pub plane_combination-requires-2 : goal.plane_combination-requires-2
plane_combination-requires-2 g c =
    let F = g.K.Ring.elements c.args.k.now in
    record {
      e = c.requires.e;
      a = subst (ArePolys F) (sym c.rows.ensures) c.requires.a.factor.each;
      q = c.requires.q;
      b = subst (ArePolys F) (sym c.rows-2.ensures) c.requires.by.factor.each;
    }

pub returns-clause-shorter : goal.returns-clause-shorter
returns-clause-shorter g c =
    let R = c.rows-rows.result.now in
    let S = c.rows-by_rows.result.now in
    let r = ap length c.rows-rows.ensures in
    let s = ap length c.rows-by_rows.ensures in
    omega (
      arith,
      c.in_ok-value.ensures.len,
      length-take-le (length R - 1) R (omega arith),
      length-take-le (length S - 1) S (omega arith),
      r,
      s,
      c.requires.nonzero,
      c.requires.longer,
    )

pub returns-clause-step : goal.returns-clause-step
returns-clause-step g c =
    let F = g.K.Ring.elements c.args.k.now in
    let L = g.K.Ring.lawful c.args.k.now in
    let Q = planes_over F in
    let a = c.args.a.now in
    let by = c.args.by.now in
    let R = c.rows-rows.result.now in
    let S = c.rows-by_rows.result.now in
    let n = length R - 1 in
    let m = length S - 1 in
    let r = ap length c.rows-rows.ensures in
    let s = ap length c.rows-by_rows.ensures in
    let long : length R ≡ suc n = omega (arith, r, c.requires.nonzero, c.requires.longer) in
    let by_long : length S ≡ suc m = omega (arith, s, c.requires.nonzero) in
    let split : n - m + m ≡ n = omega (arith, r, s, c.requires.nonzero, c.requires.longer) in
    let q = monomial (polys_over F) (poly_of F c.args.q.now) (n - m) in
    record {
      g = (polys_over F).one;
      g_nonzero = (polynomial_domain (lawful_field L)).proper;
      e = poly_of F c.args.e.now;
      e_nonzero = poly-nonzero F L c.args.e.now c.requires.e c.requires.factor;
      q = q;
      values = cancelled-value F L R S c.in_ok-value.value n m (n - m) (top a.value) (top by.value)
          c.args.e.now c.args.q.now long by_long split
          (top-of F L R a.value c.rows-rows.ensures
          (omega (arith, c.requires.nonzero, c.requires.longer)))
          (top-of F L S by.value c.rows-by_rows.ensures c.requires.nonzero) c.requires.cancel
          c.in_ok-value.ensures.value
          ∙ ap₂ (λ a b. Q.add (Q.mul (row_of F.ring (poly_of F c.args.e.now)) (plane_of F a))
          (Q.mul q (plane_of F b))) c.rows-rows.ensures c.rows-by_rows.ensures;
      factors = one-times F L (plane_of F c.in_ok-factor.factor)
          (Q.add (Q.mul (row_of F.ring (poly_of F c.args.e.now)) (plane_of F a.factor))
          (Q.mul q (plane_of F by.factor)))
          (c.in_ok-factor.ensures.value ∙ ap₂ (λ a b. Q.add (Q.mul (row_of F.ring (poly_of F
          c.args.e.now)) (plane_of F a)) (Q.mul q (plane_of F b))) c.rows.ensures
          c.rows-2.ensures);
    }
