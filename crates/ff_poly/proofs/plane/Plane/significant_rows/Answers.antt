use Rattle.std.proofs.Common.{◌≡◌, ◌-◌, true, false, sym, ◌∙◌, ap, arith, get_or, length, nat_eq}
use Rattle.std.proofs.Common.{map, take}
use Rattle.ff_theory.specs.Poly.{polynomials, coeff}
use Rattle.ff_theory.specs.Values.{poly_of, IsPoly}
use Rattle.ff_theory.proofs.Poly.{polynomial_tests}
use Rattle.ff_theory.proofs.Coeffs.{kept_ends, kept_same, zero_test}
use Rattle.ff_poly.proofs.plane.Plane.significant_rows.Goals as goal

pub returns-then-not-is_zero-clause-plane : goal.returns-then-not-is_zero-clause-plane
returns-then-not-is_zero-clause-plane g c =
    let K = g.K.Ring.elements c.args.k.now in
    let m = g.met.K.Ring in
    let d = c.index-rows-n.result in
    let h : IsPoly K (get_or c.args.rows.now (c.loop-n.n - 1) d) = c.requires (c.loop-n.n - 1) d
    (omega arith) in
    let test : nat_eq (length d) 0 ≡ false = cc in
    kept_ends (polynomials K.ring) (λ p. poly_of K p) c.args.rows.now c.loop-n.n d (omega arith)
    (omega arith)
    (zero_test K.ring (m.laws c.args.k.now) (m.tests c.args.k.now) K.value
    (get_or c.args.rows.now (c.loop-n.n - 1) d) h.canonical
    ∙ ap (λ p. nat_eq (length p) 0) (sym c.index-rows-n.is) ∙ test)

pub loop-n-preserved : goal.loop-n-preserved
loop-n-preserved g c =
    let K = g.K.Ring.elements c.args.k.now in
    let m = g.met.K.Ring in
    let d = c.index-rows-n.result in
    let h : IsPoly K (get_or c.args.rows.now (c.loop-n.n - 1) d) = c.requires (c.loop-n.n - 1) d
    (omega arith) in
    let test : nat_eq (length d) 0 ≡ true = cc in
    record {
      below = omega arith;
      same = λ i. kept_same (polynomials K.ring)
          (polynomial_tests K.ring (m.laws c.args.k.now) (m.tests c.args.k.now)) (λ p. poly_of K p)
          c.args.rows.now c.loop-n.n d (omega arith) (omega arith)
          (zero_test K.ring (m.laws c.args.k.now) (m.tests c.args.k.now) K.value
          (get_or c.args.rows.now (c.loop-n.n - 1) d) h.canonical
          ∙ ap (λ p. nat_eq (length p) 0) (sym c.index-rows-n.is) ∙ test) i
          ∙ c.loop-n.invariant.same i;
    }

pub returns-clause-same : goal.returns-clause-same
returns-clause-same g c i =
    let K = g.K.Ring.elements c.args.k.now in
    let e : c.loop-n.n ≡ 0 = omega arith in
    ap (λ n. coeff (polynomials K.ring) (map (λ p. poly_of K p) (take n c.args.rows.now)) i) (sym e)
    ∙ c.loop-n.invariant.same i
