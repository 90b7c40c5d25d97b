use Rattle.std.proofs.Common.{◌-◌, length, [], ◌∙◌, ap, ap₂, sym, arith}
use Rattle.std.proofs.lemmas.List.{get_or_default}
use Rattle.ff_theory.specs.Poly.{polynomials}
use Rattle.ff_theory.specs.Values.{poly_of, plane_of}
use Rattle.ff_theory.specs.Monomial.{monomial}
use Rattle.ff_theory.proofs.Poly.{polynomial_laws, polynomial_tests}
use Rattle.ff_poly.proofs.RowLists.{row-value}
use Rattle.ff_poly.proofs.PseudoDivision.{last_row, pseudo_step, combination_by_loop}
use Rattle.ff_poly.proofs.PseudoDivision.{past_cancelled}
use Rattle.ff_poly.proofs.reduction.step.Goals as goal

pub multipliers-requires : goal.multipliers-requires
multipliers-requires g c =
    let K = g.K.Ring.elements c.args.k.now in
    let laws = g.met.K.Ring.laws c.args.k.now in
    let tests = g.met.K.Ring.tests c.args.k.now in
    let top = last_row K laws tests c.args.a.now c.index-a-a.result c.requires.a
    (omega (arith, c.requires.nonzero, c.requires.longer)) c.index-a-a.is in
    let lead = last_row K laws tests c.args.f.now c.index-f-f.result c.requires.f c.requires.nonzero
    c.index-f-f.is in
    record { top = top.0; lead = lead.0; nonzero = lead.1 }

pub combination_rows-requires : goal.combination_rows-requires
combination_rows-requires g c = record {
  c = c.in_ok-c.ensures.factor;
  a = c.requires.a.each;
  t = c.in_ok-c.ensures.multiple;
  b =
      c.requires.f.each;
}

pub returns-clause-value : goal.returns-clause-value
returns-clause-value g c =
    let K = g.K.Ring.elements c.args.k.now in
    let P = polynomials K.ring in
    let laws = g.met.K.Ring.laws c.args.k.now in
    let tests = g.met.K.Ring.tests c.args.k.now in
    let a = c.args.a.now in
    let f = c.args.f.now in
    let n = length a - 1 in
    let at = length a - length f in
    let m = poly_of K c.in_ok-c.c in
    let t = poly_of K c.in_ok-c.t in
    let top = ap (poly_of K) (c.index-a-a.is ∙ get_or_default a n c.index-a-a.result []
    (omega (arith, c.requires.nonzero, c.requires.longer))) ∙ row-value K a n in
    let lead = ap (poly_of K) (c.index-f-f.is ∙ get_or_default f (length f - 1) c.index-f-f.result
    [] (omega (arith, c.requires.nonzero))) ∙ row-value K f (length f - 1) in
    let cancelled = sym (ap₂ (λ p q. P.add (P.mul m p) (P.mul t q)) top lead)
    ∙ c.in_ok-c.ensures.value in
    let past = past_cancelled P (polynomial_laws K.ring laws tests)
    (polynomial_tests K.ring laws tests) (λ p. poly_of K p) m t a f n at
    (omega (arith, c.requires.longer, c.requires.nonzero))
    (omega (arith, c.requires.longer, c.requires.nonzero)) c.requires.nonzero cancelled in
    pseudo_step K.ring laws tests m (monomial P t at) (plane_of K a) (plane_of K f)
    (plane_of K c.in_ok-rows.rows.items) (plane_of K c.from_vec.result) c.from_vec.ensures.value
    (combination_by_loop P (polynomial_laws K.ring laws tests) (polynomial_tests K.ring laws tests)
    (λ p. poly_of K p) m t a f c.in_ok-rows.rows.items n at c.in_ok-rows.ensures.len
    c.in_ok-rows.ensures.rows past)
