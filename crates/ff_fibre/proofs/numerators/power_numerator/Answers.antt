use Rattle.std.proofs.Common.{◌≡◌, ◌+◌, suc, [], ◌∷◌, ◌++◌, refl, sym, ◌∙◌, ap, ap₂, subst, arith}
use Rattle.std.proofs.lemmas.List.{map_push}
use Rattle.std.proofs.lemmas.List.Elements.{All-push}
use Rattle.ff_theory.specs.Poly.{poly, polynomials}
use Rattle.ff_theory.specs.Monomial.{raised}
use Rattle.ff_theory.specs.Values.{poly_of, polys_of, plane_of, IsPoly, ArePolys}
use Rattle.ff_fibre.proofs.PowerPlanes.{raised_zero, raised_last}
use Rattle.ff_fibre.proofs.numerators.power_numerator.Goals as goal

pub loop-j-init : goal.loop-j-init
loop-j-init g c =
    let F = g.K.Ring.elements c.args.k.now in
    record {
      each = subst (ArePolys F) (sym c.new-rows.ensures.items)
          (λ k d l. absurd (omega (arith, l)));
      value = ap (polys_of F) c.new-rows.ensures.items;
    }

pub loop-j-preserved : goal.loop-j-preserved
loop-j-preserved g c =
    let F = g.K.Ring.elements c.args.k.now in
    let P = polynomials F.ring in
    let old = c.loop-j.rows.items in
    let z = c.zero.result in
    let h = c.loop-j.invariant in
    let e = c.in_ok-push.ensures.items in
    let next : suc c.loop-j._j ≡ c.loop-j._j + 1 = omega arith in
    record {
      each = subst (ArePolys F) (sym e) (All-push (IsPoly F) old z h.each
          (subst (IsPoly F) (sym c.zero.ensures) (record {
            each = λ k d l. absurd (omega (arith, l));
            canonical = refl;
          })));
      value = ap (polys_of F) e ∙ map_push (λ p. poly_of F p) old z
          ∙ ap₂ (λ a b. a ++ b ∷ []) h.value (ap (poly_of F) c.zero.ensures)
          ∙ raised_zero P c.loop-j._j ∙ ap (λ n. raised P n []) next;
    }

pub from_vec-requires : goal.from_vec-requires
from_vec-requires g c =
    let F = g.K.Ring.elements c.args.k.now in
    subst (ArePolys F) (sym c.in_ok-push-2.ensures.items) (All-push (IsPoly F) c.loop-j.rows.items
    c.in_ok-copy.field-0 c.loop-j.invariant.each (subst (IsPoly F) (sym c.in_ok-copy.ensures)
    c.requires))

pub returns-clause-value : goal.returns-clause-value
returns-clause-value g c =
    let F = g.K.Ring.elements c.args.k.now in
    let P = polynomials F.ring in
    let old = c.loop-j.rows.items in
    let all : c.loop-j._j ≡ c.args.i = omega (arith, c.loop-j-test.false, c.loop-j.auto._j-end) in
    c.from_vec.ensures.value ∙ ap (plane_of F) c.in_ok-push-2.ensures.items
    ∙ ap (poly P) (map_push (λ p. poly_of F p) old c.in_ok-copy.field-0
    ∙ ap₂ (λ a b. a ++ b ∷ []) (c.loop-j.invariant.value ∙ ap (λ n. raised P n []) all)
    (ap (poly_of F) c.in_ok-copy.ensures) ∙ raised_last P c.args.i (poly_of F c.args.d.now))
