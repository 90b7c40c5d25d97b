use Rattle.std.proofs.Common.{arith, ◌≡◌, length, take, drop, sym, ◌∙◌, ap, subst, All}
use Rattle.std.proofs.lemmas.List.Elements.{All-drop, All-take}
use Rattle.ff_theory.specs.Ring.{IsElement}
use Rattle.ff_theory.specs.Values.{poly_of}
use Rattle.ff_poly.proofs.Refill.{refill-whole}
use Rattle.ff_poly.proofs.LongDivision.{rest_whole, division_parts}
use Rattle.ff_poly.proofs.poly.Poly.divide.Goals as goal

pub from_coeffs-requires : goal.from_coeffs-requires
from_coeffs-requires g c =
    let K = g.K.Ring.elements c.args.k.now in
    let row = c.divide_row-cut.new.row in
    let rest : c.as_slice.result.now ≡ row = c.as_slice.ensures
    ∙ refill-whole c.in_ok-row.row.items row
    (c.divide_row-cut.ensures.len ∙ ap length c.as_mut_slice.ensures.value) in
    subst (All (IsElement K)) (sym (rest_whole c.divide_row-cut.result c.as_slice.result.now))
    (All-drop (IsElement K) c.divide_row-cut.result c.as_slice.result.now
    (subst (All (IsElement K)) (sym rest) c.divide_row-cut.ensures.each))

pub trim-requires : goal.trim-requires
trim-requires g c =
    let K = g.K.Ring.elements c.args.k.now in
    let row = c.divide_row-cut.new.row in
    let rest : c.truncate.new.self.items ≡ take c.divide_row-cut.result row =
    c.truncate.ensures.items ∙ ap (take c.divide_row-cut.result)
    (refill-whole c.in_ok-row.row.items row
    (c.divide_row-cut.ensures.len ∙ ap length c.as_mut_slice.ensures.value)) in
    subst (All (IsElement K)) (sym rest)
    (All-take (IsElement K) c.divide_row-cut.result row c.divide_row-cut.ensures.each)

pub returns-clause-division : goal.returns-clause-division
returns-clause-division g c =
    let K = g.K.Ring.elements c.args.k.now in
    let row = c.divide_row-cut.new.row in
    let whole = refill-whole c.in_ok-row.row.items row
    (c.divide_row-cut.ensures.len ∙ ap length c.as_mut_slice.ensures.value) in
    division_parts K.ring (g.met.K.Ring.laws c.args.k.now) (g.met.K.Ring.tests c.args.k.now) K.value
    c.args.self.now c.as_mut_slice.result.now row c.args.b.now c.coeffs-2.result.now
    c.divide_row-cut.result (poly_of K c.in_ok-quotient.quotient) (poly_of K c.trim.result)
    (c.as_mut_slice.ensures.value ∙ c.in_ok-row.ensures.ok ∙ c.coeffs.ensures) c.coeffs-2.ensures
    c.requires.b.canonical c.divide_row-cut.ensures.smaller
    (omega (arith, c.divide_row-cut.ensures.within, c.divide_row-cut.ensures.len))
    c.divide_row-cut.ensures.value
    (c.in_ok-quotient.ensures.value ∙ ap (poly_of K)
    (rest_whole c.divide_row-cut.result c.as_slice.result.now)
    ∙ ap (λ p. poly_of K (drop c.divide_row-cut.result p)) (c.as_slice.ensures ∙ whole))
    (c.trim.ensures.value ∙ ap (poly_of K)
    (c.truncate.ensures.items ∙ ap (take c.divide_row-cut.result) whole))
