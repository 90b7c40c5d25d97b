use Rattle.std.proofs.Common.{◌≡◌, suc, length, get_or, sym, ◌∙◌, ap, arith}
use Rattle.std.proofs.lemmas.Bool.{eqb-true}
use Rattle.ff_theory.specs.Lawful.{lawful_field}
use Rattle.ff_theory.specs.Values.{poly_of, plane_of}
use Rattle.ff_theory.specs.Algebra.{over_of}
use Rattle.ff_elem.proofs.Reduction.{last-row}
use Rattle.ff_elem.proofs.Inverses.{positive, inverse-value, divisor-value, no-inverse}
use Rattle.ff_elem.proofs.algebra.Alg.inverse_by.Goals as goal

pub returns-then-is_empty-clause-divisor : goal.returns-then-is_empty-clause-divisor
returns-then-is_empty-clause-divisor g c =
    let F = g.K.Ring.elements c.args.self.now.k in
    let L = g.K.Ring.lawful c.args.self.now.k in
    let e = c.requires.last in
    let none : length c.args.last.now.value ≡ 0 = ap length (sym c.rows-value.ensures)
    ∙ eqb-true (length c.rows-value.result.now) 0 (sym c.is_empty.ensures ∙ c.if-is_empty.true)
    in
    divisor-value F L c.args.self.now.f c.args.a.now c.in_ok-u.u c.args.last.now
    c.args.self.now.plane c.args.self.now.has_y c.requires.a c.in_ok-u.ensures.element e.planes
    none (e.divisor none) e.value c.in_ok-u.ensures.value

pub returns-then-is_empty-clause-none : goal.returns-then-is_empty-clause-none
returns-then-is_empty-clause-none g c =
    no-inverse (g.K.Ring.elements c.args.self.now.k) (g.K.Ring.lawful c.args.self.now.k)
    c.args.self.now.f c.args.a.now c.in_ok-u.u (returns-then-is_empty-clause-divisor g c)

pub from_parts-requires : goal.from_parts-requires
from_parts-requires g c =
    let F = g.K.Ring.elements c.args.self.now.k in
    let L = g.K.Ring.lawful c.args.self.now.k in
    let m = c.args.last.now in
    let e = c.requires.last in
    let some = positive (length c.rows-value.result.now)
    (sym c.is_empty.ensures ∙ c.if-is_empty.false) in
    let one : length m.value ≡ suc 0 = omega (arith, some, ap length c.rows-value.ensures, e.short)
    in
    let lead = last-row F L m.value 0 c.index-value-0.result e.planes.value one
    (c.index-value-0.is ∙ ap (λ l. get_or l 0 c.index-value-0.result) c.rows-value.ensures) in
    record { num = c.in_ok-num.ensures.plane; den = lead.0; nonzero = lead.1 }

pub returns-clause-inverse : goal.returns-clause-inverse
returns-clause-inverse g c =
    let F = g.K.Ring.elements c.args.self.now.k in
    let L = g.K.Ring.lawful c.args.self.now.k in
    let f = c.args.self.now.f in
    let m = c.args.last.now in
    let e = c.requires.last in
    let top = c.index-value-0.result in
    let some = positive (length c.rows-value.result.now)
    (sym c.is_empty.ensures ∙ c.if-is_empty.false) in
    let one : length m.value ≡ 1 = omega (arith, some, ap length c.rows-value.ensures, e.short) in
    inverse-value F L f c.args.a.now c.in_ok-inverse.inverse m top c.requires.a e.planes one
    (c.index-value-0.is ∙ ap (λ l. get_or l 0 top) c.rows-value.ensures)
    e.value
    (c.in_ok-inverse.ensures.value
    ∙ ap (λ p. over_of (lawful_field L) (plane_of F f) p (poly_of F top))
    c.in_ok-num.ensures.value)
