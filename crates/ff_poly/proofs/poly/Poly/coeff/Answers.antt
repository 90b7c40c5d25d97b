use Rattle.std.proofs.Common.{sym, ◌∙◌, ap, arith, ◌≡◌, length, ◌<◌, get_or}
use Rattle.ff_theory.proofs.Coeffs.{coeff-map, coeff-past}
use Rattle.ff_poly.proofs.poly.Poly.coeff.Goals as goal

pub returns-then-i-items-clause-value : goal.returns-then-i-items-clause-value
returns-then-i-items-clause-value g c =
    let K = g.K.Ring.elements c.args.k.now in
    let e : c.as_slice-items.result.now ≡ c.args.self.now = c.as_slice-items.ensures
    ∙ c.self.view_is in
    let h : c.args.i < length c.args.self.now = omega (arith, ap length e) in
    ap (λ p. K.value (get_or p c.args.i 0)) e ∙ sym
    (coeff-map K.ring K.value c.args.self.now c.args.i 0 h)

pub returns-else-i-items-clause-value : goal.returns-else-i-items-clause-value
returns-else-i-items-clause-value g c =
    let K = g.K.Ring.elements c.args.k.now in
    let e : c.as_slice-items.result.now ≡ c.args.self.now = c.as_slice-items.ensures
    ∙ c.self.view_is in
    c.zero.ensures.value ∙ sym (coeff-past K.ring K.value c.args.self.now c.args.i
    (omega (arith, ap length e)))
