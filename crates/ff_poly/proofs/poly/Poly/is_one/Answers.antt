use Rattle.std.proofs.Common.{◌≡◌, length, sym, ◌∙◌, ap, ap₂}
use Rattle.ff_theory.specs.Values.{poly_of}
use Rattle.ff_poly.proofs.CommonFactor.{one_poly, one-length, one-value}
use Rattle.ff_poly.proofs.poly.Poly.is_one.Goals as goal

pub returns-then-coeffs-ne1 : goal.returns-then-coeffs-ne1
returns-then-coeffs-ne1 g c =
    let e : c.as_slice-coeffs.result.now ≡ c.args.self.now = c.as_slice-coeffs.ensures
    ∙ c.self.view_is in
    let K = g.K.Ring.elements c.args.k.now in (
      (λ t. cc),
      λ h. absurd (c.if-coeffs-ne1.true
          (ap length e ∙ one-length K (g.K.Ring.lawful c.args.k.now) c.args.self.now c.requires h)),
    )

pub returns : goal.returns
returns g c =
    let K = g.K.Ring.elements c.args.k.now in
    let L = g.K.Ring.lawful c.args.k.now in
    let tests = g.met.K.Ring.tests c.args.k.now in
    let q = c.as_slice-coeffs.result.now in
    let e : q ≡ c.args.self.now = c.as_slice-coeffs.ensures ∙ c.self.view_is in (
      (λ t. one_poly K L c.args.self.now q 0 e c.if-coeffs-ne1.false
          (tests.same_true _ _ (sym c.same.ensures ∙ t) ∙ c.one.ensures.value)),
      λ h. c.same.ensures ∙ ap₂ K.same (one-value K L q 0 c.if-coeffs-ne1.false
          (ap (poly_of K) e ∙ h)) c.one.ensures.value ∙ tests.same_refl K.one,
    )
