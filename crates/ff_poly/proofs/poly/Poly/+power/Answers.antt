use Rattle.std.proofs.Common.{◌≡◌, ◌∙◌, List, ℕ}
use Rattle.ff_theory.specs.Ring.{power}
use Rattle.ff_theory.specs.Poly.{polynomials}
use Rattle.ff_theory.specs.Values.{poly_of}
use Rattle.ff_theory.proofs.Results.{ok_map}
use Rattle.ff_poly.proofs.Squaring.{power-even, power-odd}
use Rattle.ff_poly.proofs.poly.Poly.+power.Goals as goal

pub returns-then-n-eq0-2-clause-value : goal.returns-then-n-eq0-2-clause-value
returns-then-n-eq0-2-clause-value g t c =
    let K = g.K.Ring.elements c.args.k.now in
    power-even K.ring (g.met.K.Ring.laws c.args.k.now) (g.met.K.Ring.tests c.args.k.now) K.value
    c.args.self.now c.in_ok-half.half c.args.n c.in_ok-half.ensures.value c.in_ok-square.square
    c.in_ok-square.ensures.value c.if-n-eq0-2.true

pub returns-clause-value : goal.returns-clause-value
returns-clause-value g t c =
    let K = g.K.Ring.elements c.args.k.now in
    ok_map (λ (r : List ℕ). poly_of K r ≡ (polynomials K.ring).mul (poly_of K c.args.self.now)
    (poly_of K c.in_ok-square.square)) (λ (r : List ℕ). poly_of K r
    ≡ power (polynomials K.ring) (poly_of K c.args.self.now) c.args.n) c.mul-2.result
    (λ r e. e ∙ power-odd K.ring (g.met.K.Ring.laws c.args.k.now) (g.met.K.Ring.tests c.args.k.now)
    K.value c.args.self.now c.in_ok-half.half c.args.n c.in_ok-half.ensures.value
    c.in_ok-square.square
    c.in_ok-square.ensures.value c.if-n-eq0-2.false)
    c.mul-2.ensures.value
