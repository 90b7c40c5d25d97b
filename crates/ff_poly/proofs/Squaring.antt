-- Powers by squaring.
use Rattle.std.proofs.Common.{◌≡◌, ℕ, suc, ◌+◌, ◌/◌, ◌%◌, ◌<◌, List, map, lit<, sym, ◌∙◌, ap, ap₂}
use Rattle.std.proofs.Common.{arith}
use Rattle.std.proofs.Math.Nat.{div-add-mod, mod-lt}
use Rattle.ff_theory.specs.Ring.{RingOps, IsCommRing, IsTested, power}
use Rattle.ff_theory.specs.Poly.{poly, polynomials}
use Rattle.ff_theory.proofs.Poly.{polynomial_laws}
use Rattle.ff_theory.proofs.Powers.{power-add}

twice : (n : ℕ) → n % 2 ≡ 0 → n / 2 + n / 2 ≡ n
twice n h = omega (arith, div-add-mod n 2, h)

twice-odd : (n : ℕ) → ¬ (n % 2 ≡ 0) → suc (n / 2 + n / 2) ≡ n
twice-odd n h = let small : n % 2 < 2 = mod-lt n (lit< tt) in omega
    (arith, div-add-mod n 2, h, small)

module _ (R : RingOps) (laws : IsCommRing R) (tests : IsTested R) where
  PL : IsCommRing (polynomials R)
  PL = polynomial_laws R laws tests

  module _ {E : Type 0} (f : E → R.carrier) (p half : List E) (n : ℕ)
      (h : poly R (map f half) ≡ power (polynomials R) (poly R (map f p)) (n / 2)) where
    square : (s : List E) → poly R (map f s) ≡ (polynomials R).mul (poly R (map f half))
        (poly R (map f half)) → poly R (map f s) ≡ power (polynomials R) (poly R (map f p))
        (n / 2 + n / 2)
    square s e = e ∙ ap₂ (polynomials R).mul h h ∙ sym
        (power-add (polynomials R) PL (poly R (map f p)) (n / 2) (n / 2))

    pub power-even : (s : List E) → poly R (map f s)
        ≡ (polynomials R).mul (poly R (map f half)) (poly R (map f half)) → n % 2 ≡ 0
        → poly R (map f s) ≡ power (polynomials R) (poly R (map f p)) n
    power-even s e even = square s e ∙ ap (power (polynomials R) (poly R (map f p))) (twice n even)

    pub power-odd : (s : List E) → poly R (map f s)
        ≡ (polynomials R).mul (poly R (map f half)) (poly R (map f half)) → ¬ (n % 2 ≡ 0)
        → (polynomials R).mul (poly R (map f p)) (poly R (map f s))
        ≡ power (polynomials R) (poly R (map f p)) n
    power-odd s e odd = ap ((polynomials R).mul (poly R (map f p))) (square s e)
        ∙ ap (power (polynomials R) (poly R (map f p))) (twice-odd n odd)
