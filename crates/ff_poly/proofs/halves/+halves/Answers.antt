use Rattle.std.proofs.Common.{◌≡◌, ◌+◌, ◌*◌, ◌/◌, ◌%◌, ◌<◌, length, take, drop, lit<, sym, ◌∙◌, ap}
use Rattle.std.proofs.Common.{ap₂, arith, rules}
use Rattle.std.proofs.Math.Nat.{div-add-mod, mod-lt}
use Rattle.std.proofs.lemmas.List.Elements.{All-append}
use Rattle.ff_theory.specs.Ring.{IsElement, power}
use Rattle.ff_theory.specs.Poly.{polynomials}
use Rattle.ff_theory.specs.Monomial.{variable}
use Rattle.ff_theory.specs.Values.{poly_of}
use Rattle.ff_theory.proofs.Poly.{polynomial_laws}
use Rattle.ff_theory.proofs.Powers.{power-add}
use Rattle.ff_poly.proofs.LongDivision.{rest_whole}
use Rattle.ff_poly.proofs.ListHalves.{minus-scaled, power-scaled, join-list, split-list, by_halves}
use Rattle.ff_poly.proofs.halves.+halves.Goals as goal

pub set_product-set_middle-requires : goal.set_product-set_middle-requires
set_product-set_middle-requires g t c κs within =
    let n = length c.args.a.now in
    let small : n % 2 < 2 = mod-lt n (lit< tt) in
    let even : n ≡ 2 * (n / 2) = omega (arith, div-add-mod n 2, small, c.if-n-eq1.false) in
    let some : 1 < n / 2 = omega (arith, even, c.if-n-le-LONG.false) in
    let front = c.split_at_mut-t.ensures.front_len in
    let back = c.split_at_mut-t.ensures.back_len in (
      search rules,
      (
        search rules,
        (
          c.requires.a,
          (
            c.requires.b,
            (
              some,
              (
                even,
                (
                  omega (arith, even, c.requires.equal),
                  (
                    omega (arith, even, front),
                    omega (
                      arith,
                      even,
                      back,
                      c.requires.scratch,
                      c.set_product.auto.scratch,
                      c.set_product-2.auto.scratch,
                    ),
                  ),
                ),
              ),
            ),
          ),
        ),
      ),
    )

pub set_product-add_scaled-requires-3-clause-sum : goal.set_product-add_scaled-requires-3-clause-sum
set_product-add_scaled-requires-3-clause-sum g t c =
    All-append (IsElement (g.K.Ring.elements c.args.k.now)) c.set_product.new.out
    c.set_product-2.new.out c.set_product.ensures.each c.set_product-2.ensures.each

pub set_product-returns-clause-value : goal.set_product-returns-clause-value
set_product-returns-clause-value g t c =
    let K = g.K.Ring.elements c.args.k.now in
    let laws = g.met.K.Ring.laws c.args.k.now in
    let tests = g.met.K.Ring.tests c.args.k.now in
    let P = polynomials K.ring in
    let a = c.args.a.now in
    let b = c.args.b.now in
    let n = length a in
    let h = n / 2 in
    let small : n % 2 < 2 = mod-lt n (lit< tt) in
    let even : n ≡ h + h = omega (arith, div-add-mod n 2, small, c.if-n-eq1.false) in
    let q = power P (variable K.ring) h in
    let low = c.set_product.new.out in
    let high = c.set_product-2.new.out in
    let minus = c.neg-minus.ensures.value ∙ ap K.neg c.one.ensures.value in
    let square = ap (power P (variable K.ring)) even
    ∙ power-add P (polynomial_laws K.ring laws tests) (variable K.ring) h h in
    by_halves K.ring laws tests (poly_of K (take h a)) (poly_of K (drop h a)) (poly_of K (take h b))
    (poly_of K (drop h b)) (poly_of K low) (poly_of K high) (poly_of K c.set_middle.new.t)
    (poly_of K c.add_scaled.new.sum) (poly_of K c.add_scaled-2.new.sum)
    (poly_of K c.add_scaled-3.new.sum) q (power P (variable K.ring) n)
    c.set_product.ensures.value (c.set_product-2.ensures.value
    ∙ ap₂ (λ p q. P.mul (poly_of K p) (poly_of K q)) (rest_whole h a) (rest_whole h b))
    c.set_middle.ensures.value
    (c.add_scaled.ensures.value ∙ ap (P.add (poly_of K c.set_middle.new.t))
    (minus-scaled K.ring laws tests (K.value c.neg-minus.result) (poly_of K low) minus))
    (c.add_scaled-2.ensures.value ∙ ap (P.add (poly_of K c.add_scaled.new.sum))
    (minus-scaled K.ring laws tests (K.value c.neg-minus.result) (poly_of K high) minus))
    square
    (c.add_scaled-3.ensures.value ∙ ap₂ P.add
    (join-list K.ring laws tests K.value low high n
    (c.set_product.ensures.len ∙ c.split_at_mut-low.ensures.front_len))
    (power-scaled K.ring laws tests (K.value c.one-2.result) h (poly_of K c.add_scaled-2.new.sum)
    c.one-2.ensures.value))
    ∙ ap₂ P.mul (sym (split-list K.ring laws tests K.value a h (omega (arith, even))))
    (sym (split-list K.ring laws tests K.value b h (omega (arith, even, c.requires.equal))))
