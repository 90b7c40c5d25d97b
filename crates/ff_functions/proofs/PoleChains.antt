-- Combinations of elements with poles of all orders at a point: which of them have a pole of the
-- greatest order, and how an element with such a pole is one of them.
use Rattle.std.proofs.Common.{◌≡◌, ℕ, suc, ◌<◌, refl, sym, ◌∙◌, ap, subst, arith}
use Rattle.ff_theory.proofs.Solver.{◌⊕◌, ◌⊗◌, neg, nil, unit, ring1, ring4}
use Rattle.ff_theory.proofs.Solver.{zero_mul, mul_zero}
use Rattle.ff_theory.proofs.Sums.{sum-ext, sum-mul}
use Rattle.ff_local.specs.Point.{OrderAt, combined}
use Rattle.ff_local.specs.Module.{InModule, IsLocalPair, IsBuilt}
use Rattle.ff_local.proofs.Orders.{neg_one}
use Rattle.ff_local.proofs.Combined.{combined_in}
use Rattle.ff_local.proofs.Modules.{module_add, module_more, module_scale}
use Rattle.ff_local.proofs.Leading.{module_exact, module_built}
use Rattle.ff_frac.proofs.PoleOrders.{IsAbove}

-- u 1, .., u (j + 1) have poles of order 1, .., j + 1
module _ (P : OrderAt) (s h : P.carrier) (l : IsLocalPair P s h) (u : ℕ → P.carrier) (j : ℕ)
    (powers : (i : ℕ) → i < suc j → IsAbove P i (u (suc i))) where
  infixl 60 ◌+◌
  infixl 70 ◌*◌
  open P use {add as ◌+◌, mul as ◌*◌, neg as minus, carrier as C}

  abbrev tail : (ℕ → P.field.carrier) → C
  tail e = combined P.order j e (λ i. u (suc i))

  module_neg : (i : ℕ) (w : C) → InModule P i w → InModule P i (minus w)
  module_neg i w m = subst (InModule P i) (neg_one P.order w)
      (module_scale P i _ w (P.in_constant (P.field.neg P.field.one)) m)

  -- an element of the order and a combination of u 1, .., u j are in M_j
  low : (e : ℕ → P.field.carrier) (r : C) → P.In r → InModule P j (r + tail e)
  low e r k = module_built P s h l u j (λ i q. (powers i (omega (arith, q))).0) (r + tail e)
      (record { coefficients = e; rest = r; inside = k; sum = refl })

  -- such a part and a multiple of u (j + 1) have a pole of order j + 1
  above : (w a : C) (c : P.field.carrier) → InModule P j a → ¬ (c ≡ P.field.zero)
      → w ≡ a + P.constant c * u (suc j) → IsAbove P j w
  above w a c m n e = (
    subst (InModule P (suc j)) (sym e) (module_add P (suc j) a _ (module_more P j a m)
        (module_scale P (suc j) _ _ (P.in_constant c) (powers j (omega arith)).0)),
    λ k. (powers j (omega arith)).1 (subst (InModule P j) back
        (module_scale P j _ _ (P.in_constant (P.field.inverse c))
        (module_add P j w (minus a) k (module_neg j a m)))),
  )
    where
      back : P.constant (P.field.inverse c) * (w + minus a) ≡ u (suc j)
      back = ap (λ t. P.constant (P.field.inverse c) * (t + minus a)) e
          ∙ ring4 P.ring P.laws (λ i a c u. i ⊗ ((a ⊕ c ⊗ u) ⊕ neg a)) (λ i a c u. (c ⊗ i) ⊗ u)
          refl (P.constant (P.field.inverse c)) a (P.constant c) (u (suc j))
          ∙ ap (λ t. t * u (suc j)) (sym (P.constants.on_mul c (P.field.inverse c))
          ∙ ap P.constant (P.field.is_field.mul_inverse c n) ∙ P.constants.on_one)
          ∙ ring1 P.ring P.laws (λ u. unit ⊗ u) (λ u. u) refl (u (suc j))

  -- a multiple by a constant that is not 0 has the same pole
  pub scaled_above : (c : P.field.carrier) → ¬ (c ≡ P.field.zero) → (w : P.carrier)
      → IsAbove P j w → IsAbove P j (P.mul (P.constant c) w)
  scaled_above c n w k = (
    module_scale P (suc j) _ w (P.in_constant c) k.0,
    λ m. k.1 (subst (InModule P j) (sym (P.laws.mul_assoc _ _ w)
        ∙ ap (λ t. t * w) (sym (P.constants.on_mul (P.field.inverse c) c)
        ∙ ap P.constant (P.field.laws.mul_comm (P.field.inverse c) c
        ∙ P.field.is_field.mul_inverse c n) ∙ P.constants.on_one)
        ∙ ring1 P.ring P.laws (λ w. unit ⊗ w) (λ w. w) refl w)
        (module_scale P j _ _ (P.in_constant (P.field.inverse c)) m)),
  )

  -- elements of the order, and u 1, .., u (j + 1) with the last coefficient one
  pub with_last : (n : ℕ) (d e : ℕ → P.field.carrier) (g : ℕ → P.carrier)
      → ((i : ℕ) → i < n → P.In (g i)) → e j ≡ P.field.one → (w : P.carrier)
      → w ≡ P.add (combined P.order n d g) (combined P.order (suc j) e (λ i. u (suc i)))
      → IsAbove P j w
  with_last n d e g inside one w is = above w (combined P.order n d g + tail e) (e j)
      (low e _ (combined_in P.order n d g inside))
      (λ z. P.field.is_field.one_not_zero (sym one ∙ z))
      (is ∙ sym (P.laws.add_assoc _ _ _))

  -- where such a sum is in the order, its part without the u i has the pole
  pub without_last : (e : ℕ → P.field.carrier) (a : P.carrier) → e j ≡ P.field.one
      → P.In (P.add a (combined P.order (suc j) e (λ i. u (suc i)))) → IsAbove P j a
  without_last e a one k = above a (minus (minus w + tail e)) (P.field.neg (e j))
      (module_neg j _ (low e (minus w) (in_minus w k))) nonzero
      (sym (ap (λ t. minus (minus w + tail e) + t * u (suc j)) (constant_neg (e j))
      ∙ ring4 P.ring P.laws (λ a t c u. neg (neg (a ⊕ (t ⊕ c ⊗ u)) ⊕ t) ⊕ neg c ⊗ u)
      (λ a t c u. a) refl a (tail e) (P.constant (e j)) (u (suc j))))
    where
      w : C
      w = a + combined P.order (suc j) e (λ i. u (suc i))

      in_minus : (x : C) → P.In x → P.In (minus x)
      in_minus x m = module_neg 0 x m

      constant_neg : (c : P.field.carrier) → P.constant (P.field.neg c) ≡ minus (P.constant c)
      constant_neg c = P.constants.on_neg c

      nonzero : ¬ (P.field.neg (e j) ≡ P.field.zero)
      nonzero z = P.field.is_field.one_not_zero (sym one
          ∙ ring1 P.field.ring P.field.laws (λ e. e) (λ e. neg (neg e)) refl (e j)
          ∙ ap P.field.neg z
          ∙ ring1 P.field.ring P.field.laws (λ e. neg nil) (λ e. nil) refl (e j))

  -- a multiple of w is an element of the order and a combination with the last coefficient one
  pub record IsChain (w : P.carrier) : Type 0 where
    pub factor : P.field.carrier
    pub nonzero : ¬ (factor ≡ P.field.zero)
    pub coefficients : ℕ → P.field.carrier
    pub last : coefficients j ≡ P.field.one
    pub rest : P.carrier
    pub inside : P.In rest
    pub sum : P.mul (P.constant factor) w
        ≡ P.add rest (combined P.order (suc j) coefficients (λ i. u (suc i)))

  scaled : (w : C) (b : IsBuilt P (suc j) u w) (x : P.field.carrier)
      → P.field.mul (b.coefficients j) x ≡ P.field.one → IsChain w
  scaled w b x one = record {
    factor = x;
    nonzero = λ z. P.field.is_field.one_not_zero (sym one ∙ ap (P.field.mul (b.coefficients j)) z
        ∙ mul_zero P.field.ring P.field.laws (b.coefficients j));
    coefficients = λ i. P.field.mul x (b.coefficients i);
    last = P.field.laws.mul_comm x (b.coefficients j) ∙ one;
    rest = P.constant x * b.rest;
    inside = P.in_mul _ _ (P.in_constant x) b.inside;
    sum = ap (λ t. P.constant x * t) b.sum ∙ P.laws.mul_add (P.constant x) b.rest _
        ∙ ap (λ t. P.constant x * b.rest + t)
        (sym (sum-mul P.ring P.laws (suc j) (P.constant x)
        (λ i. P.constant (b.coefficients i) * u (suc i)))
        ∙ sum-ext P.ring P.laws (suc j) _ _ (λ i q. sym (P.laws.mul_assoc _ _ _)
        ∙ ap (λ t. t * u (suc i)) (sym (P.constants.on_mul x (b.coefficients i)))));
  }

  pub chain : (w : P.carrier) → IsAbove P j w → IsChain w
  chain w k = scaled w b (P.field.inverse (b.coefficients j))
      (P.field.is_field.mul_inverse (b.coefficients j) nonzero)
    where
      b : IsBuilt P (suc j) u w
      b = module_exact P s h l u (suc j) (λ i q. (powers i q).0) (λ i q. (powers i q).1) w k.0

      nonzero : ¬ (b.coefficients j ≡ P.field.zero)
      nonzero z = k.1 (subst (InModule P j) (sym (b.sum ∙ sym (P.laws.add_assoc b.rest _ _)
          ∙ ap (λ t. b.rest + tail b.coefficients + t) (ap (λ t. P.constant t * u (suc j)) z
          ∙ ap (λ t. t * u (suc j)) P.constants.on_zero ∙ zero_mul P.ring P.laws (u (suc j)))
          ∙ P.laws.add_zero (b.rest + tail b.coefficients)))
          (low b.coefficients b.rest b.inside))
