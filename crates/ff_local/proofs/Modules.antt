-- The pole modules: sums, multiples, products and powers.
use Rattle.std.proofs.Common.{◌≡◌, ℕ, zero, suc, ◌+◌ as plus_ℕ, refl, sym, subst, arith}
use Rattle.ff_theory.specs.Ring.{RingOps, power}
use Rattle.ff_theory.proofs.Solver.{◌⊗◌, ring3, add_mul}
use Rattle.ff_local.specs.Point.{OrderAt, InKernel}
use Rattle.ff_local.specs.Module.{IsCarried, InModule}
use Rattle.ff_local.proofs.Orders.{in_one}

module _ (P : OrderAt) where
  infixl 60 ◌+◌
  infixl 70 ◌*◌
  open P use {add as ◌+◌, mul as ◌*◌, carrier as C}

  -- O times M_j is in M_j
  pub module_scale : (j : ℕ) (a w : C) → P.In a → InModule P j w → InModule P j (a * w)
  module_scale zero a w ha h = P.in_mul a w ha h
  module_scale (suc j) a w ha h = λ r m.
      subst (InModule P j) (sym (P.laws.mul_assoc a w r)) (module_scale j a (w * r) ha (h r m))

  pub module_add : (j : ℕ) (w u : C) → InModule P j w → InModule P j u → InModule P j (w + u)
  module_add zero w u h g = P.in_add w u h g
  module_add (suc j) w u h g = λ r m.
      subst (InModule P j) (sym (add_mul P.ring P.laws w u r))
      (module_add j (w * r) (u * r) (h r m) (g r m))

  -- M_j is in M_(j+1)
  pub module_more : (j : ℕ) (w : C) → InModule P j w → InModule P (suc j) w
  module_more zero w h = λ r m. P.in_mul w r h m.inside
  module_more (suc j) w h = λ r m. module_more j (w * r) (h r m)

  -- O is in M_j
  pub module_order : (j : ℕ) (w : C) → P.In w → InModule P j w
  module_order zero w h = h
  module_order (suc j) w h = module_more j w (module_order j w h)

  -- M_i times M_j is in M_(i+j)
  pub module_products : (i j : ℕ) (w u : C) → InModule P i w → InModule P j u
      → InModule P (plus_ℕ i j) (w * u)
  module_products zero j w u h g = let e : j ≡ plus_ℕ zero j = omega arith in
      subst (λ n. InModule P n (w * u)) e (module_scale j w u h g)
  module_products (suc i) j w u h g = let e : suc (plus_ℕ i j) ≡ plus_ℕ (suc i) j = omega arith in
      subst (λ n. InModule P n (w * u)) e (λ r m. subst (InModule P (plus_ℕ i j))
      (ring3 P.ring P.laws (λ w u r. w ⊗ r ⊗ u) (λ w u r. w ⊗ u ⊗ r) refl w u r)
      (module_products i j (w * r) u (h r m) g))

  -- the powers of an element of M_1
  pub module_power : (s : C) → InModule P 1 s → (j : ℕ) → InModule P j (power P.ring s j)
  module_power s h zero = in_one P.order
  module_power s h (suc j) = let e : plus_ℕ 1 j ≡ suc j = omega arith in
      subst (λ n. InModule P n (s * power P.ring s j)) e
      (module_products 1 j s (power P.ring s j) h (module_power s h j))

  -- w in M_j times a power of an element of the kernel
  pub module_down : (h : C) → InKernel P h → (j : ℕ) (w : C) → InModule P j w
      → P.In (w * power P.ring h j)
  module_down h k zero w m = subst P.In (sym (P.laws.mul_one w)) m
  module_down h k (suc j) w m =
      subst P.In (P.laws.mul_assoc w h (power P.ring h j)) (module_down h k j (w * h) (m h k))

  pub module_first : (h : C) → InKernel P h → (j : ℕ) (w : C) → InModule P (suc j) w
      → InModule P 1 (w * power P.ring h j)
  module_first h k j w m = λ r n.
      subst P.In (ring3 P.ring P.laws (λ w r t. w ⊗ r ⊗ t) (λ w r t. w ⊗ t ⊗ r) refl w r
      (power P.ring h j))
      (module_down h k j (w * r) (m r n))

-- properties that say the same carry the same elements
pub carried_same : (R : RingOps) (Kernel Other In Into : R.carrier → Type 0)
    → ((r : R.carrier) → Other r → Kernel r) → ((w : R.carrier) → In w → Into w)
    → (j : ℕ) (w : R.carrier) → IsCarried R Kernel In j w → IsCarried R Other Into j w
carried_same R Kernel Other In Into kernel inside zero w h = inside w h
carried_same R Kernel Other In Into kernel inside (suc j) w h = λ r o.
    carried_same R Kernel Other In Into kernel inside j (R.mul w r) (h r (kernel r o))
