-- The trace identity: with q + 1 the characteristic and F(theta) = 0, the q-th power of the
-- derivative of F at theta times G(theta) is the sum
-- of the coefficients q, q + p, q + 2*p, .. of F^q * G times 1, theta^p, theta^(2*p), .. It is the
-- coefficient of z^q in (F^q * G)(theta + z).
use Rattle.std.proofs.Common.{◌≡◌, ℕ, zero, suc, ◌+◌ as plus_ℕ, ◌*◌ as times_ℕ, ◌<◌, ◌≤◌, ◌⊎◌, inl}
use Rattle.std.proofs.Common.{inr, refl, sym, ◌∙◌, ap, ap₂, arith}
use Rattle.std.proofs.lemmas.Bool.{cases_lt}
use mathlib.Core.Path.{fun_ext}
use Rattle.ff_theory.specs.Ring.{RingOps, IsCommRing, IsTested, power, multiple}
use Rattle.ff_theory.specs.Sum.{sum_below}
use Rattle.ff_theory.specs.Poly.{coeff, Poly, polynomials}
use Rattle.ff_theory.specs.Division.{size}
use Rattle.ff_theory.specs.Eval.{eval}
use Rattle.ff_theory.proofs.Solver.{◌⊕◌, ◌⊗◌, neg, nil, unit, ring1, ring2, ring3, ring4, mul_zero}
use Rattle.ff_theory.proofs.Solver.{zero_mul}
use Rattle.ff_theory.specs.Map.{IsMap}
use Rattle.ff_theory.proofs.Powers.{power-add}
use Rattle.ff_theory.proofs.Frobenius.{HasCharacteristic, frobenius-add, multiple-mul}
use Rattle.ff_theory.proofs.FrobeniusPoly.{map-power}
use Rattle.ff_theory.proofs.PolyMap.{compose}
use Rattle.ff_theory.proofs.Series.{tail, constant, series, series_mul, series_laws, one_mul_series}
use Rattle.ff_theory.proofs.Series.{mul_suc, zero_left}
use Rattle.ff_theory.proofs.Sums.{sum-ext, sum-front, sum-single}
use Rattle.ff_theory.proofs.Evaluate.{eval_map}
use Rattle.ff_charts.proofs.Rows.{value_sum}

module _ (R : RingOps) (laws : IsCommRing R) where
  infixl 60 ◌+◌
  infixl 70 ◌*◌
  open R use {add as ◌+◌, mul as ◌*◌, carrier as C}

  -- sums in blocks
  sum-split : (m n : ℕ) (f : ℕ → C) → sum_below R (plus_ℕ m n) f
      ≡ sum_below R m f + sum_below R n (λ i. f (plus_ℕ m i))
  sum-split m zero f = let e : plus_ℕ m zero ≡ m = omega arith in ap (λ k. sum_below R k f) e
      ∙ sym (laws.add_zero (sum_below R m f))
  sum-split m (suc n) f = let e : plus_ℕ m (suc n)
      ≡ suc (plus_ℕ m n) = omega arith in ap (λ k. sum_below R k f) e
      ∙ ap (λ t. t + f (plus_ℕ m n)) (sum-split m n f)
      ∙ laws.add_assoc (sum_below R m f) (sum_below R n (λ i. f (plus_ℕ m i))) (f (plus_ℕ m n))

  pub sum-blocks : (n p : ℕ) (f : ℕ → C) → sum_below R (times_ℕ n p) f
      ≡ sum_below R n (λ i. sum_below R p (λ r. f (plus_ℕ (times_ℕ i p) r)))
  sum-blocks zero p f = let e : times_ℕ zero p ≡ zero = omega arith in ap (λ k. sum_below R k f) e
  sum-blocks (suc n) p f = let e : times_ℕ (suc n) p
      ≡ plus_ℕ (times_ℕ n p) p = omega arith in ap (λ k. sum_below R k f) e
      ∙ sum-split (times_ℕ n p) p f
      ∙ ap (λ t. t + sum_below R p (λ r. f (plus_ℕ (times_ℕ n p) r))) (sum-blocks n p f)

  -- power series
  SL : IsCommRing (series R)
  SL = series_laws R laws

  pub constant_mul : (c : C) (f : ℕ → C) (n : ℕ) → series_mul R (constant R c) f n ≡ c * f n
  constant_mul c f zero = refl
  constant_mul c f (suc n) = ap (λ t. c * f (suc n) + t)
      (zero_left R laws (tail (constant R c)) f n (λ i. refl)) ∙ laws.add_zero (c * f (suc n))

  pub constant_series : IsMap R (series R) (constant R)
  constant_series = record {
    on_zero = fun_ext nothing;
    on_one = refl;
    on_add = λ a b. fun_ext (sum a b);
    on_neg = λ a. fun_ext (minus a);
    on_mul = λ a b. fun_ext (λ n. product a b n ∙ sym (constant_mul a (constant R b) n));
  }
    where
      nothing : (n : ℕ) → constant R R.zero n ≡ R.zero
      nothing zero = refl
      nothing (suc n) = refl

      sum : (a b : C) (n : ℕ) → constant R (a + b) n ≡ constant R a n + constant R b n
      sum a b zero = refl
      sum a b (suc n) = sym (laws.add_zero R.zero)

      minus : (a : C) (n : ℕ) → constant R (R.neg a) n ≡ R.neg (constant R a n)
      minus a zero = refl
      minus a (suc n) = ring1 R laws (λ a. nil) (λ a. neg nil) refl a

      product : (a b : C) (n : ℕ) → constant R (a * b) n ≡ a * constant R b n
      product a b zero = refl
      product a b (suc n) = sym (mul_zero R laws a)

  multiple_at : (n : ℕ) (f : ℕ → C) (k : ℕ) → multiple (series R) n f k ≡ multiple R n (f k)
  multiple_at zero f k = refl
  multiple_at (suc n) f k = ap (λ t. f k + t) (multiple_at n f k)

  pub series_characteristic : (p : ℕ) → HasCharacteristic R p → HasCharacteristic (series R) p
  series_characteristic p h = record {
    positive = h.positive;
    vanishes = λ f. fun_ext (λ k. multiple_at p f k ∙ h.vanishes (f k));
    cancels = λ n pos small f e. fun_ext
        (λ k. h.cancels n pos small (f k) (sym (multiple_at n f k) ∙ ap (λ (g : ℕ → C). g k) e));
  }

  -- a product where the second series begins with m zeros
  last_term : (m : ℕ) (a w : ℕ → C) → ((k : ℕ) → k < m → w k ≡ R.zero) → series_mul R a w m
      ≡ a zero * w m
  last_term zero a w h = refl
  last_term (suc m) a w h = mul_suc R laws a w m
      ∙ ap₂ (λ s t. s + a (suc m) * t) (last_term m a (tail w) (λ k l. h (suc k) (omega arith)))
      (h zero (omega arith))
      ∙ ring2 R laws (λ s t. s ⊕ t ⊗ nil) (λ s t. s) refl (a zero * w (suc m)) (a (suc m))

  -- the power of a series without a constant term
  module _ (f : ℕ → C) (nothing : f zero ≡ R.zero) where
    low : (m : ℕ) (w : ℕ → C) → ((k : ℕ) → k < m → w k ≡ R.zero) → (k : ℕ) → k < suc m
        → series_mul R f w k ≡ R.zero
    low m w h zero l = ap (λ t. t * w zero) nothing ∙ zero_mul R laws (w zero)
    low m w h (suc k) l = ap₂ (λ s t. s * w (suc k) + t) nothing
        (last_term k (tail f) w (λ i q. h i (omega arith)) ∙ ap (λ t. f 1 * t) (h k (omega arith)))
        ∙ ring2 R laws (λ w a. nil ⊗ w ⊕ a ⊗ nil) (λ w a. nil) refl (w (suc k)) (f 1)

    pub power_low : (m : ℕ) (g : ℕ → C) (k : ℕ) → k < m → (series R).mul (power (series R) f m) g k
        ≡ R.zero
    power_low zero g k l = absurd (omega arith)
    power_low (suc m) g k l = ap (λ (s : ℕ → C). s k) (SL.mul_assoc f (power (series R) f m) g)
        ∙ low m ((series R).mul (power (series R) f m) g) (power_low m g) k l

    pub power_lead : (m : ℕ) (g : ℕ → C) → (series R).mul (power (series R) f m) g m
        ≡ power R (f 1) m * g zero
    power_lead zero g = refl
    power_lead (suc m) g = ap (λ (s : ℕ → C). s (suc m)) (SL.mul_assoc f (power (series R) f m) g)
        ∙ ap₂ (λ s t. s * (series R).mul (power (series R) f m) g (suc m) + t) nothing
        (last_term m (tail f) ((series R).mul (power (series R) f m) g) (power_low m g)
        ∙ ap (λ t. f 1 * t) (power_lead m g))
        ∙ ring4 R laws (λ w d p g. nil ⊗ w ⊕ d ⊗ (p ⊗ g)) (λ w d p g. (d ⊗ p) ⊗ g) refl
        ((series R).mul (power (series R) f m) g (suc m)) (f 1) (power R (f 1) m) (g zero)

-- polynomials over S at theta + z
module _ (S : RingOps) (LS : IsCommRing S) (TS : IsTested S) (A : RingOps) (AL : IsCommRing A)
    (h : S.carrier → A.carrier) (map : IsMap S A h) (θ : A.carrier) where
  infixl 60 ◌+◌
  infixl 70 ◌*◌
  open A use {add as ◌+◌, mul as ◌*◌, carrier as C}

  abbrev Z : RingOps
  Z = series A

  ZL : IsCommRing (series A)
  ZL = series_laws A AL

  -- theta + z, and z
  abbrev pub moved : ℕ → A.carrier
  moved zero = θ
  moved (suc n) = constant A A.one n

  abbrev z_series : ℕ → C
  z_series zero = A.zero
  z_series (suc n) = constant A A.one n

  -- the coefficients of p at theta + z
  unfoldable pub at_moved : Poly S → ℕ → A.carrier
  at_moved p = eval S Z (λ c. constant A (h c)) moved p

  -- the derivative of p at theta: the coefficient of z
  unfoldable pub derivative_at : Poly S → A.carrier
  derivative_at p = at_moved p 1

  embedded : IsMap S (series A) (λ c. constant A (h c))
  embedded = compose S A Z h (constant A) map (constant_series A AL)

  moved_map : IsMap (polynomials S) (series A) at_moved
  unfolding at_moved
  moved_map = eval_map S Z LS TS ZL (λ c. constant A (h c)) embedded moved

  sum_at : (n : ℕ) (f : ℕ → Z.carrier) (k : ℕ) → sum_below Z n f k ≡ sum_below A n (λ i. f i k)
  sum_at zero f k = refl
  sum_at (suc n) f k = ap (λ t. t + f n k) (sum_at n f k)

  pub moved_sum : (p : Poly S) (n : ℕ) → size S p ≤ n → (k : ℕ) → at_moved p k
      ≡ sum_below A n (λ i. A.mul (h (coeff S p.coeffs i)) (power (series A) moved i k))
  unfolding at_moved
  moved_sum p n l k = ap (λ (s : ℕ → C). s k)
      (value_sum S LS TS Z ZL (λ c. constant A (h c)) embedded.on_zero moved p n l)
      ∙ sum_at n _ k ∙ sum-ext A AL n _ _
      (λ i q. constant_mul A AL (h (coeff S p.coeffs i)) (power Z moved i) k)

  mul_moved : (w : ℕ → C) (n : ℕ) → series_mul A moved w (suc n) ≡ θ * w (suc n) + w n
  mul_moved w n = ap (λ t. θ * w (suc n) + t) (one_mul_series A AL w n)

  power_bottom : (i : ℕ) → power Z moved i zero ≡ power A θ i
  power_bottom zero = refl
  power_bottom (suc i) = ap (λ t. θ * t) (power_bottom i)

  pub power_moved_one : (i : ℕ) → power (series A) moved (suc i) 1
      ≡ A.add (A.mul θ (power (series A) moved i 1)) (power (series A) moved i zero)
  power_moved_one i = mul_moved (power Z moved i) zero

  -- the derivative is the sum of i * p_i * theta^(i - 1)
  power_one : (i : ℕ) → power Z moved (suc i) 1 ≡ multiple A (suc i) (power A θ i)
  power_one zero = ring1 A AL (λ t. t ⊗ nil ⊕ unit ⊗ unit) (λ t. unit ⊕ nil) refl θ
  power_one (suc i) = power_moved_one (suc i)
      ∙ ap₂ (λ s t. θ * s + t) (power_one i) (power_bottom (suc i))
      ∙ ap (λ t. t + power A θ (suc i)) (sym (multiple-mul A AL (suc i) θ (power A θ i)))
      ∙ AL.add_comm _ _

  pub derivative_sum : (p : Poly S) (n : ℕ) → size S p ≤ suc n → derivative_at p
      ≡ sum_below A n (λ i. A.mul (h (coeff S p.coeffs (suc i))) (multiple A (suc i) (power A θ i)))
  unfolding derivative_at
  derivative_sum p n l = moved_sum p (suc n) l 1 ∙ sum-front A AL n _
      ∙ ap₂ (λ s t. s + t) (mul_zero A AL (h (coeff S p.coeffs 0)))
      (sum-ext A AL n _ _ (λ i q. ap (λ t. h (coeff S p.coeffs (suc i)) * t) (power_one i)))
      ∙ ring1 A AL (λ s. nil ⊕ s) (λ s. s) refl _

  power_past : (r i : ℕ) → r < i → power Z moved r i ≡ A.zero
  power_past r zero l = absurd (omega arith)
  power_past zero (suc i) l = refl
  power_past (suc r) (suc i) l = mul_moved (power Z moved r) i
      ∙ ap₂ (λ s t. θ * s + t) (power_past r (suc i) (omega arith)) (power_past r i (omega arith))
      ∙ ring1 A AL (λ t. t ⊗ nil ⊕ nil) (λ t. nil) refl θ

  power_top : (r : ℕ) → power Z moved r r ≡ A.one
  power_top zero = refl
  power_top (suc r) = mul_moved (power Z moved r) r
      ∙ ap₂ (λ s t. θ * s + t) (power_past r (suc r) (omega arith)) (power_top r)
      ∙ ring1 A AL (λ t. t ⊗ nil ⊕ unit) (λ t. unit) refl θ

  -- the constant coefficient is the value at theta
  pub moved_zero : (p : Poly S) → at_moved p zero ≡ eval S A h θ p
  moved_zero p = moved_sum p (size S p) (omega arith) zero
      ∙ sum-ext A AL (size S p) _ _ (λ i l. ap (λ t. h (coeff S p.coeffs i) * t) (power_bottom i))
      ∙ sym (value_sum S LS TS A AL h map.on_zero θ p (size S p) (omega arith))

  module _ (q : ℕ) (char : HasCharacteristic A (suc q)) where
    moved_is : moved ≡ Z.add (constant A θ) z_series
    moved_is = fun_ext go
      where
        go : (n : ℕ) → moved n ≡ constant A θ n + z_series n
        go zero = sym (AL.add_zero θ)
        go (suc n) = ring1 A AL (λ a. a) (λ a. nil ⊕ a) refl (constant A A.one n)

    -- the coefficient of z^q in powers of theta + z
    step : (j : ℕ) → power Z moved (plus_ℕ (suc q) j) q ≡ power A θ (suc q) * power Z moved j q
    step j = ap (λ (s : ℕ → C). s q) (power-add Z ZL moved (suc q) j
        ∙ ap (λ s. Z.mul s (power Z moved j))
        (ap (λ s. power Z s (suc q)) moved_is
        ∙ frobenius-add Z ZL (suc q) (series_characteristic A AL (suc q) char) (constant A θ)
        z_series ∙ ap (λ s. Z.add s (power Z z_series (suc q)))
        (sym (map-power A Z (constant A) (constant_series A AL) θ (suc q))))
        ∙ ring3 Z ZL (λ a b c. (a ⊕ b) ⊗ c) (λ a b c. a ⊗ c ⊕ b ⊗ c) refl
        (constant A (power A θ (suc q))) (power Z z_series (suc q)) (power Z moved j))
        ∙ ap₂ (λ s t. s + t) (constant_mul A AL (power A θ (suc q)) (power Z moved j) q)
        (power_low A AL z_series refl (suc q) (power Z moved j) q (omega arith)) ∙ AL.add_zero _

    block : (i r : ℕ) → power Z moved (plus_ℕ (times_ℕ i (suc q)) r) q
        ≡ power A (power A θ (suc q)) i * power Z moved r q
    block zero r = let e : plus_ℕ (times_ℕ zero (suc q)) r
        ≡ r = omega arith in ap (λ k. power Z moved k q) e
        ∙ ring1 A AL (λ a. a) (λ a. unit ⊗ a) refl (power Z moved r q)
    block (suc i) r = let e : plus_ℕ (times_ℕ (suc i) (suc q)) r
        ≡ plus_ℕ (suc q) (plus_ℕ (times_ℕ i (suc q)) r) = omega arith in ap (λ k. power Z moved k q)
        e ∙ step (plus_ℕ (times_ℕ i (suc q)) r)
        ∙ ap (λ t. power A θ (suc q) * t) (block i r)
        ∙ sym (AL.mul_assoc (power A θ (suc q)) (power A (power A θ (suc q)) i)
        (power Z moved r q))

    -- the coefficient of z^q
    pub coefficient_q : (H : Poly S) (n : ℕ) → size S H ≤ times_ℕ n (suc q)
        → at_moved H q ≡ sum_below A n
        (λ i. A.mul (h (coeff S H.coeffs (plus_ℕ (times_ℕ i (suc q)) q)))
        (power A (power A θ (suc q)) i))
    coefficient_q H n l = moved_sum H (times_ℕ n (suc q)) l q ∙ sum-blocks A AL n (suc q) _
        ∙ sum-ext A AL n _ _ (λ i s. sum-single A AL (suc q) q _ (omega arith)
        (λ r t ne. gone i r t ne)
        ∙ ap (λ t. h (coeff S H.coeffs (plus_ℕ (times_ℕ i (suc q)) q)) * t)
        (block i q ∙ ap (λ t. power A (power A θ (suc q)) i * t) (power_top q) ∙ AL.mul_one _))
      where
        gone : (i r : ℕ) → r < suc q → ¬ (r ≡ q)
            → h (coeff S H.coeffs (plus_ℕ (times_ℕ i (suc q)) r)) * power Z moved
            (plus_ℕ (times_ℕ i (suc q)) r) q ≡ A.zero
        gone i r l ne = ap (λ t. h (coeff S H.coeffs (plus_ℕ (times_ℕ i (suc q)) r)) * t)
            (block i r ∙ ap (λ t. power A (power A θ (suc q)) i * t)
            (power_past r q (below r l ne)))
            ∙ ring2 A AL (λ a b. a ⊗ (b ⊗ nil)) (λ a b. nil) refl
            (h (coeff S H.coeffs (plus_ℕ (times_ℕ i (suc q)) r)))
            (power A (power A θ (suc q)) i)
          where
            below : (r : ℕ) → r < suc q → ¬ (r ≡ q) → r < q
            below r l ne = pick (cases_lt r q)
              where
                pick : (r < q) ⊎ (q ≤ r) → r < q
                pick (inl m) = m
                pick (inr m) = let e : r ≡ q = omega arith in absurd (ne e)

    -- the trace identity
    pub trace_identity : (F G : Poly S) (n : ℕ) → eval S A h θ F ≡ A.zero
        → size S ((polynomials S).mul (power (polynomials S) F q) G) ≤ times_ℕ n (suc q)
        → A.mul (power A (derivative_at F) q) (eval S A h θ G)
        ≡ sum_below A n (λ i. A.mul (h (coeff S ((polynomials S).mul (power (polynomials S) F q)
        G).coeffs (plus_ℕ (times_ℕ i (suc q)) q))) (power A (power A θ (suc q)) i))
    unfolding derivative_at
    trace_identity F G n root l = ap (λ t. power A (at_moved F 1) q * t) (sym (moved_zero G))
        ∙ sym (power_lead A AL (at_moved F) (moved_zero F ∙ root) q (at_moved G))
        ∙ ap (λ (s : ℕ → C). s q) (sym (moved_map.on_mul (power (polynomials S) F q) G ∙ ap (λ s.
        Z.mul s (at_moved G)) (map-power (polynomials S) Z at_moved moved_map F q)))
        ∙ coefficient_q ((polynomials S).mul (power (polynomials S) F q) G) n l
