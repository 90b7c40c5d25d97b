-- Dimensions of spans.
use Rattle.std.proofs.Common.{◌≡◌, ℕ, zero, suc, ◌+◌, ◌-◌, ◌<◌, ◌≤◌, ◌⊎◌, inl, inr, Bool, true}
use Rattle.std.proofs.Common.{false, refl, sym, ◌∙◌, ap, arith}
use Rattle.std.proofs.lemmas.Bool.{cases_lt, cond_below, cond_above}
use Rattle.std.proofs.Math.Dec.{ltb}
use Rattle.std.proofs.Math.Bool.{cond}
use Rattle.ff_theory.specs.Sum.{sum_below}
use Rattle.ff_theory.proofs.Sums.{sum-ext, sum-zero, sum-front, sum-add, sum-mul}
use Rattle.ff_theory.proofs.Solver.{◌⊕◌, ◌⊗◌, neg, nil, unit, ring1, ring2, ring3, ring4, zero_mul}
use Rattle.ff_theory.proofs.Solver.{mul_zero, zero_add}
use Rattle.ff_theory.specs.Span.{combination, InSpan, SameSpan, IsIndependent, Dependence}
use Rattle.ff_theory.specs.Span.{IsEchelon, EndsAt, unit_at}
use Rattle.ff_theory.specs.Lawful.{Field}
use Rattle.ff_theory.proofs.Span.{span-inside, span-more}
use Rattle.ff_theory.proofs.Dependence.{dependence, exchange, differs}
use Rattle.ff_theory.proofs.Domains.{field_domain}
use Rattle.ff_lin.proofs.Echelon.{coordinates, echelon-independent}
use Rattle.ff_lin.proofs.Kernel.{combination-unit, combination-zero}
use Rattle.ff_lin.proofs.MeetSum.{sum-split, cut, cut-below, cut-ends, combination-cut}

-- f below r, and then g
abbrev pub join : {A : Type 0} → ℕ → (ℕ → A) → (ℕ → A) → ℕ → A
join r f g i = cond (ltb i r) (f i) (g (i - r))

pub join-left : {A : Type 0} (r : ℕ) (f g : ℕ → A) (i : ℕ) → i < r → join r f g i ≡ f i
join-left r f g i l = sym (cond_below i r (f i) (g (i - r)) l)

pub join-right : {A : Type 0} (r : ℕ) (f g : ℕ → A) (i : ℕ) → join r f g (r + i) ≡ g i
join-right r f g i = sym (cond_above (r + i) r (f (r + i)) (g (r + i - r)) (g i) (omega arith) (ap g
    (let e : i ≡ r + i - r = omega arith in e)))

-- v, and then w
abbrev pub before : {A : Type 0} → A → (ℕ → A) → ℕ → A
before v w zero = v
before v w (suc i) = w i

module _ (F : Field) where
  infixl 60 ◌⊞◌
  infixl 70 ◌*◌
  open F use {ring as R, laws, tests, inverse, is_field as field}
  open F.ring use {add as ◌⊞◌, mul as ◌*◌, neg as minus, carrier as C}

  pub combination-join : (r q : ℕ) (c : ℕ → C) (u v : ℕ → ℕ → C) (j : ℕ)
      → combination R (r + q) c (join r u v) j
      ≡ combination R r c u j ⊞ combination R q (λ k. c (r + k)) v j
  combination-join r q c u v j = sum-split R laws r q (λ i. c i * join r u v i j)
      ∙ ap (λ t. t ⊞ sum_below R q (λ k. c (r + k) * join r u v (r + k) j))
      (sum-ext R laws r (λ i. c i * join r u v i j) (λ i. c i * u i j)
      (λ i l. ap (λ (f : ℕ → C). c i * f j) (join-left r u v i l)))
      ∙ ap (λ t. combination R r c u j ⊞ t)
      (sum-ext R laws q (λ k. c (r + k) * join r u v (r + k) j) (λ k. c (r + k) * v k j)
      (λ k l. ap (λ (f : ℕ → C). c (r + k) * f j) (join-right r u v k)))

  -- the same where each vector is one of e entries, and then another
  module _ (r q e : ℕ) (c : ℕ → C) (a b a' b' : ℕ → ℕ → C) where
    pub joined-low : (j : ℕ) → j < e
        → combination R (r + q) c (join r (λ i. join e (a i) (b i)) (λ k. join e (a' k) (b' k))) j
        ≡ combination R r c a j ⊞ combination R q (λ k. c (r + k)) a' j
    joined-low j l = combination-join r q c (λ i. join e (a i) (b i)) (λ k. join e (a' k) (b' k)) j
        ∙ ap (λ t. t ⊞ combination R q (λ k. c (r + k)) (λ k. join e (a' k) (b' k)) j)
        (sum-ext R laws r (λ i. c i * join e (a i) (b i) j) (λ i. c i * a i j)
        (λ i m. ap (λ t. c i * t) (join-left e (a i) (b i) j l)))
        ∙ ap (λ t. combination R r c a j ⊞ t)
        (sum-ext R laws q (λ k. c (r + k) * join e (a' k) (b' k) j) (λ k. c (r + k) * a' k j)
        (λ k m. ap (λ t. c (r + k) * t) (join-left e (a' k) (b' k) j l)))

    pub joined-high : (l : ℕ) → combination R (r + q) c (join r (λ i. join e (a i) (b i)) (λ k. join
        e (a' k) (b' k))) (e + l) ≡ combination R r c b l ⊞ combination R q (λ k. c (r + k)) b' l
    joined-high l = combination-join r q c (λ i. join e (a i) (b i)) (λ k. join e (a' k) (b' k))
        (e + l)
        ∙ ap (λ t. t ⊞ combination R q (λ k. c (r + k)) (λ k. join e (a' k) (b' k)) (e + l))
        (sum-ext R laws r (λ i. c i * join e (a i) (b i) (e + l)) (λ i. c i * b i l)
        (λ i m. ap (λ t. c i * t) (join-right e (a i) (b i) l)))
        ∙ ap (λ t. combination R r c b l ⊞ t)
        (sum-ext R laws q (λ k. c (r + k) * join e (a' k) (b' k) (e + l))
        (λ k. c (r + k) * b' k l) (λ k m. ap (λ t. c (r + k) * t) (join-right e (a' k) (b' k)
        l)))

  -- a vector of the span that is zero at the pivots is zero
  pub zero-at_pivots : (r : ℕ) (b : ℕ → ℕ → C) (pivot : ℕ → ℕ) → IsEchelon R r b pivot → (v : ℕ → C)
      → InSpan R r b v → ((i : ℕ) → i < r → v (pivot i) ≡ R.zero) → (j : ℕ) → v j ≡ R.zero
  zero-at_pivots r b pivot echelon v h zeros j = h.sum j
      ∙ combination-zero R laws r h.coefficients b j
      (λ i l. coordinates R laws r b pivot echelon v h i l ∙ zeros i l)

  -- independent vectors in a span are at most as many as the vectors that span it
  pub at-most : (r : ℕ) (w : ℕ → ℕ → C) (s : ℕ) (u : ℕ → ℕ → C) → IsIndependent R r w
      → ((i : ℕ) → i < r → InSpan R s u (w i)) → r ≤ s
  at-most = exchange (field_domain F)

  -- two bases of one space have as many vectors
  pub same-dimension : (r : ℕ) (w : ℕ → ℕ → C) (s : ℕ) (u : ℕ → ℕ → C) → IsIndependent R r w
      → IsIndependent R s u → SameSpan R r w s u → r ≡ s
  same-dimension r w s u free other same = omega
      (arith, at-most r w s u free same.into, at-most s u r w other same.back)

  -- a vector outside the span of independent ones is independent of them
  pub independent-before : (r : ℕ) (w : ℕ → ℕ → C) (v : ℕ → C) → IsIndependent R r w
      → ¬ (InSpan R r w v) → IsIndependent R (suc r) (before v w)
  independent-before r w v free outside c h = go (R.same (c 0) R.zero) refl
    where
      split : (j : ℕ) → c 0 * v j ⊞ combination R r (λ i. c (suc i)) w j ≡ R.zero
      split j = sym (sum-front R laws r (λ i. c i * before v w i j)) ∙ h j

      inside : ¬ (c 0 ≡ R.zero) → InSpan R r w v
      inside n = record {
        coefficients = λ i. minus (inverse (c 0)) * c (suc i);
        sum = λ j. sym (sum-ext R laws r (λ i. minus (inverse (c 0)) * c (suc i) * w i j)
            (λ i. minus (inverse (c 0)) * (c (suc i) * w i j))
            (λ i l. laws.mul_assoc (minus (inverse (c 0))) (c (suc i)) (w i j))
            ∙ sum-mul R laws r (minus (inverse (c 0))) (λ i. c (suc i) * w i j)
            ∙ ring4 R laws (λ d a v s. neg d ⊗ s) (λ d a v s. (a ⊗ d) ⊗ v ⊕ neg d ⊗ (a ⊗ v ⊕ s))
            refl (inverse (c 0)) (c 0) (v j) (combination R r (λ i. c (suc i)) w j)
            ∙ ap (λ t. t * v j ⊞ minus (inverse (c 0)) *
            (c 0 * v j ⊞ combination R r (λ i. c (suc i)) w j)) (field.mul_inverse (c 0) n)
            ∙ ap (λ t. R.one * v j ⊞ minus (inverse (c 0)) * t) (split j)
            ∙ ring2 R laws (λ d v. unit ⊗ v ⊕ neg d ⊗ nil) (λ d v. v) refl (inverse (c 0))
            (v j));
      }

      go : (b : Bool) → R.same (c 0) R.zero ≡ b → (i : ℕ) → i < suc r → c i ≡ R.zero
      go false e i l = absurd (outside (inside (differs R laws tests (c 0) e)))
      go true e zero l = tests.same_true (c 0) R.zero e
      go true e (suc i) l = free (λ i. c (suc i))
          (λ j. sym (zero_add R laws (combination R r (λ i. c (suc i)) w j))
          ∙ ap (λ t. t ⊞ combination R r (λ i. c (suc i)) w j)
          (sym (ap (λ t. t * v j) (tests.same_true (c 0) R.zero e) ∙ zero_mul R laws (v j)))
          ∙ split j) i (omega (arith, l))

  -- a proper subspace has a smaller dimension
  pub smaller-dimension : (r : ℕ) (w : ℕ → ℕ → C) (s : ℕ) (u : ℕ → ℕ → C) (v : ℕ → C)
      → IsIndependent R r w → ((i : ℕ) → i < r → InSpan R s u (w i)) → InSpan R s u v
      → ¬ (InSpan R r w v) → r < s
  smaller-dimension r w s u v free inside hv outside = omega
      (arith, at-most (suc r) (before v w) s u (independent-before r w v free outside) each)
    where
      each : (i : ℕ) → i < suc r → InSpan R s u (before v w i)
      each zero l = hv
      each (suc i) l = inside i (omega (arith, l))

  -- the relations of r vectors of m entries have dimension at least r - m
  pub rank-bound : (r m : ℕ) (images : ℕ → ℕ → C) (d : ℕ) (b : ℕ → ℕ → C) (pivot : ℕ → ℕ)
      → IsEchelon R d b pivot
      → ((v : ℕ → C) → EndsAt R r v → ((j : ℕ) → j < m → combination R r v images j ≡ R.zero)
      → InSpan R d b v) → r ≤ m + d
  rank-bound r m images d b pivot echelon all = go (cases_lt (m + d) r)
    where
      w : ℕ → ℕ → C
      w i = join m (images i) (λ l. unit_at R i (pivot l))

      go : (m + d < r) ⊎ (r ≤ m + d) → r ≤ m + d
      go (inr l) = l
      go (inl l) = absurd (h.nonzero
          (sym (cut-below R laws r h.coefficients h.index h.below)
          ∙ zero-at_pivots d b pivot echelon v (all v (cut-ends R laws r h.coefficients) low) high
          h.index))
        where
          h : Dependence R r (m + d) w
          h = dependence (field_domain F) (m + d) r w l

          v : ℕ → C
          v = cut R laws r h.coefficients

          low : (j : ℕ) → j < m → combination R r v images j ≡ R.zero
          low j k = combination-cut R laws r h.coefficients images j
              ∙ sum-ext R laws r (λ i. h.coefficients i * images i j)
              (λ i. h.coefficients i * w i j)
              (λ i q. ap (λ t. h.coefficients i * t)
              (sym (join-left m (images i) (λ l. unit_at R i (pivot l)) j k)))
              ∙ h.sum j (omega (arith, k))

          at : (p : ℕ) → (p < r) ⊎ (r ≤ p) → combination R r h.coefficients (unit_at R) p ≡ R.zero
              → v p ≡ R.zero
          at p (inl k) e = cut-below R laws r h.coefficients p k
              ∙ sym (combination-unit R laws r h.coefficients p k) ∙ e
          at p (inr k) e = cut-ends R laws r h.coefficients p k

          high : (i : ℕ) → i < d → v (pivot i) ≡ R.zero
          high i k = at (pivot i) (cases_lt (pivot i) r)
              (sum-ext R laws r (λ l. h.coefficients l * unit_at R l (pivot i))
              (λ l. h.coefficients l * w l (m + i))
              (λ l q. ap (λ t. h.coefficients l * t)
              (sym (join-right m (images l) (λ k. unit_at R l (pivot k)) i)))
              ∙ h.sum (m + i) (omega (arith, k)))

  -- the dimensions of two spaces add up to those of their sum and their meet
  module _ (r : ℕ) (u : ℕ → ℕ → C) (pu : ℕ → ℕ) (first : IsEchelon R r u pu) (q : ℕ)
      (v : ℕ → ℕ → C) (pv : ℕ → ℕ) (second : IsEchelon R q v pv)
      (e : ℕ) (z : ℕ → ℕ → C) (pz : ℕ → ℕ) (all : IsEchelon R e z pz) (d : ℕ) (w : ℕ → ℕ → C)
      (pw : ℕ → ℕ) (common : IsEchelon R d w pw)
      (in_left : (x : ℕ → C) → InSpan R d w x → InSpan R r u x)
      (in_right : (x : ℕ → C) → InSpan R d w x → InSpan R q v x)
      (in_both : (x : ℕ → C) → InSpan R r u x → InSpan R q v x → InSpan R d w x)
      (u_in : (i : ℕ) → i < r → InSpan R e z (u i)) (v_in : (k : ℕ) → k < q → InSpan R e z (v k))
    where
      -- r + q <= e + d
      pub meet-sum_above : r + q ≤ e + d
      meet-sum_above = go (cases_lt (e + d) (r + q))
        where
          f : ℕ → ℕ → C
          f = join r (λ i. join e (λ j. u i (pz j)) (λ l. u i (pw l)))
              (λ k. join e (λ j. v k (pz j)) (λ l. R.zero))

          go : (e + d < r + q) ⊎ (r + q ≤ e + d) → r + q ≤ e + d
          go (inr l) = l
          go (inl l) = absurd (h.nonzero (zero_at_index (cases_lt h.index r)))
            where
              h : Dependence R (r + q) (e + d) f
              h = dependence (field_domain F) (e + d) (r + q) f l

              c : ℕ → C
              c = h.coefficients

              c' : ℕ → C
              c' k = h.coefficients (r + k)

              x : ℕ → C
              x = combination R r c u

              y : ℕ → C
              y = combination R q c' v

              total : (j : ℕ) → R.one * x j ⊞ y j ≡ R.zero
              total = zero-at_pivots e z pz all (λ j. R.one * x j ⊞ y j)
                  (span-more R laws e z R.one x y
                  (span-inside R laws r u e z x u_in
                  (record { coefficients = c; sum = λ j. refl }))
                  (span-inside R laws q v e z y v_in
                  (record { coefficients = c'; sum = λ j. refl })))
                  (λ i l. ap (λ t. t ⊞ y (pz i))
                  (ring1 R laws (λ a. unit ⊗ a) (λ a. a) refl (x (pz i)))
                  ∙ sym (joined-low r q e c (λ i j. u i (pz j)) (λ i l. u i (pw l))
                  (λ k j. v k (pz j)) (λ k l. R.zero) i l) ∙ h.sum i (omega (arith, l)))

              opposite : (j : ℕ) → x j ≡ minus R.one * y j
              opposite j = ring2 R laws (λ x y. x) (λ x y. (unit ⊗ x ⊕ y) ⊕ neg unit ⊗ y) refl
                  (x j)
                  (y j) ∙ ap (λ t. t ⊞ minus R.one * y j) (total j)
                  ∙ zero_add R laws (minus R.one * y j)

              x_in : InSpan R d w x
              x_in = in_both x (record { coefficients = c; sum = λ j. refl })
                  (record {
                    coefficients = λ k. minus R.one * c' k;
                    sum = λ j. opposite j
                        ∙ sym (sum-ext R laws q (λ k. minus R.one * c' k * v k j)
                        (λ k. minus R.one * (c' k * v k j))
                        (λ k m. laws.mul_assoc (minus R.one) (c' k) (v k j))
                        ∙ sum-mul R laws q (minus R.one) (λ k. c' k * v k j));
                  })

              x_zero : (j : ℕ) → x j ≡ R.zero
              x_zero = zero-at_pivots d w pw common x x_in
                  (λ i l. sym (laws.add_zero (x (pw i)))
                  ∙ ap (λ t. x (pw i) ⊞ t) (sym (sum-ext R laws q (λ k. c' k * R.zero)
                  (λ k. R.zero)
                  (λ k m. mul_zero R laws (c' k)) ∙ sum-zero R laws q))
                  ∙ sym (joined-high r q e c (λ i j. u i (pz j)) (λ i l. u i (pw l))
                  (λ k j. v k (pz j)) (λ k l. R.zero) i) ∙ h.sum (e + i) (omega (arith, l)))

              y_zero : (j : ℕ) → y j ≡ R.zero
              y_zero j = ring2 R laws (λ x y. y) (λ x y. (unit ⊗ x ⊕ y) ⊕ neg x) refl (x j) (y j)
                  ∙ ap (λ t. t ⊞ minus (x j)) (total j) ∙ ap (λ t. R.zero ⊞ minus t) (x_zero j)
                  ∙ ring1 R laws (λ a. nil ⊕ neg nil) (λ a. nil) refl R.zero

              zero_at_index : (h.index < r) ⊎ (r ≤ h.index) → c h.index ≡ R.zero
              zero_at_index (inl m) = echelon-independent R laws r u pu first c x_zero h.index m
              zero_at_index (inr m) = let k : r + (h.index - r)
                  ≡ h.index = omega (arith, m) in ap c (sym k)
                  ∙ echelon-independent R laws q v pv second c' y_zero (h.index - r)
                  (omega (arith, m, h.below))

      -- e + d <= r + q, where each vector of the sum comes apart
      module _ (left right : ℕ → ℕ → C) (left_in : (k : ℕ) → k < e → InSpan R r u (left k))
          (right_in : (k : ℕ) → k < e → InSpan R q v (right k))
          (apart : (k j : ℕ) → k < e → z k j ≡ left k j ⊞ right k j) where
        pub meet-sum_below : e + d ≤ r + q
        meet-sum_below = go (cases_lt (r + q) (e + d))
          where
            f : ℕ → ℕ → C
            f = join e (λ k. join r (λ j. left k (pu j)) (λ m. right k (pv m)))
                (λ l. join r (λ j. w l (pu j)) (λ m. minus (w l (pv m))))

            go : (r + q < e + d) ⊎ (e + d ≤ r + q) → e + d ≤ r + q
            go (inr l) = l
            go (inl l) = absurd (h.nonzero (zero_at_index (cases_lt h.index e)))
              where
                h : Dependence R (e + d) (r + q) f
                h = dependence (field_domain F) (r + q) (e + d) f l

                c : ℕ → C
                c = h.coefficients

                c' : ℕ → C
                c' k = h.coefficients (e + k)

                a : ℕ → C
                a = combination R e c left

                b : ℕ → C
                b = combination R d c' w

                a' : ℕ → C
                a' = combination R e c right

                b_in : InSpan R d w b
                b_in = record { coefficients = c'; sum = λ j. refl }

                x_zero : (j : ℕ) → R.one * a j ⊞ b j ≡ R.zero
                x_zero = zero-at_pivots r u pu first (λ j. R.one * a j ⊞ b j)
                    (span-more R laws r u R.one a b
                    (span-inside R laws e left r u a left_in
                    (record { coefficients = c; sum = λ j. refl })) (in_left b b_in))
                    (λ i m. ap (λ t. t ⊞ b (pu i))
                    (ring1 R laws (λ a. unit ⊗ a) (λ a. a) refl (a (pu i)))
                    ∙ sym (joined-low e d r c (λ k j. left k (pu j)) (λ k m. right k (pv m))
                    (λ l j. w l (pu j)) (λ l m. minus (w l (pv m))) i m)
                    ∙ h.sum i (omega (arith, m)))

                y_zero : (j : ℕ) → minus R.one * b j ⊞ a' j ≡ R.zero
                y_zero = zero-at_pivots q v pv second (λ j. minus R.one * b j ⊞ a' j)
                    (span-more R laws q v (minus R.one) b a' (in_right b b_in)
                    (span-inside R laws e right q v a' right_in
                    (record { coefficients = c; sum = λ j. refl })))
                    (λ i m. laws.add_comm (minus R.one * b (pv i)) (a' (pv i))
                    ∙ ap (λ t. a' (pv i) ⊞ t) (sym (sum-mul R laws d (minus R.one)
                    (λ l. c' l * w l
                    (pv i))) ∙ sum-ext R laws d (λ l. minus R.one * (c' l * w l (pv i)))
                    (λ l. c' l * minus (w l (pv i)))
                    (λ l n. ring2 R laws (λ c w. neg unit ⊗ (c ⊗ w)) (λ c w. c ⊗ neg w) refl
                    (c' l) (w l (pv i))))
                    ∙ sym (joined-high e d r c (λ k j. left k (pu j)) (λ k m. right k (pv m))
                    (λ l j. w l (pu j)) (λ l m. minus (w l (pv m))) i)
                    ∙ h.sum (r + i) (omega (arith, m)))

                z_zero : (j : ℕ) → combination R e c z j ≡ R.zero
                z_zero j = sum-ext R laws e (λ k. c k * z k j)
                    (λ k. c k * left k j ⊞ c k * right k j)
                    (λ k m. ap (λ t. c k * t) (apart k j m)
                    ∙ laws.mul_add (c k) (left k j) (right k j))
                    ∙ sum-add R laws e (λ k. c k * left k j) (λ k. c k * right k j)
                    ∙ ring3 R laws (λ a a' b. a ⊕ a')
                    (λ a a' b. (unit ⊗ a ⊕ b) ⊕ (neg unit ⊗ b ⊕ a')) refl (a j) (a' j) (b j)
                    ∙ ap (λ t. t ⊞ (minus R.one * b j ⊞ a' j)) (x_zero j)
                    ∙ ap (λ t. R.zero ⊞ t) (y_zero j) ∙ laws.add_zero R.zero

                c_zero : (k : ℕ) → k < e → c k ≡ R.zero
                c_zero = echelon-independent R laws e z pz all c z_zero

                b_zero : (j : ℕ) → b j ≡ R.zero
                b_zero j = ring2 R laws (λ a b. b) (λ a b. unit ⊗ nil ⊕ b) refl (a j) (b j)
                    ∙ ap (λ t. R.one * t ⊞ b j) (sym (combination-zero R laws e c left j c_zero))
                    ∙ x_zero j

                zero_at_index : (h.index < e) ⊎ (e ≤ h.index) → c h.index ≡ R.zero
                zero_at_index (inl m) = c_zero h.index m
                zero_at_index (inr m) = let k : e + (h.index - e)
                    ≡ h.index = omega (arith, m) in ap c (sym k)
                    ∙ echelon-independent R laws d w pw common c' b_zero (h.index - e)
                    (omega (arith, m, h.below))
