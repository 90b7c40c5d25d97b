-- Weights of products add up, and leading coefficients multiply: the ring of a table has no
-- divisors of zero.
use Rattle.std.proofs.Common.{◌≡◌, ℕ, suc, ◌+◌, ◌*◌, ◌<◌, ◌≤◌, refl, sym, ◌∙◌, ap, arith}
use Rattle.std.proofs.Math.Nat.{mul-add}
use Rattle.ff_theory.specs.Ring.{RingOps}
use Rattle.ff_theory.specs.Lawful.{Field}
use Rattle.ff_theory.specs.Sum.{sum_below}
use Rattle.ff_theory.specs.Poly.{coeff, Poly, polynomials}
use Rattle.ff_theory.proofs.Solver.{◌⊗◌, unit, ring2, ring3, mul_zero}
use Rattle.ff_theory.proofs.Sums.{sum-single, sum-ext, sum-zero}
use Rattle.ff_table.specs.Coords.{product_at}
use Rattle.ff_table.specs.Table.{Table, IsTable}
use Rattle.ff_table.specs.Weight.{IsUnder, IsBelow, HasWeight}
use Rattle.ff_table.proofs.Under.{under-more, under-sum, under-mul, top-mul, coeff-sum}
use Rattle.ff_table.proofs.Weights.{below_strictly}

-- a product of elements of a field that are not zero is not zero
pub product_nonzero : (K : Field) (a b : K.carrier) → ¬ (a ≡ K.zero) → ¬ (b ≡ K.zero)
    → ¬ (K.mul a b ≡ K.zero)
product_nonzero K a b ha hb z = hb (ring2 K.ring K.laws (λ b z. b) (λ b z. unit ⊗ b) refl b b
    ∙ ap (λ t. K.mul t b) (sym (K.is_field.mul_inverse a ha))
    ∙ ring3 K.ring K.laws (λ a i b. a ⊗ i ⊗ b) (λ a i b. i ⊗ (a ⊗ b)) refl a (K.inverse a) b
    ∙ ap (K.mul (K.inverse a)) z ∙ mul_zero K.ring K.laws (K.inverse a))

module _ (K : Field) (s : Table K.ring) (table : IsTable K.ring s) where
  abbrev k : RingOps
  k = K.ring

  abbrev e : ℕ
  e = s.rank

  abbrev m : ℕ → ℕ
  m = s.weight

  abbrev P : RingOps
  P = polynomials K.ring

  -- the product of a and b by the table
  abbrev pub times : (ℕ → Poly K.ring) → (ℕ → Poly K.ring) → ℕ → Poly K.ring
  times a b = product_at (polynomials K.ring) s.rank s.product a b

  -- one term of the product
  abbrev term : (ℕ → Poly K.ring) → (ℕ → Poly K.ring) → ℕ → ℕ → ℕ → Poly K.ring
  term a b l i j = P.mul (a i) (P.mul (b j) (s.product i j l))

  -- with the bounds x and y on the levels plus o and plus q
  term-under : (a b : ℕ → Poly K.ring) (o q i j l x y n : ℕ) → i < e → j < e → l < e
      → IsUnder k e (m i + o) x (a i) → IsUnder k e (m j + q) y (b j)
      → x + y ≤ n + 1 → IsUnder k e (m l + (o + q)) n (term a b l i j)
  term-under a b o q i j l x y n qi qj ql h g r d z =
      under-mul k K.laws K.tests e (m i + o) (m j + q + m l) x (y + m i + m j) (n + m i + m j) (a i)
      (P.mul (b j) (s.product i j l)) (omega arith) h
      (under-mul k K.laws K.tests e (m j + q) (m l) y (suc (m i + m j)) (y + m i + m j) (b j)
      (s.product i j l) (omega arith) g ((table.weights i j qi qj).below l ql))
      d (omega arith)

  -- a product stays below the sum of the weights
  pub below-times : (a b : ℕ → Poly K.ring) (o q x y n : ℕ)
      → IsBelow K.ring s.rank (λ l. s.weight l + o) x a
      → IsBelow K.ring s.rank (λ l. s.weight l + q) y b → x + y ≤ n + 1
      → IsBelow K.ring s.rank (λ l. s.weight l + (o + q)) n (times a b)
  below-times a b o q x y n h g r l z = under-sum k K.laws K.tests e (m l + (o + q)) n e _ (λ i qi.
      under-sum k K.laws K.tests e (m l + (o + q)) n e _
      (λ j qj. term-under a b o q i j l x y n qi qj z (h i qi) (g j qj) r))

  plain : (s n : ℕ) (p : Poly K.ring) → IsUnder k e s n p → IsUnder k e (s + 0) n p
  plain s n p h d l = h d (omega arith)

  term-plain : (a b : ℕ → Poly K.ring) (i j l x y n : ℕ) → i < e → j < e → l < e
      → IsUnder k e (m i) x (a i) → IsUnder k e (m j) y (b j)
      → x + y ≤ n + 1 → IsUnder k e (m l) n (term a b l i j)
  term-plain a b i j l x y n qi qj ql h g r d z =
      term-under a b 0 0 i j l x y n qi qj ql (plain (m i) x (a i) h) (plain (m j) y (b j) g) r d
      (omega arith)

  times-plain : (a b : ℕ → Poly K.ring) (x y n : ℕ) → IsBelow K.ring s.rank s.weight x a
      → IsBelow K.ring s.rank s.weight y b → x + y ≤ n + 1
      → IsBelow K.ring s.rank s.weight n (times a b)
  times-plain a b x y n h g r l z d q =
      below-times a b 0 0 x y n (λ i w. plain (m i) x (a i) (h i w))
      (λ i w. plain (m i) y (b i) (g i w)) r l z d (omega arith)

  -- the weight of a product
  module _ (a b : ℕ → Poly K.ring) (w v : ℕ) (h : HasWeight K.ring s.rank s.weight a w)
      (g : HasWeight K.ring s.rank s.weight b v) where
    abbrev pub top : HasWeight K.ring s.rank s.weight (s.product h.place g.place)
        (s.weight h.place + s.weight g.place)
    top = table.weights h.place g.place h.in_range g.in_range

    abbrev pub degree : ℕ
    degree = h.degree + (g.degree + top.degree)

    split : e * degree ≡ e * h.degree + (e * g.degree + e * top.degree)
    split = mul-add e h.degree (g.degree + top.degree)
        ∙ ap (λ n. e * h.degree + n) (mul-add e g.degree top.degree)

    pub level : w + v ≡ s.rank * degree + s.weight top.place
    level = omega (arith, split, h.level, g.level, top.level)

    at_level : (p : Poly K.ring) → IsUnder k e (m top.place) (w + v) p → coeff k p.coeffs degree
        ≡ k.zero
    at_level p u = u degree (omega (arith, level))

    -- the other terms have no part at this level
    other_first : (i : ℕ) → i < e → ¬ (i ≡ h.place) → (j : ℕ) → j < e
        → coeff k (term a b top.place i j).coeffs degree ≡ k.zero
    other_first i qi n j qj = at_level (term a b top.place i j)
        (term-plain a b i j top.place w (suc v) (w + v) qi qj top.in_range
        (below_strictly k e m table.classes a w h i qi n) (g.below j qj) (omega arith))

    other_second : (j : ℕ) → j < e → ¬ (j ≡ g.place)
        → coeff k (term a b top.place h.place j).coeffs degree ≡ k.zero
    other_second j qj n = at_level (term a b top.place h.place j)
        (term-plain a b h.place j top.place (suc w) v (w + v) h.in_range qj top.in_range
        (h.below h.place h.in_range) (below_strictly k e m table.classes b v g j qj n)
        (omega arith))

    -- the product of the leading coefficients of a, of b and of the product of the two basis
    -- vectors
    abbrev pub leading_product : k.carrier
    leading_product = k.mul (coeff k (a h.place).coeffs h.degree)
        (k.mul (coeff k (b g.place).coeffs g.degree)
        (coeff k (s.product h.place g.place top.place).coeffs top.degree))

    within : (n y z : ℕ) (p : Poly K.ring) → n ≡ y + z → IsUnder k e z (suc n) p
        → IsUnder k e z (suc (y + z)) p
    within n y z p q u = under-more k K.laws K.tests e z (suc n) (suc (y + z)) p
        (omega (arith, q)) u

    first_under : IsUnder k e (m h.place) (suc (e * h.degree + m h.place)) (a h.place)
    first_under = within w (e * h.degree) (m h.place) (a h.place) h.level
        (h.below h.place h.in_range)

    second_under : IsUnder k e (m g.place) (suc (e * g.degree + m g.place)) (b g.place)
    second_under = within v (e * g.degree) (m g.place) (b g.place) g.level
        (g.below g.place g.in_range)

    third_under : IsUnder k e (m top.place) (suc (e * top.degree + m top.place))
        (s.product h.place g.place top.place)
    third_under = within (m h.place + m g.place) (e * top.degree) (m top.place)
        (s.product h.place g.place top.place) top.level (top.below top.place top.in_range)

    pair_split : e * (g.degree + top.degree) ≡ e * g.degree + e * top.degree
    pair_split = mul-add e g.degree top.degree

    pair_under : IsUnder k e (m g.place + m top.place)
        (suc (e * (g.degree + top.degree) + (m g.place + m top.place)))
        (P.mul (b g.place) (s.product h.place g.place top.place))
    pair_under = under-mul k K.laws K.tests e (m g.place) (m top.place)
        (suc (e * g.degree + m g.place)) (suc (e * top.degree + m top.place))
        (suc (e * (g.degree + top.degree) + (m g.place + m top.place)))
        (b g.place) (s.product h.place g.place top.place)
        (omega (arith, pair_split)) second_under third_under

    main_term : coeff k (term a b top.place h.place g.place).coeffs degree ≡ leading_product
    main_term =
        top-mul k K.laws K.tests e table.algebra.positive (m h.place)
        (m g.place + m top.place) h.degree (g.degree + top.degree) (a h.place)
        (P.mul (b g.place) (s.product h.place g.place top.place)) first_under pair_under
        ∙ ap (k.mul (coeff k (a h.place).coeffs h.degree))
        (top-mul k K.laws K.tests e table.algebra.positive (m g.place)
        (m top.place) g.degree top.degree (b g.place)
        (s.product h.place g.place top.place) second_under third_under)

    pub coefficient : coeff K.ring (times a b top.place).coeffs degree ≡ leading_product
    coefficient =
        coeff-sum k K.laws K.tests e e (λ i. sum_below P e (λ j. term a b top.place i j)) degree
        ∙ sum-ext k K.laws e _ _ (λ i q. coeff-sum k K.laws K.tests e e
        (λ j. term a b top.place i j) degree)
        ∙ sum-single k K.laws e h.place
        (λ i. sum_below k e (λ j. coeff k (term a b top.place i j).coeffs degree)) h.in_range
        (λ i q n. sum-ext k K.laws e _ (λ j. k.zero) (λ j r. other_first i q n j r)
        ∙ sum-zero k K.laws e)
        ∙ sum-single k K.laws e g.place
        (λ j. coeff k (term a b top.place h.place j).coeffs degree) g.in_range
        (λ j q n. other_second j q n)
        ∙ main_term

    pub weight-times : HasWeight K.ring s.rank s.weight (times a b) (w + v)
    weight-times = record {
      place = top.place;
      degree = degree;
      in_range = top.in_range;
      level = level;
      nonzero = λ z. product_nonzero K _ _ h.nonzero (product_nonzero K _ _ g.nonzero top.nonzero)
          (sym coefficient ∙ z);
      below = times-plain a b (suc w) (suc v) (suc (w + v)) h.below g.below (omega arith);
    }
