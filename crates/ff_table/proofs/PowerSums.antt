-- Sums of multiples of the powers of an element whose weight is prime to e: their weights, that
-- they are independent over k[z], and reduction modulo them.
use Rattle.std.proofs.Common.{◌≡◌, ℕ, zero, suc, ◌+◌, ◌-◌, ◌*◌, ◌/◌, ◌%◌, ◌<◌, ◌≤◌, ◌⊎◌, inl, inr}
use Rattle.std.proofs.Common.{true, [], ◌∷◌, refl, sym, ◌∙◌, ap, ap₂, subst, arith}
use Rattle.std.proofs.Common.{mul_comm}
use Rattle.std.proofs.lemmas.Bool.{cases_lt, lt-ltb, ltb-true}
use Rattle.std.proofs.Math.Nat.{mul-add-mod_self_left, div-add-mod, mul-le-mul_left}
use Rattle.ff_theory.specs.Ring.{RingOps, IsCommRing, power}
use Rattle.ff_theory.specs.Lawful.{Field, Domain}
use Rattle.ff_theory.specs.Span.{unit_at}
use Rattle.ff_theory.specs.Poly.{Poly, poly, polynomials}
use Rattle.ff_theory.specs.Division.{size}
use Rattle.ff_theory.specs.Monomial.{variable}
use Rattle.ff_theory.proofs.Solver.{◌⊕◌, ◌⊗◌, nil, ring1, ring3, mul_zero, zero_mul}
use Rattle.ff_theory.proofs.Span.{unit-same, unit-other}
use Rattle.ff_theory.proofs.Sums.{sum-ext, sum-zero, sum-add, sum-mul, sum-single}
use Rattle.ff_theory.proofs.Gcd.{no_size}
use Rattle.ff_theory.proofs.PolyMap.{polynomial_domain}
use Rattle.ff_table.proofs.Sizes.{power-size}
use Rattle.ff_table.specs.Coords.{Coords}
use Rattle.ff_table.specs.Table.{Table, IsTable, table_ring, Weighs, WeighsBelow}
use Rattle.ff_table.specs.Level.{z_multiple}
use Rattle.ff_table.specs.Reduce.{IsClear, Pivot, Reduction}
use Rattle.ff_table.specs.Powers.{IsPrimeTo, is_reached, power_sum, IsPowerSum}
use Rattle.ff_table.proofs.Weights.{one_weight, mod_sub}
use Rattle.ff_table.proofs.TableRing.{table_laws, zero_weight}
use Rattle.ff_table.proofs.One.{one-weight}
use Rattle.ff_table.proofs.Powers.{power-weight}
use Rattle.ff_table.proofs.Reduce.{reduce, clear-zero}
use Rattle.ff_table.proofs.Embedding.{embed, embed_map, multiple-embed, multiple-weight, weight-add}

module _ (K : Field) (s : Table K.ring) (table : IsTable K.ring s) where
  abbrev k : RingOps
  k = K.ring

  abbrev P : Domain
  P = polynomial_domain K

  abbrev T : RingOps
  T = table_ring K.ring s

  abbrev C : Type 0
  C = Coords (polynomials K.ring) s.rank

  TL : IsCommRing T
  TL = table_laws K s table

  -- k[z] acts on the ring: sums and products of polynomials
  pub multiple-sum : (p q : Poly K.ring) (a : Coords (polynomials K.ring) s.rank)
      → z_multiple K.ring s ((polynomials K.ring).add p q) a
      ≡ (table_ring K.ring s).add (z_multiple K.ring s p a) (z_multiple K.ring s q a)
  multiple-sum p q a = multiple-embed K s table (P.add p q) a
      ∙ ap (λ t. T.mul t a) ((embed_map K s table).on_add p q)
      ∙ ring3 T TL (λ x y a. (x ⊕ y) ⊗ a) (λ x y a. x ⊗ a ⊕ y ⊗ a) refl (embed K s table p)
      (embed K s table q) a
      ∙ ap₂ T.add (sym (multiple-embed K s table p a)) (sym (multiple-embed K s table q a))

  pub multiple-product : (p q : Poly K.ring) (a : Coords (polynomials K.ring) s.rank)
      → z_multiple K.ring s ((polynomials K.ring).mul p q) a
      ≡ z_multiple K.ring s p (z_multiple K.ring s q a)
  multiple-product p q a = multiple-embed K s table (P.mul p q) a
      ∙ ap (λ t. T.mul t a) ((embed_map K s table).on_mul p q) ∙ TL.mul_assoc _ _ _
      ∙ ap (T.mul (embed K s table p)) (sym (multiple-embed K s table q a))
      ∙ sym (multiple-embed K s table p (z_multiple k s q a))

  pub multiple-zero : (a : Coords (polynomials K.ring) s.rank)
      → z_multiple K.ring s (polynomials K.ring).zero a ≡ (table_ring K.ring s).zero
  multiple-zero a = multiple-embed K s table P.zero a
      ∙ ap (λ t. T.mul t a) (embed_map K s table).on_zero ∙ zero_mul T TL a

  module _ (w : Coords (polynomials K.ring) s.rank) where
    -- sums and multiples of sums of powers
    pub power_sum-add : (n : ℕ) (A B : ℕ → Poly K.ring)
        → power_sum K.ring s w n (λ j. (polynomials K.ring).add (A j) (B j))
        ≡ (table_ring K.ring s).add (power_sum K.ring s w n A) (power_sum K.ring s w n B)
    power_sum-add n A B = sum-ext T TL n _ _ (λ j l. multiple-sum (A j) (B j) (power T w j))
        ∙ sum-add T TL n (λ j. z_multiple k s (A j) (power T w j))
        (λ j. z_multiple k s (B j) (power T w j))

    pub power_sum-multiple : (n : ℕ) (p : Poly K.ring) (A : ℕ → Poly K.ring)
        → power_sum K.ring s w n (λ j. (polynomials K.ring).mul p (A j))
        ≡ z_multiple K.ring s p (power_sum K.ring s w n A)
    power_sum-multiple n p A = sum-ext T TL n _ _ (λ j l.
        multiple-product p (A j) (power T w j)
        ∙ multiple-embed K s table p (z_multiple k s (A j) (power T w j)))
        ∙ sum-mul T TL n (embed K s table p) (λ j. z_multiple k s (A j) (power T w j))
        ∙ sym (multiple-embed K s table p (power_sum k s w n A))

    power_sum-zero : (n : ℕ) (A : ℕ → Poly K.ring) → ((j : ℕ) → j < n → A j ≡ P.zero)
        → power_sum k s w n A ≡ T.zero
    power_sum-zero n A h = sum-ext T TL n _ (λ j. T.zero)
        (λ j l. ap (λ p. z_multiple k s p (power T w j)) (h j l) ∙ multiple-zero (power T w j))
        ∙ sum-zero T TL n

    -- one term
    pub power_sum-single : (j : ℕ) → j < s.rank → (p : Poly K.ring)
        → power_sum K.ring s w s.rank
        (λ l. (polynomials K.ring).mul p (unit_at (polynomials K.ring) j l))
        ≡ z_multiple K.ring s p (power (table_ring K.ring s) w j)
    power_sum-single j q p =
        sum-single T TL s.rank j
        (λ l. z_multiple k s (P.mul p (unit_at P.ring j l)) (power T w l)) q
        (λ l r n. ap (λ t. z_multiple k s t (power T w l))
        (ap (P.mul p) (unit-other P.ring j l n) ∙ mul_zero P.ring P.laws p)
        ∙ multiple-zero (power T w l))
        ∙ ap (λ t. z_multiple k s t (power T w j))
        (ap (P.mul p) (unit-same P.ring j) ∙ P.laws.mul_one p)

    module _ (W : ℕ) (weighs : Weighs K.ring s w W) (prime : IsPrimeTo s.rank W) where
      -- the heaviest term gives the weight
      pub record HasTerm (n : ℕ) (A : ℕ → Poly K.ring) : Type 0 where
        pub index : ℕ
        pub degree : ℕ
        pub below : index < n
        pub long : size K.ring (A index) ≡ suc degree
        pub heavy : Weighs K.ring s (power_sum K.ring s w n A) (s.rank * degree + index * W)

      term-weight : (p : Poly K.ring) (d j : ℕ) → size k p ≡ suc d
          → Weighs k s (z_multiple k s p (power T w j)) (s.rank * d + j * W)
      term-weight p d j h = multiple-weight K s table p d h (power T w j) (j * W)
          (power-weight K s table w W weighs (one-weight K s table) j)

      mod-term : (d j : ℕ) → (s.rank * d + j * W) % s.rank ≡ (j * W) % s.rank
      mod-term d j = mul-add-mod_self_left s.rank d (j * W)

      -- from n terms to one more
      more-terms : (n : ℕ) → suc n ≤ s.rank → (A : ℕ → Poly K.ring) (m : ℕ) → size k (A n) ≡ m
          → HasTerm n A ⊎ ((j : ℕ) → j < n → A j ≡ P.zero)
          → HasTerm (suc n) A ⊎ ((j : ℕ) → j < suc n → A j ≡ P.zero)
      more-terms n q A zero e (inr z) = inr (λ j l. go j l (cases_lt j n))
        where
          go : (j : ℕ) → j < suc n → (j < n) ⊎ (n ≤ j) → A j ≡ P.zero
          go j l (inl o) = z j o
          go j l (inr o) = let f : j ≡ n = omega arith in ap A f
              ∙ no_size K (A n) e
      more-terms n q A (suc d) e (inr z) = inl (record {
        index = n;
        degree = d;
        below = omega arith;
        long = e;
        heavy = subst (λ a. Weighs k s a (s.rank * d + n * W))
            (ring1 T TL (λ a. a) (λ a. nil ⊕ a) refl (z_multiple k s (A n) (power T w n))
            ∙ ap (λ a. T.add a (z_multiple k s (A n) (power T w n))) (sym (power_sum-zero n A z)))
            (term-weight (A n) d n e);
      })
      more-terms n q A zero e (inl h) = inl (record {
        index = h.index;
        degree = h.degree;
        below = omega (arith, h.below);
        long = h.long;
        heavy = subst (λ a. Weighs k s a (s.rank * h.degree + h.index * W))
            (sym (TL.add_zero (power_sum k s w n A))
            ∙ ap (T.add (power_sum k s w n A)) (sym (ap (λ p. z_multiple k s p (power T w n))
            (no_size K (A n) e) ∙ multiple-zero (power T w n))))
            h.heavy;
      })
      more-terms n q A (suc d) e (inl h) =
          inl (go (cases_lt x y) (cases_lt y x))
        where
          x : ℕ
          x = s.rank * h.degree + h.index * W

          y : ℕ
          y = s.rank * d + n * W

          last : C
          last = z_multiple k s (A n) (power T w n)

          go : (x < y) ⊎ (y ≤ x) → (y < x) ⊎ (x ≤ y) → HasTerm (suc n) A
          go (inl o) b = record {
            index = n;
            degree = d;
            below = omega arith;
            long = e;
            heavy = subst (λ a. Weighs k s a (s.rank * d + n * W))
                (TL.add_comm last (power_sum k s w n A))
                (weight-add K s table last (power_sum k s w n A) (s.rank * d + n * W)
                (term-weight (A n) d n e)
                (λ l r i b. h.heavy.below l r i (omega (arith, o, b))));
          }
          go (inr o) (inl b) = record {
            index = h.index;
            degree = h.degree;
            below = omega (arith, h.below);
            long = h.long;
            heavy = weight-add K s table (power_sum k s w n A) last
                (s.rank * h.degree + h.index * W) h.heavy
                (λ l r i c. (term-weight (A n) d n e).below l r i (omega (arith, b, c)));
          }
          go (inr o) (inr b) = let f : s.rank * h.degree + h.index * W ≡ s.rank * d + n * W =
              omega (arith, o, b) in
              let i : h.index ≡ n = prime.distinct h.index n (omega (arith, h.below)) (omega arith)
              (sym (mod-term h.degree h.index) ∙ ap (λ t. t % s.rank) f ∙ mod-term d n) in
              absurd (omega (arith, i, h.below))

      pub top_term : (n : ℕ) → n ≤ s.rank → (A : ℕ → Poly K.ring)
          → HasTerm n A ⊎ ((j : ℕ) → j < n → A j ≡ (polynomials K.ring).zero)
      top_term zero q A = inr (λ j l. absurd (omega arith))
      top_term (suc n) q A = more-terms n q A (size k (A n)) refl (top_term n (omega arith) A)

      -- the powers below e are independent over k[z]
      pub independent : (A : ℕ → Poly K.ring)
          → power_sum K.ring s w s.rank A ≡ (table_ring K.ring s).zero
          → (j : ℕ) → j < s.rank → A j ≡ (polynomials K.ring).zero
      independent A e = go (top_term s.rank (omega arith) A)
        where
          go : HasTerm s.rank A ⊎ ((j : ℕ) → j < s.rank → A j ≡ P.zero)
              → (j : ℕ) → j < s.rank → A j ≡ P.zero
          go (inr z) = z
          go (inl h) = λ j l. absurd (zero_weight K s table _
              (subst (λ a. Weighs k s a (s.rank * h.degree + h.index * W)) e h.heavy))

      -- the weight of a sum of powers is reached
      reached-term : (d j : ℕ) → j < s.rank → is_reached prime (s.rank * d + j * W) ≡ true
      reached-term d j q = let i : prime.exponent (s.rank * d + j * W) ≡ j =
          prime.distinct (prime.exponent (s.rank * d + j * W)) j
          (prime.in_range (s.rank * d + j * W)) q
          (prime.class (s.rank * d + j * W) ∙ mod-term d j) in
          lt-ltb (prime.exponent (s.rank * d + j * W) * W) (suc (s.rank * d + j * W))
          (let e : prime.exponent (s.rank * d + j * W) * W ≡ j * W = ap (λ t. t * W) i in
          omega (arith, e))

      pub sum-reached : (a : Coords (polynomials K.ring) s.rank) → IsPowerSum K.ring s w a
          → (x : ℕ) → Weighs K.ring s a x → is_reached prime x ≡ true
      sum-reached a sum x h = go (top_term s.rank (omega arith) sum.coefficients)
        where
          go : HasTerm s.rank sum.coefficients ⊎
              ((j : ℕ) → j < s.rank → sum.coefficients j ≡ P.zero) → is_reached prime x ≡ true
          go (inr z) = absurd (zero_weight K s table x (subst (λ a. Weighs k s a x)
              (sum.sum ∙ power_sum-zero s.rank sum.coefficients z) h))
          go (inl t) = ap (is_reached prime)
              (one_weight k s.rank s.weight table.classes _ x (s.rank * t.degree + t.index * W)
              (subst (λ a. Weighs k s a x) sum.sum h) t.heavy)
              ∙ reached-term t.degree t.index t.below

      -- a multiple of a power of w at a reached weight
      pivot : (t : ℕ) → is_reached prime t ≡ true → Pivot k s (IsPowerSum k s w) t
      pivot t on = record {
        element = z_multiple k s (power P.ring (variable k) d) (power T w j);
        inside = record {
          coefficients = λ l. P.mul (power P.ring (variable k) d) (unit_at P.ring j l);
          sum = sym (power_sum-single j (prime.in_range t) (power P.ring (variable k) d));
        };
        weight = subst (Weighs k s (z_multiple k s (power P.ring (variable k) d) (power T w j)))
            split (term-weight (power P.ring (variable k) d) d j (power-size K d));
      }
        where
          j : ℕ
          j = prime.exponent t

          d : ℕ
          d = (t - j * W) / s.rank

          above : prime.exponent t * W < suc t
          above = ltb-true (prime.exponent t * W) (suc t) on

          split : s.rank * ((t - prime.exponent t * W) / s.rank) + prime.exponent t * W ≡ t
          split = omega (
            arith,
            above,
            div-add-mod (t - prime.exponent t * W) s.rank,
            mod_sub s.rank table.algebra.positive t (prime.exponent t * W) (omega (arith, above))
                (sym (prime.class t)),
          )

      pub in_add : (a b : Coords (polynomials K.ring) s.rank) → IsPowerSum K.ring s w a
          → IsPowerSum K.ring s w b
          → IsPowerSum K.ring s w ((table_ring K.ring s).add a b)
      in_add a b h g = record {
        coefficients = λ j. P.add (h.coefficients j) (g.coefficients j);
        sum = ap₂ T.add h.sum g.sum ∙ sym (power_sum-add s.rank h.coefficients g.coefficients);
      }

      pub in-multiple : (p : Poly K.ring) (a : Coords (polynomials K.ring) s.rank)
          → IsPowerSum K.ring s w a → IsPowerSum K.ring s w (z_multiple K.ring s p a)
      in-multiple p a h = record {
        coefficients = λ j. P.mul p (h.coefficients j);
        sum = ap (z_multiple k s p) h.sum ∙ sym (power_sum-multiple s.rank p h.coefficients);
      }

      pub in_zero : IsPowerSum K.ring s w (table_ring K.ring s).zero
      in_zero = record {
        coefficients = λ j. P.zero;
        sum = sym (power_sum-zero s.rank (λ j. P.zero) (λ j l. refl));
      }

      -- each element is a sum of powers, plus a rest that is zero at the reached weights
      pub reduce-powers : (a : Coords (polynomials K.ring) s.rank)
          → Reduction K.ring s (IsPowerSum K.ring s w) (is_reached prime) a
      reduce-powers a = reduce K s table (IsPowerSum k s w) in_zero in_add
          (λ c a h. in-multiple (poly k (c ∷ [])) a h) (is_reached prime) pivot a

      -- the rest is below e * W
      pub clear-below : (a : Coords (polynomials K.ring) s.rank)
          → IsClear K.ring s (is_reached prime) 0 a → WeighsBelow K.ring s (s.rank * W) a
      clear-below a h l q d r = h l d q (omega arith)
          (lt-ltb (prime.exponent t * W) (suc t) (omega (arith, r, most)))
        where
          t : ℕ
          t = s.rank * d + s.weight l

          most : prime.exponent t * W ≤ s.rank * W
          most = omega (
            arith,
            mul-le-mul_left W (let o : prime.exponent t < s.rank = prime.in_range t in
                let u : prime.exponent t ≤ s.rank = omega (arith, o) in u),
            mul_comm (prime.exponent t) W,
            mul_comm s.rank W,
          )

      -- a sum of powers that is zero at the reached weights is zero
      pub clear-sum : (a : Coords (polynomials K.ring) s.rank) → IsPowerSum K.ring s w a
          → IsClear K.ring s (is_reached prime) 0 a → a ≡ (table_ring K.ring s).zero
      clear-sum a h clear = clear-zero K s table (is_reached prime) a (sum-reached a h) clear
