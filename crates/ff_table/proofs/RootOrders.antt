-- Over a domain the orders of a polynomial at different elements add up to its degree at most. So
-- it has no more roots than its degree.
use Rattle.std.proofs.Common.{◌≡◌, ℕ, zero, suc, ◌+◌ as plus_ℕ, ◌<◌, ◌≤◌, ◌⊎◌, inl, inr, Bool}
use Rattle.std.proofs.Common.{true, false, List, [], ◌∷◌, length, get_or, refl, sym, ◌∙◌, ap, arith}
use Rattle.std.specs.List.{All, AllPairs, sum_by}
use Rattle.std.proofs.lemmas.List.Sums.{sum_by-cons}
use Rattle.std.proofs.lemmas.Bool.{cases_lt}
use Rattle.ff_theory.specs.Poly.{coeff}
use Rattle.ff_theory.specs.Lawful.{Domain}
use Rattle.ff_theory.proofs.Solver.{◌⊕◌, ◌⊗◌, neg, nil, ring1, ring2, ring3}
use Rattle.ff_theory.proofs.Dependence.{differs}
use Rattle.ff_theory.proofs.Domains.{no_divisors}
use Rattle.ff_table.specs.Shift.{shift, value_at}
use Rattle.ff_table.specs.Order.{HasOrder}
use Rattle.ff_table.proofs.Shift.{shift-value, value-first}
use Rattle.ff_table.proofs.ShiftCoeffs.{shift-past, shift-top, shift-shift, shift-suc, shift-zero}

module _ (D : Domain) where
  infixl 60 ◌+◌
  infixl 70 ◌*◌
  open D use {ring as R, laws, tests}
  open D.ring use {add as ◌+◌, mul as ◌*◌, neg as minus, carrier as C}

  -- the first index at which f is not zero, from one at which it is not
  first : (n : ℕ) (f : ℕ → C) → ¬ (f n ≡ R.zero)
      → (r : ℕ) × ((i : ℕ) → i < r → f i ≡ R.zero) × ¬ (f r ≡ R.zero)
  first zero f h = (zero, λ i l. absurd (omega arith), h)
  first (suc n) f h = go (R.same (f 0) R.zero) refl (first n (λ i. f (suc i)) h)
    where
      go : (b : Bool) → R.same (f 0) R.zero ≡ b
          → (r : ℕ) × ((i : ℕ) → i < r → f (suc i) ≡ R.zero) × ¬ (f (suc r) ≡ R.zero)
          → (r : ℕ) × ((i : ℕ) → i < r → f i ≡ R.zero) × ¬ (f r ≡ R.zero)
      go false e k = (zero, λ i l. absurd (omega arith), differs R laws tests (f 0) e)
      go true e k = (suc k.0, below, k.2)
        where
          below : (i : ℕ) → i < suc k.0 → f i ≡ R.zero
          below zero l = tests.same_true (f 0) R.zero e
          below (suc i) l = k.1 i (omega arith)

  -- the last index at which f is not zero
  pub last : (n : ℕ) (f : ℕ → C) → ((i : ℕ) → n < i → f i ≡ R.zero) → (j : ℕ) → ¬ (f j ≡ R.zero)
      → (m : ℕ) × ((i : ℕ) → m < i → f i ≡ R.zero) × ¬ (f m ≡ R.zero)
  last zero f h j nz = (zero, h, λ z. nz (at j z))
    where
      at : (i : ℕ) → f 0 ≡ R.zero → f i ≡ R.zero
      at zero z = z
      at (suc i) z = h (suc i) (omega arith)
  last (suc n) f h j nz = go (R.same (f (suc n)) R.zero) refl (λ k. last n f k j nz)
    where
      go : (b : Bool) → R.same (f (suc n)) R.zero ≡ b
          → (((i : ℕ) → n < i → f i ≡ R.zero)
          → (m : ℕ) × ((i : ℕ) → m < i → f i ≡ R.zero) × ¬ (f m ≡ R.zero))
          → (m : ℕ) × ((i : ℕ) → m < i → f i ≡ R.zero) × ¬ (f m ≡ R.zero)
      go false e rest = (suc n, h, differs R laws tests (f (suc n)) e)
      go true e rest = rest (λ i l. past i l (cases_lt (suc n) i))
        where
          past : (i : ℕ) → n < i → (suc n < i) ⊎ (i ≤ suc n) → f i ≡ R.zero
          past i l (inl q) = h i q
          past i l (inr q) = let z : i ≡ suc n = omega arith in ap f z
              ∙ tests.same_true (f (suc n)) R.zero e

  -- a polynomial that is not zero has an order at each element
  pub order_exists : (c : C) (p : List C) (n : ℕ) → ((i : ℕ) → n < i → coeff R p i ≡ R.zero)
      → (j : ℕ) → ¬ (coeff R p j ≡ R.zero) → (r : ℕ) × HasOrder R p c r
  order_exists c p n h j nz = (r.0, record { below = r.1; nonzero = r.2 })
    where
      m : (m : ℕ) × ((i : ℕ) → m < i → coeff R p i ≡ R.zero) × ¬ (coeff R p m ≡ R.zero)
      m = last n (coeff R p) h j nz

      r : (r : ℕ) × ((i : ℕ) → i < r → coeff R (shift R c p) i ≡ R.zero)
          × ¬ (coeff R (shift R c p) r ≡ R.zero)
      r = first m.0 (coeff R (shift R c p)) (λ z. m.2 (sym (shift-top R laws c p m.0 m.1) ∙ z))

  -- the order at a root is positive
  pub root-order : (c : C) (p : List C) (r : ℕ) → value_at R c p ≡ R.zero → HasOrder R p c r → 0 < r
  root-order c p zero v h = absurd (h.nonzero (sym (value-first R laws (shift R c p))
      ∙ shift-value R laws c R.zero p ∙ ap (λ t. value_at R t p) (laws.add_zero c) ∙ v))
  root-order c p (suc r) v h = omega arith

  -- orders depend on the moved polynomial alone
  order-same : (p q : List C) (c d : C) (r : ℕ)
      → ((i : ℕ) → coeff R (shift R d q) i ≡ coeff R (shift R c p) i)
      → HasOrder R p c r → HasOrder R q d r
  order-same p q c d r e h = record {
    below = λ i l. e i ∙ h.below i l;
    nonzero = λ z. h.nonzero (sym (e r) ∙ z);
  }

  -- without a first coefficient that is zero the orders at other elements than 0 are the same
  order-tail : (d h : C) (q : List C) (r : ℕ) → h ≡ R.zero → ¬ (d ≡ R.zero)
      → HasOrder R (h ∷ q) d r → HasOrder R q d r
  order-tail d h q r z n k = record { below = below; nonzero = nonzero r below k.nonzero }
    where
      zero_left : (a : C) → d * a ≡ R.zero → a ≡ R.zero
      zero_left a e = no_divisors D a d (laws.mul_comm a d ∙ e) n

      below : (i : ℕ) → i < r → coeff R (shift R d q) i ≡ R.zero
      below zero l = zero_left _ (sym (shift-zero R laws d h q z) ∙ k.below zero l)
      below (suc i) l = zero_left _
          (ring2 R laws (λ a b. b) (λ a b. nil ⊕ b) refl R.zero _
          ∙ ap (λ t. t + d * coeff R (shift R d q) (suc i)) (sym (below i (omega arith)))
          ∙ sym (shift-suc R laws d h q i) ∙ k.below (suc i) l)

      nonzero : (r : ℕ) → ((i : ℕ) → i < r → coeff R (shift R d q) i ≡ R.zero)
          → ¬ (coeff R (shift R d (h ∷ q)) r ≡ R.zero) → ¬ (coeff R (shift R d q) r ≡ R.zero)
      nonzero zero b m e = m (shift-zero R laws d h q z ∙ ap (λ t. d * t) e
          ∙ ring1 R laws (λ d. d ⊗ nil) (λ d. nil) refl d)
      nonzero (suc r) b m e = m (shift-suc R laws d h q r
          ∙ ap (λ t. t + d * coeff R (shift R d q) (suc r)) (b r (omega arith))
          ∙ ap (λ t. R.zero + d * t) e ∙ ring1 R laws (λ d. nil ⊕ d ⊗ nil) (λ d. nil) refl d)

  -- a polynomial without its first r coefficients, which are zero
  record Stripped (p : List C) (r n : ℕ) : Type 0 where
    pub rest : List C
    pub degree : ℕ
    pub fits : plus_ℕ r degree ≤ n
    pub past : (i : ℕ) → degree < i → coeff R rest i ≡ R.zero
    pub orders : (d : C) (t : ℕ) → ¬ (d ≡ R.zero) → HasOrder R p d t → HasOrder R rest d t

  one_more : (r n : ℕ) (h : C) (p : List C) → h ≡ R.zero → Stripped p r n
      → Stripped (h ∷ p) (suc r) (suc n)
  one_more r n h p z s = record {
    rest = s.rest;
    degree = s.degree;
    fits = omega (arith, s.fits);
    past = s.past;
    orders = λ d t m k. s.orders d t m (order-tail d h p t z m k);
  }

  strip : (r n : ℕ) (p : List C) → ((i : ℕ) → n < i → coeff R p i ≡ R.zero)
      → ((i : ℕ) → i < r → coeff R p i ≡ R.zero) → ¬ (coeff R p r ≡ R.zero) → Stripped p r n
  strip zero n p past below nz = record {
    rest = p;
    degree = n;
    fits = omega arith;
    past = past;
    orders = λ d t m h. h;
  }
  strip (suc r) n [] past below nz = absurd (nz refl)
  strip (suc r) zero (h ∷ p) past below nz = absurd (nz (past (suc r) (omega arith)))
  strip (suc r) (suc n) (h ∷ p) past below nz = one_more r n h p (below zero (omega arith))
      (strip r n p (λ i l. past (suc i) (omega arith)) (λ i l. below (suc i) (omega arith)) nz)

  -- the orders at the elements of cs, moved by b
  orders_from : (cs : List C) (b : C) (p : List C) (n : ℕ) (r : C → ℕ)
      → ((i : ℕ) → n < i → coeff R p i ≡ R.zero) → AllPairs (λ a b. ¬ (a ≡ b)) cs
      → All (λ c. HasOrder R p (c + minus b) (r c)) cs → sum_by r cs ≤ n
  orders_from [] b p n r past distinct orders = omega arith
  orders_from (c ∷ cs) b p n r past distinct orders =
      omega (
        arith,
        sum_by-cons r c cs,
        s.fits,
        orders_from cs c s.rest s.degree r s.past
            (λ i j d l q. distinct (suc i) (suc j) d (omega arith) (omega arith)) others,
      )
    where
      here : HasOrder R p (c + minus b) (r c)
      here = orders 0 c (omega arith)

      s : Stripped (shift R (c + minus b) p) (r c) n
      s = strip (r c) n (shift R (c + minus b) p)
          (λ i l. shift-past R laws (c + minus b) p (suc n) past i l) here.below here.nonzero

      others : All (λ c'. HasOrder R s.rest (c' + minus c) (r c')) cs
      others j d l = s.orders (e + minus c) (r e) differ
          (order-same p (shift R (c + minus b) p) (e + minus b) (e + minus c) (r e)
          (λ i. shift-shift R laws (c + minus b) (e + minus c) p i
          ∙ ap (λ t. coeff R (shift R t p) i)
          (ring3 R laws (λ c b e. (c ⊕ neg b) ⊕ (e ⊕ neg c)) (λ c b e. e ⊕ neg b) refl c b e))
          (orders (suc j) d (omega arith)))
        where
          e : C
          e = get_or cs j d

          differ : ¬ (e + minus c ≡ R.zero)
          differ z = distinct 0 (suc j) d (omega arith) (omega arith)
              (ring2 R laws (λ c e. c) (λ c e. nil ⊕ c) refl c e
              ∙ ap (λ t. t + c) (sym z)
              ∙ ring2 R laws (λ c e. (e ⊕ neg c) ⊕ c) (λ c e. e) refl c e)

  pub orders_sum : (cs p : List C) (n : ℕ) (r : C → ℕ)
      → ((i : ℕ) → n < i → coeff R p i ≡ R.zero) → AllPairs (λ a b. ¬ (a ≡ b)) cs
      → All (λ c. HasOrder R p c (r c)) cs → sum_by r cs ≤ n
  orders_sum cs p n r past distinct orders = orders_from cs R.zero p n r past distinct
      (λ j d l. order-same p p (get_or cs j d) (get_or cs j d + minus R.zero) (r (get_or cs j d))
      (λ i. ap (λ t. coeff R (shift R t p) i)
      (ring1 R laws (λ c. c ⊕ neg nil) (λ c. c) refl (get_or cs j d))) (orders j d l))

  -- no more different roots than the degree
  pub roots_bound : (cs p : List C) (n : ℕ) → ((i : ℕ) → n < i → coeff R p i ≡ R.zero)
      → (j : ℕ) → ¬ (coeff R p j ≡ R.zero) → AllPairs (λ a b. ¬ (a ≡ b)) cs
      → All (λ c. value_at R c p ≡ R.zero) cs → length cs ≤ n
  roots_bound cs p n past j nz distinct roots = omega (
    arith,
    orders_sum cs p n order past distinct
        (λ i d l. (order_exists (get_or cs i d) p n past j nz).1),
    length_le cs (λ i d l. root-order (get_or cs i d) p _ (roots i d l)
        (order_exists (get_or cs i d) p n past j nz).1),
  )
    where
      order : C → ℕ
      order c = (order_exists c p n past j nz).0

      length_le : (cs : List C) → All (λ c. 0 < order c) cs → length cs ≤ sum_by order cs
      length_le [] h = omega arith
      length_le (c ∷ cs) h = omega (
        arith,
        sum_by-cons order c cs,
        h 0 c (omega arith),
        length_le cs (λ i d l. h (suc i) d (omega arith)),
      )
