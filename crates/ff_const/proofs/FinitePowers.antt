-- A finite field of q elements: a^q = a. A commutative ring to which it maps:
-- (a + b)^q = a^q + b^q, and w^q - w is the product of w - c for all elements c of the field.
use Rattle.std.proofs.Common.{◌≡◌, ℕ, zero, suc, ◌-◌, ◌<◌, ◌≤◌, ◌⊎◌, inl, inr, Bool, true, false}
use Rattle.std.proofs.Common.{refl, sym, ◌∙◌, ap, ap₂, arith}
use Rattle.std.proofs.lemmas.Bool.{cases_lt}
use Rattle.ff_theory.specs.Ring.{RingOps, IsCommRing, IsTested, power, FieldOps, IsFiniteField}
use Rattle.ff_theory.specs.Sum.{sum_below}
use Rattle.ff_theory.specs.Span.{unit_at}
use Rattle.ff_theory.specs.Map.{IsMap}
use Rattle.ff_theory.specs.Lawful.{field_of}
use Rattle.ff_theory.proofs.Solver.{◌⊕◌, ◌⊗◌, neg, nil, unit, ring1, ring2, ring3, ring4}
use Rattle.ff_theory.proofs.Solver.{zero_mul}
use Rattle.ff_theory.proofs.Series.{tail}
use Rattle.ff_theory.proofs.Sums.{sum-ext, sum-add, sum-mul, sum-single}
use Rattle.ff_theory.proofs.Span.{unit-same, unit-other}
use Rattle.ff_theory.proofs.PolyMap.{not_same}
use Rattle.ff_theory.proofs.Powers.{power-mul}
use Rattle.ff_theory.proofs.FrobeniusPoly.{map-power}
use Rattle.ff_theory.proofs.Frobenius.{binomial, power-sum}
use Rattle.ff_theory.proofs.Horner.{horner, horner-sum}
use Rattle.ff_theory.proofs.Domains.{no_divisors, field_domain}
use Rattle.ff_const.specs.Fixed.{product_below}
use Rattle.ff_const.proofs.FiniteRoots.{product_coeffs, no-coefficients}
use Rattle.ff_const.proofs.FiniteRoots.{product-zero, product-top, product-value}

module _ (R : RingOps) (laws : IsCommRing R) (b : R.carrier) where
  binomial-past : (n i : ℕ) → n < i → binomial R b n i ≡ R.zero
  binomial-past n zero h = absurd (omega (arith, h))
  binomial-past zero (suc i) h = refl
  binomial-past (suc n) (suc i) h = ap₂ (λ s t. R.add s (R.mul b t)) (binomial-past n i (omega
      (arith, h))) (binomial-past n (suc i) (omega (arith, h)))
      ∙ ring1 R laws (λ b. nil ⊕ b ⊗ nil) (λ b. nil) refl b

  binomial-top : (n : ℕ) → binomial R b n n ≡ R.one
  binomial-top zero = refl
  binomial-top (suc n) = ap₂ (λ s t. R.add s (R.mul b t)) (binomial-top n)
      (binomial-past n (suc n) (omega arith))
      ∙ ring1 R laws (λ b. unit ⊕ b ⊗ nil) (λ b. unit) refl b

-- those of b are those of 1, times powers of b
binomial-scaled : (k A : RingOps) → IsCommRing k → (AL : IsCommRing A) → (ι : k.carrier → A.carrier)
    → IsMap k A ι → (b : A.carrier) (n i : ℕ) → i ≤ n
    → binomial A b n i ≡ A.mul (ι (binomial k k.one n i)) (power A b (n - i))
binomial-scaled k A KL AL ι map b zero zero l = let e : 0 - 0 ≡ 0 = omega arith in
    ring1 A AL (λ b. unit) (λ b. unit ⊗ unit) refl b
    ∙ ap₂ (λ s t. A.mul s (power A b t)) (sym map.on_one) (sym e)
binomial-scaled k A KL AL ι map b zero (suc i) l = absurd (omega (arith, l))
binomial-scaled k A KL AL ι map b (suc n) zero l = let e : suc n - 0 ≡ suc (n - 0) = omega arith in
    ap (A.mul b) (binomial-scaled k A KL AL ι map b n zero (omega arith))
    ∙ ring3 A AL (λ b c p. b ⊗ (c ⊗ p)) (λ b c p. (unit ⊗ c) ⊗ (b ⊗ p)) refl b
    (ι (binomial k k.one n zero)) (power A b (n - 0))
    ∙ ap₂ (λ s t. A.mul s (power A b t)) (ap (λ t. A.mul t (ι (binomial k k.one n zero)))
    (sym map.on_one) ∙ sym (map.on_mul k.one (binomial k k.one n zero))) (sym e)
binomial-scaled k A KL AL ι map b (suc n) (suc i) l = go (cases_lt i n)
    (binomial-scaled k A KL AL ι map b n i (omega (arith, l)))
    (λ m. binomial-scaled k A KL AL ι map b n (suc i) m)
  where
    s : k.carrier
    s = binomial k k.one n i

    t : k.carrier
    t = binomial k k.one n (suc i)

    sum : ι (k.add s (k.mul k.one t)) ≡ A.add (ι s) (A.mul A.one (ι t))
    sum = map.on_add s (k.mul k.one t) ∙ ap (A.add (ι s)) (map.on_mul k.one t
        ∙ ap (λ u. A.mul u (ι t)) map.on_one)

    go : (i < n) ⊎ (n ≤ i) → binomial A b n i ≡ A.mul (ι s) (power A b (n - i))
        → (suc i ≤ n → binomial A b n (suc i) ≡ A.mul (ι t) (power A b (n - suc i)))
        → A.add (binomial A b n i) (A.mul b (binomial A b n (suc i)))
        ≡ A.mul (ι (k.add s (k.mul k.one t))) (power A b (suc n - suc i))
    go (inl m) here next = let e : n - i ≡ suc (n - suc i) = omega (arith, m) in
        let d : suc n - suc i ≡ suc (n - suc i) = omega (arith, m) in
        ap₂ (λ u v. A.add u (A.mul b v)) (here ∙ ap (λ j. A.mul (ι s) (power A b j)) e)
        (next (omega (arith, m)))
        ∙ ring4 A AL (λ s t b p. s ⊗ (b ⊗ p) ⊕ b ⊗ (t ⊗ p))
        (λ s t b p. (s ⊕ unit ⊗ t) ⊗ (b ⊗ p)) refl (ι s) (ι t) b (power A b (n - suc i))
        ∙ ap₂ (λ u j. A.mul u (power A b j)) (sym sum) (sym d)
    go (inr m) here next = let d : n - i ≡ suc n - suc i = omega arith in
        ap₂ (λ u v. A.add u (A.mul b v)) here (binomial-past A AL b n (suc i) (omega (arith, m)))
        ∙ ring3 A AL (λ s b p. s ⊗ p ⊕ b ⊗ nil) (λ s b p. (s ⊕ unit ⊗ nil) ⊗ p) refl (ι s) b
        (power A b (n - i))
        ∙ ap₂ (λ u j. A.mul u (power A b j)) (ap (λ u. A.add (ι s) (A.mul A.one u))
        (sym map.on_zero ∙ ap ι (sym (binomial-past k KL k.one n (suc i) (omega (arith, m)))))
        ∙ sym sum) d

module _ (F : FieldOps) (laws : IsCommRing F.ring) (tests : IsTested F.ring)
    (finite : IsFiniteField F) where
  infixl 60 ◌+◌
  infixl 70 ◌*◌
  open F use {add as ◌+◌, mul as ◌*◌, carrier as C}

  abbrev q : ℕ
  q = F.size

  abbrev k : RingOps
  k = F.ring

  domain : (a b : C) → ¬ (a ≡ F.zero) → a * b ≡ F.zero → b ≡ F.zero
  domain a b na h = no_divisors (field_domain (field_of F laws tests finite)) b a
      (laws.mul_comm b a ∙ h) na

  distinct : (i j : ℕ) → i < j → j < q → ¬ (F.element_at i ≡ F.element_at j)
  distinct i j l m e = absurd (let s : i ≡ j = sym (finite.index_at i (omega (arith, l, m)))
      ∙ ap F.index e ∙ finite.index_at j m in omega (arith, s, l))

  two : 1 < q
  two = go (cases_lt 1 q)
    where
      go : (1 < q) ⊎ (q ≤ 1) → 1 < q
      go (inl h) = h
      go (inr h) = absurd (finite.field.one_not_zero (sym (finite.at_index F.one)
          ∙ ap F.element_at (let a : F.index F.one < q = finite.index_below F.one in
          let b : F.index F.zero < q = finite.index_below F.zero in omega (arith, a, b, h))
          ∙ finite.at_index F.zero))

  -- q coefficients of a polynomial that vanishes everywhere are 0
  none : (c : ℕ → C) → ((x : C) → sum_below k q (λ i. c i * power k x i) ≡ F.zero)
      → (i : ℕ) → i < q → c i ≡ F.zero
  none c h = no-coefficients (field_domain (field_of F laws tests finite)) q F.element_at distinct c
      (λ j l. horner-sum k laws (F.element_at j) c q ∙ h (F.element_at j))

  identity : IsMap k k (λ a. a)
  identity = record {
    on_zero = refl;
    on_one = refl;
    on_add = λ a b. refl;
    on_neg = λ a. refl;
    on_mul = λ a b. refl;
  }

  abbrev T : ℕ → C
  T i = product_coeffs k F.element_at q i

  -- the product of the variable less each element vanishes everywhere
  T-vanishes : (x : C) → sum_below k (suc q) (λ i. T i * power k x i) ≡ F.zero
  T-vanishes x = sym (horner-sum k laws x T (suc q))
      ∙ product-value k k laws laws (λ a. a) identity F.element_at q x
      ∙ product-zero k laws q (F.index x) (λ i. x + F.neg (F.element_at i)) (finite.index_below x)
      (ap (λ t. x + F.neg t) (finite.at_index x) ∙ laws.add_neg x)

  T-top : T q ≡ F.one
  T-top = product-top k laws F.element_at q

  -- the values of the first q coefficients
  T-below : (x : C) → sum_below k q (λ i. T i * power k x i) ≡ F.neg (power k x q)
  T-below x = ring2 k laws (λ s p. s) (λ s p. (s ⊕ unit ⊗ p) ⊕ neg p) refl
      (sum_below k q (λ i. T i * power k x i)) (power k x q)
      ∙ ap (λ t. (sum_below k q (λ i. T i * power k x i) + t * power k x q)
      + F.neg (power k x q)) (sym T-top)
      ∙ ap (λ t. t + F.neg (power k x q)) (T-vanishes x)
      ∙ ring1 k laws (λ p. nil ⊕ neg p) (λ p. neg p) refl (power k x q)

  -- T_i * (a^i - a^q) are coefficients that vanish everywhere
  T-scaled : (a : C) (i : ℕ) → i < q → T i * (power k a i + F.neg (power k a q)) ≡ F.zero
  T-scaled a = none (λ i. T i * (power k a i + F.neg (power k a q))) vanishes
    where
      vanishes : (x : C) → sum_below k q (λ i. (T i * (power k a i + F.neg (power k a q)))
          * power k x i) ≡ F.zero
      vanishes x = sum-ext k laws q _ (λ i. T i * power k (a * x) i
          + F.neg (power k a q) * (T i * power k x i)) (λ i l. ring4 k laws
          (λ t p n y. (t ⊗ (p ⊕ n)) ⊗ y) (λ t p n y. t ⊗ (p ⊗ y) ⊕ n ⊗ (t ⊗ y)) refl (T i)
          (power k a i) (F.neg (power k a q)) (power k x i)
          ∙ ap (λ t. T i * t + F.neg (power k a q) * (T i * power k x i))
          (sym (power-mul k laws a x i)))
          ∙ sum-add k laws q (λ i. T i * power k (a * x) i)
          (λ i. F.neg (power k a q) * (T i * power k x i))
          ∙ ap₂ F.add (T-below (a * x) ∙ ap F.neg (power-mul k laws a x q))
          (sum-mul k laws q (F.neg (power k a q)) (λ i. T i * power k x i)
          ∙ ap (λ t. F.neg (power k a q) * t) (T-below x))
          ∙ ring2 k laws (λ a x. neg (a ⊗ x) ⊕ neg a ⊗ neg x) (λ a x. nil) refl (power k a q)
          (power k x q)

  -- T_1 is not 0
  T-one : ¬ (T 1 ≡ F.zero)
  T-one z = absurd (finite.field.one_not_zero (sym T-top ∙ last (suc-of q two)))
    where
      suc-of : (n : ℕ) → 1 < n → (m : ℕ) × (n ≡ suc m)
      suc-of zero l = absurd (omega (arith, l))
      suc-of (suc m) l = (m, refl)

      at-zero : T zero ≡ F.zero
      at-zero = ring2 k laws (λ t h. t) (λ t h. t ⊕ nil ⊗ h) refl (T zero) (horner k F.zero
          (tail T) q) ∙ horner-sum k laws F.zero T (suc q) ∙ T-vanishes F.zero

      rest-zero : (m : ℕ) × (q ≡ suc m) → (x : C) → x ≡ F.zero → horner k x (tail T) q ≡ F.zero
      rest-zero m x e = ap (horner k x (tail T)) m.1
          ∙ ap₂ (λ s t. s + t * horner k x (tail (tail T)) m.0) z e
          ∙ ring1 k laws (λ h. nil ⊕ nil ⊗ h) (λ h. nil) refl (horner k x (tail (tail T)) m.0)

      rest-vanishes : (x : C) → horner k x (tail T) q ≡ F.zero
      rest-vanishes x = go (F.same x F.zero) refl
        where
          go : (b : Bool) → F.same x F.zero ≡ b → horner k x (tail T) q ≡ F.zero
          go true e = rest-zero (suc-of q two) x (tests.same_true x F.zero e)
          go false e = domain x (horner k x (tail T) q) (not_same k tests x F.zero e)
              (ring2 k laws (λ h z. h) (λ h z. nil ⊕ h) refl (x * horner k x (tail T) q) x
              ∙ ap (λ t. t + x * horner k x (tail T) q) (sym at-zero)
              ∙ horner-sum k laws x T (suc q) ∙ T-vanishes x)

      others : (i : ℕ) → i < q → T (suc i) ≡ F.zero
      others = none (tail T) (λ x. sym (horner-sum k laws x (tail T) q) ∙ rest-vanishes x)

      last : (m : ℕ) × (q ≡ suc m) → T q ≡ F.zero
      last m = ap T m.1 ∙ others m.0 (omega (arith, m.1))

  -- each element is its own power
  pub power-size : (a : C) → power k a q ≡ a
  power-size a = sym (ring2 k laws (λ a p. a) (λ a p. (a ⊗ unit ⊕ neg p) ⊕ p) refl a (power k a q)
      ∙ ap (λ t. t + power k a q) (domain (T 1) (power k a 1 + F.neg (power k a q)) T-one
      (T-scaled a 1 two)) ∙ ring1 k laws (λ p. nil ⊕ p) (λ p. p) refl (power k a q))

  -- the one of index 1 alone, times powers
  single : (R : RingOps) → IsCommRing R → (j : ℕ) (c f : ℕ → R.carrier) → j < q
      → ((i : ℕ) → i < q → ¬ (i ≡ j) → c i ≡ R.zero)
      → sum_below R q (λ i. R.mul (c i) (f i)) ≡ R.mul (c j) (f j)
  single R RL j c f l others = sum-single R RL q j (λ i. R.mul (c i) (f i)) l
      (λ i m n. ap (λ t. R.mul t (f i)) (others i m n) ∙ zero_mul R RL (f i))

  T-is : (i : ℕ) → i < q → T i ≡ F.neg (unit_at k 1 i)
  T-is i l = ring2 k laws (λ t u. t) (λ t u. (t ⊕ u) ⊕ neg u) refl (T i) (unit_at k 1 i)
      ∙ ap (λ t. t + F.neg (unit_at k 1 i)) (none (λ i. T i + unit_at k 1 i) vanishes i l)
      ∙ ring1 k laws (λ u. nil ⊕ neg u) (λ u. neg u) refl (unit_at k 1 i)
    where
      vanishes : (x : C) → sum_below k q (λ i. (T i + unit_at k 1 i) * power k x i) ≡ F.zero
      vanishes x = sum-ext k laws q _ (λ i. T i * power k x i + unit_at k 1 i * power k x i)
          (λ i l. ring3 k laws (λ t u p. (t ⊕ u) ⊗ p) (λ t u p. t ⊗ p ⊕ u ⊗ p) refl (T i)
          (unit_at k 1 i) (power k x i))
          ∙ sum-add k laws q (λ i. T i * power k x i) (λ i. unit_at k 1 i * power k x i)
          ∙ ap₂ F.add (T-below x ∙ ap F.neg (power-size x))
          (single k laws 1 (unit_at k 1) (power k x) two (λ i m n. unit-other k 1 i n)
          ∙ ap (λ t. t * power k x 1) (unit-same k 1))
          ∙ ring1 k laws (λ x. neg x ⊕ unit ⊗ (x ⊗ unit)) (λ x. nil) refl x

  -- the powers of a sum
  B-is : (i : ℕ) → i < q → binomial k F.one q i ≡ unit_at k 0 i
  B-is i l = ring2 k laws (λ t u. t) (λ t u. (t ⊕ neg unit ⊗ u) ⊕ u) refl (B i) (unit_at k 0 i)
      ∙ ap (λ t. t + unit_at k 0 i) (none (λ i. B i + F.neg F.one * unit_at k 0 i) vanishes i l)
      ∙ ring1 k laws (λ u. nil ⊕ u) (λ u. u) refl (unit_at k 0 i)
    where
      B : ℕ → C
      B i = binomial k F.one q i

      below : (x : C) → sum_below k q (λ i. B i * power k x i) ≡ F.one
      below x = ring2 k laws (λ s p. s) (λ s p. (s ⊕ unit ⊗ p) ⊕ neg p) refl
          (sum_below k q (λ i. B i * power k x i)) (power k x q)
          ∙ ap (λ t. (sum_below k q (λ i. B i * power k x i) + t * power k x q)
          + F.neg (power k x q)) (sym (binomial-top k laws F.one q))
          ∙ ap₂ (λ s t. s + F.neg t) (sym (power-sum k laws F.one x q)
          ∙ power-size (x + F.one)) (power-size x)
          ∙ ring1 k laws (λ x. (x ⊕ unit) ⊕ neg x) (λ x. unit) refl x

      vanishes : (x : C) → sum_below k q (λ i. (B i + F.neg F.one * unit_at k 0 i) * power k x i)
          ≡ F.zero
      vanishes x = sum-ext k laws q _ (λ i. B i * power k x i
          + F.neg F.one * (unit_at k 0 i * power k x i))
          (λ i l. ring3 k laws (λ t u p. (t ⊕ neg unit ⊗ u) ⊗ p)
          (λ t u p. t ⊗ p ⊕ neg unit ⊗ (u ⊗ p)) refl (B i) (unit_at k 0 i) (power k x i))
          ∙ sum-add k laws q (λ i. B i * power k x i)
          (λ i. F.neg F.one * (unit_at k 0 i * power k x i))
          ∙ ap₂ F.add (below x) (sum-mul k laws q (F.neg F.one) (λ i. unit_at k 0 i * power k x i)
          ∙ ap (λ t. F.neg F.one * t) (single k laws 0 (unit_at k 0) (power k x)
          (omega (arith, two)) (λ i m n. unit-other k 0 i n)))
          ∙ ring1 k laws (λ x. unit ⊕ neg unit ⊗ (unit ⊗ unit)) (λ x. nil) refl x

  module _ (A : RingOps) (AL : IsCommRing A) (ι : C → A.carrier) (map : IsMap k A ι) where
    -- the product of w - c for all elements c
    pub product-power : (w : A.carrier)
        → product_below A q (λ i. A.add w (A.neg (ι (F.element_at i))))
        ≡ A.add (power A w q) (A.neg w)
    product-power w = sym (product-value k A laws AL ι map F.element_at q w)
        ∙ horner-sum A AL w (λ i. ι (T i)) (suc q)
        ∙ ap₂ A.add (sum-ext A AL q _ (λ i. A.mul (A.neg (ι (unit_at k 1 i))) (power A w i))
        (λ i l. ap (λ t. A.mul t (power A w i)) (ap ι (T-is i l) ∙ map.on_neg (unit_at k 1 i)))
        ∙ single A AL 1 (λ i. A.neg (ι (unit_at k 1 i))) (power A w) two
        (λ i m n. ap A.neg (ap ι (unit-other k 1 i n) ∙ map.on_zero)
        ∙ ring1 A AL (λ w. neg nil) (λ w. nil) refl w)
        ∙ ap (λ t. A.mul (A.neg t) (power A w 1)) (ap ι (unit-same k 1) ∙ map.on_one))
        (ap (λ t. A.mul t (power A w q)) (ap ι T-top ∙ map.on_one))
        ∙ ring2 A AL (λ w p. neg unit ⊗ (w ⊗ unit) ⊕ unit ⊗ p) (λ w p. p ⊕ neg w) refl w
        (power A w q)

    -- the power of a sum
    pub power-add : (a b : A.carrier) → power A (A.add a b) q ≡ A.add (power A a q) (power A b q)
    power-add a b = power-sum A AL b a q
        ∙ ap₂ A.add (sum-ext A AL q _ (λ i. A.mul (A.mul (ι (unit_at k 0 i)) (power A b (q - i)))
        (power A a i)) (λ i l. ap (λ t. A.mul t (power A a i))
        (binomial-scaled k A laws AL ι map b q i (omega (arith, l))
        ∙ ap (λ t. A.mul (ι t) (power A b (q - i))) (B-is i l)))
        ∙ single A AL 0 (λ i. A.mul (ι (unit_at k 0 i)) (power A b (q - i))) (power A a)
        (omega (arith, two)) (λ i m n. ap (λ t. A.mul t (power A b (q - i)))
        (ap ι (unit-other k 0 i n) ∙ map.on_zero) ∙ zero_mul A AL (power A b (q - i)))
        ∙ ap₂ (λ s j. A.mul (A.mul s (power A b j)) A.one) map.on_one whole)
        (ap (λ t. A.mul t (power A a q)) (binomial-top A AL b q))
        ∙ ring2 A AL (λ a b. (unit ⊗ b) ⊗ unit ⊕ unit ⊗ a) (λ a b. a ⊕ b) refl (power A a q)
        (power A b q)
      where
        whole : q - 0 ≡ q
        whole = omega arith

    -- the power of a multiple
    pub power-multiple : (c : C) (w : A.carrier) → power A (A.mul (ι c) w) q
        ≡ A.mul (ι c) (power A w q)
    power-multiple c w = power-mul A AL (ι c) w q
        ∙ ap (λ t. A.mul t (power A w q)) (sym (map-power k A ι map c q) ∙ ap ι (power-size c))
