-- Values at the point: each regular element has one, and values keep sums, products and constants;
-- an element of which all powers have one denominator up to regular elements is regular.
use Rattle.std.proofs.Common.{◌≡◌, ℕ, zero, suc, ◌+◌ as plus_ℕ, ◌*◌ as times_ℕ, ◌<◌, ◌≤◌, ◌⊎◌}
use Rattle.std.proofs.Common.{inl, inr, Bool, true, false, refl, sym, ◌∙◌, ap, ap₂, subst, arith}
use Rattle.std.proofs.lemmas.Bool.{cases_lt}
use Rattle.ff_theory.specs.Ring.{power}
use Rattle.ff_theory.specs.Lawful.{Field}
use Rattle.ff_theory.proofs.Solver.{◌⊕◌, ◌⊗◌, neg, nil, unit, ring1, ring2, ring3, ring4, ring6}
use Rattle.ff_theory.proofs.Domains.{no_divisors, field_domain}
use Rattle.ff_theory.proofs.Dependence.{differs}
use Rattle.ff_table.proofs.PoleOrders.{constant-order}
use Rattle.ff_places.proofs.FieldSpaces.{FieldSpaces, Less, Has, order_or_zero}
use Rattle.ff_places.proofs.Regular.{AtLeast, HasPole, order_proper, less_of, at_least_mul}
use Rattle.ff_places.proofs.Regular.{at_least_add, constant_regular, zero_at_least, regular_or_pole}
use Rattle.ff_places.proofs.Regular.{regular}

module _ {K : Field} (S : FieldSpaces K) where
  infixl 60 ◌⊞◌
  infixl 70 ◌*◌
  open S use {add as ◌⊞◌, mul as ◌*◌, neg as minus}

  -- an order is at most the number of each space that has the element
  pub order_least : (i j : ℕ) (a : S.carrier) → Has S i a → S.L j a → i ≤ j
  order_least i j a h m = go (cases_lt j i)
    where
      go : (j < i) ⊎ (i ≤ j) → i ≤ j
      go (inl l) = absurd (h.not_less (less_of S j i a l m))
      go (inr l) = l

  -- a constant that vanishes is 0
  pub vanishing_constant : (c : K.carrier) → AtLeast S 1 (S.constant c) → c ≡ K.zero
  vanishing_constant c h = go (K.same c K.zero) refl
    where
      go : (b : Bool) → K.same c K.zero ≡ b → c ≡ K.zero
      go true e = K.tests.same_true c K.zero e
      go false e = absurd (let l : plus_ℕ 0 h.order ≤ h.low = order_least (plus_ℕ 0 h.order) h.low
          (S.constant c * h.den) (S.spaces.exact 0 h.order (S.constant c) h.den
          (constant-order K S.ring S.laws S.constant S.L S.spaces c
          (differs K.ring K.laws K.tests c e)) h.has)
          (subst (S.L h.low) (sym h.fraction) h.in_num) in omega (arith, l, h.room))

  -- the value of a, by which it is a constant up to what vanishes
  abbrev pub HasValue : S.carrier → K.carrier → Type 0
  HasValue a c = AtLeast S 1 (S.add a (S.neg (S.constant c)))

  pub one_value : (a : S.carrier) (c d : K.carrier) → HasValue a c → HasValue a d → c ≡ d
  one_value a c d g h = ring2 K.ring K.laws (λ c d. c) (λ c d. (c ⊕ neg d) ⊕ d) refl c d
      ∙ ap (λ t. K.add t d) (vanishing_constant (K.add c (K.neg d)) (subst (AtLeast S 1)
      (ring3 S.ring S.laws (λ a c d. (a ⊕ neg d) ⊕ neg unit ⊗ (a ⊕ neg c)) (λ a c d. c ⊕ neg d)
      refl a (S.constant c) (S.constant d)
      ∙ ap (λ t. S.constant c ⊞ t) (sym (S.spaces.constants.on_neg d))
      ∙ sym (S.spaces.constants.on_add c (K.neg d)))
      (at_least_add S 1 _ _ h
      (subst (λ (t : S.carrier). AtLeast S 1 (t * (a ⊞ minus (S.constant c))))
      (S.spaces.constants.on_neg K.one ∙ ap minus S.spaces.constants.on_one)
      (at_least_mul S 0 1 _ _ (constant_regular S (K.neg K.one)) g)))))
      ∙ ring1 K.ring K.laws (λ d. nil ⊕ d) (λ d. d) refl d

  pub value_constant : (c : K.carrier) → HasValue (S.constant c) c
  value_constant c = subst (AtLeast S 1) (sym (S.laws.add_neg _)) (zero_at_least S 1)

  -- an element with a value is regular
  pub value_regular : (a : S.carrier) (c : K.carrier) → HasValue a c → AtLeast S 0 a
  value_regular a c h = subst (AtLeast S 0) (ring2 S.ring S.laws (λ a c. (a ⊕ neg c) ⊕ c)
      (λ a c. a) refl a (S.constant c)) (at_least_add S 0 _ _ (regular S _ h)
      (constant_regular S c))

  pub value_add : (a b : S.carrier) (c d : K.carrier) → HasValue a c → HasValue b d
      → HasValue (S.add a b) (K.add c d)
  value_add a b c d g h = subst (AtLeast S 1) (ring4 S.ring S.laws
      (λ a b c d. (a ⊕ neg c) ⊕ (b ⊕ neg d)) (λ a b c d. (a ⊕ b) ⊕ neg (c ⊕ d)) refl a b
      (S.constant c) (S.constant d)
      ∙ ap (λ t. (a ⊞ b) ⊞ minus t) (sym (S.spaces.constants.on_add c d)))
      (at_least_add S 1 _ _ g h)

  pub value_mul : (a b : S.carrier) (c d : K.carrier) → HasValue a c → HasValue b d
      → HasValue (S.mul a b) (K.mul c d)
  value_mul a b c d g h = subst (AtLeast S 1) (ring4 S.ring S.laws
      (λ a b c d. (a ⊕ neg c) ⊗ b ⊕ c ⊗ (b ⊕ neg d)) (λ a b c d. (a ⊗ b) ⊕ neg (c ⊗ d)) refl a b
      (S.constant c) (S.constant d)
      ∙ ap (λ t. (a * b) ⊞ minus t) (sym (S.spaces.constants.on_mul c d)))
      (at_least_add S 1 _ _ (at_least_mul S 1 0 _ _ g (value_regular b d h))
      (at_least_mul S 0 1 _ _ (constant_regular S c) h))

  order_power : (i : ℕ) (a : S.carrier) → Has S i a → (n : ℕ)
      → Has S (times_ℕ n i) (power S.ring a n)
  order_power i a h zero = subst (λ m. Has S m S.one) (let e : 0 ≡ times_ℕ 0 i = omega arith in e)
      (subst (Has S 0) S.spaces.constants.on_one (constant-order K S.ring S.laws S.constant S.L
      S.spaces K.one K.is_field.one_not_zero))
  order_power i a h (suc n) = subst (λ m. Has S m (a * power S.ring a n))
      (let e : plus_ℕ i (times_ℕ n i) ≡ times_ℕ (suc n) i = omega arith in e)
      (S.spaces.exact i (times_ℕ n i) a (power S.ring a n) h (order_power i a h n))

  space_power : (i : ℕ) (a : S.carrier) → S.L i a → (n : ℕ) → S.L (times_ℕ n i) (power S.ring a n)
  space_power i a h zero = subst (λ m. S.L m S.one) (let e : 0 ≡ times_ℕ 0 i = omega arith in e)
      (subst (S.L 0) S.spaces.constants.on_one (S.spaces.in_first K.one))
  space_power i a h (suc n) = subst (λ m. S.L m (a * power S.ring a n))
      (let e : plus_ℕ i (times_ℕ n i) ≡ times_ℕ (suc n) i = omega arith in e)
      (S.spaces.mul i (times_ℕ n i) a (power S.ring a n) h (space_power i a h n))

  -- no element but 0 carries all powers of one with a pole to regular elements
  no_carrier : (b d : S.carrier) → HasPole S b → ¬ (d ≡ S.zero)
      → ¬ ((j : ℕ) → AtLeast S 0 (d * power S.ring b j))
  no_carrier b d pole nd all = go
      (order_or_zero K S.field S.constant S.L S.spaces S.steps (S.bound d) (S.numerator d)
      (S.below d))
    where
      n : ℕ
      n = S.order d

      go : ¬ ((S.numerator d ≡ S.zero) ⊎ ((i : ℕ) × (i ≤ S.bound d) × Has S i (S.numerator d)))
      go (inl z) = nd (no_divisors (field_domain S.field) d (S.denominator d) (S.fraction d ∙ z)
          (order_proper S (S.order d) (S.denominator d) (S.has_order d)))
      go (inr k) = at pole.order refl pole.has pole.less
        where
          r : AtLeast S 0 (d * power S.ring b (suc (S.order d)))
          r = all (suc (S.order d))

          powers : (j : ℕ) → power S.ring b j * power S.ring pole.den j ≡ power S.ring pole.num j
          powers zero = S.laws.mul_one S.one
          powers (suc j) = ring4 S.ring S.laws (λ b p d q. (b ⊗ p) ⊗ (d ⊗ q))
              (λ b p d q. (b ⊗ d) ⊗ (p ⊗ q)) refl b (power S.ring b j) pole.den
              (power S.ring pole.den j) ∙ ap₂ S.mul pole.fraction (powers j)

          -- d * b^j = r.num / r.den, times all denominators
          cross : (S.numerator d * power S.ring pole.num (suc (S.order d))) * r.den
              ≡ (r.num * power S.ring pole.den (suc (S.order d))) * S.denominator d
          cross = ap₂ (λ x y. (x * y) * r.den) (sym (S.fraction d)) (sym (powers (suc (S.order d))))
              ∙ ring6 S.ring S.laws (λ d e b q r z. ((d ⊗ e) ⊗ (b ⊗ q)) ⊗ r)
              (λ d e b q r z. (((d ⊗ b) ⊗ r) ⊗ q) ⊗ e) refl d (S.denominator d)
              (power S.ring b (suc (S.order d))) (power S.ring pole.den (suc (S.order d))) r.den d
              ∙ ap (λ x. (x * power S.ring pole.den (suc (S.order d))) * S.denominator d) r.fraction

          at : (o : ℕ) → pole.order ≡ o → Has S o pole.num → ¬ (Less S o pole.den)
          at zero e h l = pole.proper l
          at (suc o) e h l = absurd (omega (arith, r.room, bound))
            where
              j : ℕ
              j = suc (S.order d)

              bound : plus_ℕ (plus_ℕ k.0 (times_ℕ (suc (S.order d)) (suc o))) r.order
                  ≤ plus_ℕ (plus_ℕ r.low (times_ℕ (suc (S.order d)) o)) (S.order d)
              bound = order_least (plus_ℕ (plus_ℕ k.0 (times_ℕ (suc (S.order d)) (suc o))) r.order)
                  (plus_ℕ (plus_ℕ r.low (times_ℕ (suc (S.order d)) o)) (S.order d)) _
                  (S.spaces.exact (plus_ℕ k.0 (times_ℕ (suc (S.order d)) (suc o))) r.order _ r.den
                  (S.spaces.exact k.0 (times_ℕ (suc (S.order d)) (suc o)) (S.numerator d) _ k.2
                  (order_power (suc o) pole.num h (suc (S.order d)))) r.has)
                  (subst (S.L (plus_ℕ (plus_ℕ r.low (times_ℕ (suc (S.order d)) o)) (S.order d)))
                  (sym cross)
                  (S.spaces.mul (plus_ℕ r.low (times_ℕ (suc (S.order d)) o)) (S.order d) _ _
                  (S.spaces.mul r.low (times_ℕ (suc (S.order d)) o) r.num _ r.in_num
                  (space_power o pole.den l (suc (S.order d)))) (S.has_order d).up_to))

  pub powers_regular : (b d : S.carrier) → ¬ (d ≡ S.zero)
      → ((j : ℕ) → AtLeast S 0 (S.mul d (power S.ring b j))) → AtLeast S 0 b
  powers_regular b d nd all = go (regular_or_pole S b)
    where
      go : AtLeast S 0 b ⊎ HasPole S b → AtLeast S 0 b
      go (inl r) = r
      go (inr p) = absurd (no_carrier b d p nd all)
