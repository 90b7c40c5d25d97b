-- Elements that are regular at the point, those that vanish there to some order, and poles.
use Rattle.std.proofs.Common.{◌≡◌, ℕ, zero, suc, ◌+◌, ◌-◌, ◌<◌, ◌≤◌, ◌⊎◌, inl, inr, refl}
use Rattle.std.proofs.Common.{sym, ◌∙◌, ap, ap₂, subst, arith}
use Rattle.std.proofs.lemmas.Bool.{cases_lt}
use Rattle.ff_theory.specs.Lawful.{Field}
use Rattle.ff_theory.proofs.Solver.{◌⊕◌, ◌⊗◌, neg, unit, ring1, ring3, ring4}
use Rattle.ff_theory.proofs.Solver.{zero_mul}
use Rattle.ff_theory.proofs.Domains.{no_divisors, field_domain}
use Rattle.ff_table.proofs.PoleOrders.{constant-order}
use Rattle.ff_places.proofs.FieldSpaces.{FieldSpaces, Less, Has, order_or_zero}

module _ {K : Field} (S : FieldSpaces K) where
  infixl 60 ◌⊞◌
  infixl 70 ◌*◌
  open S use {add as ◌⊞◌, mul as ◌*◌, neg as minus}

  -- a is a fraction of an element of L_low and one of the order low + i or more
  pub record AtLeast (i : ℕ) (a : S.carrier) : Type 0 where
    pub num : S.carrier
    pub den : S.carrier
    pub low : ℕ
    pub order : ℕ
    pub in_num : S.L low num
    pub has : Has S order den
    pub room : low + i ≤ order
    pub fraction : S.mul a den ≡ num

  -- a is a fraction of an element of one order and one of a lower order that is not 0
  pub record HasPole (a : S.carrier) : Type 0 where
    pub num : S.carrier
    pub den : S.carrier
    pub order : ℕ
    pub has : Has S order num
    pub less : Less S order den
    pub proper : ¬ (den ≡ S.zero)
    pub fraction : S.mul a den ≡ num

  zero_in : (j : ℕ) → S.L j S.zero
  zero_in j = S.spaces.more 0 j S.zero (omega arith)
      (subst (S.L 0) S.spaces.constants.on_zero (S.spaces.in_first K.zero))

  -- an element with an order is not 0
  pub order_proper : (j : ℕ) (a : S.carrier) → Has S j a → ¬ (a ≡ S.zero)
  order_proper zero a h e = h.not_less e
  order_proper (suc j) a h e = h.not_less (subst (S.L j) (sym e) (zero_in j))

  -- below an order
  pub less_of : (i j : ℕ) (a : S.carrier) → i < j → S.L i a → Less S j a
  less_of i zero a l h = absurd (omega arith)
  less_of i (suc j) a l h = S.spaces.more i j a (omega arith) h

  one_order : Has S 0 S.one
  one_order = subst (Has S 0) S.spaces.constants.on_one (constant-order K S.ring S.laws S.constant
      S.L S.spaces K.one K.is_field.one_not_zero)

  pub zero_at_least : (i : ℕ) → AtLeast i S.zero
  zero_at_least i = let d = S.reached (S.from + i) (omega arith) in record {
    num = S.zero;
    den = d.0;
    low = 0;
    order = S.from + i;
    in_num = zero_in 0;
    has = d.1;
    room = omega arith;
    fraction = zero_mul S.ring S.laws d.0;
  }

  pub space_regular : (a : S.carrier) → S.L 0 a → AtLeast 0 a
  space_regular a h = record {
    num = a;
    den = S.one;
    low = 0;
    order = 0;
    in_num = h;
    has = one_order;
    room = omega arith;
    fraction = S.laws.mul_one a;
  }

  -- what vanishes is regular
  pub regular : (a : S.carrier) → AtLeast 1 a → AtLeast 0 a
  regular a h = record {
    num = h.num;
    den = h.den;
    low = h.low;
    order = h.order;
    in_num = h.in_num;
    has = h.has;
    room = omega (arith, h.room);
    fraction = h.fraction;
  }

  pub constant_regular : (c : K.carrier) → AtLeast 0 (S.constant c)
  constant_regular c = space_regular (S.constant c) (S.spaces.in_first c)

  pub at_least_mul : (i j : ℕ) (a b : S.carrier) → AtLeast i a → AtLeast j b
      → AtLeast (i + j) (S.mul a b)
  at_least_mul i j a b g h = record {
    num = g.num * h.num;
    den = g.den * h.den;
    low = g.low + h.low;
    order = g.order + h.order;
    in_num = S.spaces.mul g.low h.low g.num h.num g.in_num h.in_num;
    has = S.spaces.exact g.order h.order g.den h.den g.has h.has;
    room = omega (arith, g.room, h.room);
    fraction = ring4 S.ring S.laws (λ a b d e. (a ⊗ b) ⊗ (d ⊗ e)) (λ a b d e. (a ⊗ d) ⊗ (b ⊗ e))
        refl a b g.den h.den ∙ ap₂ S.mul g.fraction h.fraction;
  }

  pub at_least_add : (i : ℕ) (a b : S.carrier) → AtLeast i a → AtLeast i b
      → AtLeast i (S.add a b)
  at_least_add i a b g h = record {
    num = g.num * h.den ⊞ h.num * g.den;
    den = g.den * h.den;
    low = g.order + h.order - i;
    order = g.order + h.order;
    in_num = S.spaces.add (g.order + h.order - i) (g.num * h.den) (h.num * g.den)
        (S.spaces.more (g.low + h.order) (g.order + h.order - i) (g.num * h.den)
        (omega (arith, g.room))
        (S.spaces.mul g.low h.order g.num h.den g.in_num h.has.up_to))
        (S.spaces.more (h.low + g.order) (g.order + h.order - i) (h.num * g.den)
        (omega (arith, h.room))
        (S.spaces.mul h.low g.order h.num g.den h.in_num g.has.up_to));
    has = S.spaces.exact g.order h.order g.den h.den g.has h.has;
    room = omega (arith, g.room);
    fraction = ring4 S.ring S.laws (λ a b d e. (a ⊕ b) ⊗ (d ⊗ e))
        (λ a b d e. (a ⊗ d) ⊗ e ⊕ (b ⊗ e) ⊗ d) refl a b g.den h.den
        ∙ ap₂ (λ s t. s * h.den ⊞ t * g.den) g.fraction h.fraction;
  }

  -- an element that vanishes to the order j, times one of L_j, is regular
  pub space_times : (j : ℕ) (u r : S.carrier) → AtLeast j u → S.L j r → AtLeast 0 (S.mul u r)
  space_times j u r h m = record {
    num = h.num * r;
    den = h.den;
    low = h.low + j;
    order = h.order;
    in_num = S.spaces.mul h.low j h.num r h.in_num m;
    has = h.has;
    room = omega (arith, h.room);
    fraction = ring3 S.ring S.laws (λ u r d. (u ⊗ r) ⊗ d) (λ u r d. (u ⊗ d) ⊗ r) refl u r h.den
        ∙ ap (λ t. t * r) h.fraction;
  }

  -- the value of a regular element: less its value it vanishes
  pub value_at : (a : S.carrier) → AtLeast 0 a
      → (c : K.carrier) × AtLeast 1 (S.add a (S.neg (S.constant c)))
  value_at a h = go h.order refl
      (S.spaces.more h.low h.order h.num (omega (arith, h.room)) h.in_num)
    where
      go : (n : ℕ) → h.order ≡ n → S.L h.order h.num
          → (c : K.carrier) × AtLeast 1 (a ⊞ minus (S.constant c))
      go zero e m = (K.mul c (K.inverse d), subst (AtLeast 1) (sym gone) (zero_at_least 1))
        where
          c : K.carrier
          c = (S.steps.only h.num (subst (λ n. S.L n h.num) e m)).0

          c_is : h.num ≡ S.constant (S.steps.only h.num (subst (λ n. S.L n h.num) e m)).0
          c_is = (S.steps.only h.num (subst (λ n. S.L n h.num) e m)).1

          low : S.L 0 h.den
          low = subst (λ n. S.L n h.den) e h.has.up_to

          d : K.carrier
          d = (S.steps.only h.den (subst (λ n. S.L n h.den) e h.has.up_to)).0

          d_is : h.den ≡ S.constant (S.steps.only h.den (subst (λ n. S.L n h.den) e h.has.up_to)).0
          d_is = (S.steps.only h.den (subst (λ n. S.L n h.den) e h.has.up_to)).1

          nonzero : ¬ (d ≡ K.zero)
          nonzero z = order_proper h.order h.den h.has (d_is ∙ ap S.constant z
              ∙ S.spaces.constants.on_zero)

          is : a ≡ S.constant (K.mul c (K.inverse d))
          is = ring1 S.ring S.laws (λ a. a) (λ a. a ⊗ unit) refl a
              ∙ ap (S.mul a) (sym S.spaces.constants.on_one ∙ ap S.constant
              (sym (K.is_field.mul_inverse d nonzero))
              ∙ S.spaces.constants.on_mul d (K.inverse d)
              ∙ ap (λ t. t * S.constant (K.inverse d)) (sym d_is))
              ∙ sym (S.laws.mul_assoc a h.den (S.constant (K.inverse d)))
              ∙ ap (λ t. t * S.constant (K.inverse d)) (h.fraction ∙ c_is)
              ∙ sym (S.spaces.constants.on_mul c (K.inverse d))

          gone : a ⊞ minus (S.constant (K.mul c (K.inverse d))) ≡ S.zero
          gone = ap (λ t. t ⊞ minus (S.constant (K.mul c (K.inverse d)))) is
              ∙ S.laws.add_neg _
      go (suc n) e m = (
        c.0,
        record {
          num = h.num ⊞ minus (S.constant c.0 * h.den);
          den = h.den;
          low = n;
          order = suc n;
          in_num = c.1;
          has = subst (λ n. Has S n h.den) e h.has;
          room = omega arith;
          fraction = ring3 S.ring S.laws (λ a c d. (a ⊕ neg c) ⊗ d)
              (λ a c d. a ⊗ d ⊕ neg (c ⊗ d)) refl a (S.constant c.0) h.den
              ∙ ap (λ t. t ⊞ minus (S.constant c.0 * h.den)) h.fraction;
        },
      )
        where
          c : (c : K.carrier) × S.L n (h.num ⊞ minus (S.constant c * h.den))
          c = S.steps.next n h.num h.den (subst (λ n. S.L n h.num) e m)
              (subst (λ n. Has S n h.den) e h.has)

  -- each element is regular or has a pole
  pub regular_or_pole : (a : S.carrier) → AtLeast 0 a ⊎ HasPole a
  regular_or_pole a = go
      (order_or_zero K S.field S.constant S.L S.spaces S.steps (S.bound a) (S.numerator a)
      (S.below a))
    where
      n : ℕ
      n = S.order a

      go : (S.numerator a ≡ S.zero) ⊎ ((i : ℕ) × (i ≤ S.bound a) × Has S i (S.numerator a))
          → AtLeast 0 a ⊎ HasPole a
      go (inl z) = inl (record {
        num = S.numerator a;
        den = S.denominator a;
        low = 0;
        order = S.order a;
        in_num = subst (S.L 0) (sym z) (zero_in 0);
        has = S.has_order a;
        room = omega arith;
        fraction = S.fraction a;
      })
      go (inr k) = pick (cases_lt (S.order a) k.0)
        where
          pick : (S.order a < k.0) ⊎ (k.0 ≤ S.order a) → AtLeast 0 a ⊎ HasPole a
          pick (inl l) = inr (record {
            num = S.numerator a;
            den = S.denominator a;
            order = k.0;
            has = k.2;
            less = less_of (S.order a) k.0 (S.denominator a) l (S.has_order a).up_to;
            proper = order_proper (S.order a) (S.denominator a) (S.has_order a);
            fraction = S.fraction a;
          })
          pick (inr l) = inl (record {
            num = S.numerator a;
            den = S.denominator a;
            low = k.0;
            order = S.order a;
            in_num = k.2.up_to;
            has = S.has_order a;
            room = omega (arith, l);
            fraction = S.fraction a;
          })

  -- the inverse of what vanishes has a pole
  pub inverse_pole : (w : S.carrier) → AtLeast 1 w → ¬ (w ≡ S.zero) → HasPole (S.inverse w)
  inverse_pole w h nz = record {
    num = h.den;
    den = h.num;
    order = h.order;
    has = h.has;
    less = less_of h.low h.order h.num (omega (arith, h.room)) h.in_num;
    proper = λ z. nz (no_divisors (field_domain S.field) w h.den (h.fraction ∙ z)
        (order_proper h.order h.den h.has));
    fraction = ap (S.mul (S.inverse w)) (sym h.fraction)
        ∙ ring3 S.ring S.laws (λ i w d. i ⊗ (w ⊗ d)) (λ i w d. (w ⊗ i) ⊗ d) refl (S.inverse w) w
        h.den
        ∙ ap (λ t. t * h.den) (S.is_field.mul_inverse w nz)
        ∙ ring1 S.ring S.laws (λ d. unit ⊗ d) (λ d. d) refl h.den;
  }
