-- Rings with the field of fractions A that have each element of which all powers have a common
-- denominator, as those of charts; which elements of the spaces they have.
use Rattle.std.proofs.Common.{◌≡◌, ℕ, zero, suc, ◌+◌, ◌<◌, ◌≤◌, ◌⊎◌, inl, inr, Bool, true, false}
use Rattle.std.proofs.Common.{refl, sym, ◌∙◌, ap, ap₂, subst, arith}
use Rattle.std.proofs.lemmas.Bool.{cases_lt}
use Rattle.ff_theory.specs.Ring.{RingOps, IsCommRing, power}
use Rattle.ff_theory.specs.Lawful.{Field}
use Rattle.ff_theory.proofs.Solver.{◌⊕◌, ◌⊗◌, neg, nil, unit, ring1, ring2, ring3, ring4, ring6}
use Rattle.ff_theory.proofs.Domains.{no_divisors, field_domain}
use Rattle.ff_theory.proofs.Dependence.{differs}
use Rattle.ff_places.proofs.FieldSpaces.{FieldSpaces, Less, Has}
use Rattle.ff_places.proofs.Regular.{AtLeast, HasPole, value_at, inverse_pole}
use Rattle.ff_places.proofs.Bounded.{IsPowerSum, bounded}

-- the ring of a chart in a field over k
pub record IsChartRing (K field : Field) (constant : K.carrier → field.carrier)
    (In : field.carrier → Type 0) : Type 0 where
  pub on_constant : (c : K.carrier) → In (constant c)
  pub on_add : (a b : field.carrier) → In a → In b → In (field.add a b)
  pub on_mul : (a b : field.carrier) → In a → In b → In (field.mul a b)
  -- each element has a denominator
  pub cleared : (a : field.carrier) → (d : field.carrier) × In d × (¬ (d ≡ field.zero))
      × In (field.mul d a)
  -- it has each element of which all powers have one
  pub closed : (w d : field.carrier) → ¬ (d ≡ field.zero)
      → ((i : ℕ) → In (field.mul d (power field.ring w i))) → In w

module _ {K : Field} (S : FieldSpaces K) (In : S.carrier → Type 0)
    (ring : IsChartRing K S.field S.constant In) where
  infixl 60 ◌⊞◌
  infixl 70 ◌*◌
  open S use {add as ◌⊞◌, mul as ◌*◌, neg as minus}

  abbrev A : RingOps
  A = S.ring

  abbrev AL : IsCommRing S.ring
  AL = S.laws

  proper_mul : (a b : S.carrier) → ¬ (a ≡ S.zero) → ¬ (b ≡ S.zero) → ¬ (a * b ≡ S.zero)
  proper_mul a b m n e = m (no_divisors (field_domain S.field) a b e n)

  -- one denominator of all of L_n
  pub record Common (n : ℕ) : Type 0 where
    pub den : S.carrier
    pub inside : In den
    pub proper : ¬ (den ≡ S.zero)
    pub clears : (x : S.carrier) → S.L n x → In (den * x)

  common_less : (n : ℕ) → ((m : ℕ) → n ≡ suc m → Common m) → (d : S.carrier) × In d
      × (¬ (d ≡ S.zero)) × ((x : S.carrier) → Less S n x → In (d * x))
  common_less zero h = (
    S.one,
    subst In S.spaces.constants.on_one (ring.on_constant K.one),
    S.is_field.one_not_zero,
    λ x e. subst In (S.spaces.constants.on_zero
        ∙ sym e ∙ ring1 A AL (λ x. x) (λ x. unit ⊗ x) refl x) (ring.on_constant K.zero),
  )
  common_less (suc m) h = let c = h m refl in (c.den, c.inside, c.proper, c.clears)

  common_next : (n : ℕ) → ((m : ℕ) → n ≡ suc m → Common m)
      → ((x a : S.carrier) → S.L n x → Has S n a
      → (c : K.carrier) × Less S n (x ⊞ minus (S.constant c * a))) → Common n
  common_next n h next = go (S.number n) (common_less n h)
    where
      go : ((a : S.carrier) × Has S n a) ⊎ ((a : S.carrier) → S.L n a → Less S n a)
          → ((d : S.carrier) × In d × (¬ (d ≡ S.zero)) ×
          ((x : S.carrier) → Less S n x → In (d * x)))
          → Common n
      go (inr none) c = record {
        den = c.0;
        inside = c.1;
        proper = c.2;
        clears = λ x m. c.3 x (none x m);
      }
      go (inl a) c = let q = ring.cleared a.0 in record {
        den = c.0 * q.0;
        inside = ring.on_mul c.0 q.0 c.1 q.1;
        proper = proper_mul c.0 q.0 c.2 q.2;
        clears = λ x m. let s = next x a.0 m a.1 in
            subst In (ring6 A AL (λ d q x s a z. q ⊗ (d ⊗ (x ⊕ neg (s ⊗ a))) ⊕ (s ⊗ d) ⊗ (q ⊗ a))
            (λ d q x s a z. (d ⊗ q) ⊗ x) refl c.0 q.0 x (S.constant s.0) a.0 a.0)
            (ring.on_add _ _ (ring.on_mul q.0 _ q.1 (c.3 _ s.1))
            (ring.on_mul (S.constant s.0 * c.0) (q.0 * a.0)
            (ring.on_mul (S.constant s.0) c.0 (ring.on_constant s.0) c.1) q.3));
      }

  pub common : (n : ℕ) → Common n
  common zero = common_next zero (λ m e. absurd (let z : 0 ≡ suc m = e in cc)) first
    where
      first : (x a : S.carrier) → S.L 0 x → Has S 0 a
          → (c : K.carrier) × Less S 0 (x ⊞ minus (S.constant c * a))
      first x a h g = (K.mul c (K.inverse d), gone)
        where
          c : K.carrier
          c = (S.steps.only x h).0

          d : K.carrier
          d = (S.steps.only a g.up_to).0

          d_is : a ≡ S.constant (S.steps.only a g.up_to).0
          d_is = (S.steps.only a g.up_to).1

          nonzero : ¬ (d ≡ K.zero)
          nonzero z = g.not_less (d_is ∙ ap S.constant z ∙ S.spaces.constants.on_zero)

          product : S.constant (K.mul c (K.inverse d)) * a ≡ x
          product = ap (λ t. S.constant (K.mul c (K.inverse d)) * t) d_is
              ∙ sym (S.spaces.constants.on_mul (K.mul c (K.inverse d)) d)
              ∙ ap S.constant (ring3 K.ring K.laws (λ c i d. (c ⊗ i) ⊗ d)
              (λ c i d. c ⊗ (d ⊗ i)) refl
              c (K.inverse d) d ∙ ap (K.mul c) (K.is_field.mul_inverse d nonzero)
              ∙ K.laws.mul_one c) ∙ sym (S.steps.only x h).1

          gone : x ⊞ minus (S.constant (K.mul c (K.inverse d)) * a) ≡ S.zero
          gone = ap (λ t. x ⊞ minus t) product ∙ AL.add_neg x
  common (suc n) = common_next (suc n)
      (λ m e. subst Common (let q : n ≡ m = omega (arith, e) in q) (common n))
      (λ x a h g. S.steps.next n x a h g)

  one_in : (n : ℕ) → S.L n S.one
  one_in n = S.spaces.more 0 n S.one (omega arith)
      (subst (S.L 0) S.spaces.constants.on_one (S.spaces.in_first K.one))

  module _ (j : ℕ) (r : S.carrier) (in_space : S.L j r) where
    -- where some element of the ring has a pole, the ring has the element r of L_j
    pub has_space : (h : S.carrier) → In h → HasPole S h → In r
    has_space h inside pole = ring.closed r c.den c.proper (λ i. subst In
        (ring2 A AL (λ d p. d ⊗ p ⊗ (unit ⊗ unit)) (λ d p. d ⊗ p) refl c.den (power A r i))
        (all i S.one S.one one (one_in N)))
      where
        N : ℕ
        N = pole.order + S.from

        c : Common (pole.order + S.from)
        c = common (pole.order + S.from)

        one : In S.one
        one = subst In S.spaces.constants.on_one (ring.on_constant K.one)

        -- the power i of r, times an element of the ring and one of L_N
        spread : (p : S.carrier) → ((t x : S.carrier) → In t → S.L N x → In (p * (t * x)))
            → (s : ℕ) (t x : S.carrier) → In t → IsPowerSum A (S.L N) h s x → In (p * (t * x))
        spread p rest zero t x m v = rest t x m v
        spread p rest (suc s) t x m (y, z, v, w, e) = subst In (sym (ap (λ x. p * (t * x)) e
            ∙ ring6 A AL (λ p t y h z q. p ⊗ (t ⊗ (y ⊕ h ⊗ z)))
            (λ p t y h z q. p ⊗ (t ⊗ y) ⊕ p ⊗ ((t ⊗ h) ⊗ z)) refl p t y h z z))
            (ring.on_add _ _ (rest t y m v)
            (spread p rest s (t * h) z (ring.on_mul t h m inside) w))

        all : (i : ℕ) (t x : S.carrier) → In t → S.L N x → In (c.den * power A r i * (t * x))
        all zero t x m v = subst In (ring3 A AL (λ d t x. t ⊗ (d ⊗ x)) (λ d t x. d ⊗ unit ⊗ (t ⊗ x))
            refl c.den t x) (ring.on_mul t _ m (c.clears x v))
        all (suc i) t x m v = subst In (ring6 A AL (λ d p t r x z. (d ⊗ p) ⊗ (t ⊗ (r ⊗ x)))
            (λ d p t r x z. d ⊗ (r ⊗ p) ⊗ (t ⊗ x)) refl c.den (power A r i) t r x x)
            (spread (c.den * power A r i) (all i) j t (r * x) m
            (bounded S h pole j (r * x) (S.spaces.mul j N r x in_space v)))

    -- an element u of the ring that carries r to a regular element carries it into the ring
    pub carried_in : (u : S.carrier) → In u → AtLeast S 0 (S.mul u r) → In (S.mul u r)
    carried_in u inside regular = go (S.same w S.zero) refl
      where
        v : (c : K.carrier) × AtLeast S 1 (u * r ⊞ minus (S.constant c))
        v = value_at S (u * r) regular

        w : S.carrier
        w = u * r ⊞ minus (S.constant v.0)

        back : u * r ≡ w ⊞ S.constant v.0
        back = ring2 A AL (λ a c. a) (λ a c. (a ⊕ neg c) ⊕ c) refl (u * r) (S.constant v.0)

        go : (b : Bool) → S.same w S.zero ≡ b → In (u * r)
        go true e = subst In (sym
            (back ∙ ap (λ t. t ⊞ S.constant v.0) (S.tests.same_true w S.zero e)
            ∙ ring1 A AL (λ c. nil ⊕ c) (λ c. c) refl (S.constant v.0))) (ring.on_constant v.0)
        go false e = subst In (sym back)
            (ring.on_add w (S.constant v.0) w_in (ring.on_constant v.0))
          where
            nonzero : ¬ (w ≡ S.zero)
            nonzero = differs S.ring S.laws S.tests w e

            h : S.carrier
            h = S.inverse w

            unit_is : w * h ≡ S.one
            unit_is = S.is_field.mul_inverse w nonzero

            pole : HasPole S (S.inverse w)
            pole = inverse_pole S w v.1 nonzero

            N : ℕ
            N = pole.order + S.from

            c : Common (pole.order + S.from)
            c = common (pole.order + S.from)

            q : (d : S.carrier) × In d × (¬ (d ≡ S.zero)) × In (S.mul d w)
            q = ring.cleared w

            -- a denominator of L_N and of the powers of w up to j
            den : S.carrier
            den = c.den * power A q.0 j

            power_in : (a : S.carrier) → In a → (i : ℕ) → In (power A a i)
            power_in a m zero = subst In S.spaces.constants.on_one (ring.on_constant K.one)
            power_in a m (suc i) = ring.on_mul a (power A a i) m (power_in a m i)

            power_proper : (a : S.carrier) → ¬ (a ≡ S.zero) → (i : ℕ) → ¬ (power A a i ≡ S.zero)
            power_proper a n zero = S.is_field.one_not_zero
            power_proper a n (suc i) = proper_mul a (power A a i) n (power_proper a n i)

            cleared : (i n : ℕ) → i ≤ n → In (power A q.0 n * power A w i)
            cleared zero n l = subst In (ring1 A AL (λ p. p) (λ p. p ⊗ unit) refl (power A q.0 n))
                (power_in q.0 q.1 n)
            cleared (suc i) zero l = absurd (omega (arith, l))
            cleared (suc i) (suc n) l = subst In (ring4 A AL (λ q p w v. (q ⊗ w) ⊗ (p ⊗ v))
                (λ q p w v. (q ⊗ p) ⊗ (w ⊗ v)) refl q.0 (power A q.0 n) w (power A w i))
                (ring.on_mul (q.0 * w) _ q.3 (cleared i n (omega (arith, l))))

            -- w^s times a sum of powers up to s of its inverse
            turned : (Q : S.carrier → Type 0) → ((a b : S.carrier) → Q a → Q b → Q (a ⊞ b))
                → (s : ℕ) → ((i : ℕ) (x : S.carrier) → i ≤ s → S.L N x → Q (power A w i * x))
                → (x : S.carrier) → IsPowerSum A (S.L N) h s x → Q (power A w s * x)
            turned Q plus zero each x m = each 0 x (omega arith) m
            turned Q plus (suc s) each x (t, y, m, n, e) = subst Q (sym (ap (S.mul (power A w (suc
                s))) e ∙ ring6 A AL (λ w p t h y z. (w ⊗ p) ⊗ (t ⊕ h ⊗ y))
                (λ w p t h y z. (w ⊗ p) ⊗ t ⊕ (w ⊗ h) ⊗ (p ⊗ y)) refl w (power A w s) t h y y
                ∙ ap (λ o. w * power A w s * t ⊞ o * (power A w s * y)) unit_is
                ∙ ap (λ o. w * power A w s * t ⊞ o) (ring1 A AL (λ p. unit ⊗ p) (λ p. p) refl _)))
                (plus _ _ (each (suc s) t (omega arith) m)
                (turned Q plus s (λ i x l. each i x (omega (arith, l))) y n))

            all : (n i : ℕ) (t x : S.carrier) → In t → i ≤ j → S.L N x
                → In (den * power A w n * (t * (power A w i * x)))
            all zero i t x m l k = subst In (ring6 A AL (λ d q t v x z. t ⊗ ((q ⊗ v) ⊗ (d ⊗ x)))
                (λ d q t v x z. (d ⊗ q) ⊗ unit ⊗ (t ⊗ (v ⊗ x))) refl c.den (power A q.0 j) t
                (power A w i) x x) (ring.on_mul t _ m (ring.on_mul _ _ (cleared i j l)
                (c.clears x k)))
            all (suc n) i t x m l k = pick (λ i t x m l k. all n i t x m l k) (cases_lt i j)
              where
                pick : ((i : ℕ) (t x : S.carrier) → In t → i ≤ j → S.L N x
                    → In (den * power A w n * (t * (power A w i * x)))) → (i < j) ⊎ (j ≤ i)
                    → In (den * power A w (suc n) * (t * (power A w i * x)))
                pick before (inl s) = subst In
                    (ring6 A AL (λ d p w t v x. d ⊗ p ⊗ (t ⊗ ((w ⊗ v) ⊗ x)))
                    (λ d p w t v x. d ⊗ (w ⊗ p) ⊗ (t ⊗ (v ⊗ x))) refl den (power A w n) w t
                    (power A w i) x) (before (suc i) t x m s k)
                pick before (inr s) = subst
                    (λ i. In (den * power A w (suc n) * (t * (power A w i * x))))
                    (let e : j ≡ i = omega (arith, l, s) in e) (subst In (sym expanded)
                    (ring.on_add _ _ first second))
                  where
                    first : In (den * power A w n * ((t * u) * (power A w j * (r * x))))
                    first = subst In (ring3 A AL (λ d t y. d ⊗ (t ⊗ y)) (λ d t y. d ⊗ (t ⊗ y)) refl
                        (den * power A w n) (t * u) (power A w j * (r * x)))
                        (turned (λ y. In (den * power A w n * ((t * u) * y)))
                        (λ a b g h. subst In (ring4 A AL (λ d t a b. d ⊗ (t ⊗ a) ⊕ d ⊗ (t ⊗ b))
                        (λ d t a b. d ⊗ (t ⊗ (a ⊕ b))) refl (den * power A w n) (t * u) a b)
                        (ring.on_add _ _ g h)) j
                        (λ i y l v. before i (t * u) y (ring.on_mul t u m inside) l v)
                        (r * x) (bounded S h pole j (r * x) (S.spaces.mul j N r x in_space k)))

                    second : In (den * power A w n
                        * ((t * S.constant (K.neg v.0)) * (power A w j * x)))
                    second = before j (t * S.constant (K.neg v.0)) x
                        (ring.on_mul t _ m (ring.on_constant (K.neg v.0))) (omega arith) k

                    expanded : den * power A w (suc n) * (t * (power A w j * x))
                        ≡ den * power A w n * ((t * u) * (power A w j * (r * x)))
                        ⊞ den * power A w n
                        * ((t * S.constant (K.neg v.0)) * (power A w j * x))
                    expanded = ring4 A AL (λ d p w y. d ⊗ (w ⊗ p) ⊗ y) (λ d p w y. d ⊗ p ⊗ (w ⊗ y))
                        refl den (power A w n) w (t * (power A w j * x))
                        ∙ ring6 A AL (λ d c u r t y. d ⊗ ((u ⊗ r ⊕ neg c) ⊗ (t ⊗ y)))
                        (λ d c u r t y. d ⊗ ((t ⊗ u) ⊗ (r ⊗ y)) ⊕ d ⊗ ((t ⊗ neg c) ⊗ y)) refl
                        (den * power A w n) (S.constant v.0) u r t (power A w j * x)
                        ∙ ap₂ (λ a b. den * power A w n * ((t * u) * a)
                        ⊞ den * power A w n * ((t * b) * (power A w j * x)))
                        (ring3 A AL (λ r p x. r ⊗ (p ⊗ x)) (λ r p x. p ⊗ (r ⊗ x)) refl r
                        (power A w j) x) (sym (S.spaces.constants.on_neg v.0))

            w_in : In w
            w_in = ring.closed w den (proper_mul c.den _ c.proper (power_proper q.0 q.2 j))
                (λ n. subst In (ring2 A AL (λ d p. d ⊗ p ⊗ (unit ⊗ (unit ⊗ unit))) (λ d p. d ⊗ p)
                refl den (power A w n)) (all n 0 S.one S.one
                (subst In S.spaces.constants.on_one (ring.on_constant K.one)) (omega arith)
                (one_in N)))
