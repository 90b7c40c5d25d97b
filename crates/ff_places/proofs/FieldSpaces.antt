-- A field A over k with the spaces L_0, L_1, .. of one of its points: each element of A is a
-- fraction of elements of the spaces, and all orders from some number on are pole orders.
use Rattle.std.proofs.Common.{◌≡◌, ℕ, zero, suc, ◌≤◌, ◌⊎◌, inl, inr, Bool, true, false, refl}
use Rattle.std.proofs.Common.{sym, ◌∙◌, ap, subst, arith}
use Rattle.ff_theory.specs.Lawful.{Field}
use Rattle.ff_theory.proofs.Dependence.{differs}
use Rattle.ff_table.specs.PoleOrders.{IsLess, HasOrderOf, ArePoleSpaces, AreSteps}
use Rattle.ff_table.proofs.PoleOrders.{constant-order}

module _ (K A : Field) (constant : K.carrier → A.carrier) (L : ℕ → A.carrier → Type 0) where
  -- the L_j are the spaces of a point of A
  pub record AreFieldSpaces : Type 0 where
    pub spaces : ArePoleSpaces K.ring A.ring constant L
    pub steps : AreSteps K.ring A.ring constant L
    -- some element has the order j, or none has
    pub number : (j : ℕ) → ((a : A.carrier) × HasOrderOf K.ring A.ring constant L j a)
        ⊎ ((a : A.carrier) → L j a → IsLess K.ring A.ring constant L j a)
    -- from here on some element has each order
    pub from : ℕ
    pub reached : (j : ℕ) → from ≤ j → (a : A.carrier) × HasOrderOf K.ring A.ring constant L j a
    -- each element is a fraction
    pub numerator : A.carrier → A.carrier
    pub denominator : A.carrier → A.carrier
    pub bound : A.carrier → ℕ
    pub below : (a : A.carrier) → L (bound a) (numerator a)
    pub order : A.carrier → ℕ
    pub has_order : (a : A.carrier) → HasOrderOf K.ring A.ring constant L (order a) (denominator a)
    pub fraction : (a : A.carrier) → A.mul a (denominator a) ≡ numerator a

-- a field with the spaces of one of its points
pub record FieldSpaces (K : Field) : Type 1 where
  pub field : Field
  pub open field use *
  pub constant : K.carrier → field.carrier
  pub L : ℕ → field.carrier → Type 0
  pub are : AreFieldSpaces K field constant L
  pub open are use *

module _ (K A : Field) (constant : K.carrier → A.carrier) (L : ℕ → A.carrier → Type 0)
    (spaces : ArePoleSpaces K.ring A.ring constant L) (steps : AreSteps K.ring A.ring constant L)
  where
    abbrev HasOrder : ℕ → A.carrier → Type 0
    HasOrder j a = HasOrderOf K.ring A.ring constant L j a

    -- an element of a space is 0, or it has an order
    pub order_or_zero : (j : ℕ) (a : A.carrier) → L j a → (a ≡ A.zero)
        ⊎ ((i : ℕ) × (i ≤ j) × HasOrderOf K.ring A.ring constant L i a)
    order_or_zero zero a h = go (K.same c K.zero) refl
      where
        c : K.carrier
        c = (steps.only a h).0

        is : a ≡ constant (steps.only a h).0
        is = (steps.only a h).1

        go : (b : Bool) → K.same c K.zero ≡ b
            → (a ≡ A.zero) ⊎ ((i : ℕ) × (i ≤ 0) × HasOrder i a)
        go true e = inl (is ∙ ap constant (K.tests.same_true c K.zero e)
            ∙ spaces.constants.on_zero)
        go false e = inr (
          0,
          omega arith,
          subst (HasOrder 0) (sym is)
              (constant-order K A.ring A.laws
              constant L spaces c (differs K.ring K.laws K.tests c e)),
        )
    order_or_zero (suc j) a h = go (steps.decide j a h) (order_or_zero j a)
      where
        go : L j a ⊎ ¬ (L j a) → (L j a → (a ≡ A.zero) ⊎ ((i : ℕ) × (i ≤ j) × HasOrder i a))
            → (a ≡ A.zero) ⊎ ((i : ℕ) × (i ≤ suc j) × HasOrder i a)
        go (inr n) rest = inr (suc j, omega arith, record { up_to = h; not_less = n })
        go (inl m) rest = more (rest m)
          where
            more : (a ≡ A.zero) ⊎ ((i : ℕ) × (i ≤ j) × HasOrder i a)
                → (a ≡ A.zero) ⊎ ((i : ℕ) × (i ≤ suc j) × HasOrder i a)
            more (inl z) = inl z
            more (inr k) = inr (k.0, omega (arith, k.1), k.2)

module _ {K : Field} (S : FieldSpaces K) where
  abbrev pub Less : ℕ → S.carrier → Type 0
  Less j a = IsLess K.ring S.ring S.constant S.L j a

  abbrev pub Has : ℕ → S.carrier → Type 0
  Has j a = HasOrderOf K.ring S.ring S.constant S.L j a
