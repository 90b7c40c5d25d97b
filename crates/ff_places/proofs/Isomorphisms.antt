-- Isomorphisms of fields over k, and the spaces of a point that they carry from one field to the
-- other.
use Rattle.std.proofs.Common.{◌≡◌, ℕ, zero, suc, ◌+◌ as plus_ℕ, ◌⊎◌, inl, inr, refl, sym}
use Rattle.std.proofs.Common.{◌∙◌, ap, ap₂, subst}
use Rattle.ff_theory.specs.Lawful.{Field}
use Rattle.ff_theory.specs.Map.{IsMap}
use Rattle.ff_theory.proofs.Solver.{◌⊗◌, neg, unit, ring1}
use Rattle.ff_table.specs.PoleOrders.{IsLess, HasOrderOf, ArePoleSpaces, AreSteps}
use Rattle.ff_places.proofs.FieldSpaces.{AreFieldSpaces}

-- maps of A to B and back, which undo each other and keep sums, products and constants
pub record FieldIsomorphism (K A B : Field) (constant_a : K.carrier → A.carrier)
    (constant_b : K.carrier → B.carrier) : Type 0 where
  pub to : A.carrier → B.carrier
  pub back : B.carrier → A.carrier
  pub back_to : (a : A.carrier) → back (to a) ≡ a
  pub to_back : (b : B.carrier) → to (back b) ≡ b
  pub to_add : (a c : A.carrier) → to (A.add a c) ≡ B.add (to a) (to c)
  pub to_mul : (a c : A.carrier) → to (A.mul a c) ≡ B.mul (to a) (to c)
  pub to_constant : (s : K.carrier) → to (constant_a s) ≡ constant_b s

module _ {K A B : Field} {constant_a : K.carrier → A.carrier} {constant_b : K.carrier → B.carrier}
    (σ : FieldIsomorphism K A B constant_a constant_b) where
  -- the way back
  abbrev pub inverse_isomorphism : FieldIsomorphism K B A constant_b constant_a
  inverse_isomorphism = record {
    to = σ.back;
    back = σ.to;
    back_to = σ.to_back;
    to_back = σ.back_to;
    to_add = λ a c. ap₂ (λ x y. σ.back (B.add x y)) (sym (σ.to_back a)) (sym (σ.to_back c))
        ∙ ap σ.back (sym (σ.to_add (σ.back a) (σ.back c))) ∙ σ.back_to _;
    to_mul = λ a c. ap₂ (λ x y. σ.back (B.mul x y)) (sym (σ.to_back a)) (sym (σ.to_back c))
        ∙ ap σ.back (sym (σ.to_mul (σ.back a) (σ.back c))) ∙ σ.back_to _;
    to_constant = λ s. ap σ.back (sym (σ.to_constant s)) ∙ σ.back_to _;
  }

  back_add : (a c : B.carrier) → σ.back (B.add a c) ≡ A.add (σ.back a) (σ.back c)
  back_add a c = ap₂ (λ x y. σ.back (B.add x y)) (sym (σ.to_back a)) (sym (σ.to_back c))
      ∙ ap σ.back (sym (σ.to_add (σ.back a) (σ.back c))) ∙ σ.back_to _

  back_mul : (a c : B.carrier) → σ.back (B.mul a c) ≡ A.mul (σ.back a) (σ.back c)
  back_mul a c = ap₂ (λ x y. σ.back (B.mul x y)) (sym (σ.to_back a)) (sym (σ.to_back c))
      ∙ ap σ.back (sym (σ.to_mul (σ.back a) (σ.back c))) ∙ σ.back_to _

  back_constant : (s : K.carrier) → σ.back (constant_b s) ≡ constant_a s
  back_constant s = ap σ.back (sym (σ.to_constant s)) ∙ σ.back_to _

  module _ (map_b : IsMap K.ring B.ring constant_b) (L : ℕ → A.carrier → Type 0)
      (are : AreFieldSpaces K A constant_a L) where
    map_a : IsMap K.ring A.ring constant_a
    map_a = are.spaces.constants

    back_zero : σ.back B.zero ≡ A.zero
    back_zero = ap σ.back (sym map_b.on_zero) ∙ back_constant K.zero ∙ map_a.on_zero

    to_zero : σ.to A.zero ≡ B.zero
    to_zero = ap σ.to (sym map_a.on_zero) ∙ σ.to_constant K.zero ∙ map_b.on_zero

    back_neg : (b : B.carrier) → σ.back (B.neg b) ≡ A.neg (σ.back b)
    back_neg b = ap σ.back (ring1 B.ring B.laws (λ b. neg b) (λ b. neg unit ⊗ b) refl b
        ∙ ap (λ t. B.mul t b) (ap B.neg (sym map_b.on_one) ∙ sym (map_b.on_neg K.one)))
        ∙ back_mul _ b ∙ ap (λ t. A.mul t (σ.back b)) (back_constant (K.neg K.one)
        ∙ map_a.on_neg K.one ∙ ap A.neg map_a.on_one)
        ∙ ring1 A.ring A.laws (λ b. neg unit ⊗ b) (λ b. neg b) refl (σ.back b)

    -- the spaces in B
    abbrev pub carried_spaces : ℕ → B.carrier → Type 0
    carried_spaces j b = L j (σ.back b)

    has_into : (j : ℕ) (a : A.carrier) → HasOrderOf K.ring A.ring constant_a L j a
        → HasOrderOf K.ring B.ring constant_b (λ j b. L j (σ.back b)) j (σ.to a)
    has_into j a h = record {
      up_to = subst (L j) (sym (σ.back_to a)) h.up_to;
      not_less = go j h.not_less;
    }
      where
        go : (j : ℕ) → ¬ IsLess K.ring A.ring constant_a L j a
            → ¬ IsLess K.ring B.ring constant_b (λ j b. L j (σ.back b)) j (σ.to a)
        go zero n m = n (sym (σ.back_to a) ∙ ap σ.back m ∙ back_zero)
        go (suc j) n m = n (subst (L j) (σ.back_to a) m)

    has_back : (j : ℕ) (b : B.carrier)
        → HasOrderOf K.ring B.ring constant_b (λ j b. L j (σ.back b)) j b
        → HasOrderOf K.ring A.ring constant_a L j (σ.back b)
    has_back j b h = record { up_to = h.up_to; not_less = go j h.not_less }
      where
        go : (j : ℕ) → ¬ IsLess K.ring B.ring constant_b (λ j b. L j (σ.back b)) j b
            → ¬ IsLess K.ring A.ring constant_a L j (σ.back b)
        go zero n m = n (sym (σ.to_back b) ∙ ap σ.to m ∙ to_zero)
        go (suc j) n m = n m

    has_at : (j : ℕ) (b : B.carrier) → HasOrderOf K.ring A.ring constant_a L j (σ.back b)
        → HasOrderOf K.ring B.ring constant_b (λ j b. L j (σ.back b)) j b
    has_at j b h = subst (HasOrderOf K.ring B.ring constant_b (λ j b. L j (σ.back b)) j)
        (σ.to_back b) (has_into j (σ.back b) h)

    carried_pole_spaces : ArePoleSpaces K.ring B.ring constant_b (λ j b. L j (σ.back b))
    carried_pole_spaces = record {
      constants = map_b;
      proper = B.is_field.one_not_zero;
      in_first = λ s. subst (L 0) (sym (back_constant s)) (are.spaces.in_first s);
      more = λ i j b l m. are.spaces.more i j (σ.back b) l m;
      add = λ j a b m n. subst (L j) (sym (back_add a b)) (are.spaces.add j _ _ m n);
      mul = λ i j a b m n. subst (L (plus_ℕ i j)) (sym (back_mul a b))
          (are.spaces.mul i j _ _ m n);
      exact = λ i j a b m n. has_at (plus_ℕ i j) (B.mul a b)
          (subst (HasOrderOf K.ring A.ring constant_a L (plus_ℕ i j)) (sym (back_mul a b))
          (are.spaces.exact i j _ _ (has_back i a m) (has_back j b n)));
    }

    carried_steps : AreSteps K.ring B.ring constant_b (λ j b. L j (σ.back b))
    carried_steps = record {
      only = λ b m. let c = are.steps.only (σ.back b) m in
          (c.0, sym (σ.to_back b) ∙ ap σ.to c.1 ∙ σ.to_constant c.0);
      next = λ j a b m n. let c = are.steps.next j (σ.back a) (σ.back b) m (has_back (suc j) b n)
          in (
            c.0,
            subst (L j) (sym (back_add a _ ∙ ap (A.add (σ.back a)) (back_neg _
                ∙ ap A.neg (back_mul (constant_b c.0) b ∙ ap (λ t. A.mul t (σ.back b))
                (back_constant c.0))))) c.1,
          );
      decide = λ j b m. are.steps.decide j (σ.back b) m;
    }

    carried_number : (j : ℕ)
        → ((b : B.carrier) × HasOrderOf K.ring B.ring constant_b (λ j b. L j (σ.back b)) j b)
        ⊎ ((b : B.carrier) → L j (σ.back b)
        → IsLess K.ring B.ring constant_b (λ j b. L j (σ.back b)) j b)
    carried_number j = go (are.number j)
      where
        less : (j : ℕ) → ((a : A.carrier) → L j a → IsLess K.ring A.ring constant_a L j a)
            → (b : B.carrier) → L j (σ.back b)
            → IsLess K.ring B.ring constant_b (λ j b. L j (σ.back b)) j b
        less zero h b m = sym (σ.to_back b) ∙ ap σ.to (h (σ.back b) m) ∙ to_zero
        less (suc j) h b m = h (σ.back b) m

        go : ((a : A.carrier) × HasOrderOf K.ring A.ring constant_a L j a)
            ⊎ ((a : A.carrier) → L j a → IsLess K.ring A.ring constant_a L j a)
            → ((b : B.carrier) × HasOrderOf K.ring B.ring constant_b (λ j b. L j (σ.back b)) j b)
            ⊎ ((b : B.carrier) → L j (σ.back b)
            → IsLess K.ring B.ring constant_b (λ j b. L j (σ.back b)) j b)
        go (inl a) = inl (σ.to a.0, has_into j a.0 a.1)
        go (inr h) = inr (less j h)

    pub carried : AreFieldSpaces K B constant_b (λ j b. L j (σ.back b))
    carried = record {
      spaces = carried_pole_spaces;
      steps = carried_steps;
      number = carried_number;
      from = are.from;
      reached = λ j l. let a = are.reached j l in (σ.to a.0, has_into j a.0 a.1);
      numerator = λ b. σ.to (are.numerator (σ.back b));
      denominator = λ b. σ.to (are.denominator (σ.back b));
      bound = λ b. are.bound (σ.back b);
      below = λ b. subst (L (are.bound (σ.back b))) (sym (σ.back_to _)) (are.below (σ.back b));
      order = λ b. are.order (σ.back b);
      has_order = λ b. has_into _ _ (are.has_order (σ.back b));
      fraction = λ b. ap (λ t. B.mul t (σ.to (are.denominator (σ.back b)))) (sym (σ.to_back b))
          ∙ sym (σ.to_mul _ _) ∙ ap σ.to (are.fraction (σ.back b));
    }
