-- The elements of L_j are those with coordinates of weight at most j, where each class modulo e has
-- the order of a basis element as its least one.
use Rattle.std.proofs.Common.{◌≡◌, ℕ, zero, suc, ◌+◌, ◌-◌, ◌*◌, ◌/◌, ◌%◌, ◌<◌, ◌≤◌, ◌⊎◌, inl, inr}
use Rattle.std.proofs.Common.{[], ◌∷◌, refl, sym, ◌∙◌, ap, ap₂, subst, arith}
use Rattle.std.proofs.lemmas.Bool.{cases_lt}
use Rattle.std.proofs.Math.Nat.{mod-lt, div-add-mod}
use Rattle.ff_theory.specs.Ring.{RingOps, IsCommRing, power}
use Rattle.ff_theory.specs.Lawful.{Field, Domain}
use Rattle.ff_theory.specs.Span.{unit_at}
use Rattle.ff_theory.specs.Poly.{coeff, Poly, poly}
use Rattle.ff_theory.specs.Division.{size}
use Rattle.ff_theory.specs.Monomial.{variable}
use Rattle.ff_theory.proofs.Solver.{◌⊕◌, ◌⊗◌, neg, unit, ring1, ring2, mul_zero}
use Rattle.ff_theory.proofs.Span.{unit-same, unit-other}
use Rattle.ff_theory.proofs.Division.{add_at, const_mul_at, coeff-beyond}
use Rattle.ff_theory.proofs.Evaluate.{eval-const}
use Rattle.ff_theory.proofs.PolyMap.{polynomial_domain}
use Rattle.ff_table.proofs.Sizes.{power-size}
use Rattle.ff_table.specs.Weight.{IsBelow}
use Rattle.ff_table.specs.PoleOrders.{HasOrderOf, ArePoleSpaces, AreSteps}
use Rattle.ff_table.proofs.Scalars.{zero-coeff}
use Rattle.ff_table.proofs.Weights.{mod_sub, grows}
use Rattle.ff_table.proofs.FreeBasis.{in_ring-add, in_ring-single}
use Rattle.ff_table.proofs.PoleOrders.{at_z, at_z-map, poly-order, element_at, one-order}
use Rattle.ff_table.proofs.PoleOrders.{constant-order}

module _ (K : Field) (A : RingOps) (AL : IsCommRing A) (constant : K.carrier → A.carrier)
    (L : ℕ → A.carrier → Type 0) (spaces : ArePoleSpaces K.ring A constant L)
    (steps : AreSteps K.ring A constant L) (e : ℕ) (positive : 0 < e) (z : A.carrier)
    (z_order : HasOrderOf K.ring A constant L e z) (b : ℕ → A.carrier) (m : ℕ → ℕ)
    (classes : (i : ℕ) → i < e → m i % e ≡ i)
    (orders : (i : ℕ) → i < e → HasOrderOf K.ring A constant L (m i) (b i))
    (first : b 0 ≡ A.one)
    (least : (j : ℕ) (a : A.carrier) → HasOrderOf K.ring A constant L j a → m (j % e) ≤ j) where
  abbrev k : RingOps
  k = K.ring

  abbrev P : Domain
  P = polynomial_domain K

  abbrev value : (ℕ → Poly K.ring) → A.carrier
  value c = element_at K A AL constant L spaces e positive z z_order b m classes orders c

  abbrev at : Poly K.ring → A.carrier
  at p = at_z K A AL constant L spaces e positive z z_order p

  -- coordinates of weight at most j
  pub record SpaceCoords (j : ℕ) (a : A.carrier) : Type 0 where
    pub coords : ℕ → Poly K.ring
    pub value_is : a ≡ element_at K A AL constant L spaces e positive z z_order b m classes orders
        coords
    pub light : IsBelow K.ring e m (suc j) coords

  m-zero : m 0 ≡ 0
  m-zero = one-order K A AL constant L spaces (m 0) 0 A.one
      (subst (HasOrderOf k A constant L (m 0)) first (orders 0 positive))
      (subst (HasOrderOf k A constant L 0) spaces.constants.on_one
      (constant-order K A AL constant L spaces K.one K.is_field.one_not_zero))

  -- c * z^x at the index i
  term : K.carrier → ℕ → ℕ → ℕ → Poly K.ring
  term c x i l = P.mul (P.mul (poly k (c ∷ [])) (power P.ring (variable k) x)) (unit_at P.ring i l)

  term-value : (c : K.carrier) (x i : ℕ) → i < e → value (term c x i)
      ≡ A.mul (constant c) (A.mul (at (power P.ring (variable k) x)) (b i))
  unfolding term
  term-value c x i q = in_ring-single K A AL at
      (at_z-map K A AL constant L spaces e positive z z_order) e positive b (λ i j l. P.zero) i q
      (P.mul (poly k (c ∷ [])) (power P.ring (variable k) x))
      ∙ ap (λ t. A.mul t (b i)) ((at_z-map K A AL constant L spaces e positive z z_order).on_mul
      (poly k (c ∷ [])) (power P.ring (variable k) x)
      ∙ ap (λ t. A.mul t (at (power P.ring (variable k) x)))
      (eval-const k A K.laws K.tests AL constant spaces.constants z c))
      ∙ AL.mul_assoc _ _ _

  term-below : (c : K.carrier) (x i n : ℕ) → i < e → e * x + m i < n
      → IsBelow k e m n (term c x i)
  unfolding term
  term-below c x i n q less l r d o = go (cases_lt l i) (cases_lt i l)
    where
      other : ¬ (l ≡ i) → coeff k (term c x i l).coeffs d ≡ k.zero
      other h = ap (λ (p : Poly K.ring). coeff k p.coeffs d)
          (ap (P.mul (P.mul (poly k (c ∷ [])) (power P.ring (variable k) x)))
          (unit-other P.ring i l h) ∙ mul_zero P.ring P.laws _) ∙ zero-coeff k d

      own : l ≡ i → coeff k (term c x i l).coeffs d ≡ k.zero
      own h = ap (λ j. coeff k (term c x i j).coeffs d) h
          ∙ ap (λ (p : Poly K.ring). coeff k p.coeffs d)
          (ap (P.mul (P.mul (poly k (c ∷ [])) (power P.ring (variable k) x)))
          (unit-same P.ring i) ∙ P.laws.mul_one _)
          ∙ const_mul_at k K.laws K.tests c (power P.ring (variable k) x) d
          ∙ ap (K.mul c) (coeff-beyond k K.laws K.tests (power P.ring (variable k) x).coeffs d
          (past (cases_lt x d))) ∙ mul_zero k K.laws c
        where
          past : (x < d) ⊎ (d ≤ x) → size k (power P.ring (variable k) x) ≤ d
          past (inl s) = omega (arith, s, power-size K x)
          past (inr s) = pick (cases_lt d x)
            where
              pick : (d < x) ⊎ (x ≤ d) → size k (power P.ring (variable k) x) ≤ d
              pick (inl u) = absurd (omega (arith, grows e d x u, o, less, ap m h))
              pick (inr u) = let f : d ≡ x = omega arith in
                  let g : e * d ≡ e * x = ap (λ n. e * n) f in
                  absurd (omega (arith, g, o, less, ap m h))

      go : (l < i) ⊎ (i ≤ l) → (i < l) ⊎ (l ≤ i) → coeff k (term c x i l).coeffs d ≡ k.zero
      go (inl s) u = other (λ h. absurd (omega arith))
      go (inr s) (inl u) = other (λ h. absurd (omega arith))
      go (inr s) (inr u) = own (omega arith)

  -- one element more
  step : (j : ℕ) (a : A.carrier) → L (suc j) a → ¬ (L j a)
      → ((a : A.carrier) → L j a → SpaceCoords j a) → SpaceCoords (suc j) a
  step j a h n rest = record {
    coords = λ l. P.add (c.coords l) (term d.0 x i l);
    value_is = ring2 A AL (λ a g. a) (λ a g. (a ⊕ neg g) ⊕ g) refl a (A.mul (constant d.0) u)
        ∙ ap₂ A.add c.value_is (sym (term-value d.0 x i small))
        ∙ sym (in_ring-add K A AL at (at_z-map K A AL constant L spaces e positive z z_order) e
        positive b (λ i j l. P.zero) c.coords (term d.0 x i));
    light = λ l q n r. add_at k K.laws K.tests (c.coords l) (term d.0 x i l) n
        ∙ ap₂ K.add (c.light l q n (omega arith))
        (term-below d.0 x i (suc (suc j)) small (omega (arith, split)) l q n r)
        ∙ K.laws.add_zero K.zero;
  }
    where
      i : ℕ
      i = suc j % e

      x : ℕ
      x = (suc j - m (suc j % e)) / e

      small : suc j % e < e
      small = mod-lt (suc j) positive

      low : m (suc j % e) ≤ suc j
      low = least (suc j) a (record { up_to = h; not_less = n })

      split : suc j ≡ e * ((suc j - m (suc j % e)) / e) + m (suc j % e)
      split = omega (
        arith,
        low,
        div-add-mod (suc j - m (suc j % e)) e,
        mod_sub e positive (suc j) (m (suc j % e)) low (sym (classes (suc j % e) small)),
      )

      u : A.carrier
      u = A.mul (at (power P.ring (variable k) x)) (b i)

      u-order : HasOrderOf k A constant L (suc j) u
      u-order = subst (λ n. HasOrderOf k A constant L n u) (sym split)
          (spaces.exact (e * x) (m i) (at (power P.ring (variable k) x)) (b i)
          (poly-order K A AL constant L spaces e positive z z_order (power P.ring (variable k) x) x
          (power-size K x)) (orders i small))

      d : (c : K.carrier) × L j (A.add a (A.neg (A.mul (constant c) u)))
      d = steps.next j a u h u-order

      c : SpaceCoords j (A.add a (A.neg (A.mul (constant d.0) u)))
      c = rest (A.add a (A.neg (A.mul (constant d.0) u))) d.1

  pub space_coords : (j : ℕ) (a : A.carrier) → L j a → SpaceCoords j a
  space_coords zero a h = record {
    coords = term c.0 0 0;
    value_is = c.1
        ∙ ring1 A AL (λ c. c) (λ c. c ⊗ (unit ⊗ unit)) refl (constant c.0)
        ∙ ap₂ (λ x y. A.mul (constant c.0) (A.mul x y))
        (sym (at_z-map K A AL constant L spaces e positive z z_order).on_one) (sym first)
        ∙ sym (term-value c.0 0 0 positive);
    light = term-below c.0 0 0 1 positive (omega (arith, m-zero));
  }
    where
      c : (c : K.carrier) × (a ≡ constant c)
      c = steps.only a h
  space_coords (suc j) a h = go (steps.decide j a h) (space_coords j)
    where
      go : L j a ⊎ ¬ (L j a) → ((a : A.carrier) → L j a → SpaceCoords j a)
          → SpaceCoords (suc j) a
      go (inr n) rest = step j a h n rest
      go (inl l) rest = record {
        coords = (rest a l).coords;
        value_is = (rest a l).value_is;
        light = λ i q d r. (rest a l).light i q d (omega arith);
      }
