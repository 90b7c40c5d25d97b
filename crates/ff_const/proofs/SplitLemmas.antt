-- Elements less constants, and the factors that one without inverse gives, for an equation f over a
-- field whose laws are L.
use Rattle.std.proofs.Common.{◌≡◌, ℕ, suc, ◌-◌, ◌<◌, ◌⊎◌, inl, inr, Bool, true}
use Rattle.std.proofs.Common.{false}
use Rattle.std.proofs.Common.{List, length, refl, sym, ◌∙◌, ap, ap₂, subst, arith}
use Rattle.std.specs.declared.cmp.Ordering.TheVariants.{Greater}
use Rattle.ff_theory.specs.Ring.{RingOps, IsCommRing, Elements}
use Rattle.ff_theory.specs.Lawful.{Field, Lawful, lawful_field}
use Rattle.ff_theory.specs.Poly.{polynomials}
use Rattle.ff_theory.specs.Map.{IsMap}
use Rattle.ff_theory.specs.Values.{plane_of, IsPlane}
use Rattle.ff_theory.specs.Planes.{Plane}
use Rattle.ff_theory.proofs.Solver.{◌⊕◌, ◌⊗◌, neg, nil, unit, ring1, ring2, ring4, mul_zero}
use Rattle.ff_theory.proofs.Poly.{polynomial_laws}
use Rattle.ff_theory.proofs.PolyMap.{polynomial_domain, not_same}
use Rattle.ff_theory.proofs.Element.{algebra_is_ring}
use Rattle.ff_theory.proofs.Constants.{constant_map}
use Rattle.ff_theory.proofs.ElementEuclid.{one-nonzero}
use Rattle.ff_factors.specs.Factors.{IsFactored, times_row}
use Rattle.ff_elem.specs.Elem.{algebra_in}
use Rattle.ff_elem.specs.Factors.{AreFactors}
use Rattle.ff_elem.specs.Key.{key_cmp}
use Rattle.ff_elem.proofs.Reduction.{plane-size}
use Rattle.ff_elem.proofs.Quotients.{not-empty}
use Rattle.ff_data.specs.Combinations.{constant_in}
use Rattle.ff_const.specs.Keys.{plane_key}
use Rattle.ff_const.specs.Fixed.{IsFixed, IsConstant, AreOrderedFactors, HasNone, IsInverted}
use Rattle.ff_const.specs.Fixed.{less_constant_of, product_below}
use Rattle.ff_const.proofs.FinitePowers.{product-power}

module _ (K : Elements ℕ) (L : Lawful K) where
  abbrev F : Field
  F = lawful_field L

  -- the factors in the other order
  factors-swap : (f g h : Plane (lawful_field L)) → IsFactored K.ring f g h
      → IsFactored K.ring f h g
  factors-swap f g h s = record {
    scalar = s.scalar;
    product = s.product ∙ ap (times_row K.ring s.scalar) ((polynomial_laws (polynomials K.ring)
        (polynomial_domain F).laws (polynomial_domain F).tests).mul_comm g h);
    left = s.right;
    right = s.left;
    left_degree = s.right_degree;
    right_degree = s.left_degree;
  }

  pub ordered-factors : (f N g h : List (List ℕ)) (r : List (List ℕ) × List (List ℕ))
      → AreFactors K f N g h → (r ≡ (g, h)) ⊎ (r ≡ (h, g))
      → ¬ (key_cmp (plane_key K r.0) (plane_key K r.1) ≡ Greater)
      → AreOrderedFactors L f r.0 r.1
  ordered-factors f N g h r s (inl e) o = record {
    first = subst (λ (t : List (List ℕ) × List (List ℕ)). IsPlane K t.0) (sym e) s.first;
    second = subst (λ (t : List (List ℕ) × List (List ℕ)). IsPlane K t.1) (sym e) s.second;
    factored = subst (λ (t : List (List ℕ) × List (List ℕ)). IsFactored K.ring (plane_of K f)
        (plane_of K t.0) (plane_of K t.1)) (sym e) s.factored;
    ordered = o;
  }
  ordered-factors f N g h r s (inr e) o = record {
    first = subst (λ (t : List (List ℕ) × List (List ℕ)). IsPlane K t.0) (sym e) s.second;
    second = subst (λ (t : List (List ℕ) × List (List ℕ)). IsPlane K t.1) (sym e) s.first;
    factored = subst (λ (t : List (List ℕ) × List (List ℕ)). IsFactored K.ring (plane_of K f)
        (plane_of K t.0) (plane_of K t.1)) (sym e)
        (factors-swap (plane_of K f) (plane_of K g) (plane_of K h) s.factored);
    ordered = o;
  }

  -- a finite field has an element
  pub some-size : 0 < K.size
  some-size = let h : K.index K.zero < K.size = L.finite.index_below K.zero in omega (arith, h)

  module _ (f : List (List ℕ)) where
    abbrev A : RingOps
    A = algebra_in L f

    AL : IsCommRing (algebra_in L f)
    AL = algebra_is_ring (lawful_field L) (plane_of K f)

    abbrev ι : K.carrier → (algebra_in L f).carrier
    ι = constant_in L f

    M : IsMap K.ring (algebra_in L f) (constant_in L f)
    M = constant_map (lawful_field L) (plane_of K f)

    -- 0, as an element less a constant
    pub is-constant : (w : (algebra_in L f).carrier) (c : K.carrier) → less_constant_of L f w c
        ≡ (algebra_in L f).zero → IsConstant L f w
    is-constant w c e = (
      c,
      ring2 A AL (λ w c. w) (λ w c. (w ⊕ neg c) ⊕ c) refl w (ι c) ∙ ap (λ t. A.add t (ι c)) e
          ∙ ring1 A AL (λ c. nil ⊕ c) (λ c. c) refl (ι c),
    )

    -- an element that is not 0 and has no inverse after a constant is taken off is no constant
    pub not-constant : (w : (algebra_in L f).carrier) (c : K.carrier)
        → HasNone L f (less_constant_of L f w c) → ¬ IsConstant L f w
    not-constant w c h s = go (K.same d K.zero) refl
      where
        d : K.carrier
        d = K.add s.0 (K.neg c)

        is-d : less_constant_of L f w c ≡ ι d
        is-d = ap (λ t. less_constant_of L f t c) s.1 ∙ ap (A.add (ι s.0)) (sym (M.on_neg c))
            ∙ sym (M.on_add s.0 (K.neg c))

        go : (b : Bool) → K.same d K.zero ≡ b → ⊥
        go true e = h.nonzero (is-d ∙ ap ι (L.tests.same_true d K.zero e) ∙ M.on_zero)
        go false e = h.none (ι (K.inverse d)) (ap (λ t. A.mul t (ι (K.inverse d))) is-d
            ∙ sym (M.on_mul d (K.inverse d)) ∙ ap ι (L.finite.field.mul_inverse d
            (not_same K.ring L.tests d K.zero e)) ∙ M.on_one)

    -- one factor with an inverse more
    pub invert-more : (n m : ℕ) (g : ℕ → (algebra_in L f).carrier) → m ≡ suc n
        → IsInverted L f (product_below (algebra_in L f) n g) → IsInverted L f (g n)
        → IsInverted L f (product_below (algebra_in L f) m g)
    invert-more n m g e s t = subst (λ j. IsInverted L f (product_below A j g)) (sym e) (
      A.mul s.0 t.0,
      ring4 A AL (λ b c p x. (b ⊗ c) ⊗ (p ⊗ x)) (λ b c p x. (b ⊗ p) ⊗ (c ⊗ x)) refl s.0 t.0
          (product_below A n g) (g n) ∙ ap₂ A.mul s.1 t.1 ∙ AL.mul_one A.one,
    )

    -- the last element less a constant has no inverse where the others have one
    pub last-none : (w : (algebra_in L f).carrier) (n : ℕ) → K.size ≡ suc n → IsFixed L f w
        → ¬ ((algebra_in L f).one ≡ (algebra_in L f).zero)
        → IsInverted L f (product_below (algebra_in L f) n
        (λ i. less_constant_of L f w (K.element_at i)))
        → ¬ (less_constant_of L f w (K.element_at n) ≡ (algebra_in L f).zero)
        → HasNone L f (less_constant_of L f w (K.element_at n))
    last-none w n e fixed proper s nonzero = record {
      nonzero = nonzero;
      none = λ b h. proper (ring2 A AL (λ u v. u) (λ u v. u ⊗ unit) refl A.one A.one
          ∙ sym (ap₂ A.mul s.1 h)
          ∙ ring4 A AL (λ c p x b. (c ⊗ p) ⊗ (x ⊗ b)) (λ c p x b. (c ⊗ b) ⊗ (p ⊗ x)) refl s.0
          (product_below A n g) (g n) b ∙ ap (A.mul (A.mul s.0 b)) vanishes
          ∙ mul_zero A AL (A.mul s.0 b));
    }
      where
        g : ℕ → A.carrier
        g i = less_constant_of L f w (K.element_at i)

        vanishes : A.mul (product_below A n g) (g n) ≡ A.zero
        vanishes = ap (λ j. product_below A j g) (sym e)
            ∙ product-power K.field L.laws L.tests L.finite A AL ι M w
            ∙ ap (λ t. A.add t (A.neg w)) fixed ∙ AL.add_neg w

    -- 1 is not 0
    pub proper : IsPlane K f → 1 < length f → ¬ ((algebra_in L f).one ≡ (algebra_in L f).zero)
    proper h l = let n = length f - 1 in
        let long : length f ≡ suc n = omega (arith, l) in
        one-nonzero (lawful_field L) (plane_of K f) (not-empty K L f n h long)
        (omega (arith, plane-size K L f h, l))

    -- the last element less a constant, as it is computed
    pub at-last : (w v : (algebra_in L f).carrier) (c : K.carrier) (m : ℕ) → IsPlane K f
        → 1 < length f → m ≡ K.size → c ≡ K.element_at (m - 1) → v ≡ less_constant_of L f w c
        → IsFixed L f w → IsInverted L f (product_below (algebra_in L f) (K.size - 1)
        (λ i. less_constant_of L f w (K.element_at i))) → ¬ (v ≡ (algebra_in L f).zero)
        → HasNone L f v
    at-last w v c m hf has size e is fixed others nonzero =
        let some : 0 < K.size = some-size in
        let n : K.size ≡ suc (K.size - 1) = omega (arith, some) in
        let same : v ≡ less_constant_of L f w (K.element_at (K.size - 1)) = is
        ∙ ap (less_constant_of L f w) (e ∙ ap (λ t. K.element_at (t - 1)) size) in
        subst (HasNone L f) (sym same)
        (last-none w (K.size - 1) n fixed (proper hf has) others (λ z. nonzero (same ∙ z)))

    pub none-yet : IsInverted L f (algebra_in L f).one
    none-yet = (A.one, AL.mul_one A.one)
