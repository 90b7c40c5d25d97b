-- Pairs that are inverse to each other give an isomorphism, where f and g are irreducible and E(f)
-- has the spaces of some point.
use Rattle.std.proofs.Common.{◌≡◌, ℕ, suc, ◌-◌, ◌<◌, ◌≤◌, Bool, true, false, List, [], ◌∷◌}
use Rattle.std.proofs.Common.{length, refl, sym, ◌∙◌, ap, ap₂, subst, arith}
use Rattle.std.proofs.lemmas.Bool.{eqb-true}
use Rattle.ff_theory.specs.Ring.{RingOps, IsCommRing, IsTested, Elements}
use Rattle.ff_theory.specs.Lawful.{Domain, Field, Lawful, lawful_field}
use Rattle.ff_theory.specs.Map.{IsMap}
use Rattle.ff_theory.specs.Eval.{eval_list, eval, plane_at}
use Rattle.ff_theory.specs.Poly.{Poly, poly, polynomials}
use Rattle.ff_theory.specs.Division.{size}
use Rattle.ff_theory.specs.Planes.{planes, Plane, row_of}
use Rattle.ff_theory.specs.Algebra.{algebra_of, value_of, constant, x_of, y_of, degree, element}
use Rattle.ff_theory.specs.Algebra.{Form}
use Rattle.ff_theory.specs.LowestTerms.{IsLowest}
use Rattle.ff_theory.specs.Values.{poly_of, polys_of, plane_of, IsPlane}
use Rattle.ff_theory.proofs.Solver.{◌⊕◌, ◌⊗◌, neg, nil, unit, ring1, ring2, ring3}
use Rattle.ff_theory.proofs.PolyMap.{polynomial_domain}
use Rattle.ff_theory.proofs.Element.{algebra_is_ring, value_map, value_at_xy, form, lowest_nonzero}
use Rattle.ff_theory.proofs.Element.{element_clear, low_value, cancel_row}
use Rattle.ff_theory.proofs.Constants.{constant_map}
use Rattle.ff_theory.proofs.Dependence.{differs}
use Rattle.ff_theory.proofs.Division.{size-add, size-neg}
use Rattle.ff_theory.proofs.Evaluate.{const_map, eval_map, eval-const, plane_at_map}
use Rattle.ff_theory.proofs.Poly.{polynomial_laws}
use Rattle.ff_theory.proofs.Poly.{polynomial_tests}
use Rattle.ff_charts.proofs.Rows.{poly_size}
use Rattle.ff_factors.specs.Factors.{IsFactored}
use Rattle.ff_charts.specs.Chart.{Chart as ChartOf}
use Rattle.ff_charts.proofs.FiniteChart.{degree_is}
use Rattle.ff_local.specs.ChartOrder.{root_at}
use Rattle.ff_local.proofs.Quotients.{root_value}
use Rattle.ff_elem.specs.Elem.{algebra_in, elem_of, x_in, y_in}
use Rattle.ff_data.specs.declared.order.Chart.TheVariants.{Finite, Infinite}
use Rattle.ff_data.specs.declared.pair.Pair.{Pair}
use Rattle.ff_data.specs.Orders.{chart_of}
use Rattle.ff_data.specs.Pairs.{IsPair, IsInversePair}
use Rattle.ff_data.proofs.ChartLaws.{has, algebra_laws, chart_laws}
use Rattle.ff_data.proofs.LocalOrder.{root_modulus}
use Rattle.ff_places.proofs.FieldSpaces.{AreFieldSpaces}
use Rattle.ff_places.proofs.ChartOrders.{at_u_proper}
use Rattle.ff_places.proofs.CurvePlaces.{curve_field, curve_spaces}
use Rattle.ff_places.proofs.Isomorphisms.{FieldIsomorphism}
use Rattle.ff_places.proofs.AlgebraicConstants.{algebraic_constant}
use Rattle.ff_places.proofs.PairMaps.{image, image_value, image_eval, image_constant, image_x}
use Rattle.ff_places.proofs.PairMaps.{image_y}
use Rattle.ff_places.proofs.PairMaps.{image_add, image_mul}

-- a map of E(f) to itself that keeps sums, products, constants, x and y is the identity
module _ (K : Field) (f : Plane K) (φ : (algebra_of K f).carrier → (algebra_of K f).carrier)
    (on_add : (a b : (algebra_of K f).carrier)
    → φ ((algebra_of K f).add a b) ≡ (algebra_of K f).add (φ a) (φ b))
    (on_mul : (a b : (algebra_of K f).carrier)
    → φ ((algebra_of K f).mul a b) ≡ (algebra_of K f).mul (φ a) (φ b))
    (on_constant : (s : K.carrier) → φ (constant K f s) ≡ constant K f s)
    (on_x : φ (x_of K f) ≡ x_of K f) (on_y : φ (y_of K f) ≡ y_of K f) where
  abbrev A : RingOps
  A = algebra_of K f

  on_zero : φ A.zero ≡ A.zero
  on_zero = ap φ (sym (constant_map K f).on_zero) ∙ on_constant K.zero ∙ (constant_map K f).on_zero

  lists : {B : Type 0} (k : B → A.carrier) → ((b : B) → φ (k b) ≡ k b) → (w : A.carrier) → φ w ≡ w
      → (p : List B) → φ (eval_list A k w p) ≡ eval_list A k w p
  lists k each w m [] = on_zero
  lists k each w m (b ∷ p) = on_add _ _ ∙ ap₂ A.add (each b)
      (on_mul w _ ∙ ap₂ A.mul m (lists k each w m p))

  polynomials_fixed : (p : Poly K.ring) → φ (eval K.ring A (constant K f) (x_of K f) p)
      ≡ eval K.ring A (constant K f) (x_of K f) p
  unfolding eval
  polynomials_fixed p = lists (constant K f) on_constant (x_of K f) on_x p.coeffs

  planes_fixed : (N : Plane K) → φ (plane_at K.ring A (constant K f) (x_of K f) (y_of K f) N)
      ≡ plane_at K.ring A (constant K f) (x_of K f) (y_of K f) N
  unfolding eval
  planes_fixed N = lists (eval K.ring A (constant K f) (x_of K f)) polynomials_fixed (y_of K f) on_y
      N.coeffs

  value_fixed : (N : Plane K) → φ (value_of K f N) ≡ value_of K f N
  value_fixed N = ap φ (value_at_xy K f N) ∙ planes_fixed N ∙ sym (value_at_xy K f N)

  pub identity : (a : (algebra_of K f).carrier) → φ a ≡ a
  identity a = cancel_row K f q.den nonzero (φ a) a
      (ap (λ t. A.mul t (φ a)) (sym (value_fixed (row_of K.ring q.den)))
      ∙ sym (on_mul (value_of K f (row_of K.ring q.den)) a) ∙ ap φ cleared
      ∙ value_fixed _ ∙ sym cleared)
    where
      q : Form K f a
      q = form K f a

      nonzero : (polynomials K.ring).same (form K f a).den (polynomials K.ring).zero ≡ false
      nonzero = lowest_nonzero K f (degree K f) (form K f a).den (form K f a).nums
          (form K f a).lowest

      cleared : A.mul (value_of K f (row_of K.ring (form K f a).den)) a
          ≡ value_of K f (poly (polynomials K.ring) (form K f a).nums)
      cleared = ap (A.mul (value_of K f (row_of K.ring (form K f a).den)))
          (sym (form K f a).stands)
          ∙ element_clear K f (form K f a).den (form K f a).nums nonzero

constant_row : (K : Field) (f : Plane K) (s : K.carrier)
    → constant K f s ≡ value_of K f (row_of K.ring (poly K.ring (s ∷ [])))
unfolding constant
constant_row K f s = refl

-- the numerators of a constant in lowest terms are its multiple of the denominator
module _ (K : Field) (f : Plane K) (positive : 0 < degree K f) (den : Poly K.ring)
    (nums : List (Poly K.ring)) (lowest : IsLowest K (degree K f) den nums) (s : K.carrier)
    (is : element K f den nums ≡ constant K f s) where
  abbrev P : Domain
  P = polynomial_domain K

  abbrev E : RingOps
  E = algebra_of K f

  abbrev num : Plane K
  num = poly (polynomials K.ring) nums

  abbrev multiple : Plane K
  multiple = (planes K).mul (row_of K.ring den) (row_of K.ring (poly K.ring (s ∷ [])))

  pub constant_numerators : poly (polynomials K.ring) nums
      ≡ (planes K).mul (row_of K.ring den) (row_of K.ring (poly K.ring (s ∷ [])))
  constant_numerators = go ((planes K).same N (planes K).zero) refl
    where
      PL : IsCommRing (planes K)
      PL = polynomial_laws (polynomials K.ring) P.laws P.tests

      PT : IsTested (planes K)
      PT = polynomial_tests (polynomials K.ring) P.laws P.tests

      N : Plane K
      N = (planes K).add num ((planes K).neg multiple)

      short : size (polynomials K.ring) num ≤ degree K f
      short = let a : size (polynomials K.ring) num ≤ length nums
          = poly_size (polynomials K.ring) P.laws P.tests nums in
          let b : length nums ≡ degree K f = eqb-true (length nums) (degree K f) lowest.count in
          omega (arith, a, b)

      one_row : size (polynomials K.ring) multiple ≤ degree K f
      one_row = subst (λ M. size (polynomials K.ring) M ≤ degree K f)
          ((const_map (polynomials K.ring) P.laws P.tests).on_mul den (poly K.ring (s ∷ [])))
          (let a : size (polynomials K.ring) (row_of K.ring (P.mul den (poly K.ring (s ∷ [])))) ≤ 1
          = poly_size (polynomials K.ring) P.laws P.tests (P.mul den (poly K.ring (s ∷ [])) ∷ []) in
          omega (arith, a, positive))

      small : size (polynomials K.ring) N ≤ degree K f
      small = size-add (polynomials K.ring) P.laws P.tests num ((planes K).neg multiple)
          (degree K f)
          short (let a : size (polynomials K.ring) ((planes K).neg multiple)
          ≤ size (polynomials K.ring) multiple
          = size-neg (polynomials K.ring) P.laws P.tests multiple in omega (arith, a, one_row))

      vanishes : value_of K f N ≡ E.zero
      vanishes = (value_map K f).on_add num _ ∙ ap₂ E.add (sym (element_clear K f den nums
          (lowest_nonzero K f (degree K f) den nums lowest))
          ∙ ap (E.mul (value_of K f (row_of K.ring den))) (is ∙ constant_row K f s))
          ((value_map K f).on_neg multiple ∙ ap E.neg ((value_map K f).on_mul _ _))
          ∙ (algebra_is_ring K f).add_neg _

      go : (b : Bool) → (planes K).same N (planes K).zero ≡ b → num ≡ multiple
      go true z = ring2 (planes K) PL (λ n m. n) (λ n m. (n ⊕ neg m) ⊕ m) refl num multiple
          ∙ ap (λ t. (planes K).add t multiple) (PT.same_true N (planes K).zero z)
          ∙ ring1 (planes K) PL (λ m. nil ⊕ m) (λ m. m) refl multiple
      go false z = absurd (low_value K f N small (differs (planes K) PL PT N z) vanishes)

module _ (F : Elements ℕ) (L : Lawful F) (f : List (List ℕ)) (hf : IsPlane F f)
    (two : 1 < length f)
    (irreducible : (a b : Poly (polynomials F.ring)) → ¬ IsFactored F.ring (plane_of F f) a b) where
  abbrev CF : ChartOf F.ring (algebra_in L f)
  CF = chart_of L f Finite

  -- polynomials in x that are not 0 are not 0 in E(f)
  x_free : (p : Poly F.ring) → (polynomials F.ring).same p (polynomials F.ring).zero ≡ false
      → ¬ (eval F.ring (algebra_in L f) (constant (lawful_field L) (plane_of F f)) (x_in L f) p
      ≡ (algebra_in L f).zero)
  x_free p np = at_u_proper (lawful_field L) (curve_field F L f hf two irreducible) CF
      (chart_laws F L f hf two Finite) p np

  -- x is no constant
  x_proper : (c : F.carrier) → ¬ (x_in L f ≡ constant (lawful_field L) (plane_of F f) c)
  x_proper c e = x_free (root_at F.ring c)
      (root_modulus F L f Finite c (λ e. absurd (let z : Finite ≡ Infinite = e in cc)))
      (root_value (lawful_field L) (algebra_in L f) (algebra_laws F L f hf two) CF
      (chart_laws F L f hf two Finite) c
      ∙ ap₂ (algebra_in L f).add ((constant_map (lawful_field L) (plane_of F f)).on_neg c) e
      ∙ (algebra_laws F L f hf two).add_comm _ _ ∙ (algebra_laws F L f hf two).add_neg _)

  nonempty : ¬ (size (polynomials F.ring) (plane_of F f) ≡ 0)
  nonempty e = let h : size (polynomials F.ring) (plane_of F f) ≡ suc (length f - 1)
      = has F L f hf two in omega (arith, e, h)

  some_degree : 0 < degree (lawful_field L) (plane_of F f)
  some_degree = let d : degree (lawful_field L) (plane_of F f) ≡ length f - 1
      = degree_is (lawful_field L) (plane_of F f) (length f - 1) (has F L f hf two) in
      omega (arith, d, two)

module _ (F : Elements ℕ) (L : Lawful F) (f g : List (List ℕ)) (hf : IsPlane F f)
    (hg : IsPlane F g) (two : 1 < length f) (more : 1 < length g)
    (irreducible : (a b : Poly (polynomials F.ring)) → ¬ IsFactored F.ring (plane_of F f) a b)
    (other : (a b : Poly (polynomials F.ring)) → ¬ IsFactored F.ring (plane_of F g) a b)
    (V : ℕ → (algebra_in L f).carrier → Type 0)
    (are : AreFieldSpaces (lawful_field L) (curve_field F L f hf two irreducible)
    (constant (lawful_field L) (plane_of F f)) V)
    (pair back : Pair) (pair_is : IsPair L g pair) (back_is : IsPair L f back)
    (inverse : IsInversePair L f g pair back) where
  abbrev K : Field
  K = lawful_field L

  abbrev Here : Field
  Here = curve_field F L f hf two irreducible

  abbrev There : Field
  There = curve_field F L g hg more other

  abbrev ι : F.carrier → Here.carrier
  ι = constant (lawful_field L) (plane_of F f)

  abbrev κ : F.carrier → There.carrier
  κ = constant (lawful_field L) (plane_of F g)

  abbrev X : There.carrier
  X = elem_of L g pair.x

  abbrev Y : There.carrier
  Y = elem_of L g pair.y

  abbrev U : Here.carrier
  U = elem_of L f back.x

  abbrev W : Here.carrier
  W = elem_of L f back.y

  map_f : IsMap F.ring Here.ring ι
  map_f = constant_map K (plane_of F f)

  map_g : IsMap F.ring There.ring κ
  map_g = constant_map K (plane_of F g)

  G : IsMap (planes K) There.ring (plane_at F.ring There.ring κ X Y)
  G = plane_at_map F.ring There.ring L.laws L.tests There.laws κ map_g X Y

  row : (p : Poly F.ring) → plane_at F.ring There.ring κ X Y (row_of F.ring p)
      ≡ eval F.ring There.ring κ X p
  row p = let D : Domain = polynomial_domain K in eval-const (polynomials F.ring) There.ring D.laws
      D.tests There.laws (eval F.ring There.ring κ X)
      (eval_map F.ring There.ring L.laws L.tests There.laws κ map_g X) Y p

  -- U is no root of a polynomial over k: it would be a constant, and so would its value at X and Y
  u_free : (p : Poly F.ring) → (polynomials F.ring).same p (polynomials F.ring).zero ≡ false
      → ¬ (eval F.ring Here.ring ι U p ≡ Here.zero)
  u_free p np z = x_proper F L g hg more other c.0 is_constant
    where
      c : (c : F.carrier) × (U ≡ ι c)
      c = algebraic_constant (curve_spaces F L f hf two irreducible V are) U p np z

      numerators : plane_of F back.x.num ≡ (planes K).mul (row_of F.ring (poly_of F back.x.den))
          (row_of F.ring (poly F.ring (c.0 ∷ [])))
      numerators = constant_numerators K (plane_of F f) (some_degree F L f hf two irreducible)
          (poly_of F back.x.den) (polys_of F back.x.num) back_is.x.lowest c.0 c.1

      is_constant : x_in L g ≡ κ c.0
      is_constant = inverse.undone.x.product
          ∙ ap (λ (N : Plane K). There.mul (plane_at F.ring There.ring κ X Y N) i) numerators
          ∙ ap (λ t. There.mul t i) (G.on_mul _ _ ∙ ap₂ There.mul (row (poly_of F back.x.den))
          (row (poly F.ring (c.0 ∷ [])) ∙ eval-const F.ring There.ring L.laws L.tests There.laws κ
          map_g X c.0))
          ∙ ring3 There.ring There.laws (λ d c i. (d ⊗ c) ⊗ i) (λ d c i. (i ⊗ d) ⊗ c) refl
          (eval F.ring There.ring κ X (poly_of F back.x.den)) (κ c.0) i
          ∙ ap (λ t. There.mul t (κ c.0)) inverse.undone.x.inverts
          ∙ ring1 There.ring There.laws (λ c. unit ⊗ c) (λ c. c) refl (κ c.0)
        where
          i : There.carrier
          i = inverse.undone.x.inverse

  -- the map of E(g) that the pair back gives
  abbrev τ : There.carrier → Here.carrier
  τ = image K (plane_of F g) (nonempty F L g hg more other) Here ι map_f U W
      inverse.back_satisfies u_free

  τ_x : τ X ≡ x_in L f
  τ_x = image_value K (plane_of F g) (nonempty F L g hg more other) Here ι map_f U W
      inverse.back_satisfies u_free (poly_of F pair.x.den) (polys_of F pair.x.num)
      pair_is.x.lowest (x_in L f) inverse.undoes.x.inverse inverse.undoes.x.inverts
      inverse.undoes.x.product

  τ_y : τ Y ≡ y_in L f
  τ_y = image_value K (plane_of F g) (nonempty F L g hg more other) Here ι map_f U W
      inverse.back_satisfies u_free (poly_of F pair.y.den) (polys_of F pair.y.num)
      pair_is.y.lowest (y_in L f) inverse.undoes.y.inverse inverse.undoes.y.inverts
      inverse.undoes.y.product

  x_of_pair_free : (p : Poly F.ring)
      → (polynomials F.ring).same p (polynomials F.ring).zero ≡ false
      → ¬ (eval F.ring There.ring κ X p ≡ There.zero)
  x_of_pair_free p np z = x_free F L f hf two irreducible p np
      (ap (λ t. eval F.ring Here.ring ι t p) (sym τ_x)
      ∙ sym (image_eval K (plane_of F g) (nonempty F L g hg more other) Here ι map_f U W
      inverse.back_satisfies u_free X p) ∙ ap τ (z ∙ sym map_g.on_zero)
      ∙ image_constant K (plane_of F g) (nonempty F L g hg more other) Here ι map_f U W
      inverse.back_satisfies u_free F.zero ∙ map_f.on_zero)

  -- the map of E(f) that the pair gives
  abbrev σ : Here.carrier → There.carrier
  σ = image K (plane_of F f) (nonempty F L f hf two irreducible) There κ map_g X Y
      inverse.satisfies x_of_pair_free

  σ_x : σ U ≡ x_in L g
  σ_x = image_value K (plane_of F f) (nonempty F L f hf two irreducible) There κ map_g X Y
      inverse.satisfies x_of_pair_free (poly_of F back.x.den) (polys_of F back.x.num)
      back_is.x.lowest (x_in L g) inverse.undone.x.inverse inverse.undone.x.inverts
      inverse.undone.x.product

  σ_y : σ W ≡ y_in L g
  σ_y = image_value K (plane_of F f) (nonempty F L f hf two irreducible) There κ map_g X Y
      inverse.satisfies x_of_pair_free (poly_of F back.y.den) (polys_of F back.y.num)
      back_is.y.lowest (y_in L g) inverse.undone.y.inverse inverse.undone.y.inverts
      inverse.undone.y.product

  σ_add : (a b : Here.carrier) → σ (Here.add a b) ≡ There.add (σ a) (σ b)
  σ_add = image_add K (plane_of F f) (nonempty F L f hf two irreducible) There κ map_g X Y
      inverse.satisfies x_of_pair_free

  σ_mul : (a b : Here.carrier) → σ (Here.mul a b) ≡ There.mul (σ a) (σ b)
  σ_mul = image_mul K (plane_of F f) (nonempty F L f hf two irreducible) There κ map_g X Y
      inverse.satisfies x_of_pair_free

  σ_constant : (s : F.carrier) → σ (ι s) ≡ κ s
  σ_constant = image_constant K (plane_of F f) (nonempty F L f hf two irreducible) There κ map_g X
      Y inverse.satisfies x_of_pair_free

  τ_add : (a b : There.carrier) → τ (There.add a b) ≡ Here.add (τ a) (τ b)
  τ_add = image_add K (plane_of F g) (nonempty F L g hg more other) Here ι map_f U W
      inverse.back_satisfies u_free

  τ_mul : (a b : There.carrier) → τ (There.mul a b) ≡ Here.mul (τ a) (τ b)
  τ_mul = image_mul K (plane_of F g) (nonempty F L g hg more other) Here ι map_f U W
      inverse.back_satisfies u_free

  τ_constant : (s : F.carrier) → τ (κ s) ≡ ι s
  τ_constant = image_constant K (plane_of F g) (nonempty F L g hg more other) Here ι map_f U W
      inverse.back_satisfies u_free

  -- the isomorphism, which takes x to X and y to Y
  pub pair_isomorphism : FieldIsomorphism (lawful_field L) (curve_field F L f hf two irreducible)
      (curve_field F L g hg more other) (constant (lawful_field L) (plane_of F f))
      (constant (lawful_field L) (plane_of F g))
  pair_isomorphism = record {
    to = σ;
    back = τ;
    back_to = identity K (plane_of F f) (λ a. τ (σ a))
        (λ a b. ap τ (σ_add a b) ∙ τ_add (σ a) (σ b))
        (λ a b. ap τ (σ_mul a b) ∙ τ_mul (σ a) (σ b))
        (λ s. ap τ (σ_constant s) ∙ τ_constant s)
        (ap τ (image_x K (plane_of F f) (nonempty F L f hf two irreducible) There κ map_g X Y
        inverse.satisfies x_of_pair_free) ∙ τ_x)
        (ap τ (image_y K (plane_of F f) (nonempty F L f hf two irreducible) There κ map_g X Y
        inverse.satisfies x_of_pair_free) ∙ τ_y);
    to_back = identity K (plane_of F g) (λ a. σ (τ a))
        (λ a b. ap σ (τ_add a b) ∙ σ_add (τ a) (τ b))
        (λ a b. ap σ (τ_mul a b) ∙ σ_mul (τ a) (τ b))
        (λ s. ap σ (τ_constant s) ∙ σ_constant s)
        (ap σ (image_x K (plane_of F g) (nonempty F L g hg more other) Here ι map_f U W
        inverse.back_satisfies u_free) ∙ σ_x)
        (ap σ (image_y K (plane_of F g) (nonempty F L g hg more other) Here ι map_f U W
        inverse.back_satisfies u_free) ∙ σ_y);
    to_add = σ_add;
    to_mul = σ_mul;
    to_constant = σ_constant;
  }

  pub pair_x : pair_isomorphism.to (x_in L f) ≡ elem_of L g pair.x
  unfolding pair_isomorphism
  pair_x = image_x K (plane_of F f) (nonempty F L f hf two irreducible) There κ map_g X Y
      inverse.satisfies x_of_pair_free

  pub pair_y : pair_isomorphism.to (y_in L f) ≡ elem_of L g pair.y
  unfolding pair_isomorphism
  pair_y = image_y K (plane_of F f) (nonempty F L f hf two irreducible) There κ map_g X Y
      inverse.satisfies x_of_pair_free
