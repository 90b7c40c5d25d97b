-- A functional that keeps the products of a basis of O/(v*O) gives each element of the order one
-- value and keeps sums, products and constants; and the values at a point are such a functional.
use Rattle.std.proofs.Common.{◌≡◌, ℕ, ◌<◌, refl, sym, ◌∙◌, ap, ap₂, subst}
use Rattle.ff_theory.specs.Ring.{RingOps}
use Rattle.ff_theory.specs.Sum.{sum_below}
use Rattle.ff_theory.specs.Span.{combination, product}
use Rattle.ff_theory.proofs.Solver.{◌⊕◌, ◌⊗◌, neg, nil, unit, ring1, ring2, ring3, ring4, ring6}
use Rattle.ff_theory.proofs.Solver.{zero_mul, add_cancel, add_mul}
use Rattle.ff_theory.proofs.Sums.{sum-ext, sum-zero, sum-add, sum-mul, sum-swap}
use Rattle.ff_local.specs.Point.{OrderIn, OrderAt, IsMultiple, IsSpanned, combined}
use Rattle.ff_local.specs.Fibre.{Fibre}
use Rattle.ff_local.specs.Functional.{HasFunctionalValue, IsFunctional}
use Rattle.ff_local.proofs.Orders.{in_one, in_neg, v_multiple, multiple_is}
use Rattle.ff_local.proofs.Basics.{value_one}
use Rattle.ff_local.proofs.Combined.{combined_in, combined_mul, spread}
use Rattle.ff_local.proofs.Kernel.{combined_value}

module _ (O : OrderIn) (F : Fibre O) where
  infixl 60 ◌+◌
  infixl 70 ◌*◌
  open O use {add as ◌+◌, mul as ◌*◌, neg as minus, carrier as C}

  abbrev k : RingOps
  k = O.field.ring

  abbrev N : ℕ
  N = F.spanning.count

  abbrev e : ℕ → C
  e = F.spanning.element

  pub spanned_in : (w : O.carrier) → IsSpanned O F.spanning.count F.spanning.element w → O.In w
  spanned_in w h = subst O.In (sym h.sum) (O.in_add _ _
      (combined_in O N h.coefficients e F.spanning.inside) (O.in_mul _ _ O.in_v h.inside))

  -- combinations of sums, negatives and multiples
  combined_add : (c d : ℕ → O.field.carrier) → combined O N (λ i. O.field.add (c i) (d i)) e
      ≡ combined O N c e + combined O N d e
  combined_add c d = sum-ext O.ring O.laws N _ _ (λ i q. ap (λ t. t * e i)
      (O.constants.on_add (c i) (d i)) ∙ add_mul O.ring O.laws _ _ (e i))
      ∙ sum-add O.ring O.laws N (λ i. O.constant (c i) * e i) (λ i. O.constant (d i) * e i)

  combined_scale : (s : O.field.carrier) (c : ℕ → O.field.carrier)
      → combined O N (λ i. O.field.mul s (c i)) e ≡ O.constant s * combined O N c e
  combined_scale s c = sum-ext O.ring O.laws N _ _ (λ i q. ap (λ t. t * e i)
      (O.constants.on_mul s (c i)) ∙ O.laws.mul_assoc _ _ (e i))
      ∙ sum-mul O.ring O.laws N (O.constant s) (λ i. O.constant (c i) * e i)

  -- an element has one list of coordinates
  pub coordinates_single : (w : O.carrier)
      (h g : IsSpanned O F.spanning.count F.spanning.element w) → (i : ℕ)
      → i < F.spanning.count → h.coefficients i ≡ g.coefficients i
  coordinates_single w h g i q = add_cancel k O.field.laws (h.coefficients i) (g.coefficients i)
      (O.field.neg (g.coefficients i))
      (ap (O.field.add (h.coefficients i)) (ring1 k O.field.laws (λ a. neg a)
      (λ a. neg unit ⊗ a) refl (g.coefficients i))
      ∙ F.independent (λ i. O.field.add (h.coefficients i)
      (O.field.mul (O.field.neg O.field.one) (g.coefficients i))) inside i q
      ∙ sym (O.field.laws.add_neg (g.coefficients i)))
    where
      same : combined O N (λ i. O.field.add (h.coefficients i)
          (O.field.mul (O.field.neg O.field.one) (g.coefficients i))) e
          ≡ O.v * (g.rest + minus h.rest)
      same = combined_add h.coefficients _
          ∙ ap (λ t. combined O N h.coefficients e + t)
          (combined_scale (O.field.neg O.field.one) g.coefficients
          ∙ ap (λ t. t * combined O N g.coefficients e)
          (O.constants.on_neg O.field.one ∙ ap minus O.constants.on_one))
          ∙ ring4 O.ring O.laws (λ a b v y. a ⊕ neg unit ⊗ b)
          (λ a b v y. (a ⊕ v ⊗ y) ⊕ neg (v ⊗ y) ⊕ neg b) refl (combined O N h.coefficients e)
          (combined O N g.coefficients e) O.v h.rest
          ∙ ap (λ t. t + minus (O.v * h.rest) + minus (combined O N g.coefficients e))
          (sym h.sum ∙ g.sum)
          ∙ ring4 O.ring O.laws (λ b v y z. (b ⊕ v ⊗ y) ⊕ neg (v ⊗ z) ⊕ neg b)
          (λ b v y z. v ⊗ (y ⊕ neg z)) refl (combined O N g.coefficients e) O.v g.rest h.rest

      inside : IsMultiple O (combined O N (λ i. O.field.add (h.coefficients i)
          (O.field.mul (O.field.neg O.field.one) (g.coefficients i))) e)
      inside = subst (IsMultiple O) (sym same)
          (v_multiple O _ (O.in_add _ _ g.inside (in_neg O _ h.inside)))

  -- the part of e j * e i in v*O
  abbrev rest : ℕ → ℕ → C
  rest j i = (e j * e i + minus (combined O N (F.table j i) e)) * O.over_v

  entry : (j i : ℕ) → e j * e i ≡ combined O N (F.table j i) e + O.v * rest j i
  entry j i = ring2 O.ring O.laws (λ p t. p) (λ p t. t ⊕ (p ⊕ neg t)) refl (e j * e i)
      (combined O N (F.table j i) e)
      ∙ ap (λ t. combined O N (F.table j i) e + t) (multiple_is O _)

  -- the coordinates of a product
  times_one : (w : C) (h : IsSpanned O N e w) (i : ℕ) → i < N → e i * w
      ≡ combined O N (combination k N h.coefficients (λ j. F.table j i)) e
      + O.v * (combined O N h.coefficients (λ j. rest j i) + h.rest * e i)
  times_one w h i q = ap (λ t. e i * t) h.sum
      ∙ ring4 O.ring O.laws (λ a s v y. a ⊗ (s ⊕ v ⊗ y)) (λ a s v y. s ⊗ a ⊕ v ⊗ (y ⊗ a)) refl
      (e i) (combined O N h.coefficients e) O.v h.rest
      ∙ ap (λ t. t + O.v * (h.rest * e i)) (combined_mul O N h.coefficients e (e i)
      ∙ spread O N e (λ j. F.table j i) (λ j. rest j i) (λ j. e j * e i) N h.coefficients
      (λ j r. entry j i))
      ∙ ring4 O.ring O.laws (λ s v y z. (s ⊕ v ⊗ y) ⊕ v ⊗ z) (λ s v y z. s ⊕ v ⊗ (y ⊕ z)) refl
      (combined O N (combination k N h.coefficients (λ j. F.table j i)) e) O.v
      (combined O N h.coefficients (λ j. rest j i)) (h.rest * e i)

  abbrev columns : (w : C) → IsSpanned O N e w → ℕ → ℕ → O.field.carrier
  columns w h i = combination k N h.coefficients (λ j. F.table j i)

  pub product_spanned : (x w : O.carrier)
      → IsSpanned O F.spanning.count F.spanning.element x
      → IsSpanned O F.spanning.count F.spanning.element w
      → IsSpanned O F.spanning.count F.spanning.element (O.mul x w)
  product_spanned x w g h = record {
    coefficients = combination k N g.coefficients (columns w h);
    rest = combined O N g.coefficients
        (λ i. combined O N h.coefficients (λ j. rest j i) + h.rest * e i) + g.rest * w;
    inside = O.in_add _ _ (combined_in O N g.coefficients _ (λ i q. O.in_add _ _
        (combined_in O N h.coefficients _ (λ j r. F.products j i r q))
        (O.in_mul _ _ h.inside (F.spanning.inside i q))))
        (O.in_mul _ _ g.inside (spanned_in w h));
    sum = ap (λ t. t * w) g.sum
        ∙ ring4 O.ring O.laws (λ s v y w. (s ⊕ v ⊗ y) ⊗ w) (λ s v y w. s ⊗ w ⊕ v ⊗ (y ⊗ w)) refl
        (combined O N g.coefficients e) O.v g.rest w
        ∙ ap (λ t. t + O.v * (g.rest * w)) (combined_mul O N g.coefficients e w
        ∙ spread O N e (columns w h)
        (λ i. combined O N h.coefficients (λ j. rest j i) + h.rest * e i) (λ i. e i * w) N
        g.coefficients (λ i q. times_one w h i q))
        ∙ ring4 O.ring O.laws (λ s v y z. (s ⊕ v ⊗ y) ⊕ v ⊗ z) (λ s v y z. s ⊕ v ⊗ (y ⊕ z)) refl
        (combined O N (combination k N g.coefficients (columns w h)) e) O.v
        (combined O N g.coefficients
        (λ i. combined O N h.coefficients (λ j. rest j i) + h.rest * e i)) (g.rest * w);
  }

  module _ (chi : ℕ → O.field.carrier) where
    -- the value of a combination of lists of coordinates
    value_of_sum : (c : ℕ → O.field.carrier) (T : ℕ → ℕ → O.field.carrier)
        → product k N (combination k N c T) chi
        ≡ sum_below k N (λ i. O.field.mul (c i) (product k N (T i) chi))
    value_of_sum c T = sum-ext k O.field.laws N _ _ (λ l q. O.field.laws.mul_comm _ (chi l)
        ∙ sym (sum-mul k O.field.laws N (chi l) (λ i. O.field.mul (c i) (T i l))))
        ∙ sum-swap k O.field.laws N N (λ l i. O.field.mul (chi l) (O.field.mul (c i) (T i l)))
        ∙ sum-ext k O.field.laws N _ _ (λ i q. sum-ext k O.field.laws N _ _ (λ l r.
        ring3 k O.field.laws (λ x c t. x ⊗ (c ⊗ t)) (λ x c t. c ⊗ (t ⊗ x)) refl (chi l) (c i)
        (T i l)) ∙ sum-mul k O.field.laws N (c i) (λ l. O.field.mul (T i l) (chi l)))

    pub functional_inside : (w : O.carrier) (s : O.field.carrier)
        → HasFunctionalValue O F chi w s → O.In w
    functional_inside w s h = spanned_in w h.0

    pub functional_total : (w : O.carrier) → O.In w
        → (s : O.field.carrier) × HasFunctionalValue O F chi w s
    functional_total w h = (
      product k N (F.spanning.spans w h).coefficients chi,
      (F.spanning.spans w h, refl),
    )

    pub functional_single : (w : O.carrier) (s t : O.field.carrier)
        → HasFunctionalValue O F chi w s → HasFunctionalValue O F chi w t → s ≡ t
    functional_single w s t h g = h.1 ∙ sum-ext k O.field.laws N _ _ (λ i q.
        ap (λ a. O.field.mul a (chi i)) (coordinates_single w h.0 g.0 i q)) ∙ sym g.1

    pub functional_add : (x w : O.carrier) (s t : O.field.carrier)
        → HasFunctionalValue O F chi x s → HasFunctionalValue O F chi w t
        → HasFunctionalValue O F chi (O.add x w) (O.field.add s t)
    functional_add x w s t g h = (
      record {
        coefficients = λ i. O.field.add (g.0.coefficients i) (h.0.coefficients i);
        rest = g.0.rest + h.0.rest;
        inside = O.in_add _ _ g.0.inside h.0.inside;
        sum = ap₂ O.add g.0.sum h.0.sum
            ∙ ring6 O.ring O.laws (λ a b v y z u. (a ⊕ v ⊗ y) ⊕ (b ⊕ v ⊗ z))
            (λ a b v y z u. (a ⊕ b) ⊕ v ⊗ (y ⊕ z)) refl (combined O N g.0.coefficients e)
            (combined O N h.0.coefficients e) O.v g.0.rest h.0.rest O.v
            ∙ ap (λ t. t + O.v * (g.0.rest + h.0.rest))
            (sym (combined_add g.0.coefficients h.0.coefficients));
      },
      ap₂ O.field.add g.1 h.1 ∙ sym (sum-ext k O.field.laws N _ _ (λ i q.
          add_mul k O.field.laws _ _ (chi i)) ∙ sum-add k O.field.laws N _ _),
    )

    pub functional_scale : (c : O.field.carrier) (w : O.carrier) (s : O.field.carrier)
        → HasFunctionalValue O F chi w s
        → HasFunctionalValue O F chi (O.mul (O.constant c) w) (O.field.mul c s)
    functional_scale c w s h = (
      record {
        coefficients = λ i. O.field.mul c (h.0.coefficients i);
        rest = O.constant c * h.0.rest;
        inside = O.in_mul _ _ (O.in_constant c) h.0.inside;
        sum = ap (λ t. O.constant c * t) h.0.sum
            ∙ ring4 O.ring O.laws (λ c a v y. c ⊗ (a ⊕ v ⊗ y)) (λ c a v y. c ⊗ a ⊕ v ⊗ (c ⊗ y)) refl
            (O.constant c) (combined O N h.0.coefficients e) O.v h.0.rest
            ∙ ap (λ t. t + O.v * (O.constant c * h.0.rest))
            (sym (combined_scale c h.0.coefficients));
      },
      ap (O.field.mul c) h.1 ∙ sym (sum-ext k O.field.laws N _ _ (λ i q.
          O.field.laws.mul_assoc c (h.0.coefficients i) (chi i)) ∙ sum-mul k O.field.laws N c _),
    )

    -- v has the value 0
    pub functional_v : HasFunctionalValue O F chi O.v O.field.zero
    functional_v = (
      record {
        coefficients = λ i. O.field.zero;
        rest = O.one;
        inside = in_one O;
        sum = ring1 O.ring O.laws (λ v. v) (λ v. nil ⊕ v ⊗ unit) refl O.v
            ∙ ap (λ t. t + O.v * O.one) (sym (sum-ext O.ring O.laws N _ (λ i. O.zero) (λ i q.
            ap (λ t. t * e i) O.constants.on_zero ∙ zero_mul O.ring O.laws (e i))
            ∙ sum-zero O.ring O.laws N));
      },
      sym (sum-ext k O.field.laws N _ (λ i. O.field.zero) (λ i q. zero_mul k O.field.laws (chi i))
          ∙ sum-zero k O.field.laws N),
    )

    module _ (f : IsFunctional O F chi) where
      pub functional_constant : (s : O.field.carrier)
          → HasFunctionalValue O F chi (O.constant s) s
      functional_constant s = subst (λ w. HasFunctionalValue O F chi w s)
          (O.laws.mul_one (O.constant s))
          (subst (HasFunctionalValue O F chi (O.constant s * O.one)) (O.field.laws.mul_one s)
          (functional_scale s O.one O.field.one f.unit))

      pub functional_mul : (x w : O.carrier) (s t : O.field.carrier)
          → HasFunctionalValue O F chi x s → HasFunctionalValue O F chi w t
          → HasFunctionalValue O F chi (O.mul x w) (O.field.mul s t)
      unfolding product_spanned
      functional_mul x w s t g h = (
        product_spanned x w g.0 h.0,
        sym (
            value_of_sum g.0.coefficients (columns w h.0)
            ∙ sum-ext k O.field.laws N _ _ (λ i q.
            ap (O.field.mul (g.0.coefficients i)) (one_value i q)
            ∙ ring3 k O.field.laws (λ c t x. c ⊗ (x ⊗ t)) (λ c t x. t ⊗ (c ⊗ x)) refl
            (g.0.coefficients i) t (chi i))
            ∙ sum-mul k O.field.laws N t (λ i. O.field.mul (g.0.coefficients i) (chi i))
            ∙ ap (O.field.mul t) (sym g.1) ∙ O.field.laws.mul_comm t s),
      )
        where
          one_value : (i : ℕ) → i < N → product k N (columns w h.0 i) chi
              ≡ O.field.mul (chi i) t
          one_value i q = value_of_sum h.0.coefficients (λ j. F.table j i)
              ∙ sum-ext k O.field.laws N _ _ (λ j r.
              ap (O.field.mul (h.0.coefficients j)) (f.products j i r q)
              ∙ ring3 k O.field.laws (λ c x y. c ⊗ (x ⊗ y)) (λ c x y. y ⊗ (c ⊗ x)) refl
              (h.0.coefficients j) (chi j) (chi i))
              ∙ sum-mul k O.field.laws N (chi i) (λ j. O.field.mul (h.0.coefficients j) (chi j))
              ∙ ap (O.field.mul (chi i)) (sym h.1)

-- the values at a point are such a functional, and give each element its value
module _ (P : OrderAt) (F : Fibre P.order) where
  abbrev pub chi_at : ℕ → P.field.carrier
  chi_at i = P.value (F.spanning.element i)

  pub value_functional : (w : P.carrier) (s : P.field.carrier)
      → HasFunctionalValue P.order F chi_at w s → P.value w ≡ s
  value_functional w s h = ap P.value h.0.sum
      ∙ P.value_add _ _ (combined_in P.order F.spanning.count h.0.coefficients
      F.spanning.element F.spanning.inside) (P.in_mul _ _ P.in_v h.0.inside)
      ∙ ap₂ P.field.add (combined_value P F.spanning.count h.0.coefficients F.spanning.element
      F.spanning.inside) (P.value_mul _ _ P.in_v h.0.inside
      ∙ ap (λ t. P.field.mul t (P.value h.0.rest)) P.value_v
      ∙ zero_mul P.field.ring P.field.laws _)
      ∙ P.field.laws.add_zero _ ∙ sym h.1

  pub functional_value : (w : P.carrier) → P.In w
      → HasFunctionalValue P.order F chi_at w (P.value w)
  functional_value w h = (F.spanning.spans w h, value_functional w _ (F.spanning.spans w h, refl))

  pub point_functional : IsFunctional P.order F chi_at
  point_functional = record {
    unit = subst (HasFunctionalValue P.order F chi_at P.one) (value_one P)
        (functional_value P.one (in_one P.order));
    products = λ i j q r. sym (value_functional (P.mul (F.spanning.element i)
        (F.spanning.element j)) _ (spanned i j q r, refl))
        ∙ P.value_mul _ _ (F.spanning.inside i q) (F.spanning.inside j r);
  }
    where
      spanned : (i j : ℕ) → i < F.spanning.count → j < F.spanning.count
          → IsSpanned P.order F.spanning.count F.spanning.element
          (P.mul (F.spanning.element i) (F.spanning.element j))
      spanned i j q r = record {
        coefficients = F.table i j;
        rest = P.mul (P.add (P.mul (F.spanning.element i) (F.spanning.element j))
            (P.neg (combined P.order F.spanning.count (F.table i j) F.spanning.element))) P.over_v;
        inside = F.products i j q r;
        sum = entry P.order F i j;
      }
