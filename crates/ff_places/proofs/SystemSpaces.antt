-- The spaces of a point of irreducible f with a pole system, as those of a point of the field E(f):
-- which pole orders there are, and each element as a fraction.
use Rattle.std.proofs.Common.{◌≡◌, ℕ, zero, suc, ◌+◌ as plus_ℕ, ◌-◌, ◌*◌ as times_ℕ, ◌/◌, ◌%◌, ◌<◌}
use Rattle.std.proofs.Common.{◌≤◌, ◌⊎◌, inl, inr, max, List, [], ◌∷◌, length, refl, sym, ◌∙◌, ap}
use Rattle.std.proofs.Common.{ap₂}
use Rattle.std.proofs.Common.{subst, arith, mul_comm}
use Rattle.std.proofs.lemmas.Bool.{cases_lt}
use Rattle.std.proofs.Math.Nat.{mod-lt, div-add-mod}
use Rattle.ff_theory.specs.Ring.{RingOps, IsCommRing, Elements, power}
use Rattle.ff_theory.specs.Lawful.{Field, Lawful, lawful_field}
use Rattle.ff_theory.specs.Algebra.{constant}
use Rattle.ff_theory.specs.Eval.{eval_list, eval}
use Rattle.ff_theory.specs.Poly.{Poly}
use Rattle.ff_theory.specs.Planes.{Plane}
use Rattle.ff_theory.specs.Values.{poly_of, plane_of, IsPoly, IsPlane, leading}
use Rattle.ff_poly.proofs.LongDivision.{poly-size}
use Rattle.ff_theory.proofs.Solver.{◌⊕◌, ◌⊗◌, nil, unit, ring1, ring3, ring4}
use Rattle.ff_table.specs.PoleOrders.{IsLess, ArePoleSpaces, AreSteps}
use Rattle.ff_table.proofs.PoleOrders.{poly-order}
use Rattle.ff_table.proofs.Weights.{mod_sub}
use Rattle.ff_charts.specs.Chart.{Chart as ChartOf, IsChart, Cleared, at_u, at_theta}
use Rattle.ff_charts.specs.FieldCharts.{leading_row}
use Rattle.ff_charts.proofs.FiniteChart.{at_is}
use Rattle.ff_elem.specs.Elem.{algebra_in, elem_of, x_in, y_in}
use Rattle.ff_data.specs.declared.order.Chart.TheVariants.{Finite}
use Rattle.ff_data.specs.declared.system.Coords.{Coords}
use Rattle.ff_data.specs.Orders.{chart_of}
use Rattle.ff_data.specs.declared.order.Order.{Order}
use Rattle.ff_data.specs.declared.point.Point.{Point}
use Rattle.ff_data.specs.declared.system.System.{System}
use Rattle.ff_data.specs.Poles.{HasPoleUpTo}
use Rattle.ff_data.specs.Combinations.{elems_of}
use Rattle.ff_data.specs.Systems.{weight_at, at_z, ring_value, AreOverMonic, Writes, IsSystem}
use Rattle.ff_data.proofs.ChartLaws.{has, algebra_laws, chart_laws}
use Rattle.ff_systems.specs.Places.{IsPlace, HasLeastFunctions}
use Rattle.ff_systems.proofs.Spaces.{spaces, steps, OrderIs, one_order, number_of}
use Rattle.ff_systems.proofs.TableRule.{positive, z_order, orders}
use Rattle.ff_places.proofs.FieldSpaces.{AreFieldSpaces, order_or_zero}
use Rattle.ff_places.proofs.ChartOrders.{at_u_proper}
use Rattle.ff_places.proofs.CurvePlaces.{curve_field}

-- the least functions of a system
abbrev pub least_functions : {F : Elements ℕ} (L : Lawful F) (f : List (List ℕ)) (o : Order)
    (p : Point)
    (other : Order) (J : ℕ) (s : System) → IsSystem L f o p other J s
    → HasLeastFunctions L f o p other s
least_functions L f o p other J s y = record {
  positive = y.positive;
  is_number = y.is_number;
  least = y.least;
  z = y.z;
  basis = y.basis;
}

-- the greatest of the first n numbers
abbrev greatest_of : (ℕ → ℕ) → ℕ → ℕ
greatest_of m zero = 0
greatest_of m (suc n) = max (greatest_of m n) (m n)

greatest_most : (m : ℕ → ℕ) (n i : ℕ) → i < n → m i ≤ greatest_of m n
greatest_most m zero i l = absurd (omega (arith, l))
greatest_most m (suc n) i l = go (cases_lt i n) (greatest_most m n i)
  where
    go : (i < n) ⊎ (n ≤ i) → (i < n → m i ≤ greatest_of m n)
        → m i ≤ max (greatest_of m n) (m n)
    go (inl q) rest = omega (arith, rest q)
    go (inr q) rest = let e : i ≡ n = omega (arith, l, q) in
        let r : m i ≡ m n = ap m e in omega (arith, r)

module _ (F : Elements ℕ) (L : Lawful F) (f : List (List ℕ)) (hf : IsPlane F f)
    (two : 1 < length f) (o : Order) (p : Point) (other : Order)
    (at : IsPlace L f o p other) (s : System) (h : HasLeastFunctions L f o p other s)
    (count : length s.weights ≡ s.e) where
  infixl 60 ◌⊞◌
  infixl 70 ◌*◌
  open algebra_in L f use {add as ◌⊞◌, mul as ◌*◌, neg as minus}

  abbrev A : RingOps
  A = algebra_in L f

  abbrev AL : IsCommRing (algebra_in L f)
  AL = algebra_laws F L f hf two

  abbrev Has : ℕ → (algebra_in L f).carrier → Type 0
  Has = OrderIs F L f hf two o p other at

  abbrev e : ℕ
  e = length s.weights

  up : ArePoleSpaces F.ring (algebra_in L f) (constant (lawful_field L) (plane_of F f))
      (HasPoleUpTo L f o p other)
  up = spaces F L f hf two o p other at

  step : AreSteps F.ring (algebra_in L f) (constant (lawful_field L) (plane_of F f))
      (HasPoleUpTo L f o p other)
  step = steps F L f hf two o p other at

  some : 0 < length s.weights
  some = positive F L f hf two o p other at s h count

  z_power : (n : ℕ) → Has (times_ℕ n (length s.weights)) (power A (elem_of L f s.z) n)
  z_power zero = subst (λ m. Has m A.one)
      (let q : 0 ≡ times_ℕ 0 (length s.weights) = omega arith in q)
      (one_order F L f hf two o p other at)
  z_power (suc n) = subst (λ m. Has m (elem_of L f s.z * power A (elem_of L f s.z) n))
      (let q : plus_ℕ (length s.weights) (times_ℕ n (length s.weights))
      ≡ times_ℕ (suc n) (length s.weights) = omega arith in q)
      (up.exact (length s.weights) (times_ℕ n (length s.weights)) (elem_of L f s.z) _
      (z_order F L f hf two o p other at s h count) (z_power n))

  -- the pole orders
  reached : (j : ℕ) → weight_at s (j % length s.weights) ≤ j
      → (a : (algebra_in L f).carrier) × OrderIs F L f hf two o p other at j a
  reached j l = (
    power A (elem_of L f s.z) ((j - m) / length s.weights) * elems_of L f s.b i,
    subst (λ n. Has n (power A (elem_of L f s.z) ((j - m) / length s.weights)
        * elems_of L f s.b i)) level
        (up.exact _ (weight_at s i) _ (elems_of L f s.b i) (z_power ((j - m) / length s.weights))
        (orders F L f hf two o p other at s h count i (mod-lt j some))),
  )
    where
      i : ℕ
      i = j % length s.weights

      m : ℕ
      m = weight_at s (j % length s.weights)

      same : weight_at s (j % length s.weights) % length s.weights ≡ j % length s.weights
      same = ap (λ n. weight_at s (j % length s.weights) % n) count
          ∙ h.basis.remainder (j % length s.weights) (omega (arith, count, mod-lt j some))

      level : plus_ℕ (times_ℕ ((j - m) / length s.weights) (length s.weights)) m ≡ j
      level = let d : (j - weight_at s (j % length s.weights)) % length s.weights ≡ 0
          = mod_sub (length s.weights) some j (weight_at s (j % length s.weights)) l (sym same) in
          let r = div-add-mod (j - weight_at s (j % length s.weights)) (length s.weights) in
          let c = mul_comm ((j - weight_at s (j % length s.weights)) / length s.weights)
          (length s.weights) in omega (arith, d, r, c, l)

  -- an order is at least the weight of its class
  at_least : (j : ℕ) (a : (algebra_in L f).carrier) → Has j a
      → weight_at s (j % length s.weights) ≤ j
  at_least j a g = let r : weight_at s (j % s.e) ≤ j = h.basis.least j
      (number_of F L f hf two o p other at j a g) in
      let q : weight_at s (j % length s.weights) ≡ weight_at s (j % s.e)
      = ap (λ n. weight_at s (j % n)) count in omega (arith, r, q)

  abbrev Less : ℕ → (algebra_in L f).carrier → Type 0
  Less j a = IsLess F.ring A (constant (lawful_field L) (plane_of F f))
      (HasPoleUpTo L f o p other) j a

  none : (j : ℕ) → j < weight_at s (j % length s.weights) → (a : (algebra_in L f).carrier)
      → HasPoleUpTo L f o p other j a → Less j a
  none zero l a m = absurd (let r : weight_at s (0 % length s.weights) ≤ 0
      = at_least 0 A.one (one_order F L f hf two o p other at) in omega (arith, r, l))
  none (suc j) l a m = go (step.decide j a m)
    where
      go : HasPoleUpTo L f o p other j a ⊎ ¬ HasPoleUpTo L f o p other j a
          → HasPoleUpTo L f o p other j a
      go (inl k) = k
      go (inr n) = absurd (let r : weight_at s (suc j % length s.weights) ≤ suc j
          = at_least (suc j) a (record { up_to = m; not_less = n }) in omega (arith, r, l))

  number : (j : ℕ) → ((a : (algebra_in L f).carrier) × Has j a)
      ⊎ ((a : (algebra_in L f).carrier) → HasPoleUpTo L f o p other j a → Less j a)
  number j = go (cases_lt j (weight_at s (j % length s.weights)))
    where
      go : (j < weight_at s (j % length s.weights)) ⊎ (weight_at s (j % length s.weights) ≤ j)
          → ((a : (algebra_in L f).carrier) × Has j a)
          ⊎ ((a : (algebra_in L f).carrier) → HasPoleUpTo L f o p other j a → Less j a)
      go (inl l) = inr (none j l)
      go (inr l) = inl (reached j l)

  from : ℕ
  from = greatest_of (weight_at s) (length s.weights)

  from_on : (j : ℕ) → from ≤ j → (a : (algebra_in L f).carrier) × Has j a
  unfolding from
  from_on j l = reached j (omega (
    arith,
    l,
    greatest_most (weight_at s) (length s.weights) (j % length s.weights) (mod-lt j some),
  ))

  -- an element as a fraction of elements of the spaces
  record Fraction (a : (algebra_in L f).carrier) : Type 0 where
    pub num : (algebra_in L f).carrier
    pub den : (algebra_in L f).carrier
    pub bound : ℕ
    pub order : ℕ
    pub below : HasPoleUpTo L f o p other bound num
    pub has : OrderIs F L f hf two o p other at order den
    pub fraction : a * den ≡ num

  of_space : (j : ℕ) (a : (algebra_in L f).carrier) → HasPoleUpTo L f o p other j a → Fraction a
  of_space j a m = record {
    num = a;
    den = A.one;
    bound = j;
    order = 0;
    below = m;
    has = one_order F L f hf two o p other at;
    fraction = AL.mul_one a;
  }

  of_constant : (c : F.carrier) → Fraction (constant (lawful_field L) (plane_of F f) c)
  of_constant c = of_space 0 _ (up.in_first c)

  of_sum : (a b : (algebra_in L f).carrier) → Fraction a → Fraction b → Fraction (a ⊞ b)
  of_sum a b x y = record {
    num = x.num * y.den ⊞ y.num * x.den;
    den = x.den * y.den;
    bound = plus_ℕ (plus_ℕ x.bound y.order) (plus_ℕ y.bound x.order);
    order = plus_ℕ x.order y.order;
    below = up.add _ _ _ (up.more (plus_ℕ x.bound y.order) _ _ (omega arith)
        (up.mul x.bound y.order x.num y.den x.below y.has.up_to))
        (up.more (plus_ℕ y.bound x.order) _ _ (omega arith)
        (up.mul y.bound x.order y.num x.den y.below x.has.up_to));
    has = up.exact x.order y.order x.den y.den x.has y.has;
    fraction = ring4 A AL (λ a b d e. (a ⊕ b) ⊗ (d ⊗ e)) (λ a b d e. (a ⊗ d) ⊗ e ⊕ (b ⊗ e) ⊗ d)
        refl a b x.den y.den ∙ ap₂ (λ s t. s * y.den ⊞ t * x.den) x.fraction y.fraction;
  }

  of_product : (a b : (algebra_in L f).carrier) → Fraction a → Fraction b → Fraction (a * b)
  of_product a b x y = record {
    num = x.num * y.num;
    den = x.den * y.den;
    bound = plus_ℕ x.bound y.bound;
    order = plus_ℕ x.order y.order;
    below = up.mul x.bound y.bound x.num y.num x.below y.below;
    has = up.exact x.order y.order x.den y.den x.has y.has;
    fraction = ring4 A AL (λ a b d e. (a ⊗ b) ⊗ (d ⊗ e)) (λ a b d e. (a ⊗ d) ⊗ (b ⊗ e)) refl a b
        x.den y.den ∙ ap₂ A.mul x.fraction y.fraction;
  }

  abbrev field : Field
  field = curve_field F L f hf two at.irreducible

  -- an element with an order is not 0
  has_proper : (j : ℕ) (w : (algebra_in L f).carrier) → Has j w → ¬ (w ≡ A.zero)
  has_proper zero w m z = m.not_less z
  has_proper (suc j) w m z = m.not_less (subst (HasPoleUpTo L f o p other j) (sym z)
      (subst (HasPoleUpTo L f o p other j) up.constants.on_zero
      (up.more 0 j _ (omega arith) (up.in_first F.zero))))

  of_inverse : (a : (algebra_in L f).carrier) → ¬ (a ≡ A.zero) → Fraction a
      → Fraction (field.inverse a)
  of_inverse a na x = go (order_or_zero (lawful_field L) field
      (constant (lawful_field L) (plane_of F f)) (HasPoleUpTo L f o p other) up step x.bound x.num
      x.below)
    where
      turned : field.inverse a * x.num ≡ x.den
      turned = ap (λ t. field.inverse a * t) (sym x.fraction)
          ∙ ring3 A AL (λ i a d. i ⊗ (a ⊗ d)) (λ i a d. (a ⊗ i) ⊗ d) refl (field.inverse a) a x.den
          ∙ ap (λ t. t * x.den) (field.is_field.mul_inverse a na)
          ∙ ring1 A AL (λ d. unit ⊗ d) (λ d. d) refl x.den

      go : (x.num ≡ A.zero) ⊎ ((i : ℕ) × (i ≤ x.bound) × Has i x.num)
          → Fraction (field.inverse a)
      go (inl z) = absurd (has_proper x.order x.den x.has (sym turned
          ∙ ap (λ t. field.inverse a * t) z ∙ ring1 A AL (λ i. i ⊗ nil) (λ i. nil) refl
          (field.inverse a)))
      go (inr k) = record {
        num = x.den;
        den = x.num;
        bound = x.order;
        order = k.0;
        below = x.has.up_to;
        has = k.2;
        fraction = turned;
      }

  module _ (J : ℕ) (y : IsSystem L f o p other J s) where
    -- q(z) is not 0 for monic q
    monic_proper : (q : List ℕ) → IsPoly F q → leading F q ≡ F.one → ¬ (at_z L f s q ≡ A.zero)
    monic_proper [] hq monic z = L.finite.field.one_not_zero (sym monic)
    monic_proper (c ∷ q) hq monic z = go (times_ℕ (length s.weights) (length q)) (poly-order
        (lawful_field L) A AL (constant (lawful_field L) (plane_of F f)) (HasPoleUpTo L f o p other)
        up (length s.weights) some (elem_of L f s.z) (z_order F L f hf two o p other at s h count)
        (poly_of F (c ∷ q)) (length q)
        (poly-size F.ring L.laws L.tests F.value (c ∷ q) hq.canonical))
      where
        go : (n : ℕ) → ¬ (Has n (at_z L f s (c ∷ q)))
        go n m = has_proper n _ m z

    of_written : (w : (algebra_in L f).carrier) (c : Coords) → AreOverMonic F s c
        → Writes L f s c w → HasPoleUpTo L f o p other J (at_z L f s c.q)
        → HasPoleUpTo L f o p other J (ring_value L f s c.c) → Fraction w
    of_written w c form writes den num = subst Fraction back
        (of_product _ _ (of_inverse (at_z L f s c.q) proper (of_space J _ den)) (of_space J _ num))
      where
        proper : ¬ (at_z L f s c.q ≡ A.zero)
        proper = monic_proper c.q form.q form.monic

        back : field.inverse (at_z L f s c.q) * ring_value L f s c.c ≡ w
        back = ap (λ t. field.inverse (at_z L f s c.q) * t) (sym writes)
            ∙ ring3 A AL (λ i q w. i ⊗ (q ⊗ w)) (λ i q w. (q ⊗ i) ⊗ w) refl
            (field.inverse (at_z L f s c.q)) (at_z L f s c.q) w
            ∙ ap (λ t. t * w) (field.is_field.mul_inverse (at_z L f s c.q) proper)
            ∙ ring1 A AL (λ w. unit ⊗ w) (λ w. w) refl w

    -- values of lists with fractions as coefficients
    of_list : {B : Type 0} (k : B → (algebra_in L f).carrier) → ((b : B) → Fraction (k b))
        → (w : (algebra_in L f).carrier) → Fraction w → (xs : List B)
        → Fraction (eval_list A k w xs)
    of_list k each w m [] = subst Fraction up.constants.on_zero (of_constant F.zero)
    of_list k each w m (b ∷ xs) = of_sum _ _ (each b) (of_product _ _ m (of_list k each w m xs))

    abbrev c : ChartOf F.ring (algebra_in L f)
    c = chart_of L f Finite

    abbrev l : IsChart F.ring (algebra_in L f) (chart_of L f Finite)
    l = chart_laws F L f hf two Finite

    of_x : Fraction (x_in L f)
    of_x = of_written (x_in L f) s.x y.form.x y.x y.within.x_den y.within.x_num

    of_y : Fraction (y_in L f)
    of_y = of_written (y_in L f) s.y y.form.y y.y y.within.y_den y.within.y_num

    of_polynomial : (h : Poly F.ring) → Fraction (at_u (chart_of L f Finite) h)
    unfolding eval
    of_polynomial h = of_list c.constant of_constant c.u of_x h.coeffs

    of_theta : Fraction c.theta
    unfolding eval
    of_theta = of_product _ _ (subst Fraction (sym (at_is (lawful_field L) (plane_of F f)
        (length f - 1) (has F L f hf two) (leading_row (lawful_field L) (plane_of F f))))
        (of_polynomial (leading_row (lawful_field L) (plane_of F f)))) of_y

    of_plane : (N : Plane (lawful_field L)) → Fraction (at_theta (chart_of L f Finite) N)
    unfolding eval
    of_plane N = of_list (at_u c) of_polynomial c.theta of_theta N.coeffs

    of_all : (a : (algebra_in L f).carrier) → Fraction a
    of_all a = subst Fraction back (of_product _ _ (of_inverse (at_u c q.den) proper
        (of_polynomial q.den)) (of_plane q.nums))
      where
        q : Cleared (chart_of L f Finite) a
        q = l.cleared a

        proper : ¬ (at_u c (l.cleared a).den ≡ A.zero)
        proper = at_u_proper (lawful_field L) field c l (l.cleared a).den (l.cleared a).nonzero

        back : field.inverse (at_u c (l.cleared a).den) * at_theta c (l.cleared a).nums ≡ a
        back = ap (λ t. field.inverse (at_u c q.den) * t) (sym q.clears)
            ∙ ring3 A AL (λ i q w. i ⊗ (q ⊗ w)) (λ i q w. (q ⊗ i) ⊗ w) refl
            (field.inverse (at_u c q.den)) (at_u c q.den) a
            ∙ ap (λ t. t * a) (field.is_field.mul_inverse (at_u c q.den) proper)
            ∙ ring1 A AL (λ w. unit ⊗ w) (λ w. w) refl a

    pub system_spaces : AreFieldSpaces (lawful_field L) (curve_field F L f hf two at.irreducible)
        (constant (lawful_field L) (plane_of F f)) (HasPoleUpTo L f o p other)
    system_spaces = record {
      spaces = up;
      steps = step;
      number = number;
      from = from;
      reached = from_on;
      numerator = λ a. (of_all a).num;
      denominator = λ a. (of_all a).den;
      bound = λ a. (of_all a).bound;
      below = λ a. (of_all a).below;
      order = λ a. (of_all a).order;
      has_order = λ a. (of_all a).has;
      fraction = λ a. (of_all a).fraction;
    }
