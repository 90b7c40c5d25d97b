-- The functions of a pole system at its point: they are independent over k[z], the elements of L_j
-- are those with coordinates of weight at most j, and a table of their products meets the rule.
use Rattle.std.proofs.Common.{◌≡◌, ℕ, zero, suc, ◌+◌, ◌%◌, ◌<◌, ◌≤◌, ◌⊎◌, inl, inr, List}
use Rattle.std.proofs.Common.{[], map, length, get_or}
use Rattle.std.proofs.Common.{All, refl, sym, ◌∙◌, ap, subst, arith}
use Rattle.std.proofs.Math.Nat.{zero-mod}
use Rattle.std.proofs.lemmas.Bool.{cases_lt}
use Rattle.std.proofs.lemmas.List.Elements.{All-get_or}
use Rattle.ff_theory.specs.Ring.{RingOps, IsCommRing, Elements}
use Rattle.ff_theory.specs.Lawful.{Field, Lawful, lawful_field}
use Rattle.ff_theory.specs.Sum.{sum_below}
use Rattle.ff_theory.specs.Poly.{coeff, Poly, polynomials}
use Rattle.ff_theory.specs.Algebra.{constant}
use Rattle.ff_theory.specs.Values.{poly_of, plane_of, IsPlane}
use Rattle.ff_theory.proofs.Solver.{zero_mul}
use Rattle.ff_theory.proofs.Sums.{sum-ext, sum-zero}
use Rattle.ff_theory.proofs.Coeffs.{coeff-map}
use Rattle.ff_table.specs.Weight.{HasWeight, IsBelow}
use Rattle.ff_table.specs.Table.{IsTable}
use Rattle.ff_table.specs.InCode.{table_of}
use Rattle.ff_table.specs.PoleOrders.{ArePoleSpaces}
use Rattle.ff_table.proofs.Weights.{weigh}
use Rattle.ff_table.proofs.PoleOrders.{at_z-map, free, weight-order, order-weight, system_table}
use Rattle.ff_table.proofs.SpaceCoords.{SpaceCoords, space_coords}
use Rattle.ff_elem.specs.Elem.{algebra_in, elem_of}
use Rattle.ff_data.specs.declared.order.Order.{Order}
use Rattle.ff_data.specs.declared.point.Point.{Point}
use Rattle.ff_data.specs.declared.system.System.{System}
use Rattle.ff_data.specs.Poles.{HasPoleUpTo, HasPoleOf}
use Rattle.ff_data.specs.Substitution.{poly_at}
use Rattle.ff_data.specs.Combinations.{elems_of}
use Rattle.ff_data.specs.Systems.{weight_at, product_at, ring_value, at_z, AreCoords, IsSystem}
use Rattle.ff_data.proofs.ChartLaws.{algebra_laws}
use Rattle.ff_systems.specs.Places.{IsPlace, HasLeastFunctions, coords_value, HasLightCoords}
use Rattle.ff_systems.specs.Places.{WritesProducts}
use Rattle.ff_systems.proofs.Spaces.{OrderIs, spaces, steps, pole_into, one_order, number_of}

module _ (F : Elements ℕ) (L : Lawful F) (f : List (List ℕ)) (hf : IsPlane F f)
    (two : 1 < length f) (o : Order) (p : Point) (other : Order)
    (at : IsPlace L f o p other) where
  abbrev K : Field
  K = lawful_field L

  abbrev A : RingOps
  A = algebra_in L f

  abbrev AL : IsCommRing (algebra_in L f)
  AL = algebra_laws F L f hf two

  abbrev ι : F.carrier → (algebra_in L f).carrier
  ι = constant (lawful_field L) (plane_of F f)

  module _ (s : System) (h : HasLeastFunctions L f o p other s)
      (count : length s.weights ≡ s.e) where
    -- the number of functions, as the table has it
    abbrev e : ℕ
    e = length s.weights

    abbrev b : ℕ → (algebra_in L f).carrier
    b i = elems_of L f s.b i

    abbrev m : ℕ → ℕ
    m i = weight_at s i

    pub positive : 0 < length s.weights
    positive = omega (arith, count, h.positive)

    order-of : (j : ℕ) (w : (algebra_in L f).carrier) → 0 < j → HasPoleOf L f o p other j w
        → OrderIs F L f hf two o p other at j w
    order-of zero w l g = absurd (omega (arith, l))
    order-of (suc j) w l g = pole_into F L f hf two o p other at j w g

    pub z_order : OrderIs F L f hf two o p other at (length s.weights) (elem_of L f s.z)
    z_order = subst (λ n. OrderIs F L f hf two o p other at n (elem_of L f s.z)) (sym count)
        (order-of s.e (elem_of L f s.z) h.positive h.z)

    classes : (i : ℕ) → i < length s.weights → weight_at s i % length s.weights ≡ i
    classes i l = ap (λ n. weight_at s i % n) count ∙ h.basis.remainder i (omega (arith, l, count))

    pub orders : (i : ℕ) → i < length s.weights
        → OrderIs F L f hf two o p other at (weight_at s i) (elems_of L f s.b i)
    orders i l = go (weight_at s i) refl
      where
        go : (n : ℕ) → weight_at s i ≡ n
            → OrderIs F L f hf two o p other at (weight_at s i) (elems_of L f s.b i)
        go zero z = subst (λ n. OrderIs F L f hf two o p other at n (elems_of L f s.b i)) (sym z)
            (subst (λ w. OrderIs F L f hf two o p other at 0 w)
            (sym (ap (elems_of L f s.b) (sym (classes i l) ∙ ap (λ n. n % length s.weights) z
            ∙ zero-mod (length s.weights)) ∙ h.basis.first)) (one_order F L f hf two o p other at))
        go (suc n) z = order-of (weight_at s i) (elems_of L f s.b i) (omega (arith, z))
            (h.basis.pole i (omega (arith, l, count)))

    least : (j : ℕ) (a : (algebra_in L f).carrier) → OrderIs F L f hf two o p other at j a
        → weight_at s (j % length s.weights) ≤ j
    least j a g = let r : weight_at s (j % s.e) ≤ j = h.basis.least j
        (number_of F L f hf two o p other at j a g) in
        let q : weight_at s (j % length s.weights) ≡ weight_at s (j % s.e)
        = ap (λ n. weight_at s (j % n)) count in omega (arith, r, q)

    -- the element with given coordinates
    abbrev pub value : (ℕ → Poly F.ring) → (algebra_in L f).carrier
    value c = sum_below (algebra_in L f) (length s.weights) (λ l. (algebra_in L f).mul
        (poly_at (lawful_field L) (plane_of F f) (elem_of L f s.z) (c l)) (elems_of L f s.b l))

    -- coordinates by a list
    abbrev pub entries : List (List ℕ) → ℕ → Poly F.ring
    entries c = coeff (polynomials F.ring) (map (λ q. poly_of F q) c)

    pub list_value : (c : List (List ℕ)) → length c ≡ s.e → ring_value L f s c
        ≡ value (entries c)
    list_value c n = ap (λ r. sum_below A r (λ l. A.mul (at_z L f s (get_or c l [])) (b l)))
        (n ∙ sym count) ∙ sum-ext A AL e _ _ (λ l q. ap (λ t. A.mul (poly_at K (plane_of F f)
        (elem_of L f s.z) t) (b l)) (sym (coeff-map (polynomials F.ring) (λ q. poly_of F q) c l []
        (omega (arith, q, n, count)))))

    -- coordinates that write 0 are 0
    pub independent : (c : ℕ → Poly F.ring) → value c ≡ (algebra_in L f).zero → (l : ℕ)
        → l < length s.weights → c l ≡ (polynomials F.ring).zero
    independent = free K A AL ι (HasPoleUpTo L f o p other) (spaces F L f hf two o p other at) e
        positive (elem_of L f s.z) z_order b m classes orders

    -- the weight of coordinates is the order of the element
    pub weight_is : (c : ℕ → Poly F.ring) (w : ℕ) → OrderIs F L f hf two o p other at w (value c)
        → HasWeight F.ring (length s.weights) (λ i. weight_at s i) c w
    weight_is = order-weight K A AL ι (HasPoleUpTo L f o p other) (spaces F L f hf two o p other at)
        e positive (elem_of L f s.z) z_order b m classes orders

    -- products have the sum of the orders
    pub product_order : (i k : ℕ) → i < s.e → k < s.e
        → OrderIs F L f hf two o p other at (weight_at s i + weight_at s k)
        ((algebra_in L f).mul (elems_of L f s.b i) (elems_of L f s.b k))
    product_order i k l n = (spaces F L f hf two o p other at).exact (m i) (m k) (b i) (b k)
        (orders i (omega (arith, l, count))) (orders k (omega (arith, n, count)))

    -- the element is in L_j where the weight is at most j
    pub light_inside : (c : ℕ → Poly F.ring) (j : ℕ)
        → IsBelow F.ring (length s.weights) (λ i. weight_at s i) (suc j) c
        → HasPoleUpTo L f o p other j (value c)
    light_inside c j light = go (weigh F.ring L.laws L.tests e positive m classes c)
      where
        up : ArePoleSpaces F.ring (algebra_in L f) (constant (lawful_field L) (plane_of F f))
            (HasPoleUpTo L f o p other)
        up = spaces F L f hf two o p other at

        go : ((w : ℕ) × HasWeight F.ring (length s.weights) (λ i. weight_at s i) c w)
            ⊎ ((l : ℕ) → l < length s.weights → c l ≡ (polynomials F.ring).zero)
            → HasPoleUpTo L f o p other j (value c)
        go (inl w) = up.more w.0 j (value c) (within (cases_lt j w.0)) (weight-order K A AL ι
            (HasPoleUpTo L f o p other) up e positive (elem_of L f s.z) z_order b m classes orders
            c w.0 w.1).up_to
          where
            within : (j < w.0) ⊎ (w.0 ≤ j) → w.0 ≤ j
            within (inr l) = l
            within (inl l) = absurd (w.1.nonzero (light w.1.place w.1.in_range w.1.degree
                (omega (arith, l, w.1.level))))
        go (inr z) = subst (HasPoleUpTo L f o p other j) (up.constants.on_zero
            ∙ sym (sum-ext A AL e _ (λ l. A.zero) (λ l q.
            ap (λ t. A.mul (poly_at K (plane_of F f) (elem_of L f s.z) t) (b l)) (z l q)
            ∙ ap (λ t. A.mul t (b l)) (at_z-map K A AL ι (HasPoleUpTo L f o p other) up e positive
            (elem_of L f s.z) z_order).on_zero ∙ zero_mul A AL (b l)) ∙ sum-zero A AL e))
            (up.more 0 j (ι F.zero) (omega arith) (up.in_first F.zero))

    -- and the elements of L_j have coordinates of weight at most j
    coords-of : (j : ℕ) (a : (algebra_in L f).carrier) → HasPoleUpTo L f o p other j a
        → SpaceCoords K A AL ι (HasPoleUpTo L f o p other) (spaces F L f hf two o p other at)
        (steps F L f hf two o p other at) (length s.weights) positive (elem_of L f s.z) z_order
        (λ i. elems_of L f s.b i) (λ i. weight_at s i) classes orders h.basis.first least j a
    coords-of = space_coords K A AL ι (HasPoleUpTo L f o p other)
        (spaces F L f hf two o p other at) (steps F L f hf two o p other at) e positive
        (elem_of L f s.z) z_order b m classes orders h.basis.first least

    value-same : (c : ℕ → Poly F.ring) → value c ≡ coords_value L f s c
    value-same c = ap (λ n. sum_below A n (λ l. A.mul (poly_at K (plane_of F f) (elem_of L f s.z)
        (c l)) (b l))) count

    pub light_coords : (j : ℕ) (a : (algebra_in L f).carrier) → HasPoleUpTo L f o p other j a
        → HasLightCoords L f s j a
    light_coords j a g = record {
      coords = (coords-of j a g).coords;
      value = (coords-of j a g).value_is ∙ value-same (coords-of j a g).coords;
      light = subst (λ n. IsBelow F.ring n m (suc j) (coords-of j a g).coords) count
          (coords-of j a g).light;
    }

    -- least functions write the products of theirs
    pub least_write : WritesProducts L f s
    least_write = record {
      independent = λ c z l q. independent c (value-same c ∙ z) l (omega (arith, q, count));
      product = λ i k l n. light_coords (m i + m k) (A.mul (b i) (b k))
          (product_order i k l n).up_to;
    }

    -- a table that writes the products meets the table rule
    pub table_rule : ((i k : ℕ) → i < s.e → k < s.e → length (product_at s i k) ≡ s.e)
        → ((i k : ℕ) → i < s.e → k < s.e → ring_value L f s (product_at s i k)
        ≡ (algebra_in L f).mul (elems_of L f s.b i) (elems_of L f s.b k))
        → IsTable F.ring (table_of F.ring (λ q. poly_of F q) s.weights s.table)
    table_rule each products = system_table K A AL ι (HasPoleUpTo L f o p other)
        (spaces F L f hf two o p other at) e positive (elem_of L f s.z) z_order b m classes orders
        (λ i k. entries (product_at s i k)) h.basis.first (λ i k l n.
        sym (list_value (product_at s i k) (each i k (omega (arith, l, count))
        (omega (arith, n, count))))
        ∙ products i k (omega (arith, l, count)) (omega (arith, n, count)))

  -- a pole system at the point meets the table rule
  pub system_rule : (J : ℕ) (s : System) → IsSystem L f o p other J s
      → IsTable F.ring (table_of F.ring (λ q. poly_of F q) s.weights s.table)
  system_rule J s h = table_rule s (record {
    positive = h.positive;
    is_number = h.is_number;
    least = h.least;
    z = h.z;
    basis = h.basis;
  }) h.form.weights (λ i k l n. (All-get_or (AreCoords F s) (get_or s.table i []) k []
      (let r : length (get_or s.table i []) ≡ s.e = All-get_or (λ r. length r ≡ s.e) s.table i []
      (omega (arith, l, h.form.rows)) h.form.row in omega (arith, n, r))
      (All-get_or (All (AreCoords F s)) s.table i [] (omega (arith, l, h.form.rows))
      h.form.table)).count) h.product
