-- Where x is written over the functions of a pole system, it is written over any least functions of
-- the point. For an equation f over a field whose laws are L.
use Rattle.std.proofs.Common.{◌≡◌, ℕ, zero, suc, ◌+◌, ◌-◌, ◌*◌, ◌/◌, ◌<◌, ◌≤◌, ◌⊎◌, inl, inr}
use Rattle.std.proofs.Common.{List, [], ◌∷◌, length, get_or, map, refl, sym, ◌∙◌, ap, ap₂, subst}
use Rattle.std.proofs.Common.{arith, All, IsTrue}
use Rattle.std.proofs.lemmas.Bool.{cases_lt}
use Rattle.std.proofs.Math.Nat.{mul_comm}
use Rattle.std.proofs.lemmas.Nat.{le-div}
use Rattle.ff_theory.specs.Ring.{RingOps, IsCommRing, Elements, IsElement}
use Rattle.ff_theory.specs.Lawful.{Field, Lawful, lawful_field}
use Rattle.ff_theory.specs.Map.{IsMap}
use Rattle.ff_theory.specs.Sum.{sum_below}
use Rattle.ff_theory.specs.Poly.{coeff, ends_in_nonzero, list_scale, Poly, poly, polynomials}
use Rattle.ff_theory.specs.Division.{size}
use Rattle.ff_theory.specs.Eval.{eval, eval_list}
use Rattle.ff_theory.specs.Lists.{listed}
use Rattle.ff_theory.specs.Algebra.{constant}
use Rattle.ff_theory.specs.Values.{poly_of, IsPoly, leading, plane_of, IsPlane}
use Rattle.ff_theory.proofs.Solver.{◌⊕◌, ◌⊗◌, nil, ring3, ring4, mul_zero}
use Rattle.ff_theory.proofs.Poly.{Poly_path, trim_same, scale-coeff}
use Rattle.ff_theory.proofs.Evaluate.{eval_map, eval-const, at_trim}
use Rattle.ff_theory.proofs.Constants.{constant_map}
use Rattle.ff_theory.proofs.Product.{poly-coeff}
use Rattle.ff_theory.proofs.Coeffs.{coeff-map}
use Rattle.ff_theory.proofs.Sums.{sum-ext}
use Rattle.ff_theory.proofs.Listed.{listed-length}
use Rattle.ff_theory.proofs.Gcd.{no_size}
use Rattle.ff_poly.proofs.LongDivision.{poly-size}
use Rattle.ff_poly.proofs.Scaling.{lead-nonzero}
use Rattle.ff_table.specs.PoleOrders.{ArePoleSpaces}
use Rattle.ff_table.specs.Weight.{IsBelow}
use Rattle.ff_table.proofs.Weights.{cancel}
use Rattle.ff_table.proofs.PoleOrders.{poly-order, one-order, constant-order}
use Rattle.ff_elem.specs.Elem.{algebra_in, elem_of}
use Rattle.ff_data.specs.declared.order.Order.{Order}
use Rattle.ff_data.specs.declared.point.Point.{Point}
use Rattle.ff_data.specs.declared.system.Coords.{Coords}
use Rattle.ff_data.specs.declared.system.System.{System}
use Rattle.ff_data.specs.Poles.{HasPoleUpTo, HasPoleOf}
use Rattle.ff_data.specs.Substitution.{poly_at}
use Rattle.ff_data.specs.Combinations.{elems_of}
use Rattle.ff_data.specs.Systems.{weight_at, AreCoords, at_z, IsExpression}
use Rattle.ff_data.proofs.ChartLaws.{algebra_laws}
use Rattle.ff_systems.specs.Places.{IsPlace, HasLeastFunctions, HasLightCoords}
use Rattle.ff_systems.proofs.Spaces.{OrderIs, spaces}
use Rattle.ff_systems.proofs.TableRule.{z_order, positive, list_value, light_coords}
use Rattle.ff_systems.proofs.Weights.{below_within}
use Rattle.ff_systems.proofs.Unique.{same_e, z_unique}

-- entries of a list of values
get_listed : {C : Type 0} (n : ℕ) (g : ℕ → C) (i : ℕ) (d : C) → i < n → get_or (listed n g) i d ≡ g
    i
get_listed zero g i d l = absurd (omega (arith, l))
get_listed (suc n) g zero d l = refl
get_listed (suc n) g (suc i) d l = get_listed n (λ i. g (suc i)) i d (omega (arith, l))

module _ (F : Elements ℕ) (L : Lawful F)
    (onto : (a : F.carrier) → (e : ℕ) × (IsElement F e × (F.value e ≡ a))) where
  -- each polynomial has a list
  values : (p : List F.carrier) → (c : List ℕ) × (All (IsElement F) c × (map F.value c ≡ p))
  values [] = ([], ((λ i d l. absurd (omega (arith, l))), refl))
  values (a ∷ p) = let e = onto a in let r = values p in
      (e.0 ∷ r.0, (each e.0 e.1.0 r.0 r.1.0, ap₂ (λ a p. a ∷ p) e.1.1 r.1.1))
    where
      each : (e : ℕ) → IsElement F e → (c : List ℕ) → All (IsElement F) c
          → All (IsElement F) (e ∷ c)
      each e k c h zero d l = k
      each e k c h (suc i) d l = h i d (omega (arith, l))

  pub some_list : (p : Poly F.ring) → (c : List ℕ) × (IsPoly F c × (poly_of F c ≡ p))
  unfolding poly
  some_list p = let v = values p.coeffs in (
    v.0,
    (
      record {
        each = v.1.0;
        canonical = subst (λ c. IsTrue (ends_in_nonzero F.ring c)) (sym v.1.1) p.canonical;
      },
      ap (poly F.ring) v.1.1
          ∙ Poly_path F.ring _ _ (trim_same F.ring L.laws L.tests p.coeffs p.canonical),
    ),
  )

  -- a polynomial times a constant
  scaled_value : {R : RingOps} (LR : IsCommRing R) (h : F.carrier → R.carrier) (m : IsMap F.ring R
      h) (y : R.carrier) (a : F.carrier) (q : List F.carrier)
      → eval_list R h y (list_scale F.ring a q) ≡ R.mul (h a) (eval_list R h y q)
  scaled_value {R = R} LR h m y a [] = sym (mul_zero R LR (h a))
  scaled_value {R = R} LR h m y a (b ∷ q) = ap₂ (λ s t. R.add s (R.mul y t)) (m.on_mul a b)
      (scaled_value LR h m y a q)
      ∙ ring4 R LR (λ a b y q. a ⊗ b ⊕ y ⊗ (a ⊗ q)) (λ a b y q. a ⊗ (b ⊕ y ⊗ q)) refl (h a) (h b) y
      (eval_list R h y q)

  module _ (f : List (List ℕ)) (hf : IsPlane F f) (two : 1 < length f) (o : Order) (p : Point)
      (other : Order) (at : IsPlace L f o p other) (s t : System)
      (g : HasLeastFunctions L f o p other s) (h : HasLeastFunctions L f o p other t)
      (count_s : length s.weights ≡ s.e) (count_t : length t.weights ≡ t.e) where
    abbrev K : Field
    K = lawful_field L

    abbrev A : RingOps
    A = algebra_in L f

    AL : IsCommRing (algebra_in L f)
    AL = algebra_laws F L f hf two

    abbrev ι : F.carrier → (algebra_in L f).carrier
    ι = constant (lawful_field L) (plane_of F f)

    up : ArePoleSpaces F.ring (algebra_in L f) (constant (lawful_field L) (plane_of F f))
        (HasPoleUpTo L f o p other)
    up = spaces F L f hf two o p other at

    M : IsMap F.ring (algebra_in L f) (constant (lawful_field L) (plane_of F f))
    M = constant_map (lawful_field L) (plane_of F f)

    abbrev value_t : Poly F.ring → (algebra_in L f).carrier
    value_t = poly_at (lawful_field L) (plane_of F f) (elem_of L f t.z)

    E : IsMap (polynomials F.ring) (algebra_in L f) (poly_at (lawful_field L) (plane_of F f)
        (elem_of L f t.z))
    E = eval_map F.ring A L.laws L.tests AL ι M (elem_of L f t.z)

    same : t.e ≡ s.e
    same = same_e L f o p other t s h g

    -- z of s is a * z + b
    affine : (a : F.carrier) × (b : F.carrier) × ((¬ (a ≡ F.zero)) × (elem_of L f s.z
        ≡ A.add (A.mul (ι a) (elem_of L f t.z)) (ι b)))
    affine = z_unique F L f hf two o p other at t h (elem_of L f s.z)
        (subst (λ n. HasPoleOf L f o p other n (elem_of L f s.z)) (sym same) g.z)

    line : Poly F.ring
    line = poly F.ring (affine.1 ∷ affine.0 ∷ [])

    line_value : poly_at (lawful_field L) (plane_of F f) (elem_of L f t.z) line ≡ elem_of L f s.z
    unfolding line eval poly
    line_value = at_trim F.ring A L.laws L.tests AL ι M (elem_of L f t.z)
        (affine.1 ∷ affine.0 ∷ [])
        ∙ ring3 A AL (λ a b z. b ⊕ z ⊗ (a ⊕ z ⊗ nil)) (λ a b z. a ⊗ z ⊕ b) refl (ι affine.0)
        (ι affine.1) (elem_of L f t.z) ∙ sym affine.2.1

    -- a polynomial in z of s is one in z of t
    composed : (q : List F.carrier) → (r : Poly F.ring) × (poly_at (lawful_field L) (plane_of F f)
        (elem_of L f t.z) r ≡ eval_list A ι (elem_of L f s.z) q)
    composed [] = ((polynomials F.ring).zero, E.on_zero)
    composed (c ∷ q) = let r = composed q in (
      (polynomials F.ring).add (poly F.ring (c ∷ [])) ((polynomials F.ring).mul line r.0),
      E.on_add _ _ ∙ ap₂ A.add (eval-const F.ring A L.laws L.tests AL ι M (elem_of L f t.z) c)
          (E.on_mul line r.0 ∙ ap₂ A.mul line_value r.1),
    )

    order_of : (u : System) (k : HasLeastFunctions L f o p other u) → length u.weights ≡ u.e
        → (r : Poly F.ring) (d : ℕ) → size F.ring r ≡ suc d
        → OrderIs F L f hf two o p other at (u.e * d) (poly_at (lawful_field L) (plane_of F f)
        (elem_of L f u.z) r)
    order_of u k count r d e = subst (λ n. OrderIs F L f hf two o p other at (n * d)
        (poly_at (lawful_field L) (plane_of F f) (elem_of L f u.z) r)) count
        (poly-order K A AL ι (HasPoleUpTo L f o p other) up (length u.weights)
        (positive F L f hf two o p other at u k count) (elem_of L f u.z)
        (z_order F L f hf two o p other at u k count) r d e)

    -- 0 has no order
    zero_order : (n : ℕ) → ¬ (OrderIs F L f hf two o p other at n (algebra_in L f).zero)
    zero_order zero k = k.not_less refl
    zero_order (suc n) k = k.not_less (subst (HasPoleUpTo L f o p other n) M.on_zero
        (up.more 0 n (ι F.zero) (omega arith) (up.in_first F.zero)))

    -- orders in L_J are at most J
    order_within : (J n : ℕ) (w : (algebra_in L f).carrier)
        → OrderIs F L f hf two o p other at n w → HasPoleUpTo L f o p other J w → n ≤ J
    order_within J zero w k l = omega arith
    order_within J (suc n) w k l = go (cases_lt J (suc n))
      where
        go : (J < suc n) ⊎ (suc n ≤ J) → suc n ≤ J
        go (inl q) = absurd (k.not_less (up.more J n w (omega (arith, q)) l))
        go (inr q) = q

    -- the degree of a polynomial in z of t with the value of one of degree d in z of s
    degree_is : (r : Poly F.ring) (d : ℕ) → OrderIs F L f hf two o p other at (s.e * d)
        (poly_at (lawful_field L) (plane_of F f) (elem_of L f t.z) r) → size F.ring r ≡ suc d
    degree_is r d k = go (size F.ring r) refl
      where
        go : (n : ℕ) → size F.ring r ≡ n → size F.ring r ≡ suc d
        go zero e = absurd (zero_order (s.e * d) (subst (OrderIs F L f hf two o p other at
            (s.e * d)) (ap (poly_at K (plane_of F f) (elem_of L f t.z))
            (no_size (lawful_field L) r e) ∙ E.on_zero) k))
        go (suc n) e = e ∙ ap suc (cancelled (one-order K A AL ι (HasPoleUpTo L f o p other) up
            (t.e * n) (s.e * d) (poly_at K (plane_of F f) (elem_of L f t.z) r)
            (order_of t h count_t r n e) k))
          where
            cancelled : t.e * n ≡ s.e * d → n ≡ d
            cancelled q = cancel t.e h.positive n d (q ∙ ap (λ e. e * d) (sym same))

    -- an element that is written over a polynomial in z of s
    module _ (q : List ℕ) (hq : IsPoly F q) (monic : leading F q ≡ F.one) (J : ℕ)
        (den : HasPoleUpTo L f o p other J (at_z L f s q)) (w v : (algebra_in L f).carrier)
        (num : HasPoleUpTo L f o p other J v)
        (writes : (algebra_in L f).mul (at_z L f s q) w ≡ v) where
      abbrev d : ℕ
      d = length q - 1

      some : 0 < length q
      some = go q monic
        where
          go : (q : List ℕ) → leading F q ≡ F.one → 0 < length q
          go [] e = absurd (L.finite.field.one_not_zero (sym e))
          go (a ∷ q) e = omega arith

      order_q : OrderIs F L f hf two o p other at (s.e * d) (at_z L f s q)
      order_q = order_of s g count_s (poly_of F q) d (poly-size F.ring L.laws L.tests F.value q
          hq.canonical ∙ (let e : length q ≡ suc d = omega (arith, some) in e))

      r : (r : Poly F.ring) × (poly_at (lawful_field L) (plane_of F f) (elem_of L f t.z) r
          ≡ eval_list A ι (elem_of L f s.z) (poly_of F q).coeffs)
      r = composed (poly_of F q).coeffs

      r_value : poly_at (lawful_field L) (plane_of F f) (elem_of L f t.z) r.0 ≡ at_z L f s q
      unfolding eval
      r_value = r.1

      list_r : (c : List ℕ) × (IsPoly F c × (poly_of F c ≡ r.0))
      list_r = some_list r.0

      length_r : length list_r.0 ≡ suc d
      length_r = sym (poly-size F.ring L.laws L.tests F.value list_r.0 list_r.1.0.canonical)
          ∙ ap (size F.ring) list_r.1.1
          ∙ degree_is r.0 d (subst (OrderIs F L f hf two o p other at (s.e * d)) (sym r_value)
          order_q)

      abbrev lead : F.carrier
      lead = coeff F.ring r.0.coeffs d

      lead_some : ¬ (lead ≡ F.zero)
      lead_some e = lead-nonzero F L list_r.0 list_r.1.0 (omega (arith, length_r))
          (ap (λ n. coeff F.ring (map F.value list_r.0) (n - 1)) length_r
          ∙ (let k : suc d - 1 ≡ d = omega arith in ap (coeff F.ring (map F.value list_r.0)) k)
          ∙ sym (poly-coeff F.ring L.laws L.tests (map F.value list_r.0) d)
          ∙ ap (λ (p : Poly F.ring). coeff F.ring p.coeffs d) list_r.1.1 ∙ e)

      abbrev k : F.carrier
      k = F.inverse lead

      k_some : ¬ (k ≡ F.zero)
      k_some e = L.finite.field.one_not_zero (sym (L.finite.field.mul_inverse lead lead_some)
          ∙ ap (F.mul lead) e ∙ mul_zero F.ring L.laws lead)

      m : Poly F.ring
      m = poly F.ring (list_scale F.ring k r.0.coeffs)

      m_value : poly_at (lawful_field L) (plane_of F f) (elem_of L f t.z) m
          ≡ A.mul (ι k) (at_z L f s q)
      unfolding m eval poly
      m_value = at_trim F.ring A L.laws L.tests AL ι M (elem_of L f t.z)
          (list_scale F.ring k r.0.coeffs) ∙ scaled_value AL ι M (elem_of L f t.z) k r.0.coeffs
          ∙ ap (A.mul (ι k)) r_value

      m_monic : coeff F.ring m.coeffs d ≡ F.one
      unfolding m
      m_monic = poly-coeff F.ring L.laws L.tests (list_scale F.ring k r.0.coeffs) d
          ∙ scale-coeff F.ring L.laws L.tests k r.0.coeffs d ∙ L.laws.mul_comm k lead
          ∙ L.finite.field.mul_inverse lead lead_some

      m_size : size F.ring m ≡ suc d
      m_size = degree_is m d (subst (OrderIs F L f hf two o p other at (s.e * d)) (sym m_value)
          (let e : 0 + s.e * d ≡ s.e * d = omega arith in
          subst (λ n. OrderIs F L f hf two o p other at n (A.mul (ι k) (at_z L f s q))) e
          (up.exact 0 (s.e * d) (ι k) (at_z L f s q) (constant-order K A AL ι
          (HasPoleUpTo L f o p other) up k k_some) order_q)))

      list_m : (c : List ℕ) × (IsPoly F c × (poly_of F c ≡ m))
      list_m = some_list m

      length_m : length list_m.0 ≡ suc d
      length_m = sym (poly-size F.ring L.laws L.tests F.value list_m.0 list_m.1.0.canonical)
          ∙ ap (size F.ring) list_m.1.1 ∙ m_size

      product_is : A.mul (poly_at (lawful_field L) (plane_of F f) (elem_of L f t.z) m) w
          ≡ A.mul (ι k) v
      product_is = ap (λ x. A.mul x w) m_value ∙ AL.mul_assoc _ _ _ ∙ ap (A.mul (ι k)) writes

      light : HasLightCoords L f t J (A.mul (poly_at (lawful_field L) (plane_of F f)
          (elem_of L f t.z) m) w)
      light = light_coords F L f hf two o p other at t h count_t J _
          (subst (HasPoleUpTo L f o p other J) (sym product_is)
          (let e : 0 + J ≡ J = omega arith in
          subst (λ n. HasPoleUpTo L f o p other n (A.mul (ι k) v)) e
          (up.mul 0 J (ι k) v (up.in_first k) num)))

      lists : List (List ℕ)
      lists = listed t.e (λ l. (some_list (light.coords l)).0)

      lists_count : length lists ≡ t.e
      unfolding lists
      lists_count = listed-length t.e (λ l. (some_list (light.coords l)).0)

      list_at : (l : ℕ) (d : List ℕ) → l < t.e
          → get_or lists l d ≡ (some_list (light.coords l)).0
      unfolding lists
      list_at l d = get_listed t.e (λ l. (some_list (light.coords l)).0) l d

      entry_is : (l : ℕ) → l < t.e → coeff (polynomials F.ring) (map (λ q. poly_of F q) lists) l
          ≡ light.coords l
      entry_is l n = coeff-map (polynomials F.ring) (λ q. poly_of F q) lists l []
          (omega (arith, n, lists_count)) ∙ ap (λ q. poly_of F q) (list_at l [] n)
          ∙ (some_list (light.coords l)).1.1

      are_coords : AreCoords F t lists
      are_coords = record {
        each = λ i d l. let n : i < t.e = omega (arith, l, lists_count) in
            subst (IsPoly F) (sym (list_at i d n)) (some_list (light.coords i)).1.0;
        count = lists_count;
      }

      below : IsBelow F.ring t.e (λ i. weight_at t i) (suc J)
          (λ l. coeff (polynomials F.ring) (map (λ q. poly_of F q) lists) l)
      below l n i a = ap (λ (p : Poly F.ring). coeff F.ring p.coeffs i) (entry_is l n)
          ∙ light.light l n i a

      pub written : (c : Coords) × IsExpression L f t w (J / t.e) J c
      written = (
        record { q = list_m.0; c = lists },
        record {
          form = record {
            q = list_m.1.0;
            monic = ap (λ n. coeff F.ring (map F.value list_m.0) (n - 1)) length_m
                ∙ (let k : suc d - 1 ≡ d = omega arith in
                ap (coeff F.ring (map F.value list_m.0)) k)
                ∙ sym (poly-coeff F.ring L.laws L.tests (map F.value list_m.0) d)
                ∙ ap (λ (p : Poly F.ring). coeff F.ring p.coeffs d) list_m.1.1 ∙ m_monic;
            coords = are_coords;
          };
          degree = let a : s.e * d ≤ J = order_within J (s.e * d) (at_z L f s q) order_q den in
              let b : t.e * d ≡ s.e * d = ap (λ n. n * d) same in
              let c : d * t.e ≡ t.e * d = mul_comm d t.e in
              let e : d ≤ J / t.e = le-div d J t.e h.positive (omega (arith, a, b, c)) in
              omega (arith, e, length_m);
          weight = below_within F L t lists are_coords J below;
          writes = ap (λ p. A.mul (poly_at K (plane_of F f) (elem_of L f t.z) p) w) list_m.1.1
              ∙ light.value ∙ sym (list_value F L f hf two o p other at t h count_t lists
              lists_count ∙ ap (λ n. sum_below A n (λ l. A.mul (poly_at K (plane_of F f)
              (elem_of L f t.z) (coeff (polynomials F.ring) (map (λ q. poly_of F q) lists) l))
              (elems_of L f t.b l))) count_t ∙ sum-ext A AL t.e _ _ (λ l n.
              ap (λ p. A.mul (poly_at K (plane_of F f) (elem_of L f t.z) p) (elems_of L f t.b l))
              (entry_is l n)));
        },
      )
