-- How many independent elements a span has, and the dimensions of the spaces of a point: they rise
-- exactly at the pole numbers. For an equation f over a field whose laws are L.
use Rattle.std.proofs.Common.{◌≡◌, ℕ, zero, suc, ◌+◌, ◌-◌, ◌<◌, ◌≤◌, ◌⊎◌, inl, inr, List, []}
use Rattle.std.proofs.Common.{Bool, true, false, length, get_or, refl, sym, ◌∙◌, ap, ap₂, subst}
use Rattle.std.proofs.Common.{arith}
use Rattle.std.proofs.lemmas.Bool.{cases_lt}
use Rattle.ff_theory.specs.Ring.{RingOps, IsCommRing, Elements}
use Rattle.ff_theory.specs.Lawful.{Lawful, lawful_field}
use Rattle.ff_theory.specs.Map.{IsMap}
use Rattle.ff_theory.specs.Sum.{sum_below}
use Rattle.ff_theory.specs.Span.{Dependence}
use Rattle.ff_theory.specs.Values.{plane_of, IsPlane}
use Rattle.ff_theory.proofs.Solver.{◌⊕◌, ◌⊗◌, neg, nil, unit, ring1, ring2, ring4, zero_mul}
use Rattle.ff_theory.proofs.Sums.{sum-ext, sum-mul, sum-swap, sum-zero}
use Rattle.ff_theory.proofs.Constants.{constant_map}
use Rattle.ff_theory.proofs.Dependence.{dependence}
use Rattle.ff_theory.proofs.Domains.{field_domain}
use Rattle.ff_table.specs.PoleOrders.{ArePoleSpaces, AreSteps}
use Rattle.ff_elem.specs.declared.elem.Elem.{Elem}
use Rattle.ff_elem.specs.Elem.{algebra_in}
use Rattle.ff_data.specs.declared.order.Order.{Order}
use Rattle.ff_data.specs.declared.point.Point.{Point}
use Rattle.ff_data.specs.declared.point.RRSpace.{RRSpace}
use Rattle.ff_data.specs.Combinations.{combination_in, constant_in, elems_of, InSpanOf, IsBasisOf}
use Rattle.ff_data.specs.Poles.{HasPoleUpTo, IsPoleNumber}
use Rattle.ff_data.proofs.ChartLaws.{algebra_laws}
use Rattle.ff_systems.specs.Places.{IsPlace}
use Rattle.ff_systems.proofs.Spaces.{spaces as spaces_of, steps}
use Rattle.ff_functions.specs.Rows.{put_last}
use Rattle.ff_functions.proofs.RowLemmas.{put-below, put-at}
use Rattle.ff_poles.specs.Spaces.{AreSpacesAt, RisesAt}

module _ (F : Elements ℕ) (L : Lawful F) (f : List (List ℕ)) (hf : IsPlane F f)
    (two : 1 < length f) where
  abbrev A : RingOps
  A = algebra_in L f

  AL : IsCommRing (algebra_in L f)
  AL = algebra_laws F L f hf two

  M : IsMap F.ring (algebra_in L f) (constant_in L f)
  M = constant_map (lawful_field L) (plane_of F f)

  -- constants of sums
  constant_sum : (n : ℕ) (h : ℕ → F.carrier) → constant_in L f (sum_below F.ring n h)
      ≡ sum_below A n (λ i. constant_in L f (h i))
  constant_sum zero h = M.on_zero
  constant_sum (suc n) h = M.on_add (sum_below F.ring n h) (h n)
      ∙ ap (λ t. A.add t (constant_in L f (h n))) (constant_sum n h)

  abbrev pub AreIndependent : ℕ → (ℕ → (algebra_in L f).carrier) → Type 0
  AreIndependent r v = (c : ℕ → F.carrier) → combination_in L f r c v ≡ (algebra_in L f).zero
      → (i : ℕ) → i < r → c i ≡ F.zero

  module _ (r : ℕ) (v : ℕ → (algebra_in L f).carrier) (s : ℕ) (g : ℕ → (algebra_in L f).carrier)
      (spans : (i : ℕ) → i < r → InSpanOf L f s g (v i)) where
    pick : (i : ℕ) → (i < r) ⊎ (r ≤ i) → ℕ → F.carrier
    pick i (inl l) = (spans i l).coefficients
    pick i (inr l) = λ j. F.zero

    a : ℕ → ℕ → F.carrier
    a i = pick i (cases_lt i r)

    picked : (i : ℕ) (b : (i < r) ⊎ (r ≤ i)) → i < r → v i ≡ combination_in L f s (pick i b) g
    unfolding pick
    picked i (inl l) q = (spans i l).sum
    picked i (inr l) q = absurd (omega (arith, l, q))

    expanded : (c : ℕ → F.carrier) → combination_in L f r c v
        ≡ combination_in L f s (λ j. sum_below F.ring r (λ i. F.mul (c i) (a i j))) g
    unfolding a
    expanded c = sum-ext A AL r _ _ (λ i q. ap (A.mul (constant_in L f (c i)))
        (picked i (cases_lt i r) q)
        ∙ sym (sum-mul A AL s (constant_in L f (c i)) (λ j. A.mul (constant_in L f (a i j)) (g j)))
        ∙ sum-ext A AL s _ _ (λ j l. sym (AL.mul_assoc _ _ _)
        ∙ ap (λ t. A.mul t (g j)) (sym (M.on_mul (c i) (a i j)))))
        ∙ sum-swap A AL r s (λ i j. A.mul (constant_in L f (F.mul (c i) (a i j))) (g j))
        ∙ sum-ext A AL s _ _ (λ j l. sum-right j
        ∙ ap (λ t. A.mul t (g j)) (sym (constant_sum r (λ i. F.mul (c i) (a i j)))))
      where
        sum-right : (j : ℕ) → sum_below A r (λ i. A.mul (constant_in L f (F.mul (c i) (a i j)))
            (g j)) ≡ A.mul (sum_below A r (λ i. constant_in L f (F.mul (c i) (a i j)))) (g j)
        sum-right j = sum-ext A AL r _ _ (λ i q. AL.mul_comm _ (g j))
            ∙ sum-mul A AL r (g j) (λ i. constant_in L f (F.mul (c i) (a i j)))
            ∙ AL.mul_comm (g j) _

    -- independent elements of a span are at most as many as span it
    pub few_independent : AreIndependent r v → r ≤ s
    few_independent free = go (cases_lt s r)
      where
        go : (s < r) ⊎ (r ≤ s) → r ≤ s
        go (inr l) = l
        go (inl l) = absurd (d.nonzero (free d.coefficients (expanded d.coefficients
            ∙ sum-ext A AL s _ (λ j. A.zero) (λ j q. ap (λ t. A.mul (constant_in L f t) (g j))
            (d.sum j q) ∙ ap (λ t. A.mul t (g j)) M.on_zero ∙ zero_mul A AL (g j))
            ∙ sum-zero A AL s) d.index d.below))
          where
            d : Dependence F.ring r s a
            d = dependence (field_domain (lawful_field L)) s r a l

  -- the spaces of a point
  module _ (o : Order) (p : Point) (other : Order) (at : IsPlace L f o p other)
      (spaces : List RRSpace) (are : AreSpacesAt L f o p other spaces) where
    up : ArePoleSpaces F.ring (algebra_in L f) (constant_in L f) (HasPoleUpTo L f o p other)
    up = spaces_of F L f hf two o p other at

    step : AreSteps F.ring (algebra_in L f) (constant_in L f) (HasPoleUpTo L f o p other)
    step = steps F L f hf two o p other at

    abbrev basis_at : ℕ → List Elem
    basis_at j = (get_or spaces j (record { j = 0; basis = [] })).basis

    abbrev dim_at : ℕ → ℕ
    dim_at j = length (basis_at j)

    abbrev longer : ℕ → A.carrier → ℕ → A.carrier
    longer j w = put_last (length (basis_at j)) (elems_of L f (basis_at j)) w

    pub basis_is : (j : ℕ) → j < length spaces → IsBasisOf L f (HasPoleUpTo L f o p other j)
        (get_or spaces j (record { j = 0; basis = [] })).basis
    basis_is j l = let k = are j (record { j = 0; basis = [] }) l in
        subst (λ n. IsBasisOf L f (HasPoleUpTo L f o p other n) (basis_at j)) k.1 k.0

    -- combinations of elements of a space
    pub combination_up : (j n : ℕ) (c : ℕ → F.carrier) (g : ℕ → (algebra_in L f).carrier)
        → ((i : ℕ) → i < n → HasPoleUpTo L f o p other j (g i))
        → HasPoleUpTo L f o p other j (combination_in L f n c g)
    combination_up j zero c g h = subst (HasPoleUpTo L f o p other j) M.on_zero
        (up.more 0 j (constant_in L f F.zero) (omega arith) (up.in_first F.zero))
    combination_up j (suc n) c g h = up.add j _ _
        (combination_up j n c g (λ i q. h i (omega (arith, q))))
        (let e : 0 + j ≡ j = omega arith in subst (λ m. HasPoleUpTo L f o p other m
        (A.mul (constant_in L f (c n)) (g n))) e
        (up.mul 0 j _ _ (up.in_first (c n)) (h n (omega arith))))

    -- the first element of the list that is not in the space before
    search : (j n : ℕ) (g : ℕ → (algebra_in L f).carrier)
        → ((i : ℕ) → i < n → HasPoleUpTo L f o p other (suc j) (g i))
        → ((i : ℕ) × ((i < n) × ¬ HasPoleUpTo L f o p other j (g i)))
        ⊎ ((i : ℕ) → i < n → HasPoleUpTo L f o p other j (g i))
    search j zero g h = inr (λ i q. absurd (omega (arith, q)))
    search j (suc n) g h = go (search j n g (λ i q. h i (omega (arith, q))))
        (step.decide j (g n) (h n (omega arith)))
      where
        go : ((i : ℕ) × ((i < n) × ¬ HasPoleUpTo L f o p other j (g i)))
            ⊎ ((i : ℕ) → i < n → HasPoleUpTo L f o p other j (g i))
            → HasPoleUpTo L f o p other j (g n) ⊎ ¬ HasPoleUpTo L f o p other j (g n)
            → ((i : ℕ) × ((i < suc n) × ¬ HasPoleUpTo L f o p other j (g i)))
            ⊎ ((i : ℕ) → i < suc n → HasPoleUpTo L f o p other j (g i))
        go (inl k) d = inl (k.0, (let l = k.1.0 in omega (arith, l), k.1.1))
        go (inr k) (inr d) = inl (n, (omega arith, d))
        go (inr k) (inl d) = inr (λ i q. last i q (cases_lt i n))
          where
            last : (i : ℕ) → i < suc n → (i < n) ⊎ (n ≤ i) → HasPoleUpTo L f o p other j (g i)
            last i q (inl l) = k i l
            last i q (inr l) = let e : n ≡ i = omega (arith, q, l) in
                subst (λ i. HasPoleUpTo L f o p other j (g i)) e d

    -- where the dimension rises there is a pole number
    pub rise_number : (j : ℕ) → suc j < length spaces → RisesAt spaces (suc j)
        → IsPoleNumber L f o p other (suc j)
    rise_number j l r = go (search j (length (basis_at (suc j))) (elems_of L f (basis_at (suc j)))
        upper.each)
      where
        lower : IsBasisOf L f (HasPoleUpTo L f o p other j) (basis_at j)
        lower = basis_is j (omega (arith, l))

        upper : IsBasisOf L f (HasPoleUpTo L f o p other (suc j)) (basis_at (suc j))
        upper = basis_is (suc j) l

        e : suc j - 1 ≡ j
        e = omega arith

        go : ((i : ℕ) × ((i < length (basis_at (suc j)))
            × ¬ HasPoleUpTo L f o p other j (elems_of L f (basis_at (suc j)) i)))
            ⊎ ((i : ℕ) → i < length (basis_at (suc j))
            → HasPoleUpTo L f o p other j (elems_of L f (basis_at (suc j)) i))
            → IsPoleNumber L f o p other (suc j)
        go (inl k) = (
          elems_of L f (basis_at (suc j)) k.0,
          record { up_to = upper.each k.0 k.1.0; not_less = λ n h. k.1.1 h },
        )
        go (inr k) = absurd (let few : length (basis_at (suc j)) ≤ length (basis_at j)
            = few_independent (length (basis_at (suc j))) (elems_of L f (basis_at (suc j)))
            (length (basis_at j)) (elems_of L f (basis_at j))
            (λ i q. lower.spans _ (k i q)) upper.independent in
            let rise : length (basis_at j) < length (basis_at (suc j))
            = subst (λ n. length (basis_at n) < length (basis_at (suc j))) e r.1 in
            omega (arith, few, rise))

    -- and at a pole number it rises
    pub number_rise : (j : ℕ) → suc j < length spaces → IsPoleNumber L f o p other (suc j)
        → RisesAt spaces (suc j)
    number_rise j l (w, h) = (
      omega arith,
      (let few : suc (length (basis_at j)) ≤ length (basis_at (suc j))
          = few_independent (suc (length (basis_at j))) (longer j w) (length (basis_at (suc j)))
          (elems_of L f (basis_at (suc j))) (λ i q. upper.spans ((longer j w) i) (inside i q)) free
          in
          let e : j ≡ suc j - 1 = omega arith in
          subst (λ n. length (basis_at n) < length (basis_at (suc j))) e (omega (arith, few))),
    )
      where
        lower : IsBasisOf L f (HasPoleUpTo L f o p other j) (basis_at j)
        lower = basis_is j (omega (arith, l))

        upper : IsBasisOf L f (HasPoleUpTo L f o p other (suc j)) (basis_at (suc j))
        upper = basis_is (suc j) l

        v-below : (i : ℕ) → i < (dim_at j) → (longer j w) i ≡ elems_of L f (basis_at j) i
        v-below i q = put-below (dim_at j) (elems_of L f (basis_at j)) w i q

        v-last : (longer j w) (dim_at j) ≡ w
        v-last = put-at (dim_at j) (elems_of L f (basis_at j)) w

        inside : (i : ℕ) → i < suc (dim_at j) → HasPoleUpTo L f o p other (suc j) ((longer j w) i)
        inside i q = go (cases_lt i (dim_at j))
          where
            go : (i < (dim_at j)) ⊎ ((dim_at j) ≤ i) → HasPoleUpTo L f o p other (suc j) ((longer j
                w) i)
            go (inl k) = subst (HasPoleUpTo L f o p other (suc j)) (sym (v-below i k))
                (up.more j (suc j) _ (omega arith) (lower.each i k))
            go (inr k) = let e : i ≡ (dim_at j) = omega (arith, q, k) in
                subst (HasPoleUpTo L f o p other (suc j)) (sym (ap (longer j w) e ∙ v-last)) h.up_to

        free : AreIndependent (suc (dim_at j)) (longer j w)
        free c zero_sum i q = go (cases_lt i (dim_at j))
          where
            parts : A.add (combination_in L f (dim_at j) c (elems_of L f (basis_at j)))
                (A.mul (constant_in L f (c (dim_at j))) w) ≡ A.zero
            parts = sym (ap₂ A.add (sum-ext A AL (dim_at j) _ _ (λ i q.
                ap (A.mul (constant_in L f (c i))) (v-below i q)))
                (ap (A.mul (constant_in L f (c (dim_at j)))) v-last)) ∙ zero_sum

            last : c (dim_at j) ≡ F.zero
            last = decided (F.same (c (dim_at j)) F.zero) refl
              where
                decided : (b : Bool) → F.same (c (dim_at j)) F.zero ≡ b → c (dim_at j) ≡ F.zero
                decided true e = L.tests.same_true (c (dim_at j)) F.zero e
                decided false e = absurd (h.not_less (λ z. absurd (let k : suc j ≡ 0 = z in cc))
                    (subst (HasPoleUpTo L f o p other j) (sym w_is)
                    (let e : 0 + j ≡ j = omega arith in subst (λ m. HasPoleUpTo L f o p other m
                    (A.mul (constant_in L f (F.neg (F.inverse (c (dim_at j)))))
                    (combination_in L f (dim_at j) c (elems_of L f (basis_at j))))) e
                    (up.mul 0 j (constant_in L f (F.neg (F.inverse (c (dim_at j))))) _
                    (up.in_first (F.neg (F.inverse (c (dim_at j))))) (combination_up j (dim_at j) c
                    (elems_of L f (basis_at j)) lower.each)))))
                  where
                    some : ¬ (c (dim_at j) ≡ F.zero)
                    some z = absurd (let k : true ≡ false = sym (L.tests.same_refl F.zero)
                        ∙ ap (λ t. F.same t F.zero) (sym z) ∙ e in cc)

                    w_is : w ≡ A.mul (constant_in L f (F.neg (F.inverse (c (dim_at j)))))
                        (combination_in L f (dim_at j) c (elems_of L f (basis_at j)))
                    w_is = ring1 A AL (λ w. w) (λ w. unit ⊗ w) refl w
                        ∙ ap (λ t. A.mul t w) (sym M.on_one
                        ∙ ap (constant_in L f) (sym (L.finite.field.mul_inverse (c (dim_at j)) some)
                        ∙ L.laws.mul_comm (c (dim_at j)) _) ∙ M.on_mul (F.inverse (c (dim_at j)))
                        (c (dim_at j)))
                        ∙ ring4 A AL (λ i c w s. i ⊗ c ⊗ w)
                        (λ i c w s. i ⊗ (s ⊕ c ⊗ w) ⊕ neg i ⊗ s) refl
                        (constant_in L f (F.inverse (c (dim_at j)))) (constant_in L f (c (dim_at
                        j))) w
                        (combination_in L f (dim_at j) c (elems_of L f (basis_at j)))
                        ∙ ap₂ A.add (ap (A.mul (constant_in L f (F.inverse (c (dim_at j))))) parts)
                        (ap (λ t. A.mul t (combination_in L f (dim_at j) c (elems_of L f (basis_at
                        j))))
                        (sym (M.on_neg (F.inverse (c (dim_at j))))))
                        ∙ ring2 A AL (λ i b. i ⊗ nil ⊕ b) (λ i b. b) refl
                        (constant_in L f (F.inverse (c (dim_at j)))) _

            go : (i < (dim_at j)) ⊎ ((dim_at j) ≤ i) → c i ≡ F.zero
            go (inl k) = lower.independent c (sym (ring1 A AL (λ s. s ⊕ nil) (λ s. s) refl
                (combination_in L f (dim_at j) c (elems_of L f (basis_at j)))
                ) ∙ ap (A.add (combination_in L f (dim_at j) c (elems_of L f (basis_at j))))
                (sym (ap (λ t. A.mul (constant_in L f t) w) last ∙ ap (λ t. A.mul t w) M.on_zero
                ∙ zero_mul A AL w)) ∙ parts) i k
            go (inr k) = let e : i ≡ (dim_at j) = omega (arith, q, k) in ap c e ∙ last
