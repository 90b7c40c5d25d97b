-- What the least functions of a point have in common: e and the weights are one and the same, z is
-- one up to a factor and a constant, and the pole numbers are the e * a + m_i.
use Rattle.std.proofs.Common.{◌≡◌, ℕ, zero, suc, ◌+◌, ◌-◌, ◌*◌, ◌/◌, ◌%◌, ◌<◌, ◌≤◌}
use Rattle.std.proofs.Common.{◌⊎◌, inl, inr, List}
use Rattle.std.proofs.Common.{length, refl, sym, ◌∙◌, ap, subst, arith}
use Rattle.std.proofs.Math.Nat.{mod-lt, div-add-mod}
use Rattle.ff_theory.specs.Ring.{RingOps, IsCommRing, Elements}
use Rattle.ff_theory.specs.Lawful.{Field, Lawful, lawful_field}
use Rattle.ff_theory.specs.Algebra.{constant}
use Rattle.ff_theory.specs.Values.{plane_of, IsPlane}
use Rattle.ff_theory.proofs.Solver.{◌⊕◌, neg, ring2, zero_mul}
use Rattle.ff_theory.proofs.Constants.{constant_map}
use Rattle.ff_table.specs.PoleOrders.{ArePoleSpaces, AreSteps}
use Rattle.ff_table.proofs.Weights.{mod_sub}
use Rattle.ff_elem.specs.Elem.{algebra_in, elem_of}
use Rattle.ff_data.specs.declared.order.Order.{Order}
use Rattle.ff_data.specs.declared.point.Point.{Point}
use Rattle.ff_data.specs.declared.system.System.{System}
use Rattle.ff_data.specs.Poles.{HasPoleUpTo, HasPoleOf, IsPoleNumber}
use Rattle.ff_data.specs.Combinations.{elems_of}
use Rattle.ff_data.specs.Systems.{weight_at}
use Rattle.ff_data.proofs.ChartLaws.{algebra_laws}
use Rattle.ff_systems.specs.Places.{IsPlace, HasLeastFunctions}
use Rattle.ff_systems.proofs.Spaces.{OrderIs, spaces, steps, pole_into, number_of}
use Rattle.ff_systems.proofs.TableRule.{z_order, orders}

module _ {F : Elements ℕ} (L : Lawful F) (f : List (List ℕ)) (o : Order) (p : Point)
    (other : Order) (s t : System) (g : HasLeastFunctions L f o p other s)
    (h : HasLeastFunctions L f o p other t) where
  pub same_e : s.e ≡ t.e
  same_e = let a : s.e ≤ t.e = g.least t.e h.positive h.is_number in
      let b : t.e ≤ s.e = h.least s.e g.positive g.is_number in omega (arith, a, b)

  pub same_weight : (i : ℕ) → i < s.e → weight_at s i ≡ weight_at t i
  same_weight i l = omega (arith, below, above)
    where
      below : weight_at t i ≤ weight_at s i
      below = let a : weight_at t (weight_at s i % t.e) ≤ weight_at s i
          = h.basis.least (weight_at s i) (g.basis.is_number i l) in
          let b : weight_at t (weight_at s i % t.e) ≡ weight_at t i = ap (weight_at t)
          (ap (λ n. weight_at s i % n) (sym same_e) ∙ g.basis.remainder i l) in omega (arith, a, b)

      above : weight_at s i ≤ weight_at t i
      above = let r : i < t.e = omega (arith, l, same_e) in
          let a : weight_at s (weight_at t i % s.e) ≤ weight_at t i
          = g.basis.least (weight_at t i) (h.basis.is_number i r) in
          let b : weight_at s (weight_at t i % s.e) ≡ weight_at s i = ap (weight_at s)
          (ap (λ n. weight_at t i % n) same_e ∙ h.basis.remainder i r) in omega (arith, a, b)

module _ (F : Elements ℕ) (L : Lawful F) (f : List (List ℕ)) (hf : IsPlane F f)
    (two : 1 < length f) (o : Order) (p : Point) (other : Order)
    (at : IsPlace L f o p other) where
  abbrev K : Field
  K = lawful_field L

  abbrev A : RingOps
  A = algebra_in L f

  abbrev AL : IsCommRing (algebra_in L f)
  AL = algebra_laws F L f hf two

  abbrev ι : F.carrier → (algebra_in L f).carrier
  ι = constant (lawful_field L) (plane_of F f)

  up : ArePoleSpaces F.ring (algebra_in L f) (constant (lawful_field L) (plane_of F f))
      (HasPoleUpTo L f o p other)
  up = spaces F L f hf two o p other at

  step : AreSteps F.ring (algebra_in L f) (constant (lawful_field L) (plane_of F f))
      (HasPoleUpTo L f o p other)
  step = steps F L f hf two o p other at

  module _ (s : System) (g : HasLeastFunctions L f o p other s) where
    -- below e there are the constants alone
    pub below_constant : (j : ℕ) → j < s.e → (a : (algebra_in L f).carrier)
        → HasPoleUpTo L f o p other j a
        → (c : F.carrier) × (a ≡ constant (lawful_field L) (plane_of F f) c)
    below_constant zero l a m = step.only a m
    below_constant (suc j) l a m = go (step.decide j a m)
        (λ k. below_constant j (omega (arith, l)) a k)
      where
        go : HasPoleUpTo L f o p other j a ⊎ ¬ (HasPoleUpTo L f o p other j a)
            → (HasPoleUpTo L f o p other j a
            → (c : F.carrier) × (a ≡ constant (lawful_field L) (plane_of F f) c))
            → (c : F.carrier) × (a ≡ constant (lawful_field L) (plane_of F f) c)
        go (inl k) rest = rest k
        go (inr n) rest = absurd (let r : s.e ≤ suc j = g.least (suc j) (omega arith)
            (number_of F L f hf two o p other at (suc j) a
            (record { up_to = m; not_less = n })) in omega (arith, r, l))

    -- z is one up to a factor and a constant
    pub z_unique : (w : (algebra_in L f).carrier) → HasPoleOf L f o p other s.e w
        → (a : F.carrier) × (b : F.carrier) × ((¬ (a ≡ F.zero))
        × (w ≡ (algebra_in L f).add ((algebra_in L f).mul
        (constant (lawful_field L) (plane_of F f) a) (elem_of L f s.z))
        (constant (lawful_field L) (plane_of F f) b)))
    z_unique w h = go s.e refl
      where
        go : (n : ℕ) → s.e ≡ n → (a : F.carrier) × (b : F.carrier) × ((¬ (a ≡ F.zero))
            × (w ≡ (algebra_in L f).add ((algebra_in L f).mul
            (constant (lawful_field L) (plane_of F f) a) (elem_of L f s.z))
            (constant (lawful_field L) (plane_of F f) b)))
        go zero e = absurd (omega (arith, e, g.positive))
        go (suc j) e = (c.0, d.0, (some, sum))
          where
            z : HasPoleOf L f o p other (suc j) (elem_of L f s.z)
            z = subst (λ n. HasPoleOf L f o p other n (elem_of L f s.z)) e g.z

            k : HasPoleOf L f o p other (suc j) w
            k = subst (λ n. HasPoleOf L f o p other n w) e h

            c : (c : F.carrier) × HasPoleUpTo L f o p other j ((algebra_in L f).add w
                ((algebra_in L f).neg ((algebra_in L f).mul
                (constant (lawful_field L) (plane_of F f) c) (elem_of L f s.z))))
            c = step.next j w (elem_of L f s.z) k.up_to
                (pole_into F L f hf two o p other at j (elem_of L f s.z) z)

            d : (b : F.carrier) × ((algebra_in L f).add w ((algebra_in L f).neg
                ((algebra_in L f).mul (constant (lawful_field L) (plane_of F f) c.0)
                (elem_of L f s.z))) ≡ constant (lawful_field L) (plane_of F f) b)
            d = below_constant j (omega (arith, e)) _ c.1

            sum : w ≡ A.add (A.mul (ι c.0) (elem_of L f s.z)) (ι d.0)
            sum = ring2 A AL (λ w y. w) (λ w y. y ⊕ (w ⊕ neg y)) refl w
                (A.mul (ι c.0) (elem_of L f s.z))
                ∙ ap (A.add (A.mul (ι c.0) (elem_of L f s.z))) d.1

            some : ¬ (c.0 ≡ F.zero)
            some r = k.not_less (λ i. absurd (let y : suc j ≡ 0 = i in cc))
                (subst (HasPoleUpTo L f o p other j) (sym (sum
                ∙ ap (λ x. A.add (A.mul x (elem_of L f s.z)) (ι d.0)) (ap ι r
                ∙ (constant_map K (plane_of F f)).on_zero)
                ∙ ap (λ x. A.add x (ι d.0)) (zero_mul A AL (elem_of L f s.z))
                ∙ AL.add_comm A.zero (ι d.0) ∙ AL.add_zero (ι d.0)))
                (up.more 0 j (ι d.0) (omega arith) (up.in_first d.0)))

    -- a pole number is that of its class and a multiple of e
    pub class_multiple : (j : ℕ) → IsPoleNumber L f o p other j
        → j ≡ s.e * ((j - weight_at s (j % s.e)) / s.e) + weight_at s (j % s.e)
    class_multiple j n = let low : weight_at s (j % s.e) ≤ j = g.basis.least j n in
        let small : j % s.e < s.e = mod-lt j g.positive in
        omega (
          arith,
          low,
          div-add-mod (j - weight_at s (j % s.e)) s.e,
          mod_sub s.e g.positive j (weight_at s (j % s.e)) low
              (sym (g.basis.remainder (j % s.e) small)),
        )

    -- and each of these is a pole number
    pub multiple_number : (count : length s.weights ≡ s.e) (i a : ℕ) → i < s.e
        → IsPoleNumber L f o p other (s.e * a + weight_at s i)
    multiple_number count i a l = let w = raised a in
        number_of F L f hf two o p other at (s.e * a + weight_at s i) w.0 w.1
      where
        raised : (a : ℕ) → (w : (algebra_in L f).carrier)
            × OrderIs F L f hf two o p other at (s.e * a + weight_at s i) w
        raised zero = let e : weight_at s i ≡ s.e * 0 + weight_at s i = omega arith in (
          elems_of L f s.b i,
          subst (λ n. OrderIs F L f hf two o p other at n (elems_of L f s.b i)) e
              (orders F L f hf two o p other at s g count i (omega (arith, l, count))),
        )
        raised (suc a) = let w = raised a in
            let e : s.e + (s.e * a + weight_at s i) ≡ s.e * suc a + weight_at s i = omega arith in (
              A.mul (elem_of L f s.z) w.0,
              subst (λ n. OrderIs F L f hf two o p other at n (A.mul (elem_of L f s.z) w.0)) e
                  (up.exact s.e (s.e * a + weight_at s i) (elem_of L f s.z) w.0
                  (subst (λ n. OrderIs F L f hf two o p other at n (elem_of L f s.z)) count
                  (z_order F L f hf two o p other at s g count)) w.1),
            )
