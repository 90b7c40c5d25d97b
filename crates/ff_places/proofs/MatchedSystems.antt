-- Systems at two points of which an isomorphism carries one to the other: the pole numbers are the
-- same, so e and the weights are, and z goes to alpha * z + beta with alpha not 0.
use Rattle.std.proofs.Common.{◌≡◌, ℕ, zero, suc, pred, ◌%◌, ◌<◌, ◌≤◌, List, length, sym, ◌∙◌}
use Rattle.std.proofs.Common.{ap, subst, arith}
use Rattle.ff_theory.specs.Ring.{Elements, IsElement}
use Rattle.ff_theory.specs.Lawful.{Lawful, lawful_field}
use Rattle.ff_theory.specs.Algebra.{constant}
use Rattle.ff_theory.specs.Poly.{Poly, polynomials}
use Rattle.ff_theory.specs.Values.{plane_of, IsPlane}
use Rattle.ff_factors.specs.Factors.{IsFactored}
use Rattle.ff_elem.specs.Elem.{algebra_in, elem_of}
use Rattle.ff_data.specs.declared.order.Order.{Order}
use Rattle.ff_data.specs.declared.point.Point.{Point}
use Rattle.ff_data.specs.declared.system.System.{System}
use Rattle.ff_data.specs.Poles.{HasPoleUpTo, HasPoleOf, IsPoleNumber}
use Rattle.ff_data.specs.Systems.{weight_at}
use Rattle.ff_systems.specs.Places.{IsPlace, HasLeastFunctions}
use Rattle.ff_systems.proofs.Unique.{z_unique}
use Rattle.ff_places.proofs.CurvePlaces.{curve_field}
use Rattle.ff_places.proofs.Isomorphisms.{FieldIsomorphism}
use Rattle.ff_places.proofs.CarriedPlaces.{IsCarriedPoint}

module _ (F : Elements ℕ) (L : Lawful F)
    (onto : (s : F.carrier) → (n : ℕ) × IsElement F n × (F.value n ≡ s))
    (f g : List (List ℕ)) (hf : IsPlane F f) (hg : IsPlane F g) (two : 1 < length f)
    (degree : 1 < length g) (o : Order) (p : Point) (other : Order)
    (at : IsPlace L f o p other)
    (irreducible : (a b : Poly (polynomials F.ring)) → ¬ IsFactored F.ring (plane_of F g) a b)
    (σ : FieldIsomorphism (lawful_field L) (curve_field F L f hf two at.irreducible)
    (curve_field F L g hg degree irreducible) (constant (lawful_field L) (plane_of F f))
    (constant (lawful_field L) (plane_of F g)))
    (here there : Order) (q : IsCarriedPoint F L onto f g o p other σ.to here there) where
  pole_into : (j : ℕ) (w : (algebra_in L f).carrier) → HasPoleOf L f o p other j w
      → HasPoleOf L g here q.point there j (σ.to w)
  pole_into j w h = record {
    up_to = q.into j w h.up_to;
    not_less = λ n m. h.not_less n (q.from (pred j) w m);
  }

  pole_back : (j : ℕ) (w : (algebra_in L g).carrier) → HasPoleOf L g here q.point there j w
      → HasPoleOf L f o p other j (σ.back w)
  pole_back j w h = record {
    up_to = q.from j (σ.back w) (subst (HasPoleUpTo L g here q.point there j) (sym (σ.to_back w))
        h.up_to);
    not_less = λ n m. h.not_less n (subst (HasPoleUpTo L g here q.point there (pred j))
        (σ.to_back w) (q.into (pred j) (σ.back w) m));
  }

  -- the pole numbers are the same
  pub number_into : (j : ℕ) → IsPoleNumber L f o p other j → IsPoleNumber L g here q.point there j
  number_into zero n = tt
  number_into (suc j) n = (σ.to n.0, pole_into (suc j) n.0 n.1)

  pub number_back : (j : ℕ) → IsPoleNumber L g here q.point there j → IsPoleNumber L f o p other j
  number_back zero n = tt
  number_back (suc j) n = (σ.back n.0, pole_back (suc j) n.0 n.1)

  module _ (s t : System) (h : HasLeastFunctions L f o p other s)
      (k : HasLeastFunctions L g here q.point there t) where
    pub matched_e : s.e ≡ t.e
    matched_e = let a : s.e ≤ t.e = h.least t.e k.positive (number_back t.e k.is_number) in
        let b : t.e ≤ s.e = k.least s.e h.positive (number_into s.e h.is_number) in
        omega (arith, a, b)

    pub matched_weight : (i : ℕ) → i < s.e → weight_at s i ≡ weight_at t i
    matched_weight i l = omega (arith, below, above)
      where
        below : weight_at t i ≤ weight_at s i
        below = let a : weight_at t (weight_at s i % t.e) ≤ weight_at s i
            = k.basis.least (weight_at s i) (number_into _ (h.basis.is_number i l)) in
            let b : weight_at t (weight_at s i % t.e) ≡ weight_at t i = ap (weight_at t)
            (ap (λ n. weight_at s i % n) (sym matched_e) ∙ h.basis.remainder i l) in
            omega (arith, a, b)

        above : weight_at s i ≤ weight_at t i
        above = let r : i < t.e = omega (arith, l, matched_e) in
            let a : weight_at s (weight_at t i % s.e) ≤ weight_at t i
            = h.basis.least (weight_at t i) (number_back _ (k.basis.is_number i r)) in
            let b : weight_at s (weight_at t i % s.e) ≡ weight_at s i = ap (weight_at s)
            (ap (λ n. weight_at t i % n) matched_e ∙ k.basis.remainder i r) in omega (arith, a, b)

    -- z goes to alpha * z + beta
    pub z_carried : (a : F.carrier) × (b : F.carrier) × ((¬ (a ≡ F.zero))
        × (σ.to (elem_of L f s.z) ≡ (algebra_in L g).add ((algebra_in L g).mul
        (constant (lawful_field L) (plane_of F g) a) (elem_of L g t.z))
        (constant (lawful_field L) (plane_of F g) b)))
    z_carried = z_unique F L g hg degree here q.point there q.is_place t k (σ.to (elem_of L f s.z))
        (subst (λ n. HasPoleOf L g here q.point there n (σ.to (elem_of L f s.z))) matched_e
        (pole_into s.e (elem_of L f s.z) h.z))
