-- What a pair with an inverse pair means for a search by pole systems: its isomorphism carries the
-- first system's point to a point of g where each system has the same e and weights, and z to
-- alpha * z + beta.
use Rattle.std.proofs.Common.{◌≡◌, ℕ, ◌<◌, ◌⊎◌, inl, inr, List, length}
use Rattle.ff_theory.specs.Ring.{Elements, IsElement}
use Rattle.ff_theory.specs.Lawful.{Lawful, lawful_field}
use Rattle.ff_theory.specs.Algebra.{constant}
use Rattle.ff_theory.specs.Poly.{Poly, polynomials}
use Rattle.ff_theory.specs.Values.{plane_of, IsPlane}
use Rattle.ff_factors.specs.Factors.{IsFactored}
use Rattle.ff_elem.specs.Elem.{algebra_in, elem_of, x_in, y_in}
use Rattle.ff_data.specs.declared.order.Order.{Order}
use Rattle.ff_data.specs.declared.pair.Pair.{Pair}
use Rattle.ff_data.specs.declared.point.Point.{Point}
use Rattle.ff_data.specs.declared.system.System.{System}
use Rattle.ff_data.specs.Pairs.{IsPair, IsInversePair}
use Rattle.ff_data.specs.Poles.{HasPoleUpTo}
use Rattle.ff_data.specs.Systems.{weight_at, IsSystem}
use Rattle.ff_systems.specs.Places.{IsPlace}
use Rattle.ff_places.proofs.FieldSpaces.{AreFieldSpaces}
use Rattle.ff_places.proofs.CurvePlaces.{curve_field}
use Rattle.ff_places.proofs.Isomorphisms.{FieldIsomorphism}
use Rattle.ff_places.proofs.SystemSpaces.{least_functions, system_spaces}
use Rattle.ff_places.proofs.CarriedPlaces.{AreMaximal, IsCarriedPoint, carried_point}
use Rattle.ff_places.proofs.MatchedSystems.{matched_e, matched_weight, z_carried}
use Rattle.ff_places.proofs.PairIsomorphisms.{pair_isomorphism, pair_x, pair_y}

module _ (F : Elements ℕ) (L : Lawful F)
    (onto : (s : F.carrier) → (n : ℕ) × IsElement F n × (F.value n ≡ s))
    (f g : List (List ℕ)) (hf : IsPlane F f) (hg : IsPlane F g) (two : 1 < length f)
    (more : 1 < length g) (o : Order) (p : Point) (other : Order) (place : IsPlace L f o p other)
    (irreducible : (a b : Poly (polynomials F.ring)) → ¬ IsFactored F.ring (plane_of F g) a b)
    (I : ℕ) (s : System) (y : IsSystem L f o p other I s) where
  -- an isomorphism that takes x and y to a pair
  pub record IsIsomorphismOf (pair : Pair) : Type 0 where
    pub map : FieldIsomorphism (lawful_field L) (curve_field F L f hf two place.irreducible)
        (curve_field F L g hg more irreducible) (constant (lawful_field L) (plane_of F f))
        (constant (lawful_field L) (plane_of F g))
    pub on_x : map.to (x_in L f) ≡ elem_of L g pair.x
    pub on_y : map.to (y_in L f) ≡ elem_of L g pair.y

  -- at the point to which it carries that of s, each system has e and the weights of s, and z goes
  -- to alpha * z + beta
  pub record IsChosen (pair : Pair) (σ : IsIsomorphismOf pair) (here there : Order)
      : Type 0 where
    pub point : IsCarriedPoint F L onto f g o p other σ.map.to here there
    pub e : (J : ℕ) (t : System) → IsSystem L g here point.point there J t → s.e ≡ t.e
    pub weight : (J : ℕ) (t : System) → IsSystem L g here point.point there J t → (i : ℕ)
        → i < s.e → weight_at s i ≡ weight_at t i
    pub z : (J : ℕ) (t : System) → IsSystem L g here point.point there J t
        → (a : F.carrier) × (b : F.carrier) × ((¬ (a ≡ F.zero))
        × (σ.map.to (elem_of L f s.z) ≡ (algebra_in L g).add ((algebra_in L g).mul
        (constant (lawful_field L) (plane_of F g) a) (elem_of L g t.z))
        (constant (lawful_field L) (plane_of F g) b)))

  module _ (finite infinite : Order) (orders : AreMaximal L g finite infinite)
      (reach : (here : Order) (q : Point) (there : Order) → IsPlace L g here q there
      → (J : ℕ) × (t : System) × IsSystem L g here q there J t)
      (pair back : Pair) (pair_is : IsPair L g pair) (back_is : IsPair L f back)
      (inverse : IsInversePair L f g pair back) where
    spaces : AreFieldSpaces (lawful_field L) (curve_field F L f hf two place.irreducible)
        (constant (lawful_field L) (plane_of F f)) (HasPoleUpTo L f o p other)
    spaces = system_spaces F L f hf two o p other place s (least_functions L f o p other I s y)
        y.form.weights I y

    pub isomorphism_of : IsIsomorphismOf pair
    isomorphism_of = record {
      map = pair_isomorphism F L f g hf hg two more place.irreducible irreducible _ spaces pair back
          pair_is back_is inverse;
      on_x = pair_x F L f g hf hg two more place.irreducible irreducible _ spaces pair back pair_is
          back_is inverse;
      on_y = pair_y F L f g hf hg two more place.irreducible irreducible _ spaces pair back pair_is
          back_is inverse;
    }

    chosen : (here there : Order)
        → IsCarriedPoint F L onto f g o p other isomorphism_of.map.to here there
        → IsChosen pair isomorphism_of here there
    chosen here there q = record {
      point = q;
      e = λ J t z. matched_e F L onto f g hf hg two more o p other place irreducible
          isomorphism_of.map here there q s t (least_functions L f o p other I s y)
          (least_functions L g here q.point there J t z);
      weight = λ J t z. matched_weight F L onto f g hf hg two more o p other place irreducible
          isomorphism_of.map here there q s t (least_functions L f o p other I s y)
          (least_functions L g here q.point there J t z);
      z = λ J t z. z_carried F L onto f g hf hg two more o p other place irreducible
          isomorphism_of.map here there q s t (least_functions L f o p other I s y)
          (least_functions L g here q.point there J t z);
    }

    pub choice : IsChosen pair isomorphism_of finite infinite
        ⊎ IsChosen pair isomorphism_of infinite finite
    choice = go (carried_point F L onto f g hf hg two more o p other place I s y irreducible finite
        infinite orders reach isomorphism_of.map)
      where
        go : IsCarriedPoint F L onto f g o p other isomorphism_of.map.to finite infinite
            ⊎ IsCarriedPoint F L onto f g o p other isomorphism_of.map.to infinite finite
            → IsChosen pair isomorphism_of finite infinite
            ⊎ IsChosen pair isomorphism_of infinite finite
        go (inl q) = inl (chosen finite infinite q)
        go (inr q) = inr (chosen infinite finite q)
