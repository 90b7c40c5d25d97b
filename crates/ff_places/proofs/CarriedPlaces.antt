-- An isomorphism of E(f) to E(g), for irreducible f and g, carries the spaces of a point of f with
-- a pole system onto those of a point of g, where each point of g has a pole system.
use Rattle.std.proofs.Common.{◌≡◌, ℕ, ◌<◌, ◌⊎◌, inl, inr, List, length, refl, sym, ◌∙◌, subst}
use Rattle.ff_theory.specs.Ring.{Elements, IsElement}
use Rattle.ff_theory.specs.Lawful.{Lawful, lawful_field}
use Rattle.ff_theory.specs.Algebra.{constant}
use Rattle.ff_theory.specs.Poly.{Poly, polynomials}
use Rattle.ff_theory.specs.Values.{plane_of, IsPlane}
use Rattle.ff_theory.proofs.Constants.{constant_map}
use Rattle.ff_factors.specs.Factors.{IsFactored}
use Rattle.ff_elem.specs.Elem.{algebra_in, elem_of}
use Rattle.ff_data.specs.declared.order.Chart.{Chart}
use Rattle.ff_data.specs.declared.order.Chart.TheVariants.{Finite, Infinite}
use Rattle.ff_data.specs.declared.order.Order.{Order}
use Rattle.ff_data.specs.declared.point.Point.{Point}
use Rattle.ff_data.specs.declared.system.System.{System}
use Rattle.ff_data.specs.Orders.{IsMaximal}
use Rattle.ff_data.specs.Poles.{HasPoleUpTo}
use Rattle.ff_data.specs.Systems.{IsSystem}
use Rattle.ff_systems.specs.Places.{IsPlace}
use Rattle.ff_places.proofs.FieldSpaces.{AreFieldSpaces}
use Rattle.ff_places.proofs.CurvePlaces.{curve_field}
use Rattle.ff_places.proofs.PlacePoints.{IsWithinPoint, place_points}
use Rattle.ff_places.proofs.SystemSpaces.{least_functions, system_spaces}
use Rattle.ff_places.proofs.Isomorphisms.{FieldIsomorphism, inverse_isomorphism, carried}
use Rattle.ff_places.proofs.TwoPoints.{other_chart, same_spaces}

-- the maximal orders of both charts
pub record AreMaximal {F : Elements ℕ} (L : Lawful F) (f : List (List ℕ)) (finite infinite : Order)
    : Type 0 where
  pub first : IsMaximal L f finite
  pub second : IsMaximal L f infinite
  pub first_chart : finite.chart ≡ Finite
  pub second_chart : infinite.chart ≡ Infinite

module _ (F : Elements ℕ) (L : Lawful F)
    (onto : (s : F.carrier) → (n : ℕ) × IsElement F n × (F.value n ≡ s)) where
  -- the spaces of a point with a pole system
  spaces_at : (f : List (List ℕ)) (hf : IsPlane F f) (two : 1 < length f) (o : Order) (p : Point)
      (other : Order) (at : IsPlace L f o p other) (J : ℕ) (s : System)
      → IsSystem L f o p other J s → AreFieldSpaces (lawful_field L)
      (curve_field F L f hf two at.irreducible) (constant (lawful_field L) (plane_of F f))
      (HasPoleUpTo L f o p other)
  spaces_at f hf two o p other at J s y = system_spaces F L f hf two o p other at s
      (least_functions L f o p other J s y) y.form.weights J y

  -- spaces of a point of a field that hold those of a point of f lie in these
  module _ (f : List (List ℕ)) (hf : IsPlane F f) (two : 1 < length f) (o : Order) (p : Point)
      (other : Order) (at : IsPlace L f o p other) (J : ℕ) (s : System)
      (system : IsSystem L f o p other J s) (W : ℕ → (algebra_in L f).carrier → Type 0)
      (are : AreFieldSpaces (lawful_field L) (curve_field F L f hf two at.irreducible)
      (constant (lawful_field L) (plane_of F f)) W)
      (more : (j : ℕ) (w : (algebra_in L f).carrier) → HasPoleUpTo L f o p other j w → W j w) where
    own : IsWithinPoint L f W o other → (j : ℕ) (w : (algebra_in L f).carrier) → W j w
        → HasPoleUpTo L f o p other j w
    own q j w m = same_spaces F L f hf two o p other at s.e system.positive (elem_of L f s.z)
        system.z q.point q.is_point (λ i v k. q.within i v (more i v k)) j w (q.within j w m)

    swapped : IsWithinPoint L f W other o → (j : ℕ) (w : (algebra_in L f).carrier) → W j w
        → HasPoleUpTo L f o p other j w
    swapped q j w m = other_chart F L f hf two o p other at s.e system.positive (elem_of L f s.z)
        system.z q.point (λ i v k. q.within i v (more i v k)) (HasPoleUpTo L f o p other j w)

    pub largest : (j : ℕ) (w : (algebra_in L f).carrier) → W j w → HasPoleUpTo L f o p other j w
    largest = go o.chart other.chart refl refl
      where
        go : (c d : Chart) → o.chart ≡ c → other.chart ≡ d → (j : ℕ)
            (w : (algebra_in L f).carrier) → W j w → HasPoleUpTo L f o p other j w
        go Finite Finite e g = absurd (at.charts (g ∙ sym e))
        go Infinite Infinite e g = absurd (at.charts (g ∙ sym e))
        go Finite Infinite e g = pick (place_points F L f hf two at.irreducible onto W are o other
            at.maximal at.opposite e g)
          where
            pick : IsWithinPoint L f W o other ⊎ IsWithinPoint L f W other o → (j : ℕ)
                (w : (algebra_in L f).carrier) → W j w → HasPoleUpTo L f o p other j w
            pick (inl q) = own q
            pick (inr q) = swapped q
        go Infinite Finite e g = pick (place_points F L f hf two at.irreducible onto W are other o
            at.opposite at.maximal g e)
          where
            pick : IsWithinPoint L f W other o ⊎ IsWithinPoint L f W o other → (j : ℕ)
                (w : (algebra_in L f).carrier) → W j w → HasPoleUpTo L f o p other j w
            pick (inl q) = swapped q
            pick (inr q) = own q

  -- a point of g whose spaces are those that an isomorphism carries there
  pub record IsCarriedPoint (f g : List (List ℕ)) (o : Order) (p : Point) (other : Order)
      (σ : (algebra_in L f).carrier → (algebra_in L g).carrier) (here there : Order)
      : Type 0 where
    pub point : Point
    pub is_place : IsPlace L g here point there
    pub into : (j : ℕ) (w : (algebra_in L f).carrier) → HasPoleUpTo L f o p other j w
        → HasPoleUpTo L g here point there j (σ w)
    pub from : (j : ℕ) (w : (algebra_in L f).carrier) → HasPoleUpTo L g here point there j (σ w)
        → HasPoleUpTo L f o p other j w

  module _ (f g : List (List ℕ)) (hf : IsPlane F f) (hg : IsPlane F g) (two : 1 < length f)
      (degree : 1 < length g) (o : Order) (p : Point) (other : Order)
      (at : IsPlace L f o p other) (J : ℕ) (s : System) (system : IsSystem L f o p other J s)
      (irreducible : (a b : Poly (polynomials F.ring)) → ¬ IsFactored F.ring (plane_of F g) a b)
      (finite infinite : Order) (orders : AreMaximal L g finite infinite)
      (reach : (here : Order) (q : Point) (there : Order) → IsPlace L g here q there
      → (I : ℕ) × (t : System) × IsSystem L g here q there I t)
      (σ : FieldIsomorphism (lawful_field L) (curve_field F L f hf two at.irreducible)
      (curve_field F L g hg degree irreducible) (constant (lawful_field L) (plane_of F f))
      (constant (lawful_field L) (plane_of F g))) where
    -- the spaces in E(g)
    abbrev V : ℕ → (algebra_in L g).carrier → Type 0
    V j w = HasPoleUpTo L f o p other j (σ.back w)

    are : AreFieldSpaces (lawful_field L) (curve_field F L g hg degree irreducible)
        (constant (lawful_field L) (plane_of F g)) V
    are = carried σ (constant_map (lawful_field L) (plane_of F g)) (HasPoleUpTo L f o p other)
        (spaces_at f hf two o p other at J s system)

    module _ (here there : Order) (m : IsMaximal L g here) (n : IsMaximal L g there)
        (charts : ¬ (there.chart ≡ here.chart)) (q : IsWithinPoint L g V here there) where
      abbrev place : IsPlace L g here q.point there
      place = record {
        irreducible = irreducible;
        maximal = m;
        opposite = n;
        charts = charts;
        point = q.is_point;
      }

      into : (j : ℕ) (w : (algebra_in L f).carrier) → HasPoleUpTo L f o p other j w
          → HasPoleUpTo L g here q.point there j (σ.to w)
      into j w h = q.within j (σ.to w)
          (subst (HasPoleUpTo L f o p other j) (sym (σ.back_to w)) h)

      r : (I : ℕ) × (t : System) × IsSystem L g here q.point there I t
      r = reach here q.point there place

      at_point : IsCarriedPoint f g o p other σ.to here there
      at_point = record {
        point = q.point;
        is_place = place;
        into = into;
        from = largest f hf two o p other at J s system
            (λ j w. HasPoleUpTo L g here q.point there j (σ.to w))
            (carried (inverse_isomorphism σ) (constant_map (lawful_field L) (plane_of F f))
            (HasPoleUpTo L g here q.point there) (spaces_at g hg degree here q.point there place
            r.0 r.1 r.2)) into;
      }

    pub carried_point : IsCarriedPoint f g o p other σ.to finite infinite
        ⊎ IsCarriedPoint f g o p other σ.to infinite finite
    carried_point = go (place_points F L g hg degree irreducible onto V are finite infinite
        orders.first orders.second orders.first_chart orders.second_chart)
      where
        apart : ¬ (Infinite ≡ Finite)
        apart e = cc

        go : IsWithinPoint L g V finite infinite ⊎ IsWithinPoint L g V infinite finite
            → IsCarriedPoint f g o p other σ.to finite infinite
            ⊎ IsCarriedPoint f g o p other σ.to infinite finite
        go (inl q) = inl (at_point finite infinite orders.first orders.second
            (λ e. apart (sym orders.second_chart ∙ e ∙ orders.first_chart)) q)
        go (inr q) = inr (at_point infinite finite orders.second orders.first
            (λ e. apart (sym orders.second_chart ∙ sym e ∙ orders.first_chart)) q)
