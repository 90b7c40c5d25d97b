-- The pole system of the least functions of a point, and where there is none. For an equation f
-- over a field whose laws are L.
use Rattle.std.proofs.Common.{◌≡◌, ℕ, ◌<◌, ◌≤◌, List, length, Option, None, Some, IfSome}
use Rattle.std.proofs.Common.{IfNone}
use Rattle.ff_theory.specs.Ring.{Elements, IsElement}
use Rattle.ff_theory.specs.Lawful.{Lawful}
use Rattle.ff_theory.specs.Values.{IsPlane}
use Rattle.ff_elem.specs.Elem.{x_in, y_in}
use Rattle.ff_data.specs.declared.order.Order.{Order}
use Rattle.ff_data.specs.declared.point.Point.{Point}
use Rattle.ff_data.specs.declared.system.System.{System}
use Rattle.ff_data.specs.Systems.{IsSystem}
use Rattle.ff_forms.specs.declared.functions.Functions.{Functions}
use Rattle.ff_systems.specs.Places.{IsPlace, HasLeastFunctions}
use Rattle.ff_functions.specs.Answers.{HasLeastUpTo, AreLeastOf}
use Rattle.ff_describe.specs.Described.{frame_of, IsSystemWhereLeast, IsUnwrittenWhereLeast}
use Rattle.ff_poles.specs.Found.{HasSystemLike, IsSystemAt}
use Rattle.ff_poles.proofs.WrittenSame.{written}

module _ {F : Elements ℕ} (L : Lawful F) (f : List (List ℕ)) (o : Order) (p : Point)
    (other : Order) where
  -- the functions of a pole system
  pub system_least : (J : ℕ) (s : System) → IsSystem L f o p other J s
      → HasLeastFunctions L f o p other s
  system_least J s h = record {
    positive = h.positive;
    is_number = h.is_number;
    least = h.least;
    z = h.z;
    basis = h.basis;
  }

  module _ (J : ℕ) (alike : System → Type 0) where
    -- least functions up to the bound
    pub system_up_to : HasSystemLike L f o p other J alike → HasLeastUpTo L f o p other alike J
    system_up_to h = record {
      system = h.system;
      least = system_least J h.system h.is_system;
      count = h.is_system.form.weights;
      e = h.is_system.within.e;
      weights = h.is_system.within.weights;
      same = h.same;
    }

module _ (F : Elements ℕ) (L : Lawful F)
    (onto : (a : F.carrier) → (e : ℕ) × (IsElement F e × (F.value e ≡ a))) (f : List (List ℕ))
    (hf : IsPlane F f) (two : 1 < length f) (o : Order) (p : Point) (other : Order)
    (place : IsPlace L f o p other) (J : ℕ) (alike : System → Type 0) (t : Functions)
    (least : AreLeastOf L f o p other t) (count : length t.weights ≡ t.e) (e : t.e ≤ J) where
  -- the answer for these functions
  pub described_at : (r : Option System) → IfSome r (IsSystemWhereLeast L f J t)
      → IfNone r (IsUnwrittenWhereLeast L f J t) → IsSystemAt L f o p other J alike r
  described_at (Some s) some none = some o p other place least e
  described_at None some none = λ h.
      let s = h.system in
      let k = h.is_system in
      let g : HasLeastFunctions L f o p other s = system_least L f o p other J s k in
      none o p other place least (
        written F L onto f hf two o p other place s (frame_of t) g least k.form.weights count s.x.q
            k.form.x.q k.form.x.monic J k.within.x_den (x_in L f) _ k.within.x_num k.x,
        written F L onto f hf two o p other place s (frame_of t) g least k.form.weights count s.y.q
            k.form.y.q k.form.y.monic J k.within.y_den (y_in L f) _ k.within.y_num k.y,
      )
