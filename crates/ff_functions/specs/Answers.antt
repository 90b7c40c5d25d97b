-- The functions that a search found, for an equation f over a field whose laws are L.
use Rattle.std.specs.Prelude.{◌≡◌, ℕ, ◌≤◌, List, length, Option, None, Some}
use Rattle.std.specs.List.{All}
use Rattle.ff_theory.specs.Ring.{Elements}
use Rattle.ff_theory.specs.Lawful.{Lawful}
use Rattle.ff_data.specs.declared.order.Chart.{Chart}
use Rattle.ff_data.specs.declared.order.Order.{Order}
use Rattle.ff_data.specs.declared.point.Point.{Point}
use Rattle.ff_data.specs.declared.system.System.{System}
use Rattle.ff_forms.specs.Forms.{HasFunctionsForm}
use Rattle.ff_forms.specs.declared.functions.Functions.{Functions}
use Rattle.ff_systems.specs.Places.{frame, HasLeastFunctions}
use Rattle.ff_functions.specs.declared.answer.Answer.{Answer}
use Rattle.ff_functions.specs.declared.answer.Answer.TheVariants.{Found, Differs, Short}
use Rattle.ff_functions.specs.declared.frame.Frame.{Frame}
use Rattle.ff_functions.specs.declared.search.Outcome.{Outcome}
use Rattle.ff_functions.specs.declared.search.Outcome.TheVariants.{Complete, Differs as Unlike}
use Rattle.ff_functions.specs.declared.search.Outcome.TheVariants.{Short as Incomplete}
use Rattle.ff_functions.specs.Combined.{AreAssembled}

module _ {F : Elements ℕ} (L : Lawful F) (f : List (List ℕ)) where
  -- they have their form
  abbrev pub IsAnswer : Answer → Type 0
  IsAnswer (Found s) = HasFunctionsForm L f s
  IsAnswer Differs = Unit {0}
  IsAnswer Short = Unit {0}

  -- the answer is that of the outcome, with the functions of its numbers
  abbrev pub IsAnswerOf : Chart → List ℕ → Frame → Outcome → Answer → Type 0
  IsAnswerOf chart d s (Complete r) (Found t) = AreAssembled L f chart d s r t
  IsAnswerOf chart d s (Complete r) Differs = ⊥
  IsAnswerOf chart d s (Complete r) Short = ⊥
  IsAnswerOf chart d s Unlike (Found t) = ⊥
  IsAnswerOf chart d s Unlike Differs = Unit {0}
  IsAnswerOf chart d s Unlike Short = ⊥
  IsAnswerOf chart d s Incomplete (Found t) = ⊥
  IsAnswerOf chart d s Incomplete Differs = ⊥
  IsAnswerOf chart d s Incomplete Short = Unit {0}

  -- there are least functions at p with e and weights up to a bound, that are alike
  pub record HasLeastUpTo (o : Order) (p : Point) (other : Order) (alike : System → Type 0)
      (bound : ℕ) : Type 0 where
    pub system : System
    pub least : HasLeastFunctions L f o p other system
    pub count : length system.weights ≡ system.e
    pub e : system.e ≤ bound
    pub weights : All (λ m. m ≤ bound) system.weights
    pub same : alike system

  abbrev pub AreLeastOf : Order → Point → Order → Functions → Type 0
  AreLeastOf o p other t = HasLeastFunctions L f o p other (frame t.e t.z t.b t.weights)

  -- least functions, or none that are alike up to any bound, or up to this one
  abbrev pub IsAnswerAt : Order → Point → Order → (System → Type 0) → ℕ → Answer → Type 0
  IsAnswerAt o p other alike bound (Found t) = AreLeastOf o p other t
  IsAnswerAt o p other alike bound Differs = (n : ℕ) → ¬ HasLeastUpTo o p other alike n
  IsAnswerAt o p other alike bound Short = ¬ HasLeastUpTo o p other alike bound

  -- least functions, or none that are alike up to the bound
  abbrev pub AreFunctionsAt : Order → Point → Order → (System → Type 0) → ℕ
      → Option Functions → Type 0
  AreFunctionsAt o p other alike bound (Some t) = AreLeastOf o p other t
  AreFunctionsAt o p other alike bound None = ¬ HasLeastUpTo o p other alike bound
