-- What `order` says of a job: the lists of both maximal orders of its equation, or why there is no
-- answer. For an equation f over a field whose laws are L.
use Rattle.std.specs.Prelude.{◌≡◌, ◌⊎◌, ℕ, List}
use Rattle.ff_theory.specs.Ring.{Elements, IsCommRing, IsTested, IsFiniteField}
use Rattle.ff_theory.specs.Lawful.{Lawful}
use Rattle.ff_elem.specs.declared.elem.Elem.{Elem}
use Rattle.ff_data.specs.declared.order.Chart.{Chart}
use Rattle.ff_data.specs.declared.order.Chart.TheVariants.{Finite, Infinite}
use Rattle.ff_data.specs.declared.order.Refusal.{Refusal}
use Rattle.ff_data.specs.declared.order.Refusal.TheVariants as refusal
use Rattle.ff_data.specs.Orders.{IsSeparable, IsIntegral}
use Rattle.ff_sep.specs.declared.separability.SepFault.TheVariants as fault
use Rattle.ff_sep.specs.Faults.{IsCause}
use Rattle.ff_basis.specs.OrderList.{IsOrderList}
use Rattle.ff_text.specs.declared.job.Job.{Job}
use Rattle.ff_text.specs.Lists.{order_text}
use Rattle.ff_text.specs.Refusals.{refusal_text}
use Rattle.ff_top.specs.declared.status.Status.{Status}
use Rattle.ff_top.specs.declared.status.Status.TheVariants.{Done, Premise}
use Rattle.ff_top.specs.Check.{field_of}

module _ {F : Elements ℕ} (L : Lawful F) (f : List (List ℕ)) where
  -- the canonical list of the finite-integral, or of the infinity-integral, elements
  abbrev pub IsListOf : Chart → List Elem → Type 0
  IsListOf chart elems = IsOrderList L f chart (IsIntegral L f chart) elems

  -- the text of both lists
  pub record IsOrderText (text : List ℕ) : Type 0 where
    pub finite : List Elem
    pub infinite : List Elem
    pub is_finite : IsListOf Finite finite
    pub is_infinite : IsListOf Infinite infinite
    pub text_is : text ≡ order_text finite infinite

  -- the equation is separable in y, and this is the text of its orders
  pub record AnswersOrders (status : Status) (text : List ℕ) : Type 0 where
    pub separable : IsSeparable L f
    pub status_is : status ≡ Done
    pub orders : IsOrderText text

  -- Equation 1 is refused: its derivative in y is 0, or it is not 0 and has the first of the two
  -- factors of the equation as a divisor.
  abbrev pub IsRefusal : Refusal → Type 0
  IsRefusal (refusal.Inseparable w) = (w ≡ 1) × IsCause L f fault.Inseparable
  IsRefusal (refusal.Reducible w g h) = (w ≡ 1) × IsCause L f (fault.Square g h)
  IsRefusal (refusal.NoRationalPlace finite infinite) = ⊥
  IsRefusal refusal.PoleLimit = ⊥
  IsRefusal (refusal.SmallGenus system) = ⊥
  IsRefusal refusal.NoMemory = ⊥

  -- the equation is refused, and this is the line of the refusal
  pub record AnswersRefusal (status : Status) (text : List ℕ) : Type 0 where
    pub found : Refusal
    pub is_refusal : IsRefusal found
    pub status_is : status ≡ Premise
    pub text_is : text ≡ refusal_text found

  abbrev pub IsOrderAnswer : Status → List ℕ → Type 0
  IsOrderAnswer status text = AnswersOrders status text ⊎ AnswersRefusal status text

-- The residues modulo the prime of the job are a finite field, and this is the answer for the
-- equation of the job over that field.
pub record IsAnswered (job : Job) (status : Status) (text : List ℕ) : Type 0 where
  pub ring : IsCommRing (field_of job.prime).ring
  pub tested : IsTested (field_of job.prime).ring
  pub finite : IsFiniteField (field_of job.prime).field
  pub answer : IsOrderAnswer {F = field_of job.prime}
      (record { laws = ring; tests = tested; finite = finite }) job.first status text

-- the answer to the job, which does not tick the counter
pub record IsOrdered
    (job : Job) (before after : ℕ) (status : Status) (text : List ℕ) : Type 0 where
  pub unticked : after ≡ before
  pub answered : IsAnswered job status text
