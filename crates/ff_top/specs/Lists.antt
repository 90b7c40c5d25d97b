-- What `iso` and `aut` say of a job, and `make` of a number: the list of isomorphisms of two
-- equations f and g, or why there is none. Over a field whose laws are L.
use Rattle.std.specs.Prelude.{◌≡◌, ◌≤◌, ◌⊎◌, ℕ, List}
use Rattle.ff_theory.specs.Ring.{Elements, IsCommRing, IsTested, IsFiniteField}
use Rattle.ff_theory.specs.Lawful.{Lawful}
use Rattle.ff_prime.specs.declared.prime.Prime.{Prime}
use Rattle.ff_prime.specs.Number.{number_of}
use Rattle.ff_data.specs.declared.order.Refusal.{Refusal}
use Rattle.ff_data.specs.declared.pair.IsoList.{IsoList}
use Rattle.ff_list.specs.Lists.{AreAdmitted, IsRefused, IsTrueList}
use Rattle.ff_make.specs.Generator.{IsGenerated}
use Rattle.ff_text.specs.declared.job.Job.{Job}
use Rattle.ff_text.specs.declared.layout.Mode.{Mode}
use Rattle.ff_text.specs.Lists.{list_text, made_text}
use Rattle.ff_text.specs.Refusals.{HasLine, refusal_text}
use Rattle.ff_top.specs.declared.status.Status.{Status}
use Rattle.ff_top.specs.declared.status.Status.TheVariants.{Done}
use Rattle.ff_top.specs.Check.{field_of}
use Rattle.ff_top.specs.Refusals.{status_of_refusal}

module _ {F : Elements ℕ} (L : Lawful F) (f g : List (List ℕ)) where
  -- both equations are separable in y and irreducible, and this is the text of a list of true
  -- entries
  pub record AnswersList (print : IsoList → List ℕ) (status : Status) (text : List ℕ)
      : Type 0 where
    pub admitted : AreAdmitted L f g
    pub list : IsoList
    pub is_list : IsTrueList L f g list.entries
    pub status_is : status ≡ Done
    pub text_is : text ≡ print list

  -- the list is refused, and this is the line of the refusal
  pub record AnswersRefused (status : Status) (text : List ℕ) : Type 0 where
    pub found : Refusal
    pub is_refused : IsRefused L f g found
    pub has_line : HasLine found
    pub status_is : status ≡ status_of_refusal found
    pub text_is : text ≡ refusal_text found

  abbrev pub IsListAnswer : (IsoList → List ℕ) → Status → List ℕ → Type 0
  IsListAnswer print status text = AnswersList print status text ⊎ AnswersRefused status text

-- The residues modulo the prime are a finite field, and this is the answer for two equations over
-- that field, where a list is printed so.
pub record IsListed (k : Prime) (f g : List (List ℕ)) (print : IsoList → List ℕ)
    (status : Status) (text : List ℕ) : Type 0 where
  pub ring : IsCommRing (field_of k).ring
  pub tested : IsTested (field_of k).ring
  pub finite : IsFiniteField (field_of k).field
  pub answer : IsListAnswer {F = field_of k}
      (record { laws = ring; tests = tested; finite = finite }) f g print status text

-- the answer to the job, which may raise the counter
pub record IsJobListed (mode : Mode)
    (job : Job) (before after : ℕ) (status : Status) (text : List ℕ) : Type 0 where
  pub later : before ≤ after
  pub listed : IsListed job.prime job.first job.second (list_text mode) status text

-- the answer for the equations of the number
pub record IsMade (n : ℕ) (status : Status) (text : List ℕ) : Type 0 where
  pub prime : Prime
  pub first : List (List ℕ)
  pub second : List (List ℕ)
  pub generated : IsGenerated n prime first second
  pub listed : IsListed prime first second (made_text (number_of prime) first second) status text
