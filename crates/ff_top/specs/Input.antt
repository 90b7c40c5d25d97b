-- What a command answers to the bytes of its input. An answer is a status and a text, and it has
-- the counter `tests` as it was before and as it is after.
use Rattle.std.specs.Prelude.{◌≡◌, ◌+◌, ◌<◌, ◌≤◌, ◌⊎◌, ℕ, List, length}
use Rattle.ff_text.specs.declared.fault.TextFault.{TextFault}
use Rattle.ff_text.specs.declared.fault.TextFault.TheVariants as fault
use Rattle.ff_text.specs.declared.job.TheConstants.{MAX_BYTES}
use Rattle.ff_text.specs.declared.layout.Mode.{Mode}
use Rattle.ff_text.specs.Grammar.{Text, Derives, IsFaultAt}
use Rattle.ff_text.specs.declared.job.Job.{Job}
use Rattle.ff_text.specs.Values.{IsFirst, Says, IsJob}
use Rattle.ff_text.specs.Printed.{fault_text}
use Rattle.ff_top.specs.declared.status.Status.{Status}
use Rattle.ff_top.specs.declared.status.Status.TheVariants.{BadInput, Limit, NoMemory}
use Rattle.ff_top.specs.Words.{too_long_text}

-- the counter rose by one at most
abbrev pub RisesOnceAtMost : ℕ → ℕ → Type 0
RisesOnceAtMost before after = (after ≡ before) ⊎ (after ≡ before + 1)

-- the bytes are a text of the mode, and P holds for it
pub record HoldsForText (mode : Mode) (bytes : List ℕ) (P : Text → Type 0) : Type 0 where
  pub text : Text
  pub derives : Derives mode bytes text
  pub holds : (v : Text) → Derives mode bytes v → P v

-- ---- Faults

-- the first fault of the bytes: they are no text, or the text has a fault
abbrev pub IsFaultOf : Mode → List ℕ → TextFault → Type 0
IsFaultOf mode bytes (fault.Syntax at) = IsFaultAt mode bytes at
IsFaultOf mode bytes fault.NoMemory = ⊥
IsFaultOf mode bytes f = HoldsForText mode bytes (λ v. IsFirst v f)

abbrev pub status_of : TextFault → Status
status_of (fault.Degree w) = Limit
status_of fault.NoMemory = NoMemory
status_of _ = BadInput

-- ---- Answers

-- there are too many bytes
pub record AnswersTooLong
    (bytes : List ℕ) (before after : ℕ) (status : Status) (text : List ℕ) : Type 0 where
  pub too_long : MAX_BYTES < length bytes
  pub unticked : after ≡ before
  pub status_is : status ≡ Limit
  pub text_is : text ≡ too_long_text

-- the bytes have a fault
pub record AnswersFault (mode : Mode)
    (bytes : List ℕ) (before after : ℕ) (status : Status) (text : List ℕ) : Type 0 where
  pub within : length bytes ≤ MAX_BYTES
  pub found : TextFault
  pub is_fault : IsFaultOf mode bytes found
  pub unticked : after ≡ before
  pub status_is : status ≡ status_of found
  pub text_is : text ≡ fault_text found

-- the text has no fault, and this is what the command says of its job
pub record IsJudged (judges : Job → ℕ → ℕ → Status → List ℕ → Type 0)
    (v : Text) (before after : ℕ) (status : Status) (text : List ℕ) : Type 0 where
  pub faultless : (f : TextFault) → ¬ Says v f
  pub job : Job
  pub is_job : IsJob v job
  pub judged : judges job before after status text

-- the bytes are a text without a fault, and the command answers its job
pub record AnswersText (mode : Mode) (judges : Job → ℕ → ℕ → Status → List ℕ → Type 0)
    (bytes : List ℕ) (before after : ℕ) (status : Status) (text : List ℕ) : Type 0 where
  pub within : length bytes ≤ MAX_BYTES
  pub judged : HoldsForText mode bytes (λ v. IsJudged judges v before after status text)

-- an answer of the command whose input is read in this mode, and which says this of a job
abbrev pub IsInputAnswer : Mode → (Job → ℕ → ℕ → Status → List ℕ → Type 0)
    → List ℕ → ℕ → ℕ → Status → List ℕ → Type 0
IsInputAnswer mode judges bytes before after status text =
    AnswersTooLong bytes before after status text
    ⊎ (AnswersFault mode bytes before after status text
    ⊎ AnswersText mode judges bytes before after status text)
