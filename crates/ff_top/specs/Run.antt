-- What a run reads, answers and writes.
use Rattle.std.specs.Prelude.{◌≡◌, ◌+◌, ◌<◌, ◌≤◌, ◌⊎◌, ℕ, List, length, Option}
use Rattle.std.specs.Io.KnownBytes.{Appends, IsAtEnd}
use Rattle.ff_io.specs.Bytes.{AppendsProperPrefix, TakesSome, TakesUpTo}
use Rattle.ff_text.specs.declared.job.TheConstants.{MAX_BYTES}
use Rattle.ff_text.specs.declared.layout.Mode.{Mode}
use Rattle.ff_top.specs.declared.status.Status.{Status}
use Rattle.ff_top.specs.declared.status.Status.TheVariants.{ReadFault, WriteFault, NoMemory, Usage}
use Rattle.ff_top.specs.declared.command.Command.{Command}
use Rattle.ff_top.specs.declared.command.Command.TheVariants.{Read, Make}
use Rattle.ff_top.specs.Words.{IsCommand, HasCommand, usage_text, read_fault_text}
use Rattle.ff_top.specs.Input.{IsInputAnswer}
use Rattle.ff_top.specs.Commands.{Judges}
use Rattle.ff_top.specs.Lists.{IsMade}

-- the most bytes that a run takes from its source
abbrev pub read_limit : ℕ
read_limit = MAX_BYTES + 1

-- the words are no command, and nothing was read
pub record AnswersUsage (words : List (List ℕ)) (old new : Option (List ℕ))
    (before after : ℕ) (status : Status) (text : List ℕ) : Type 0 where
  pub no_command : ¬ HasCommand words
  pub unread : new ≡ old
  pub unticked : after ≡ before
  pub status_is : status ≡ Usage
  pub text_is : text ≡ usage_text

-- the source failed after a part of its bytes
pub record AnswersReadFault (old new : Option (List ℕ)) (rose : Type 0)
    (before after : ℕ) (status : Status) (text : List ℕ) : Type 0 where
  pub cause : rose
  pub taken : TakesSome read_limit old new
  pub unticked : after ≡ before
  pub status_is : status ≡ ReadFault
  pub text_is : text ≡ read_fault_text

-- The bytes of the source were taken, or as many as the limit where it held more, and they are
-- answered.
pub record AnswersBytes (mode : Mode) (old new : Option (List ℕ))
    (before after : ℕ) (status : Status) (text : List ℕ) : Type 0 where
  pub bytes : List ℕ
  pub taken : TakesUpTo read_limit old new bytes
  pub end : length bytes < read_limit → IsAtEnd new
  pub answer : IsInputAnswer mode (Judges mode) bytes before after status text

-- An answer of a command that reads. The source had `old` left before and has `new` now, and its
-- count of faults rose where `rose` holds.
abbrev pub IsReadAnswer : Mode → Option (List ℕ) → Option (List ℕ) → Type 0
    → ℕ → ℕ → Status → List ℕ → Type 0
IsReadAnswer mode old new rose before after status text =
    AnswersReadFault old new rose before after status text
    ⊎ AnswersBytes mode old new before after status text

-- nothing was read, and this is the answer for the equations of the number
pub record AnswersMake (n : ℕ) (old new : Option (List ℕ))
    (before after : ℕ) (status : Status) (text : List ℕ) : Type 0 where
  pub unread : new ≡ old
  pub later : before ≤ after
  pub made : IsMade n status text

-- an answer of the command
abbrev pub IsAnswerOf : Command → Option (List ℕ) → Option (List ℕ) → Type 0
    → ℕ → ℕ → Status → List ℕ → Type 0
IsAnswerOf (Read m) old new rose before after status text =
    IsReadAnswer m old new rose before after status text
IsAnswerOf (Make n) old new rose before after status text =
    AnswersMake n old new before after status text

-- the words are a command, and this is an answer of it
pub record AnswersCommand (words : List (List ℕ)) (old new : Option (List ℕ)) (rose : Type 0)
    (before after : ℕ) (status : Status) (text : List ℕ) : Type 0 where
  pub command : Command
  pub is_command : IsCommand words command
  pub answer : IsAnswerOf command old new rose before after status text

-- what a run of these words may answer: the counter `tests` before and after, a status and a text
abbrev pub IsAnswer : List (List ℕ) → Option (List ℕ) → Option (List ℕ) → Type 0
    → ℕ → ℕ → Status → List ℕ → Type 0
IsAnswer words old new rose before after status text =
    AnswersUsage words old new before after status text
    ⊎ AnswersCommand words old new rose before after status text

-- What was written at the end of a run: nothing where memory ran out, the whole text of an answer,
-- or a proper prefix of one where the sink failed.
abbrev pub Writes : (Status → List ℕ → Type 0) → Option (List ℕ) → Option (List ℕ)
    → Status → Type 0
Writes answers old new NoMemory = new ≡ old
Writes answers old new WriteFault =
    (status : Status) × (text : List ℕ) × answers status text × AppendsProperPrefix old new text
Writes answers old new status = (text : List ℕ) × answers status text × Appends old new text

-- The end of a run that has a status and a text: the whole text was written, or the sink failed
-- after a part of it.
abbrev pub Ends : Status → List ℕ → Option (List ℕ) → Option (List ℕ) → Status → Type 0
Ends status text old new result =
    ((result ≡ status) × Appends old new text)
    ⊎ ((result ≡ WriteFault) × AppendsProperPrefix old new text)
