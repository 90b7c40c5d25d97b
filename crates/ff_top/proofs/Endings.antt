-- The ends of a run.
use Rattle.std.proofs.Common.{◌≡◌, ◌∙◌, inl, inr, ℕ, List, Option, sym, subst}
use Rattle.std.specs.Io.KnownBytes.{Appends}
use Rattle.ff_theory.specs.Ring.{Elements}
use Rattle.ff_theory.specs.Lawful.{Lawful}
use Rattle.ff_text.specs.declared.fault.TextFault.{TextFault}
use Rattle.ff_text.specs.declared.fault.TextFault.TheVariants as fault
use Rattle.ff_text.specs.declared.layout.Mode.{Mode}
use Rattle.ff_text.specs.declared.layout.Mode.TheVariants as mode
use Rattle.ff_text.specs.declared.job.Job.{Job}
use Rattle.ff_text.specs.Refusals.{HasLine}
use Rattle.ff_data.specs.declared.order.Refusal.{Refusal}
use Rattle.ff_data.specs.declared.order.Refusal.TheVariants as refusal
use Rattle.ff_data.specs.declared.pair.IsoList.{IsoList}
use Rattle.ff_top.specs.declared.status.Status.{Status}
use Rattle.ff_top.specs.declared.status.Status.TheVariants.{Done, BadInput, Premise, Limit}
use Rattle.ff_top.specs.declared.status.Status.TheVariants.{ReadFault, WriteFault, NoMemory, Usage}
use Rattle.ff_top.specs.declared.command.Command.{Command}
use Rattle.ff_top.specs.declared.command.Command.TheVariants.{Read, Make}
use Rattle.ff_top.specs.Input.{IsFaultOf, IsInputAnswer, status_of}
use Rattle.ff_top.specs.Order.{IsOrderAnswer}
use Rattle.ff_top.specs.Refusals.{status_of_refusal}
use Rattle.ff_top.specs.Lists.{IsListAnswer}
use Rattle.ff_top.specs.Commands.{Judges}
use Rattle.ff_top.specs.Run.{Ends, IsAnswerOf, IsReadAnswer, Writes}

-- a status that stands with a text of its own
abbrev pub HasText : Status → Type 0
HasText NoMemory = ⊥
HasText WriteFault = ⊥
HasText _ = Unit {0}

-- one that the bytes of an input can have
abbrev pub IsOfInput : Status → Type 0
IsOfInput Done = Unit {0}
IsOfInput BadInput = Unit {0}
IsOfInput Premise = Unit {0}
IsOfInput Limit = Unit {0}
IsOfInput _ = ⊥

fault_is_of_input : (mode : Mode) (bytes : List ℕ) (f : TextFault) → IsFaultOf mode bytes f
    → IsOfInput (status_of f)
fault_is_of_input mode bytes fault.NoMemory h = absurd h
fault_is_of_input mode bytes (fault.Syntax at) h = tt
fault_is_of_input mode bytes fault.NotPrime h = tt
fault_is_of_input mode bytes (fault.NoY w) h = tt
fault_is_of_input mode bytes (fault.ZeroDenominator w) h = tt
fault_is_of_input mode bytes (fault.Degree w) h = tt

order_is_of_input : {F : Elements ℕ} (L : Lawful F) (f : List (List ℕ)) (status : Status)
    (text : List ℕ) → IsOrderAnswer L f status text → IsOfInput status
order_is_of_input L f status text (inl h) = subst (λ s. IsOfInput s) (sym h.status_is) tt
order_is_of_input L f status text (inr h) = subst (λ s. IsOfInput s) (sym h.status_is) tt

refusal_is_of_input : (r : Refusal) → HasLine r → IsOfInput (status_of_refusal r)
refusal_is_of_input (refusal.Inseparable w) h = tt
refusal_is_of_input (refusal.Reducible w g h) l = tt
refusal_is_of_input (refusal.NoRationalPlace finite infinite) h = tt
refusal_is_of_input refusal.PoleLimit h = tt
refusal_is_of_input (refusal.SmallGenus s) h = tt
refusal_is_of_input refusal.NoMemory h = absurd h

list_is_of_input : {F : Elements ℕ} (L : Lawful F) (f g : List (List ℕ))
    (print : IsoList → List ℕ) (status : Status) (text : List ℕ)
    → IsListAnswer L f g print status text → IsOfInput status
list_is_of_input L f g print status text (inl h) = subst (λ s. IsOfInput s) (sym h.status_is) tt
list_is_of_input L f g print status text (inr h) =
    subst (λ s. IsOfInput s) (sym h.status_is) (refusal_is_of_input h.found h.has_line)

judged_is_of_input : (mode : Mode) (job : Job) (before after : ℕ) (status : Status)
    (text : List ℕ) → Judges mode job before after status text → IsOfInput status
judged_is_of_input mode.Check job before after status text h =
    subst (λ s. IsOfInput s) (sym h.status_is) tt
judged_is_of_input mode.Order job before after status text h =
    order_is_of_input _ job.first status text h.answered.answer
judged_is_of_input mode.Iso job before after status text h =
    list_is_of_input _ job.first job.second _ status text h.listed.answer
judged_is_of_input mode.Aut job before after status text h =
    list_is_of_input _ job.first job.second _ status text h.listed.answer

answer_is_of_input : (mode : Mode) (bytes : List ℕ) (before after : ℕ) (status : Status)
    (text : List ℕ) → IsInputAnswer mode (Judges mode) bytes before after status text
    → IsOfInput status
answer_is_of_input mode bytes before after status text (inl h) =
    subst (λ s. IsOfInput s) (sym h.status_is) tt
answer_is_of_input mode bytes before after status text (inr (inl h)) =
    subst (λ s. IsOfInput s) (sym h.status_is) (fault_is_of_input mode bytes h.found h.is_fault)
answer_is_of_input mode bytes before after status text (inr (inr h)) =
    let j = h.judged.holds h.judged.text h.judged.derives in
    judged_is_of_input mode j.job before after status text j.judged

of_input_has_text : (status : Status) → IsOfInput status → HasText status
of_input_has_text Done h = tt
of_input_has_text BadInput h = tt
of_input_has_text Premise h = tt
of_input_has_text Limit h = tt
of_input_has_text ReadFault h = absurd h
of_input_has_text WriteFault h = absurd h
of_input_has_text NoMemory h = absurd h
of_input_has_text Usage h = absurd h

whole : (P : Status → List ℕ → Type 0) (status : Status) (text : List ℕ) (old new : Option (List ℕ))
    → HasText status → P status text → Appends old new text → Writes P old new status
whole P Done text old new k p a = (text, p, a)
whole P BadInput text old new k p a = (text, p, a)
whole P Premise text old new k p a = (text, p, a)
whole P Limit text old new k p a = (text, p, a)
whole P ReadFault text old new k p a = (text, p, a)
whole P Usage text old new k p a = (text, p, a)
whole P NoMemory text old new k p a = absurd k
whole P WriteFault text old new k p a = absurd k

-- an end with an answer of the run is what the run promises to write
pub ends_writes : (P : Status → List ℕ → Type 0) (status : Status) (text : List ℕ)
    (old new : Option (List ℕ)) (result : Status) → HasText status → P status text
    → Ends status text old new result → Writes P old new result
ends_writes P status text old new result k p (inl (e, a)) =
    subst (λ s. Writes P old new s) (sym e) (whole P status text old new k p a)
ends_writes P status text old new result k p (inr (e, a)) =
    subst (λ s. Writes P old new s) (sym e) (status, text, p, a)

-- the answer of a command has a text
module _ (mode : Mode) (old new : Option (List ℕ)) (rose : Type 0) (before after : ℕ)
    (status : Status) (text : List ℕ) where
  pub read_answer_has_text : IsReadAnswer mode old new rose before after status text
      → HasText status
  read_answer_has_text (inl a) = subst (λ s. HasText s) (sym a.status_is) tt
  read_answer_has_text (inr a) =
      of_input_has_text status (answer_is_of_input mode a.bytes before after status text a.answer)

pub answer_has_text : (command : Command) (old new : Option (List ℕ)) (rose : Type 0)
    (before after : ℕ) (status : Status) (text : List ℕ)
    → IsAnswerOf command old new rose before after status text → HasText status
answer_has_text (Read m) old new rose before after status text h =
    read_answer_has_text m old new rose before after status text h
answer_has_text (Make n) old new rose before after status text h =
    let made = h.made in of_input_has_text status
    (list_is_of_input _ made.first made.second _ status text made.listed.answer)

-- a run with an answer is not lost
pub not_lost : (status : Status) (text : List ℕ) (old new : Option (List ℕ)) (result : Status)
    → HasText status → Ends status text old new result → ¬ (result ≡ NoMemory)
not_lost status text old new result k (inl (e, a)) h = subst (λ s. HasText s) (sym e ∙ h) k
not_lost status text old new result k (inr (e, a)) h = absurd (write_fault_apart (sym e ∙ h))
  where
    write_fault_apart : ¬ (WriteFault ≡ NoMemory)
    write_fault_apart d = cc

-- a run that ends with a read fault has an answer of that status
pub is_read_fault : (status : Status) (text : List ℕ) (old new : Option (List ℕ))
    (result : Status) → Ends status text old new result → result ≡ ReadFault
    → status ≡ ReadFault
is_read_fault status text old new result (inl (e, a)) h = sym e ∙ h
is_read_fault status text old new result (inr (e, a)) h = absurd (faults_apart (sym e ∙ h))
  where
    faults_apart : ¬ (WriteFault ≡ ReadFault)
    faults_apart d = cc

-- an answer with a read fault has its cause
pub fault_cause : (command : Command) (old new : Option (List ℕ)) (rose : Type 0)
    (before after : ℕ) (status : Status) (text : List ℕ)
    → IsAnswerOf command old new rose before after status text → status ≡ ReadFault → rose
fault_cause (Read m) old new rose before after status text (inl a) e = a.cause
fault_cause (Read m) old new rose before after status text (inr a) e =
    absurd (subst (λ s. IsOfInput s) e
    (answer_is_of_input m a.bytes before after status text a.answer))
fault_cause (Make n) old new rose before after status text h e =
    let made = h.made in absurd (subst (λ s. IsOfInput s) e
    (list_is_of_input _ made.first made.second _ status text made.listed.answer))
