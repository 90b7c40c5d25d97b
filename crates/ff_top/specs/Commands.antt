-- What each command says of a job, and how it may raise the counters.
use Rattle.std.specs.Prelude.{◌≡◌, ◌≤◌, ◌⊎◌, ℕ, List}
use Rattle.ff_text.specs.declared.layout.Mode.{Mode}
use Rattle.ff_text.specs.declared.layout.Mode.TheVariants as mode
use Rattle.ff_text.specs.declared.job.Job.{Job}
use Rattle.ff_text.specs.Values.{HasEquations}
use Rattle.ff_top.specs.declared.status.Status.{Status}
use Rattle.ff_top.specs.declared.command.Command.{Command}
use Rattle.ff_top.specs.declared.command.Command.TheVariants.{Read, Make}
use Rattle.ff_top.specs.Words.{HasCommand, IsCommand}
use Rattle.ff_top.specs.Input.{RisesOnceAtMost}
use Rattle.ff_top.specs.Check.{IsChecked, IsSound}
use Rattle.ff_top.specs.Order.{IsOrdered}
use Rattle.ff_top.specs.Lists.{IsJobListed}

-- what the command whose input is read in this mode says of a job: the counter `tests` before and
-- after, the status and the text that it answers
abbrev pub Judges : Mode → Job → ℕ → ℕ → Status → List ℕ → Type 0
Judges mode.Iso job before after status text = IsJobListed mode.Iso job before after status text
Judges mode.Aut job before after status text = IsJobListed mode.Aut job before after status text
Judges mode.Check job before after status text = IsChecked job before after status text
Judges mode.Order job before after status text = IsOrdered job before after status text

-- ---- Counters

-- how `tests` may rise in a mode
abbrev pub TestsFor : Mode → ℕ → ℕ → Type 0
TestsFor mode.Check before after = RisesOnceAtMost before after
TestsFor mode.Order before after = after ≡ before
TestsFor _ before after = before ≤ after

-- how `nodes` may rise in a mode
abbrev pub NodesFor : Mode → ℕ → ℕ → Type 0
NodesFor mode.Check before after = after ≡ before
NodesFor mode.Order before after = after ≡ before
NodesFor _ before after = before ≤ after

-- how they may rise by a command
abbrev pub TestsOf : Command → ℕ → ℕ → Type 0
TestsOf (Read m) before after = TestsFor m before after
TestsOf (Make n) before after = before ≤ after

abbrev pub NodesOf : Command → ℕ → ℕ → Type 0
NodesOf (Read m) before after = NodesFor m before after
NodesOf (Make n) before after = before ≤ after

-- the words are a command by which a counter may rise so, or they are none and it stays
abbrev pub Counts : (Command → ℕ → ℕ → Type 0) → List (List ℕ) → ℕ → ℕ → Type 0
Counts rises words before after =
    ((c : Command) × IsCommand words c × rises c before after)
    ⊎ ((¬ HasCommand words) × (after ≡ before))

-- ---- Commands in code

-- the command reads the source
abbrev pub IsReading : Command → Type 0
IsReading (Read m) = Unit {0}
IsReading (Make n) = ⊥

-- what is known of a job of the mode
abbrev pub IsSoundFor : Mode → Job → Type 0
IsSoundFor mode.Check job = IsSound job
IsSoundFor _ job = HasEquations job
