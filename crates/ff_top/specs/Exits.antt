-- The exit numbers of the statuses.
use Rattle.std.specs.Prelude.{ℕ}
use Rattle.ff_top.specs.declared.status.Status.{Status}
use Rattle.ff_top.specs.declared.status.Status.TheVariants.{Done, BadInput, Premise, Limit}
use Rattle.ff_top.specs.declared.status.Status.TheVariants.{ReadFault, WriteFault, NoMemory, Usage}

abbrev pub exit_of : Status → ℕ
exit_of Done = 0
exit_of BadInput = 1
exit_of Premise = 2
exit_of Limit = 3
exit_of ReadFault = 4
exit_of WriteFault = 5
exit_of NoMemory = 6
exit_of Usage = 64
