-- The statuses of refusals.
use Rattle.ff_data.specs.declared.order.Refusal.{Refusal}
use Rattle.ff_data.specs.declared.order.Refusal.TheVariants as refusal
use Rattle.ff_top.specs.declared.status.Status.{Status}
use Rattle.ff_top.specs.declared.status.Status.TheVariants.{Premise, Limit, NoMemory}

abbrev pub status_of_refusal : Refusal → Status
status_of_refusal refusal.PoleLimit = Limit
status_of_refusal refusal.NoMemory = NoMemory
status_of_refusal _ = Premise
