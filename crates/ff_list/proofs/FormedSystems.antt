-- A system by its form, from what a search for one says.
use Rattle.std.proofs.Common.{Result, Ok, Err, Option, Some, None, IfOk, IfSome, ℕ, List}
use Rattle.ff_theory.specs.Ring.{Elements}
use Rattle.ff_theory.specs.Lawful.{Lawful}
use Rattle.ff_data.specs.declared.system.System.{System}
use Rattle.ff_ring.specs.Ring.{HasTable}
use Rattle.ff_forms.specs.Forms.{IsWithinLimit}
use Rattle.ff_describe.specs.Described.{IsDescribed}
use Rattle.ff_forms.specs.declared.functions.TheConstants.{POLE_LIMIT}
use Rattle.ff_list.specs.Searches.{IsFormed}

module _ {F : Elements ℕ} (L : Lawful F) (f : List (List ℕ)) where
  pub formed : {E : Type 0} (r : Result (Option System) E)
      → IfOk r (λ o. IfSome o IsWithinLimit) → IfOk r (λ o. IfSome o (HasTable F))
      → IfOk r (λ o. IfSome o (IsDescribed L f POLE_LIMIT))
      → IfOk r (λ o. IfSome o (IsFormed L f))
  formed (Ok (Some s)) within table described = record {
    form = described.form;
    table = table;
    limit = within;
  }
  formed (Ok None) within table described = tt
  formed (Err e) within table described = tt
