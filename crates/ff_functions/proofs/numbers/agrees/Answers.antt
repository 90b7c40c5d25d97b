use Rattle.std.proofs.Common.{◌≡◌, true, false, subst, IfSome}
use Rattle.ff_functions.specs.Searches.{HasWeights, AgreesAt}
use Rattle.ff_functions.proofs.NumberLemmas.{unlike}
use Rattle.ff_functions.proofs.numbers.agrees.Goals as goal

pub has_number-requires : goal.has_number-requires
has_number-requires c =
    let h = subst (λ o. IfSome o (λ s. HasWeights s.now)) c.in-Some.is c.requires in
    record { positive = h.positive; count = h.count }

pub returns-in-None : goal.returns-in-None
returns-in-None c = λ (e : true ≡ false). cc

pub returns-in-Some : goal.returns-in-Some
returns-in-Some c = λ e h. unlike c.in-Some.s.now c.args.j c.has_number.result c.args.is_number
    c.has_number.ensures.yes c.has_number.ensures.no e
    (subst (λ o. IfSome o (λ s. AgreesAt s.now c.args.j c.args.is_number)) c.in-Some.is h)
