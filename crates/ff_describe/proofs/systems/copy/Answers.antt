use Rattle.std.proofs.Common.{◌∙◌, ap}
use Rattle.ff_forms.specs.declared.functions.Functions.{Functions}
use Rattle.ff_describe.proofs.SystemLemmas.{functions-parts}
use Rattle.ff_describe.proofs.systems.copy.Goals as goal

pub returns : goal.returns
returns c = functions-parts c.args.functions.now _ c.in_ok-copy.field-0 c.in_ok-b.b.items
    c.in_ok-from_slice.field-0.items (ap (λ (t : Functions). t.e) c.functions.view_is)
    (c.in_ok-copy.ensures ∙ ap (λ (t : Functions). t.z) c.functions.view_is)
    (c.in_ok-b.ensures ∙ c.deref.ensures.value ∙ ap (λ (t : Functions). t.b) c.functions.view_is)
    (c.in_ok-from_slice.ensures.items ∙ c.deref-2.ensures.value
    ∙ ap (λ (t : Functions). t.weights) c.functions.view_is)
