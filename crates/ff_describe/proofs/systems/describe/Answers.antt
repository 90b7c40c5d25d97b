use Rattle.std.proofs.Common.{Option}
use Rattle.ff_theory.proofs.Results.{ok_map}
use Rattle.ff_data.specs.declared.system.System.{System}
use Rattle.ff_forms.specs.Forms.{IsWithinLimit}
use Rattle.ff_describe.specs.Described.{HasFunctions}
use Rattle.ff_describe.proofs.Options.{some-map}
use Rattle.ff_describe.proofs.SystemLemmas.{within-limit, kept-within}
use Rattle.ff_describe.proofs.systems.describe.Goals as goal

pub describe_within-requires : goal.describe_within-requires
describe_within-requires g c =
    let K = g.K.Ring.elements c.args.alg.now.k in
    let L = g.K.Ring.lawful c.args.alg.now.k in
    record { functions = within-limit K L c.args.alg.now.f c.args.functions.now c.requires }

pub returns-clause-within : goal.returns-clause-within
returns-clause-within g c =
    let K = g.K.Ring.elements c.args.alg.now.k in
    let L = g.K.Ring.lawful c.args.alg.now.k in
    let functions = c.args.functions.now in
    ok_map _ _ c.describe_within.result (λ (o : Option System) h.
    some-map o (HasFunctions functions) IsWithinLimit
    (kept-within K L c.args.alg.now.f functions c.requires) h) c.describe_within.ensures.kept
