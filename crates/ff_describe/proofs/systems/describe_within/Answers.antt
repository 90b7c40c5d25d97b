use Rattle.ff_describe.proofs.Options.{some-both, none-map}
use Rattle.ff_theory.proofs.Results.{ok_map, ok_both}
use Rattle.ff_data.specs.declared.system.System.{System}
use Rattle.ff_describe.specs.Described.{HasFunctions, IsDescribed, IsSystemWhereLeast, AllWritten}
use Rattle.ff_describe.specs.Described.{IsUnwrittenWhereLeast}
use Rattle.ff_describe.proofs.ExactLemmas.{system-where-least, unwritten-where-least}
use Rattle.ff_describe.proofs.systems.describe_within.Goals as goal

pub returns-clause-system : goal.returns-clause-system
returns-clause-system g c =
    let K = g.K.Ring.elements c.args.alg.now.k in
    let L = g.K.Ring.lawful c.args.alg.now.k in
    let f = c.args.alg.now.f in
    let alg = c.args.alg.now in
    let functions = c.args.functions.now in
    ok_both _ _ _ c.described.result (λ o h k. some-both o (HasFunctions functions)
    (IsDescribed L f c.args.limit) (IsSystemWhereLeast L f c.args.limit functions)
    (system-where-least K L f alg.plane alg.has_y c.args.limit functions c.requires.functions) h k)
    c.described.ensures.kept c.described.ensures.described

pub returns-clause-none : goal.returns-clause-none
returns-clause-none g c =
    let K = g.K.Ring.elements c.args.alg.now.k in
    let L = g.K.Ring.lawful c.args.alg.now.k in
    let f = c.args.alg.now.f in
    let alg = c.args.alg.now in
    let functions = c.args.functions.now in
    ok_map _ _ c.described.result (λ o h. none-map o (¬ AllWritten L f c.args.limit functions)
    (IsUnwrittenWhereLeast L f c.args.limit functions)
    (unwritten-where-least K L f alg.plane alg.has_y c.args.limit functions c.requires.functions) h)
    c.described.ensures.none
