use Rattle.std.proofs.Common.{subst, IfSome, IfNone}
use Rattle.ff_forms.specs.declared.functions.Functions.{Functions}
use Rattle.ff_systems.specs.Places.{WritesProducts}
use Rattle.ff_describe.specs.Described.{frame_of, HasFunctions, IsTableOf}
use Rattle.ff_describe.proofs.SystemLemmas.{described}
use Rattle.ff_describe.proofs.systems.with_coords.Goals as goal

pub returns-in_ok-functions-in-Some-clause-kept : goal.returns-in_ok-functions-in-Some-clause-kept
returns-in_ok-functions-in-Some-clause-kept g c =
    subst (λ (s : Functions). HasFunctions s c.assembled.result)
    c.in_ok-functions-in-Some.ensures c.assembled.ensures.functions

pub returns-in_ok-functions-in-Some-clause-described :
    goal.returns-in_ok-functions-in-Some-clause-described
returns-in_ok-functions-in-Some-clause-described g c =
    let K = g.K.Ring.elements c.args.alg.now.k in
    let L = g.K.Ring.lawful c.args.alg.now.k in
    let f = c.args.alg.now.f in
    let functions = c.args.functions.now in
    described K L f c.args.limit functions c.assembled.result c.in-Some.table c.args.x c.args.y
    c.requires.functions
    (subst (λ (s : Functions). HasFunctions s c.assembled.result) c.in_ok-functions-in-Some.ensures
    c.assembled.ensures.functions)
    c.assembled.ensures.table c.assembled.ensures.x c.assembled.ensures.y
    (subst (λ o. IfSome o (IsTableOf L f (frame_of functions))) c.in-Some.is
    c.in_ok-table_of.ensures.some) c.requires.x c.requires.y

pub returns-in-None-clause-none : goal.returns-in-None-clause-none
returns-in-None-clause-none g c w =
    let L = g.K.Ring.lawful c.args.alg.now.k in
    subst (λ o. IfNone o (¬ WritesProducts L c.args.alg.now.f (frame_of c.args.functions.now)))
    c.in-None.is c.in_ok-table_of.ensures.none w.products
