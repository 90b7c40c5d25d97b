use Rattle.std.proofs.Common.{◌∙◌, sym, ap, subst, arith, length, Option, IfSome, IfNone}
use Rattle.ff_theory.proofs.Results.{ok_map}
use Rattle.ff_elem.specs.Elem.{IsElem, elem_of}
use Rattle.ff_data.specs.declared.system.Coords.{Coords}
use Rattle.ff_data.specs.declared.system.System.{System}
use Rattle.ff_data.specs.Combinations.{AreElems}
use Rattle.ff_data.specs.Systems.{IsExpression}
use Rattle.ff_systems.specs.Places.{frame}
use Rattle.ff_describe.proofs.Options.{some-map, none-map}
use Rattle.ff_describe.proofs.SystemLemmas.{frame-expression, expression-frame, frame-parts}
use Rattle.ff_describe.proofs.SystemLemmas.{functions_of}
use Rattle.ff_coord.proofs.expression.express.Goals as goal

pub express_within-requires : goal.express_within-requires
express_within-requires g c =
    let L = g.K.Ring.lawful c.args.alg.now.k in
    let f = c.args.alg.now.f in
    let h = c.requires.form in
    let e = ap (λ (t : System). t.e) c.s.view_is in
    let b = c.deref.ensures.value ∙ ap (λ (t : System). t.b) c.s.view_is in
    let m = c.deref-2.ensures.value ∙ ap (λ (t : System). t.weights) c.s.view_is in
    record {
      positive = omega (arith, c.requires.positive, e);
      z = subst (IsElem L f) (sym (ap (λ (t : System). t.z) c.s.view_is)) h.z;
      b = subst (AreElems L f) (sym b) h.b;
      count = ap length b ∙ h.count ∙ sym e;
      weights = ap length m ∙ h.weights ∙ sym e;
      w = c.requires.w;
    }

pub returns-clause-some : goal.returns-clause-some
returns-clause-some g c =
    let K = g.K.Ring.elements c.args.alg.now.k in
    let L = g.K.Ring.lawful c.args.alg.now.k in
    let f = c.args.alg.now.f in
    let s = c.args.s.now in
    let w = elem_of L f c.args.w.now in
    let m = c.args.q_deg in
    let bound = c.args.weight in
    let same = frame-parts (functions_of s.e s.z s.b s.weights) _ _ _ _
    (ap (λ (t : System). t.e) c.s.view_is) (ap (λ (t : System). t.z) c.s.view_is)
    (c.deref.ensures.value ∙ ap (λ (t : System). t.b) c.s.view_is)
    (c.deref-2.ensures.value ∙ ap (λ (t : System). t.weights) c.s.view_is) in
    ok_map _ _ c.express_within.result (λ (o : Option Coords) h. some-map o
    (IsExpression L f (frame s.e s.z s.b s.weights) w m bound) (IsExpression L f s w m bound)
    (frame-expression K L f s w m bound)
    (subst (λ (r : System). IfSome o (IsExpression L f r w m bound)) same h))
    c.express_within.ensures.some

pub returns-clause-none : goal.returns-clause-none
returns-clause-none g c =
    let K = g.K.Ring.elements c.args.alg.now.k in
    let L = g.K.Ring.lawful c.args.alg.now.k in
    let f = c.args.alg.now.f in
    let s = c.args.s.now in
    let w = elem_of L f c.args.w.now in
    let m = c.args.q_deg in
    let bound = c.args.weight in
    let same = frame-parts (functions_of s.e s.z s.b s.weights) _ _ _ _
    (ap (λ (t : System). t.e) c.s.view_is) (ap (λ (t : System). t.z) c.s.view_is)
    (c.deref.ensures.value ∙ ap (λ (t : System). t.b) c.s.view_is)
    (c.deref-2.ensures.value ∙ ap (λ (t : System). t.weights) c.s.view_is) in
    ok_map _ _ c.express_within.result (λ (o : Option Coords) h. none-map o
    ((x : Coords) → ¬ IsExpression L f (frame s.e s.z s.b s.weights) w m bound x)
    ((x : Coords) → ¬ IsExpression L f s w m bound x)
    (λ k x j. k x (expression-frame K L f s w m bound x j))
    (subst (λ (r : System). IfNone o ((x : Coords) → ¬ IsExpression L f r w m bound x)) same h))
    c.express_within.ensures.none
