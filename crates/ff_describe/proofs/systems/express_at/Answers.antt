use Rattle.std.proofs.Common.{◌≡◌, ◌/◌, ◌∙◌, sym, ap, subst, arith, length, IfSome, IfNone}
use Rattle.std.proofs.Common.{Option}
use Rattle.ff_theory.proofs.Results.{ok_map}
use Rattle.ff_elem.specs.Elem.{IsElem, elem_of}
use Rattle.ff_data.specs.declared.system.Coords.{Coords}
use Rattle.ff_data.specs.declared.system.System.{System}
use Rattle.ff_data.specs.Combinations.{AreElems}
use Rattle.ff_data.specs.Systems.{IsExpression}
use Rattle.ff_forms.specs.declared.functions.Functions.{Functions}
use Rattle.ff_describe.specs.Described.{frame_of, IsWritten}
use Rattle.ff_describe.proofs.Options.{some-map, none-map}
use Rattle.ff_describe.proofs.SystemLemmas.{frame-parts, expression-within}
use Rattle.ff_describe.proofs.systems.express_at.Goals as goal

pub express_within-requires : goal.express_within-requires
express_within-requires g c =
    let L = g.K.Ring.lawful c.args.alg.now.k in
    let f = c.args.alg.now.f in
    let h = c.requires.functions in
    let e = ap (λ (t : Functions). t.e) c.functions.view_is in
    let b = c.deref.ensures.value ∙ ap (λ (t : Functions). t.b) c.functions.view_is in
    let m = c.deref-2.ensures.value ∙ ap (λ (t : Functions). t.weights) c.functions.view_is in
    record {
      positive = omega (arith, h.positive, e);
      z = subst (IsElem L f) (sym (ap (λ (t : Functions). t.z) c.functions.view_is)) h.z;
      b = subst (AreElems L f) (sym b) h.b;
      count = ap length b ∙ h.count ∙ sym e;
      weights = ap length m ∙ h.weights ∙ sym e;
      w = c.requires.w;
    }

pub weight_within-weight-requires : goal.weight_within-weight-requires
weight_within-weight-requires g c = omega (
  arith,
  c.requires.functions.positive,
  ap (λ (t : Functions). t.e) c.functions.view_is,
)

pub returns-clause-some : goal.returns-clause-some
returns-clause-some g c =
    let K = g.K.Ring.elements c.args.alg.now.k in
    let L = g.K.Ring.lawful c.args.alg.now.k in
    let f = c.args.alg.now.f in
    let s = c.args.functions.now in
    let w = elem_of L f c.args.w.now in
    let weight = c.weight_within-weight.result in
    let same = frame-parts s _ _ _ _ (ap (λ (t : Functions). t.e) c.functions.view_is)
    (ap (λ (t : Functions). t.z) c.functions.view_is)
    (c.deref.ensures.value ∙ ap (λ (t : Functions). t.b) c.functions.view_is)
    (c.deref-2.ensures.value ∙ ap (λ (t : Functions). t.weights) c.functions.view_is) in
    ok_map _ _ c.express_within.result (λ (o : Option Coords) h. some-map o
    (IsExpression L f (frame_of s) w c.args.degree weight)
    (IsExpression L f (frame_of s) w (c.args.limit / s.e) c.args.limit)
    (expression-within K L f (frame_of s) w c.args.degree weight (c.args.limit / s.e) c.args.limit
    c.requires.degree c.weight_within-weight.ensures.within)
    (subst (λ (r : System). IfSome o (IsExpression L f r w c.args.degree weight)) same h))
    c.express_within.ensures.some

pub returns-clause-none : goal.returns-clause-none
returns-clause-none g c last =
    let L = g.K.Ring.lawful c.args.alg.now.k in
    let f = c.args.alg.now.f in
    let s = c.args.functions.now in
    let w = elem_of L f c.args.w.now in
    let weight = c.weight_within-weight.result in
    let e = ap (λ (t : Functions). t.e) c.functions.view_is in
    let whole : weight ≡ c.args.limit = c.weight_within-weight.ensures.last
    (last ∙ ap (λ n. c.args.limit / n) (sym e)) in
    let same = frame-parts s _ _ _ _ e
    (ap (λ (t : Functions). t.z) c.functions.view_is)
    (c.deref.ensures.value ∙ ap (λ (t : Functions). t.b) c.functions.view_is)
    (c.deref-2.ensures.value ∙ ap (λ (t : Functions). t.weights) c.functions.view_is) in
    ok_map _ _ c.express_within.result (λ (o : Option Coords) h. none-map o
    ((r : Coords) → ¬ IsExpression L f (frame_of s) w c.args.degree weight r)
    (¬ IsWritten L f c.args.limit s w)
    (λ no q. no q.0 (subst (λ m. IsExpression L f (frame_of s) w m weight q.0) (sym last)
    (subst (λ n. IsExpression L f (frame_of s) w (c.args.limit / s.e) n q.0) (sym whole) q.1)))
    (subst (λ (r : System). IfNone o ((q : Coords)
    → ¬ IsExpression L f r w c.args.degree weight q)) same h))
    c.express_within.ensures.none
