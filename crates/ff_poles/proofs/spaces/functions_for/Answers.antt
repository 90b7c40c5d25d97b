use Rattle.std.proofs.Common.{ℕ, ◌+◌, ◌<◌, length, get_or, sym, ◌∙◌, ap, subst, All, IfSome, Some}
use Rattle.std.proofs.Common.{arith}
use Rattle.std.proofs.lemmas.List.{length_push}
use Rattle.std.proofs.lemmas.List.Elements.{All-push}
use Rattle.ff_elem.specs.declared.elem.Elem.{Elem}
use Rattle.ff_elem.specs.Elem.{IsElem}
use Rattle.ff_poles.specs.Spaces.{IsFunctionWhere}
use Rattle.ff_poles.proofs.SpaceSystems.{functions_more}
use Rattle.ff_poles.proofs.spaces.functions_for.Goals as goal

pub loop-i-preserved : goal.loop-i-preserved
loop-i-preserved g c =
    let L = g.K.Ring.lawful c.args.alg.now.k in
    let f = c.args.alg.now.f in
    let spaces = c.args.spaces.now in
    let numbers = c.args.numbers.now in
    let is = IsElem (g.K.Ring.lawful c.args.alg.now.k) c.args.alg.now.f in
    let old = c.loop-i.list.items in
    let e = c.in_ok-push-in-Some.ensures.items in
    record {
      count = ap length e ∙ length_push old c.in-Some.w
          ∙ ap (λ n. n + 1) c.loop-i.invariant.count;
      elems = subst (All is) (sym e) (All-push is old c.in-Some.w c.loop-i.invariant.elems
          (subst (λ o. IfSome o is) c.in-Some.is c.in_ok-function.ensures.elem));
      each = subst (λ list. (i : ℕ) (d : Elem) → i < c.loop-i.i + 1
          → IsFunctionWhere L f spaces (get_or numbers i 0) (Some (get_or list i d))) (sym e)
          (functions_more L f spaces numbers old c.loop-i.i c.loop-i.invariant.count
          c.loop-i.invariant.each c.in-Some.w (subst (IsFunctionWhere L f spaces
          (get_or numbers c.loop-i.i 0)) c.in-Some.is c.in_ok-function.ensures.exact));
    }

pub returns-in-None-clause-exact : goal.returns-in-None-clause-exact
returns-in-None-clause-exact g c =
    let L = g.K.Ring.lawful c.args.alg.now.k in
    let numbers = c.args.numbers.now in (
      c.loop-i.i,
      (
        c.loop-i-test.true,
        subst (IsFunctionWhere L c.args.alg.now.f c.args.spaces.now
            (get_or numbers c.loop-i.i 0)) c.in-None.is c.in_ok-function.ensures.exact,
      ),
    )

pub returns-clause-exact : goal.returns-clause-exact
returns-clause-exact g c = λ i d l. c.loop-i.invariant.each i d
    (omega (arith, l, c.loop-i-test.false))
