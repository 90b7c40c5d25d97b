use Rattle.std.proofs.Common.{◌≡◌, ◌+◌, ◌<◌, ◌≤◌, length, get_or, sym, subst, arith, All}
use Rattle.std.proofs.lemmas.List.{get_or_default}
use Rattle.std.proofs.lemmas.List.Elements.{All-push}
use Rattle.ff_forms.specs.declared.functions.TheConstants.{POLE_LIMIT}
use Rattle.ff_functions.specs.declared.numbers.PoleNumber.{PoleNumber}
use Rattle.ff_functions.specs.Combined.{AreClassWeights}
use Rattle.ff_functions.proofs.FunctionLists.{class_at, weights_more}
use Rattle.ff_functions.proofs.assembly.weights.Goals as goal

pub returns : goal.returns
returns c =
    let end : c.loop-i.i ≡ c.args.e = omega (
      arith,
      c.loop-i-test.false,
      c.loop-i.auto.i-end (omega (arith, c.requires.positive)),
    ) in
    record {
      count = omega (arith, c.loop-i.invariant.count, end);
      within = c.loop-i.invariant.within;
      weights = subst (λ n. AreClassWeights c.args.numbers.now c.args.e n c.loop-i.list.items) end
          c.loop-i.invariant.weights;
    }

pub loop-i-preserved : goal.loop-i-preserved
loop-i-preserved c =
    let numbers = c.args.numbers.now in
    let list = c.loop-i.list.items in
    let l : c.class_index.result < length numbers = c.class_index.ensures.found
    (c.requires.classes c.loop-i.i c.loop-i-test.true) in
    let p : PoleNumber = get_or numbers c.class_index.result c.index-numbers-class_index.result in
    let w : p.j ≤ POLE_LIMIT = c.requires.numbers c.class_index.result
    c.index-numbers-class_index.result l in
    record {
      count = omega (arith, c.in_ok-push-2.ensures.len, c.loop-i.invariant.count);
      within = subst (All (λ m. m ≤ POLE_LIMIT)) (sym c.in_ok-push-2.ensures.items)
          (All-push (λ m. m ≤ POLE_LIMIT) list p.j c.loop-i.invariant.within w);
      weights = subst (AreClassWeights numbers c.args.e (c.loop-i.i + 1))
          (sym c.in_ok-push-2.ensures.items) (weights_more numbers c.args.e c.loop-i.i list
          (omega (arith, c.loop-i.auto)) c.loop-i.invariant.count c.loop-i.invariant.weights p
          (class_at numbers c.args.e c.loop-i.i c.class_index.result p l
          (get_or_default numbers c.class_index.result c.index-numbers-class_index.result p l)
          (c.class_index.ensures.own l p)));
    }
