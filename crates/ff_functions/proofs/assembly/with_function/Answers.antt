use Rattle.std.proofs.Common.{◌<◌, ◌%◌, ◌∙◌, List, length, get_or, sym, ap, subst, arith, All}
use Rattle.std.proofs.lemmas.List.Elements.{All-push}
use Rattle.ff_elem.specs.Elem.{IsElem}
use Rattle.ff_functions.specs.declared.numbers.PoleNumber.{PoleNumber}
use Rattle.ff_functions.specs.Searches.{HasClass}
use Rattle.ff_functions.proofs.FunctionLists.{class_at}
use Rattle.ff_functions.proofs.FoundLemmas.{found_trail, found_number}
use Rattle.ff_functions.proofs.assembly.with_function.Goals as goal

pub index-number-requires : goal.index-number-requires
index-number-requires g c =
    let l : c.class_index.result < length c.deref.result.now = c.class_index.ensures.found
    (subst (λ t. HasClass t c.args.e c.args.i) (sym c.deref.ensures.value) c.requires.class) in
    omega (arith, l, c.deref.ensures.len)

pub function-requires : goal.function-requires
function-requires g c =
    let L = g.K.Ring.lawful c.args.alg.now.k in
    let f = c.args.alg.now.f in
    let s = c.args.search.now in
    let o = c.args.order.now in
    let d = length c.args.frame.now.numerators.items in
    let found = c.requires.found in
    let l : c.class_index.result < length c.deref.result.now = c.class_index.ensures.found
    (subst (λ t. HasClass t c.args.e c.args.i) (sym c.deref.ensures.value) c.requires.class) in
    record {
      order = c.requires.order;
      own = c.requires.own;
      frame = c.requires.frame;
      trail = found_trail L f o s d found;
      number = found_number L f o s d found c.class_index.result c.index-number.result.now
          (omega (arith, l, ap length c.deref.ensures.value)) c.index-number.ensures;
    }

pub returns : goal.returns
returns g c =
    let L = g.K.Ring.lawful c.args.alg.now.k in
    let f = c.args.alg.now.f in
    let s = c.args.search.now in
    let l : c.class_index.result < length c.deref.result.now = c.class_index.ensures.found
    (subst (λ t. HasClass t c.args.e c.args.i) (sym c.deref.ensures.value) c.requires.class) in
    record {
      elems = subst (All (IsElem L f)) (sym c.in_ok-push.ensures.items)
          (All-push (IsElem L f) c.args.list.items c.in_ok-function.function c.requires.list
          c.in_ok-function.ensures.elem);
      count = omega (arith, c.in_ok-push.ensures.len);
      grown = record {
        number = c.index-number.result.now;
        own = class_at s.numbers.items c.args.e c.args.i c.class_index.result
            c.index-number.result.now (omega (arith, l, ap length c.deref.ensures.value))
            c.index-number.ensures (ap (λ (t : List PoleNumber).
            (get_or t c.class_index.result c.index-number.result.now).j % c.args.e)
            (sym c.deref.ensures.value) ∙ c.class_index.ensures.own l c.index-number.result.now);
        function = c.in_ok-function.function;
        value = c.in_ok-function.ensures.value;
        list = c.in_ok-push.ensures.items;
      };
    }
