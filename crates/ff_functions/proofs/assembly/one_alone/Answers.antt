use Rattle.std.proofs.Common.{length, get_or, sym, ◌∙◌, ap, subst, arith, All}
use Rattle.std.proofs.lemmas.List.{get_or_push}
use Rattle.std.proofs.lemmas.List.Elements.{All-push}
use Rattle.ff_elem.specs.Elem.{elem_of, IsElem}
use Rattle.ff_functions.proofs.assembly.one_alone.Goals as goal

pub returns : goal.returns
returns g c =
    let L = g.K.Ring.lawful c.args.alg.now.k in
    let f = c.args.alg.now.f in
    let none = ap length c.new-list.ensures.items in
    record {
      elems = subst (All (IsElem L f)) (sym c.in_ok-push.ensures.items)
          (All-push (IsElem L f) c.new-list.result.items c.in_ok-one.one
          (λ i d l. absurd (omega (arith, l, none))) c.in_ok-one.ensures.element);
      count = omega (arith, c.in_ok-push.ensures.len, none);
      one = λ a. ap (elem_of L f) (ap (λ t. get_or t 0 a) c.in_ok-push.ensures.items
          ∙ get_or_push c.new-list.result.items c.in_ok-one.one a 0 none)
          ∙ c.in_ok-one.ensures.value;
    }
