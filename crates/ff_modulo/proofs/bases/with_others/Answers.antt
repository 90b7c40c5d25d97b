use Rattle.std.proofs.Common.{◌≡◌, ℕ, [], ◌∷◌, ◌++◌, get_or, sym, ◌∙◌, ap, ap₂, arith}
use Rattle.std.proofs.lemmas.List.{take_more, map_push, get_or-map, length-map}
use Rattle.std.specs.Global.{Vec}
use Rattle.ff_lin.specs.Space.{rows_of}
use Rattle.ff_modulo.proofs.bases.with_others.Goals as goal

pub loop-v-preserved : goal.loop-v-preserved
loop-v-preserved c =
    let others = c.args.others.now in
    let i = c.loop-v.v-index in
    let items = λ (r : Vec ℕ). r.items in
    let x = c.in_ok-from_slice.field-0 in
    let same : x.items ≡ get_or (rows_of others) i [] = c.in_ok-from_slice.ensures.items
    ∙ c.deref.ensures.value ∙ ap items c.v-item.is
    ∙ sym (get_or-map items others i c.v-item.result [] (omega (arith, c.loop-v-test.true))) in
    record {
      len = omega (arith, c.in_ok-push-2.ensures.len, c.loop-v.invariant.len);
      value = ap rows_of c.in_ok-push-2.ensures.items ∙ map_push items c.loop-v.list.items x
          ∙ ap₂ (λ a b. a ++ b ∷ []) c.loop-v.invariant.value same
          ∙ ap (λ t. c.args.first.items ∷ t) (sym (take_more (rows_of others) i []
          (omega (arith, c.loop-v-test.true, length-map others items))));
    }
