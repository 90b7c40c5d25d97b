use Rattle.std.proofs.Common.{length, map, reverse, sym, ◌∙◌, ap, ap₂, subst, All}
use Rattle.std.specs.Ordering.{nat_cmp}
use Rattle.ff_theory.specs.Ring.{IsElement}
use Rattle.ff_elem.specs.Key.{key_cmp}
use Rattle.ff_elem.proofs.KeyLemmas.{lengths-differ, lengths-agree, coeffs-decide}
use Rattle.ff_const.proofs.keys.compare_polys.Goals as goal

pub returns-then-is_ne : goal.returns-then-is_ne
returns-then-is_ne g c =
    let K = g.K.Ring.elements c.args.k.now in
    lengths-differ K c.args.a.now c.args.b.now c.cmp-order.result
    (c.cmp-order.ensures ∙ ap₂ (λ a b. nat_cmp (length a) (length b)) c.coeffs.ensures
    c.coeffs-2.ensures) (sym c.is_ne.ensures ∙ c.if-is_ne.true)

pub compare_coeffs-requires : goal.compare_coeffs-requires
compare_coeffs-requires g c =
    let K = g.K.Ring.elements c.args.k.now in
    let same = lengths-agree K c.args.a.now c.args.b.now c.cmp-order.result
    (c.cmp-order.ensures ∙ ap₂ (λ a b. nat_cmp (length a) (length b)) c.coeffs.ensures
    c.coeffs-2.ensures) (sym c.is_ne.ensures ∙ c.if-is_ne.false) in
    record {
      a = subst (All (IsElement K)) (sym c.coeffs-3.ensures) c.requires.a.each;
      b = subst (All (IsElement K)) (sym c.coeffs-4.ensures) c.requires.b.each;
      same = ap length c.coeffs-3.ensures ∙ same ∙ sym (ap length c.coeffs-4.ensures);
    }

pub returns : goal.returns
returns g c =
    let K = g.K.Ring.elements c.args.k.now in
    let same = lengths-agree K c.args.a.now c.args.b.now c.cmp-order.result
    (c.cmp-order.ensures ∙ ap₂ (λ a b. nat_cmp (length a) (length b)) c.coeffs.ensures
    c.coeffs-2.ensures) (sym c.is_ne.ensures ∙ c.if-is_ne.false) in
    c.compare_coeffs.ensures ∙ ap₂ (λ a b. key_cmp (reverse (map (λ x. K.index (K.value x)) a))
    (reverse (map (λ x. K.index (K.value x)) b))) c.coeffs-3.ensures c.coeffs-4.ensures
    ∙ coeffs-decide K c.args.a.now c.args.b.now same
