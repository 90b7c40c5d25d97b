use Rattle.std.proofs.Common.{length, sym, ◌∙◌, ap, ap₂, subst}
use Rattle.std.specs.Ordering.{nat_cmp}
use Rattle.ff_theory.specs.Values.{ArePolys}
use Rattle.ff_elem.specs.Key.{rows_key, key_cmp}
use Rattle.ff_const.proofs.KeyOrder.{lengths-differ, lengths-agree, rows-decide}
use Rattle.ff_const.proofs.keys.compare_planes.Goals as goal

pub returns-then-is_ne : goal.returns-then-is_ne
returns-then-is_ne g c =
    let K = g.K.Ring.elements c.args.k.now in
    lengths-differ K c.args.a.now c.args.b.now c.cmp-order.result
    (c.cmp-order.ensures ∙ ap₂ (λ a b. nat_cmp (length a) (length b)) c.rows.ensures
    c.rows-2.ensures) (sym c.is_ne.ensures ∙ c.if-is_ne.true)

pub compare_rows-requires : goal.compare_rows-requires
compare_rows-requires g c =
    let K = g.K.Ring.elements c.args.k.now in
    let same = lengths-agree K c.args.a.now c.args.b.now c.cmp-order.result
    (c.cmp-order.ensures ∙ ap₂ (λ a b. nat_cmp (length a) (length b)) c.rows.ensures
    c.rows-2.ensures) (sym c.is_ne.ensures ∙ c.if-is_ne.false) in
    record {
      a = subst (ArePolys K) (sym c.rows-3.ensures) c.requires.a.each;
      b = subst (ArePolys K) (sym c.rows-4.ensures) c.requires.b.each;
      same = ap length c.rows-3.ensures ∙ same ∙ sym (ap length c.rows-4.ensures);
    }

pub returns : goal.returns
returns g c =
    let K = g.K.Ring.elements c.args.k.now in
    let same = lengths-agree K c.args.a.now c.args.b.now c.cmp-order.result
    (c.cmp-order.ensures ∙ ap₂ (λ a b. nat_cmp (length a) (length b)) c.rows.ensures
    c.rows-2.ensures) (sym c.is_ne.ensures ∙ c.if-is_ne.false) in
    c.compare_rows.ensures ∙ ap₂ (λ a b. key_cmp (rows_key K a) (rows_key K b)) c.rows-3.ensures
    c.rows-4.ensures ∙ rows-decide K c.args.a.now c.args.b.now same
