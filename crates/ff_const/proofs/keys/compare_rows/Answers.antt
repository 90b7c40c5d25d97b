use Rattle.std.proofs.Common.{sym, ◌∙◌, ap, subst, arith}
use Rattle.std.proofs.lemmas.List.{take_all}
use Rattle.ff_theory.specs.Values.{IsPoly}
use Rattle.ff_elem.specs.Key.{rows_key, key_cmp}
use Rattle.ff_elem.proofs.KeyLemmas.{rows-differ, rows-agree, key_cmp-self}
use Rattle.ff_const.proofs.keys.compare_rows.Goals as goal

pub compare_polys-order-requires : goal.compare_polys-order-requires
compare_polys-order-requires g c =
    let K = g.K.Ring.elements c.args.k.now in
    record {
      a = subst (IsPoly K) (sym c.index-a-i.is)
          (c.requires.a c.loop-i.i c.index-a-i.result (omega arith));
      b = subst (IsPoly K) (sym c.index-b-i.is)
          (c.requires.b c.loop-i.i c.index-b-i.result (omega (arith, c.requires.same)));
    }

pub returns-then-is_ne : goal.returns-then-is_ne
returns-then-is_ne g c =
    let K = g.K.Ring.elements c.args.k.now in
    rows-differ K c.args.a.now c.args.b.now c.loop-i.i c.index-a-i.result c.index-b-i.result
    c.compare_polys-order.result (omega arith) (omega (arith, c.requires.same)) c.index-a-i.is
    c.index-b-i.is c.loop-i.invariant c.compare_polys-order.ensures
    (sym c.is_ne.ensures ∙ c.if-is_ne.true)

pub loop-i-preserved : goal.loop-i-preserved
loop-i-preserved g c =
    let K = g.K.Ring.elements c.args.k.now in
    rows-agree K c.args.a.now c.args.b.now c.loop-i.i c.index-a-i.result c.index-b-i.result
    c.compare_polys-order.result (omega arith) (omega (arith, c.requires.same)) c.index-a-i.is
    c.index-b-i.is c.loop-i.invariant c.compare_polys-order.ensures
    (sym c.is_ne.ensures ∙ c.if-is_ne.false)

pub returns : goal.returns
returns g c =
    let K = g.K.Ring.elements c.args.k.now in
    let a = c.args.a.now in
    let b = c.args.b.now in
    let i = c.loop-i.i in
    let same = sym (ap (rows_key K) (take_all i a (omega arith))) ∙ c.loop-i.invariant
    ∙ ap (rows_key K) (take_all i b (omega (arith, c.requires.same))) in
    sym (ap (key_cmp (rows_key K a)) (sym same) ∙ key_cmp-self (rows_key K a))
