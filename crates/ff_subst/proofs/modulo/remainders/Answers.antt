use Rattle.std.proofs.Common.{ℕ, All, length, get_or, [], List, sym, ◌∙◌, ap, subst, arith}
use Rattle.std.proofs.lemmas.List.{get_or_default}
use Rattle.ff_theory.specs.Poly.{polynomials}
use Rattle.ff_theory.specs.Values.{poly_of, IsPoly}
use Rattle.ff_subst.specs.Congruence.{IsCongruent}
use Rattle.ff_elem.proofs.RowLemmas.{pushed-length, pushed-each}
use Rattle.ff_subst.proofs.Remainders.{division-congruent, list-congruent, pushed}
use Rattle.ff_subst.proofs.modulo.remainders.Goals as goal

pub loop-row-init : goal.loop-row-init
loop-row-init g c = record {
  each = subst (All (IsPoly (g.K.Ring.elements c.args.k.now))) (sym c.in_ok-rests.ensures.items)
      (λ k d l. absurd (omega arith));
  count = ap length c.in_ok-rests.ensures.items;
  rests = λ j l. absurd (omega arith);
}

pub loop-row-preserved : goal.loop-row-preserved
loop-row-preserved g c =
    let K = g.K.Ring.elements c.args.k.now in
    let L = g.K.Ring.lawful c.args.k.now in
    let i = c.loop-row.row-index in
    let row = c.row-item.result in
    let m = c.args.m.now in
    let r = c.in_ok-remainder.field-0 in
    let xs = c.loop-row.rests.items in
    let new = c.in_ok-push.ensures.items in
    record {
      each = pushed-each (IsPoly K) xs r _ new c.loop-row.invariant.each
          c.in_ok-remainder.ensures.poly;
      count = pushed-length xs r _ i new c.loop-row.invariant.count;
      rests = λ j l. subst (λ (ys : List (List ℕ)). IsCongruent (polynomials K.ring) (poly_of K m)
          (poly_of K (get_or c.args.rows.now j [])) (poly_of K (get_or ys j []))) (sym new)
          (pushed K L (λ j p. IsCongruent (polynomials K.ring) (poly_of K m)
          (poly_of K (get_or c.args.rows.now j [])) (poly_of K p)) xs r [] i
          (sym c.loop-row.invariant.count) c.loop-row.invariant.rests
          (subst (λ p. IsCongruent (polynomials K.ring) (poly_of K m) (poly_of K p) (poly_of K r))
          (c.row-item.is ∙ get_or_default c.args.rows.now i row [] c.loop-row-test.true)
          (division-congruent K L (poly_of K row) (poly_of K m)
          c.in_ok-remainder.ensures.division.0 (poly_of K r)
          c.in_ok-remainder.ensures.division.1))
          j l);
    }

pub returns-clause-each : goal.returns-clause-each
returns-clause-each g c = c.loop-row.invariant.each

pub returns-clause-congruent : goal.returns-clause-congruent
returns-clause-congruent g c =
    let K = g.K.Ring.elements c.args.k.now in
    let L = g.K.Ring.lawful c.args.k.now in
    list-congruent K L (poly_of K c.args.m.now) c.args.rows.now c.loop-row.rests.items
    c.loop-row.row-index (omega (arith, c.loop-row-test.false))
    (omega (arith, c.loop-row.invariant.count)) c.loop-row.invariant.rests
