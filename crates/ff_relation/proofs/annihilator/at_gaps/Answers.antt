use Rattle.std.proofs.Common.{◌+◌}
use Rattle.std.proofs.Common.{get_or, refl, arith}
use Rattle.ff_table.specs.Leading.{part}
use Rattle.ff_ring.specs.Ring.{table_in, element_in}
use Rattle.ff_relation.specs.declared.bases.Gap.{Gap}
use Rattle.ff_relation.proofs.Monic.{entries-pushed}
use Rattle.ff_relation.proofs.RestLemmas.{gap-read}
use Rattle.ff_relation.proofs.SplitLemmas.{vector-push}
use Rattle.ff_relation.proofs.annihilator.at_gaps.Goals as goal

pub loop-i-preserved : goal.loop-i-preserved
loop-i-preserved g c =
    let F = g.K.Ring.elements c.args.k.now in
    let L = g.K.Ring.lawful c.args.k.now in
    let s = c.args.s.now in
    let gaps = c.args.gaps.now in
    let list = c.args.c.now in
    let old = c.loop-i.vector.items in
    let i = c.loop-i.i in
    let x = c.coeff.result in
    let e = c.in_ok-push.ensures.items in
    let none : Gap = record { class = 0; degree = 0 } in
    record {
      form = vector-push F old c.push.new.self.items x i (i + 1) e refl c.loop-i.invariant.form
          c.coeff.ensures.element;
      value = λ rank d. entries-pushed L (λ j. part F.ring (table_in F s) (get_or gaps j d).class
          (get_or gaps j d).degree (element_in F s list)) old c.push.new.self.items x i e
          c.loop-i.invariant.form.len (c.loop-i.invariant.value rank d)
          (gap-read F L s gaps list c.index-c-gaps.result i x none d rank c.requires.c.count
          c.requires.gaps c.loop-i-test.true c.index-c-gaps.is c.coeff.ensures.value);
    }

pub returns-clause-exact : goal.returns-clause-exact
returns-clause-exact g c = λ rank j d l. c.loop-i.invariant.value rank d j
    (omega (arith, l, c.loop-i-test.false))
