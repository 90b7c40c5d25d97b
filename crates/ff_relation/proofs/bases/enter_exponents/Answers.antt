use Rattle.std.proofs.Common.{◌+◌, ◌*◌, ◌%◌, ◌<◌, refl, ◌∙◌, ap, arith}
use Rattle.std.proofs.lemmas.List.{length-set}
use Rattle.std.proofs.lemmas.List.Elements.{All-set}
use Rattle.std.proofs.Common.{set}
use Rattle.ff_relation.specs.InRing.{number_at}
use Rattle.ff_relation.proofs.BaseLemmas.{class-step}
use Rattle.ff_relation.proofs.bases.enter_exponents.Goals as goal

pub loop-j-preserved : goal.loop-j-preserved
loop-j-preserved c =
    let old = c.loop-j.exponents in
    let j = c.loop-j.j in
    let e = c.args.e in
    let W = c.args.weight in
    let at = c.class_of_multiple.result in
    record {
      count = length-set old at j ∙ c.loop-j.invariant.count;
      each = All-set (λ n. n < e) old at j
          (omega (arith, c.loop-j-test.true, c.requires.count)) c.loop-j.invariant.each;
      class = λ i q. ap (λ n. (number_at (set old n j) ((i * W) % e) * W) % e)
          c.class_of_multiple.ensures.value
          ∙ class-step e W j (j + 1) old
          (omega (
            arith,
            c.class_of_multiple.ensures.below,
            c.class_of_multiple.ensures.value,
            c.loop-j.invariant.count,
          )) refl c.loop-j.invariant.class i q;
    }

pub returns-clause-class : goal.returns-clause-class
returns-clause-class c = λ j l. c.loop-j.invariant.class j
    (omega (arith, l, c.loop-j-test.false, c.requires.count))
