use Rattle.std.proofs.Common.{◌≡◌, ◌≤◌, All, ap, subst, arith, max}
use Rattle.std.proofs.lemmas.List.{take_all}
use Rattle.std.proofs.lemmas.List.Elements.{All-more}
use Rattle.ff_theory.specs.Values.{x_size}
use Rattle.ff_common.proofs.images.widest.Goals as goal

pub loop-rows-init : goal.loop-rows-init
loop-rows-init c = record {
  least = omega arith;
  wide = λ k d h. absurd (omega (arith, h));
}

pub loop-rows-preserved : goal.loop-rows-preserved
loop-rows-preserved c =
    let e : c.max-h.result ≡ max c.loop-rows.h c.width.result = c.max-h.ensures in
    let w : c.width.result ≡ x_size c.deref.result.now = c.width.ensures in
    record {
      least = omega (arith, c.loop-rows.invariant.least, e);
      wide = All-more (λ v. x_size v.items ≤ c.max-h.result) c.args.lists.now
          c.loop-rows.rows-index c.rows-item.result c.loop-rows-test.true
          (λ k d q. omega (arith, c.loop-rows.invariant.wide k d q, e))
          (subst (λ v. x_size v.items ≤ c.max-h.result) c.rows-item.is
          (omega (arith, e, w, ap x_size c.deref.ensures.value)));
    }

pub returns-clause-least : goal.returns-clause-least
returns-clause-least c = c.loop-rows.invariant.least

pub returns-clause-wide : goal.returns-clause-wide
returns-clause-wide c = subst (All (λ v. x_size v.items ≤ c.loop-rows.h))
    (take_all c.loop-rows.rows-index c.args.lists.now c.loop-rows-test.false)
    c.loop-rows.invariant.wide
