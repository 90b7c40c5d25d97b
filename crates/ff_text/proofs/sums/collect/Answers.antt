use Rattle.std.proofs.Common.{ap, ◌∙◌, ◌≡◌, get_or}
use Rattle.std.specs.Option.{unwrap_or}
use Rattle.ff_text.specs.Sums.{total}
use Rattle.ff_text.proofs.Totals.{none, collects_push, collects_skip, collects_all}
use Rattle.ff_text.proofs.sums.collect.Goals as goal
use Rattle.ff_text.proofs.sums.collect.Goals.{then-coefficient-gt0+in_ok-push, else-coefficient-gt0}

pub loop-m-preserved : goal.loop-m-preserved
loop-m-preserved c =
    let ms = c.args.terms.now in
    let i = c.loop-m.m-index in
    let e : c.unwrap_or-coefficient.result
    ≡ total c.args.p ms (get_or ms i none).x (get_or ms i none).y
    = c.unwrap_or-coefficient.ensures
    ∙ ap (λ o. unwrap_or o 0) (c.copied.ensures ∙ c.get.ensures.value)
    ∙ c.in_ok-sums.ensures (get_or ms i none).x (get_or ms i none).y in
    elim c.if-coefficient-gt0.branch [
      | then-coefficient-gt0+in_ok-push w ↦ rw (w.collected-is, w.in_ok-push.ensures.items)
          (collects_push c.args.p ms i c.loop-m.collected.items c.unwrap_or-coefficient.result
          c.loop-m-test.true c.loop-m.invariant e w.if-coefficient-gt0.true)
      | else-coefficient-gt0 w ↦ rw w.collected-is
          (collects_skip c.args.p ms i c.loop-m.collected.items c.unwrap_or-coefficient.result
          c.loop-m.invariant e w.if-coefficient-gt0.false)
    ]

pub returns : goal.returns
returns c = collects_all c.args.p c.args.terms.now c.loop-m.m-index c.loop-m.collected.items
    c.loop-m-test.false c.loop-m.invariant
