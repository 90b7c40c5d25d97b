use Rattle.std.proofs.Common.{◌≡◌, ◌≤◌, ◌∙◌, All, ap, subst, arith, max}
use Rattle.std.proofs.lemmas.List.{take_all}
use Rattle.std.proofs.lemmas.List.Elements.{All-more}
use Rattle.ff_theory.specs.Values.{x_size}
use Rattle.ff_poly.proofs.RowLists.{ord_max-max}
use Rattle.ff_data.proofs.vectors.width_of.Goals as goal

pub loop-a-init : goal.loop-a-init
loop-a-init c = record { wide = λ k d h. absurd (omega (arith, h)) }

pub loop-a-preserved : goal.loop-a-preserved
loop-a-preserved c =
    let e : c.max-n.result ≡ max c.loop-a.n c.width.result = c.max-n.ensures
    ∙ ord_max-max c.loop-a.n c.width.result in
    let w : c.width.result ≡ x_size c.a-item.result = c.width.ensures ∙ ap x_size c.rows.ensures in
    record {
      wide = All-more (λ a. x_size a ≤ c.max-n.result) c.args.planes.now c.loop-a.a-index
          c.a-item.result c.loop-a-test.true
          (λ k d h. omega (arith, c.loop-a.invariant.wide k d h, e))
          (subst (λ a. x_size a ≤ c.max-n.result) c.a-item.is (omega (arith, e, w)));
    }

pub returns : goal.returns
returns c = subst (All (λ a. x_size a ≤ c.loop-a.n))
    (take_all c.loop-a.a-index c.args.planes.now c.loop-a-test.false) c.loop-a.invariant.wide
