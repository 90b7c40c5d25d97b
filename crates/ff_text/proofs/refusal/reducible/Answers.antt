use Rattle.std.proofs.Common.{◌≡◌, ◌∙◌, ◌++◌, ℕ, List, codes, ap, refl, append_assoc}
use Rattle.std.specs.Fmt.{decimal}
use Rattle.ff_text.specs.Refusals.{product_text}
use Rattle.ff_text.proofs.refusal.reducible.Goals as goal

regroup : (a b c d : List ℕ) → a ++ (b ++ (c ++ d)) ≡ a ++ b ++ c ++ d
regroup a b c d = simp append_assoc refl

pub returns : goal.returns
returns c =
    let number = decimal c.args.which in
    let verb = codes " is reducible: " in
    let factors = product_text c.args.g.now c.args.h.now in
    c.in_ok-format.ensures.ok
    ∙ ap (λ t. codes "premise: equation " ++ (number ++ (verb ++ (t ++ codes "\n"))))
    c.in_ok-product.ensures
    ∙ ap (λ t. codes "premise: equation " ++ t) (regroup number verb factors (codes "\n"))
