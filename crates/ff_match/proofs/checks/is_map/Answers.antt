use Rattle.std.proofs.Common.{◌≡◌, ℕ, ◌<◌, ◌≤◌, [], length, get_or, IsTrue, ◌∙◌, subst, arith}
use Rattle.std.proofs.lemmas.List.{get_or_default}
use Rattle.ff_theory.proofs.Results.{ok_map}
use Rattle.ff_match.specs.Candidates.{IsUnit, IsImage, IsImageOfProduct, IsMap}
use Rattle.ff_match.proofs.checks.is_map.Goals as goal

pub returns : goal.returns
returns g c =
    let F = g.K.Ring.elements c.args.k.now in
    let s1 = c.args.s1.now in
    let s2 = c.args.s2.now in
    let r = c.args.r.now in
    let alpha = c.args.alpha in
    let beta = c.args.beta in
    let root = c.args.root.now in
    let images = c.args.images.now in
    let x = c.index-images-0.result in
    let parts = c.requires.parts in
    let some : 0 < length images = omega (arith, c.requires.images.count, parts.second.positive) in
    ok_map (λ b. IsTrue b → (i j : ℕ) → i ≤ j → j < s2.e
    → IsImageOfProduct F s1 s2 alpha beta images i j)
    (λ b. IsTrue b → IsMap F s1 s2 r alpha beta root images) c.are_products.result
    (λ b products t. record {
      one = subst (IsUnit F s2) (c.rows.ensures ∙ c.index-images-0.is
          ∙ get_or_default images 0 x [] some)
          (c.in_ok-keeps_one.ensures c.if-not-keeps_one.false);
      weights = λ i h. c.have_weights.ensures c.if-not-have_weights.false i
          (omega (arith, h, parts.alike.e));
      sends_w = subst (λ w. IsImage F s2 alpha beta images w root) c.rows-2.ensures
          (c.in_ok-sends_w.ensures c.if-not-sends_w.false);
      products = λ i j h l. products t i j h (omega (arith, l, parts.alike.e));
    }) c.are_products.ensures
