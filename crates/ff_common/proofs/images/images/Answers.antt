use Rattle.std.proofs.Common.{ℕ, List, ◌≤◌, map, subst, All, arith}
use Rattle.std.specs.Global.{Vec}
use Rattle.ff_theory.specs.Values.{x_size}
use Rattle.ff_common.specs.Common.{AreReversed}
use Rattle.ff_common.proofs.ReversedImages.{images_are}
use Rattle.ff_common.proofs.images.images.Goals as goal

pub returns-clause-images : goal.returns-clause-images
returns-clause-images g c =
    let F = g.K.Ring.elements c.args.alg.now.k in
    let L = g.K.Ring.lawful c.args.alg.now.k in
    let items : Vec ℕ → List ℕ = λ v. v.items in
    let h = c.widest-h.result in
    images_are F L c.args.alg.now.f c.args.alg.now.plane c.args.alg.now.has_y c.args.d.now
    c.requires.d c.requires.nonzero c.args.l h
    (omega (arith, c.widest-h.ensures.least, c.max.ensures)) c.in_ok-lists.lists.items
    (map items c.args.vectors.now) (map items c.in_ok-images.images.items)
    c.in_ok-lists.ensures (subst (All (λ v. x_size v.items ≤ h)) c.deref.ensures.value
    c.widest-h.ensures.wide)
    (subst (λ x. AreReversed F h x (map items c.in_ok-images.images.items)) c.deref-2.ensures.value
    c.in_ok-images.ensures.value)
