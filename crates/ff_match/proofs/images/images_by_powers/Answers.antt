use Rattle.std.proofs.Common.{subst, IfSome}
use Rattle.ff_data.specs.Systems.{AreCoords}
use Rattle.ff_match.proofs.CandidateLemmas.{coords-push}
use Rattle.ff_match.proofs.images.images_by_powers.Goals as goal

pub loop-i-preserved : goal.loop-i-preserved
loop-i-preserved g c =
    let F = g.K.Ring.elements c.args.k.now in
    let s2 = c.args.s2.now in
    coords-push F s2 c.loop-i.i c.loop-i.items.items c.push.new.self.items c.in-Some.image
    c.in_ok-push-in-Some.ensures.items c.loop-i.invariant
    (subst (λ o. IfSome o (AreCoords F s2)) c.in-Some.is c.in_ok-image.ensures)
