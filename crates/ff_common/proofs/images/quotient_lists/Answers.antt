use Rattle.std.proofs.Common.{map, subst, Vec, Global, ◌∙◌}
use Rattle.ff_theory.proofs.Results.{ok_map}
use Rattle.ff_common.specs.Common.{AreQuotientLists}
use Rattle.ff_common.proofs.ReversedImages.{by_length, by_is}
use Rattle.ff_common.proofs.images.quotient_lists.Goals as goal

pub quotients_of-requires : goal.quotients_of-requires
quotients_of-requires g c =
    let F = g.K.Ring.elements c.args.alg.now.k in
    let L = g.K.Ring.lawful c.args.alg.now.k in
    record {
      by = c.in_ok-by.ensures.poly;
      nonzero = by_length F L c.args.d.now c.requires.d c.requires.nonzero c.in_ok-by.by
          c.in_ok-by.ensures.poly c.in_ok-by.ensures.value;
      vectors = c.requires.vectors;
    }

pub returns : goal.returns
returns g c =
    let F = g.K.Ring.elements c.args.alg.now.k in
    let L = g.K.Ring.lawful c.args.alg.now.k in
    let items : Vec _ Global → _ = λ v. v.items in
    ok_map _ _ c.quotients_of.result
    (λ r h. subst (λ b. AreQuotientLists L c.args.alg.now.f b c.args.l
    (map items c.args.vectors.now) r.items)
    (c.in_ok-by.ensures.value ∙ by_is F L c.args.d.now c.requires.d c.requires.nonzero) h)
    c.quotients_of.ensures
