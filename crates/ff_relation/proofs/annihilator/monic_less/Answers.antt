use Rattle.std.proofs.Common.{length, ◌∙◌, ap}
use Rattle.ff_theory.specs.Values.{poly_of}
use Rattle.ff_relation.proofs.Monic.{monic-list, less-list}
use Rattle.ff_relation.proofs.annihilator.monic_less.Goals as goal

pub returns : goal.returns
returns g c =
    let F = g.K.Ring.elements c.args.k.now in
    let L = g.K.Ring.lawful c.args.k.now in
    let list = c.in_ok-coeffs.coeffs.items in
    let h = c.in_ok-coeffs.ensures in
    let e = c.in_ok-p.ensures.value ∙ ap (poly_of F) c.deref.ensures.value in
    record {
      form = monic-list L c.in_ok-p.p list (length c.args.c.now) c.in_ok-p.ensures.poly e h.count
          h.one;
      value = less-list L c.args.c.now list c.in_ok-p.p e h.count h.one h.low;
    }
