use Rattle.std.proofs.Common.{subst}
use Rattle.ff_elem.specs.Elem.{ElemIs}
use Rattle.ff_sep.specs.Parts.{at_monic}
use Rattle.ff_sep.proofs.SepParts.{is-sep}
use Rattle.ff_sep.proofs.parts.sep_by.Goals as goal

pub returns : goal.returns
returns g c =
    let L = g.K.Ring.lawful c.args.alg.now.k in
    let f = c.args.alg.now.f in
    is-sep (g.K.Ring.elements c.args.alg.now.k) L f c.args.alg.now.plane c.args.alg.now.has_y
    c.args.w.now c.in_ok-d.rows.items _ c.requires.w c.requires.inverse c.in_ok-d.ensures
    (subst (λ r. ElemIs L f (at_monic L f r) c.in_ok-b.b) c.deref.ensures.value c.in_ok-b.ensures)
