use Rattle.std.proofs.Common.{sym, ◌∙◌, ap, subst, arith}
use Rattle.ff_theory.specs.Values.{plane_of, ArePolys}
use Rattle.ff_subst.proofs.powers.zero_plane.Goals as goal

pub from_vec-requires : goal.from_vec-requires
from_vec-requires g c = subst (ArePolys (g.K.Ring.elements c.args.k.now)) (sym c.new.ensures.items)
    (λ k d l. absurd (omega arith))

pub returns-clause-value : goal.returns-clause-value
returns-clause-value g c = c.from_vec.ensures.value
    ∙ ap (plane_of (g.K.Ring.elements c.args.k.now)) c.new.ensures.items
