use Rattle.std.proofs.Common.{◌∙◌}
use Rattle.ff_theory.proofs.Results.{ok_map}
use Rattle.ff_basis.proofs.Pieces.{slice_back}
use Rattle.ff_basis.proofs.blocks.piece_back.Goals as goal

pub returns-clause-value : goal.returns-clause-value
returns-clause-value g c =
    ok_map _ _ c.from_coeffs.result (λ r e. e ∙ slice_back (g.K.Ring.elements c.args.k.now)
    c.args.v.now c.deref.result.now c.args.at c.args.l c.requires.room
    (c.deref.ensures.value ∙ c.in_ok-list.ensures)) c.from_coeffs.ensures.value
