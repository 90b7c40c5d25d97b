use Rattle.std.proofs.Common.{sym, ◌∙◌, ap}
use Rattle.ff_theory.specs.Vector.{vector_of}
use Rattle.ff_lin.proofs.Entries.{entry}
use Rattle.ff_frac.specs.Socle.{shifted_value}
use Rattle.ff_frac.proofs.NumeratorLattice.{next_span}
use Rattle.ff_frac.proofs.socle.shifted.Goals as goal

pub returns-then-is_own-clause-value : goal.returns-then-is_own-clause-value
returns-then-is_own-clause-value g c =
    let F = g.K.Ring.elements c.args.k.now in
    let chi = F.value c.args.chi in
    let row = c.args.row.now in
    c.sub.ensures.value
    ∙ ap (λ t. F.add t (F.neg chi)) (sym (entry F row c.args.l c.requires.index))
    ∙ ap (shifted_value F (vector_of F row c.args.l) chi) (sym c.if-is_own.true)

pub returns-else-is_own-clause-value : goal.returns-else-is_own-clause-value
returns-else-is_own-clause-value g c =
    let F = g.K.Ring.elements c.args.k.now in
    let chi = F.value c.args.chi in
    let row = c.args.row.now in
    sym (entry F row c.args.l c.requires.index)
    ∙ ap (shifted_value F (vector_of F row c.args.l) chi) (sym c.if-is_own.false)
