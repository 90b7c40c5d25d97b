use Rattle.std.proofs.Common.{◌∙◌, sym, ap, arith}
use Rattle.ff_theory.specs.Vector.{vector_of}
use Rattle.ff_theory.proofs.Span.{unit-same, unit-other}
use Rattle.ff_lin.proofs.Entries.{entry}
use Rattle.ff_describe.proofs.RowLemmas.{unit-row}
use Rattle.ff_describe.proofs.products.is_unit.Goals as goal

pub returns-then-not-are_zero-clause-all : goal.returns-then-not-are_zero-clause-all
returns-then-not-are_zero-clause-all g c h =
    let F = g.K.Ring.elements c.args.k.now in
    sym c.if-not-are_zero.true ∙ c.are_zero.ensures.1 (λ j p l.
    h j (omega (arith, l, c.requires.index))
    ∙ unit-other F.ring c.args.r j (λ e. absurd (omega (arith, e, l))))

pub returns-then-not-same-clause-all : goal.returns-then-not-same-clause-all
returns-then-not-same-clause-all g c h =
    let F = g.K.Ring.elements c.args.k.now in
    let row = c.args.row.now in
    let r = c.args.r in
    let e = sym (entry F row r (omega (arith, c.requires.index, c.requires.room)))
    ∙ h r c.requires.index ∙ unit-same F.ring r ∙ sym c.one.ensures.value in
    sym c.if-not-same.true ∙ c.same.ensures ∙ ap (F.same _) (sym e)
    ∙ (g.met.K.Ring.tests c.args.k.now).same_refl _

pub returns-clause-unit : goal.returns-clause-unit
returns-clause-unit g c h =
    let F = g.K.Ring.elements c.args.k.now in
    let row = c.args.row.now in
    unit-row F (vector_of F row) c.args.n c.args.r
    (c.are_zero.ensures.0 c.if-not-are_zero.false)
    (entry F row c.args.r (omega (arith, c.requires.index, c.requires.room))
    ∙ (g.met.K.Ring.tests c.args.k.now).same_true _ _
    (sym c.same.ensures ∙ c.if-not-same.false) ∙ c.one.ensures.value)
    (c.are_zero-2.ensures.0 h)

pub returns-clause-all : goal.returns-clause-all
returns-clause-all g c h =
    let F = g.K.Ring.elements c.args.k.now in
    c.are_zero-2.ensures.1 (λ j p l. h j l
    ∙ unit-other F.ring c.args.r j (λ e. absurd (omega (arith, e, p))))
