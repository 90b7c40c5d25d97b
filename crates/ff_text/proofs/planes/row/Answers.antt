use Rattle.std.proofs.Common.{◌≡◌, ℕ, ◌<◌, ◌∙◌, List, replicate, subst, sym}
use Rattle.std.specs.List.{All}
use Rattle.ff_text.specs.Sums.{write_all}
use Rattle.ff_text.proofs.Rows.{zeros_below, below_write_all, elements_below, row_answers}
use Rattle.ff_text.proofs.planes.row.Goals as goal

pub from_coeffs-requires : goal.from_coeffs-requires
from_coeffs-requires c =
    let p = c.args.k.now.number in
    let h = below_write_all p c.args.j c.args.terms.now (replicate c.args.width 0)
    (zeros_below p c.args.k.now.known c.args.width) c.requires.each in
    (elements_below p c.deref.result.now
    (subst (All (λ a. a < p)) (sym (c.deref.ensures.value ∙ c.in_ok-row.ensures)) h))

pub returns-clause-same : goal.returns-clause-same
returns-clause-same c =
    let p = c.args.k.now.number in
    let want : List ℕ = write_all c.args.j (replicate c.args.width 0) c.args.terms.now in
    let e : c.deref.result.now ≡ want = c.deref.ensures.value ∙ c.in_ok-row.ensures in
    let h = below_write_all p c.args.j c.args.terms.now (replicate c.args.width 0)
    (zeros_below p c.args.k.now.known c.args.width) c.requires.each in
    row_answers p c.args.k.now.known c.from_coeffs.result c.deref.result.now want
    (elements_below p c.deref.result.now (subst (All (λ a. a < p)) (sym e) h)) e
    c.from_coeffs.ensures.poly c.from_coeffs.ensures.value
