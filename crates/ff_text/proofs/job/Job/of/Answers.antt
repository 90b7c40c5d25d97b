use Rattle.std.proofs.Common.{◌≡◌, ℕ, ◌-◌, ◌∙◌, false, drop, ap, subst, sym, arith}
use Rattle.std.specs.List.{All, HoldsAt}
use Rattle.std.proofs.lemmas.List.Elements.{at_read}
use Rattle.ff_text.specs.declared.sums.Ratio.{Ratio}
use Rattle.ff_text.specs.Limits.{equation_exceeds, element_exceeds}
use Rattle.ff_text.specs.Parts.{IsReduced, IsEquationOf}
use Rattle.ff_text.proofs.Parts.{equation_within, elements_within, All-elements}
use Rattle.ff_text.proofs.job.Job.of.Goals as goal

pub equation-requires-clause-reduced : goal.equation-requires-clause-reduced
equation-requires-clause-reduced c = rw c.index-sums-0.is
    (c.requires.reduced 0 c.index-sums-0.result c.requires.some)

pub equation-requires-clause-within : goal.equation-requires-clause-within
equation-requires-clause-within c = ap equation_exceeds c.index-sums-0.is
    ∙ equation_within c.args.sums.now c.requires.right 0 c.index-sums-0.result (omega arith)
    c.requires.some

pub equation-requires-2-clause-reduced : goal.equation-requires-2-clause-reduced
equation-requires-2-clause-reduced c =
    rw c.index-sums-count.is (c.requires.reduced (c.min-count.result - 1) c.index-sums-count.result
    (omega (arith, c.min-count.ensures, c.requires.some)))

pub equation-requires-2-clause-within : goal.equation-requires-2-clause-within
equation-requires-2-clause-within c =
    ap equation_exceeds c.index-sums-count.is
    ∙ equation_within c.args.sums.now c.requires.right (c.min-count.result - 1)
    c.index-sums-count.result (omega (arith, c.min-count.ensures))
    (omega (arith, c.min-count.ensures, c.requires.some))

pub elements-requires-clause-reduced : goal.elements-requires-clause-reduced
elements-requires-clause-reduced c =
    subst (All (IsReduced c.args.prime.number))
    (sym (c.split_at.ensures.back ∙ ap (λ n. drop n c.args.sums.now) c.min-count.ensures))
    (All-elements (IsReduced c.args.prime.number) c.args.sums.now c.requires.reduced)

pub elements-requires-clause-within : goal.elements-requires-clause-within
elements-requires-clause-within c =
    subst (All (λ (s : Ratio). element_exceeds s ≡ false))
    (sym (c.split_at.ensures.back ∙ ap (λ n. drop n c.args.sums.now) c.min-count.ensures))
    (elements_within c.args.sums.now c.requires.right)

pub returns-clause-first : goal.returns-clause-first
returns-clause-first c =
    at_read c.args.sums.now (λ (s : Ratio). IsEquationOf c.args.prime.number s c.in_ok-first.first)
    0 c.index-sums-0.result c.requires.some c.index-sums-0.is c.in_ok-first.ensures

pub returns-clause-second : goal.returns-clause-second
returns-clause-second c =
    subst (λ (k : ℕ). HoldsAt (λ (s : Ratio). IsEquationOf c.args.prime.number s
    c.in_ok-second.second) c.args.sums.now k) (ap (λ (n : ℕ). n - 1) c.min-count.ensures)
    (at_read c.args.sums.now (λ (s : Ratio). IsEquationOf c.args.prime.number s
    c.in_ok-second.second) (c.min-count.result - 1) c.index-sums-count.result
    (omega (arith, c.min-count.ensures, c.requires.some)) c.index-sums-count.is
    c.in_ok-second.ensures)
