use Rattle.std.proofs.Common.{ℕ, ◌<◌, ◌≤◌}
use Rattle.ff_match.specs.Candidates.{IsImageOfProduct}
use Rattle.ff_match.proofs.checks.are_products_of.Given as goal

abbrev pub invariant-loop-j : goal.invariant-loop-j
invariant-loop-j g l = (j : ℕ) → l.i ≤ j → j < l.j
    → IsImageOfProduct (g.K.Ring.elements l.k) l.s1 l.s2 l.alpha l.beta l.images l.i j
