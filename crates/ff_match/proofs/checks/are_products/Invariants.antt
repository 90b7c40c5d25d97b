use Rattle.std.proofs.Common.{ℕ, ◌<◌, ◌≤◌}
use Rattle.ff_match.specs.Candidates.{IsImageOfProduct}
use Rattle.ff_match.proofs.checks.are_products.Given as goal

abbrev pub invariant-loop-i : goal.invariant-loop-i
invariant-loop-i g l = (i j : ℕ) → i < l.i → i ≤ j → j < l.s2.e
    → IsImageOfProduct (g.K.Ring.elements l.k) l.s1 l.s2 l.alpha l.beta l.images i j
