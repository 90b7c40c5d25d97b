use Rattle.std.proofs.Common.{true, ◌≡◌}
use Rattle.ff_subst.proofs.inverse.satisfies.Goals as goal

pub returns-then-not-possible : goal.returns-then-not-possible
returns-then-not-possible g c = (
  λ e. absurd cc,
  λ e. absurd (let t : c.in_ok-possible.possible
      ≡ true = c.in_ok-possible.ensures e in cc),
)

pub returns : goal.returns
returns g c = c.is_zero.ensures
