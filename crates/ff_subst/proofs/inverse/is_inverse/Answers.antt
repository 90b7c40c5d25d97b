use Rattle.std.proofs.Common.{true, ◌≡◌}
use Rattle.ff_subst.proofs.inverse.is_inverse.Goals as goal

pub returns-then-not-possible-clause-inverse : goal.returns-then-not-possible-clause-inverse
returns-then-not-possible-clause-inverse g c = (
  λ e. absurd cc,
  λ u. absurd (let t : c.in_ok-possible.possible
      ≡ true = c.in_ok-possible.ensures u in cc),
)

pub returns-in_err-possible-clause-tests : goal.returns-in_err-possible-clause-tests
returns-in_err-possible-clause-tests g c = c.tick.ensures

pub returns-then-not-possible-clause-tests : goal.returns-then-not-possible-clause-tests
returns-then-not-possible-clause-tests g c = c.tick.ensures

pub returns-clause-tests : goal.returns-clause-tests
returns-clause-tests g c = c.tick.ensures
