use Rattle.std.proofs.Common.{sym, ◌∙◌}
use Rattle.ff_const.proofs.factors.is_zero.Goals as goal

pub returns : goal.returns
returns g c = (
  λ t. c.same.ensures.value.0 t ∙ c.in_ok-zero.ensures.value,
  λ e. c.same.ensures.value.1 (e ∙ sym c.in_ok-zero.ensures.value),
)
