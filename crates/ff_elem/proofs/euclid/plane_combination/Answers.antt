use Rattle.std.proofs.Common.{◌∙◌, arith}
use Rattle.ff_elem.proofs.euclid.plane_combination.Goals as goal

pub returns-clause-len : goal.returns-clause-len
returns-clause-len g c = omega (arith, c.from_vec.ensures.len, c.in_ok-rows.ensures.len)

pub returns-clause-value : goal.returns-clause-value
returns-clause-value g c = c.from_vec.ensures.value ∙ c.in_ok-rows.ensures.value
