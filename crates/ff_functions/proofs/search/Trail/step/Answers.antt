use Rattle.std.proofs.Common.{refl}
use Rattle.ff_functions.proofs.search.Trail.step.Goals as goal

pub returns : goal.returns
returns g c = record {
  form = record {
    powers = c.in_ok-step.ensures.form;
    passed = c.requires.form.passed;
    count = c.requires.form.count;
  };
  passed = refl;
  exact = λ p h at. c.in_ok-step.ensures.exact p at (h at);
}
