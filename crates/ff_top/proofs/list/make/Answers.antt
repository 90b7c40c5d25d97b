use Rattle.ff_theory.proofs.Results.{ok_map}
use Rattle.ff_prime.specs.Number.{number_of}
use Rattle.ff_make.specs.Generator.{IsGenerated}
use Rattle.ff_text.specs.Lists.{made_text}
use Rattle.ff_top.specs.Lists.{IsListed, IsMade}
use Rattle.ff_top.proofs.list.make.Goals as goal

pub list_made-requires : goal.list_made-requires
list_made-requires g c =
    let made : IsGenerated c.args.number c.in_ok-k.k c.in_ok-k.first c.in_ok-k.second =
    c.in_ok-k.ensures in
    record { first = made.first_equation; second = made.second_equation }

pub returns-clause-made : goal.returns-clause-made
returns-clause-made g c =
    let n = c.args.number in
    let k = c.in_ok-k.k in
    let first = c.in_ok-k.first in
    let second = c.in_ok-k.second in
    ok_map (λ a. IsListed k first second (made_text (number_of k) first second)
    a.status a.text.items) (λ a. IsMade n a.status a.text.items) c.list_made.result
    (λ a h. record {
      prime = k;
      first = first;
      second = second;
      generated = c.in_ok-k.ensures;
      listed = h;
    }) c.list_made.ensures.listed
