use Rattle.std.proofs.Common.{◌≤◌, ◌/◌, ◌%◌, ℕ, length, subst, sym}
use Rattle.ff_make.specs.Generator.{exponents_for}
use Rattle.ff_make.proofs.OddPrimes.{exponent_few}
use Rattle.ff_make.proofs.generator.generate.Goals as goal

pub curve-requires-clause-few : goal.curve-requires-clause-few
curve-requires-clause-few c =
    let p = c.number-p.result in
    subst (λ (m : ℕ). m ≤ 11) (sym c.exponent-m.ensures)
    (exponent_few p (c.args.n / 24 % length (exponents_for p)))

pub curve-requires-2-clause-few : goal.curve-requires-2-clause-few
curve-requires-2-clause-few c =
    let p = c.number-p.result in
    subst (λ (m : ℕ). m ≤ 11) (sym c.exponent-m.ensures)
    (exponent_few p (c.args.n / 24 % length (exponents_for p)))
