-- The parts of a job, by the sums of its lines.
use Rattle.std.specs.Prelude.{ℕ, ◌<◌, List}
use Rattle.std.specs.List.{All}
use Rattle.ff_text.specs.declared.job.RawElem.{RawElem}
use Rattle.ff_text.specs.declared.reader.Monomial.{Monomial}
use Rattle.ff_text.specs.declared.sums.Ratio.{Ratio}
use Rattle.ff_text.specs.Sums.{IsCollected, IsSum, IsSumInX}

-- the coefficients of the sums are below p
pub record IsReduced (p : ℕ) (s : Ratio) : Type 0 where
  pub numerator : All (λ (m : Monomial). m.coefficient < p) s.numerator.items
  pub denominator : All (λ (m : Monomial). m.coefficient < p) s.denominator.items

-- the polynomial of whatever terms were collected into the numerator
abbrev pub IsEquationOf : ℕ → Ratio → List (List ℕ) → Type 0
IsEquationOf p s f =
    (terms : List Monomial) → IsCollected p terms s.numerator.items → IsSum p terms f

-- the fraction of whatever terms were collected into the numerator and the denominator
pub record IsElementOf (p : ℕ) (s : Ratio) (e : RawElem) : Type 0 where
  pub numerator : (terms : List Monomial)
      → IsCollected p terms s.numerator.items → IsSum p terms e.num
  pub denominator : (terms : List Monomial)
      → IsCollected p terms s.denominator.items → IsSumInX p terms e.den
