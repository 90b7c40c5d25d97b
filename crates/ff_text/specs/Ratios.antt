-- The sums of lines.
use Rattle.std.specs.Prelude.{ℕ, List, [], ◌∷◌}
use Rattle.std.specs.Option.{option_map, unwrap_or}
use Rattle.std.specs.List.{AllZip}
use Rattle.std.specs.Global.{Vec}
use Rattle.ff_text.specs.declared.reader.Monomial.{Monomial}
use Rattle.ff_text.specs.declared.reader.Fraction.{Fraction}
use Rattle.ff_text.specs.declared.sums.Ratio.{Ratio}
use Rattle.ff_text.specs.Grammar.{monomial}
use Rattle.ff_text.specs.Sums.{IsCollected}

-- the terms of the denominator, which is 1 where there is none
abbrev pub denominator_of : Fraction → List Monomial
denominator_of f =
    unwrap_or (option_map (λ (v : Vec Monomial). v.items) f.denominator) (monomial 1 0 0 ∷ [])

pub record IsRatio (p : ℕ) (f : Fraction) (r : Ratio) : Type 0 where
  pub numerator : IsCollected p f.numerator.items r.numerator.items
  pub denominator : IsCollected p (denominator_of f) r.denominator.items

abbrev pub AreRatios : ℕ → List Fraction → List Ratio → Type 0
AreRatios p fs rs = AllZip (IsRatio p) fs rs
