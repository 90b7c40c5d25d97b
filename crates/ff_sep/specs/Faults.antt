-- What the answers of `separate` say of the equation f, over a field whose laws are L.
use Rattle.std.specs.Prelude.{◌≡◌, ℕ, List}
use Rattle.ff_theory.specs.Ring.{Elements}
use Rattle.ff_theory.specs.Lawful.{Lawful}
use Rattle.ff_theory.specs.Poly.{polynomials}
use Rattle.ff_data.specs.Orders.{y_derivative, AreSquareFactors}
use Rattle.ff_sep.specs.declared.separability.SepFault.{SepFault}
use Rattle.ff_sep.specs.declared.separability.SepFault.TheVariants.{Inseparable, Square, NoMemory}

module _ {F : Elements ℕ} (L : Lawful F) (f : List (List ℕ)) where
  -- the derivative in y is 0, or it is not and has the first of two factors of f as a divisor
  abbrev pub IsCause : SepFault → Type 0
  IsCause Inseparable = y_derivative L f ≡ (polynomials (polynomials F.ring)).zero
  IsCause (Square g h) = (¬ (y_derivative L f ≡ (polynomials (polynomials F.ring)).zero))
      × AreSquareFactors L f g h
  IsCause NoMemory = Unit {0}
