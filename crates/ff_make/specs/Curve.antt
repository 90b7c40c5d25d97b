-- Hyperelliptic curves in shifted coordinates. This project's own.
use Rattle.std.specs.Prelude.{ℕ, List, [], ◌∷◌}
use Rattle.ff_theory.specs.Ring.{Elements, power}
use Rattle.ff_theory.specs.Poly.{Poly, poly, polynomials}
use Rattle.ff_theory.specs.Planes.{row_of}

module _ (F : Elements ℕ) where
  -- x + s, and y + h
  abbrev pub x_plus : F.carrier → Poly F.ring
  x_plus s = poly F.ring (s ∷ F.one ∷ [])

  abbrev pub y_plus : Poly F.ring → Poly (polynomials F.ring)
  y_plus h = poly (polynomials F.ring) (h ∷ (polynomials F.ring).one ∷ [])

  -- (x + s)^m + 1
  abbrev pub right_side : F.carrier → ℕ → Poly F.ring
  right_side s m = (polynomials F.ring).add (power (polynomials F.ring) (x_plus s) m)
      (polynomials F.ring).one

  -- (y + h)^2 - (x + s)^m - 1
  abbrev pub curve : Poly F.ring → F.carrier → ℕ → Poly (polynomials F.ring)
  curve h s m = (polynomials (polynomials F.ring)).add
      ((polynomials (polynomials F.ring)).mul (y_plus h) (y_plus h))
      (row_of F.ring ((polynomials F.ring).neg (right_side s m)))

  -- x^5 + c*x
  abbrev pub quintic : F.carrier → Poly F.ring
  quintic c = poly F.ring (F.zero ∷ c ∷ F.zero ∷ F.zero ∷ F.zero ∷ F.one ∷ [])
