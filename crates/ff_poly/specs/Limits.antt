-- Equations and their degree limits.
use Rattle.std.specs.Prelude.{ℕ, ◌+◌, ◌-◌, ◌*◌, ◌<◌, ◌≤◌, List, [], length, get_or}
use Rattle.ff_theory.specs.Ring.{Elements}
use Rattle.ff_poly.specs.declared.limits.TheConstants.{MAX_X_DEGREE, MAX_Y_DEGREE, MAX_MONIC_DEGREE}
use Rattle.ff_theory.specs.Values.{IsPlane, x_size}

-- the number of coefficients of row i of the monic form, where row i of the equation is not 0:
-- with n the degree in y and a_i the rows, that of a_i * a_n ^ (n - 1 - i)
abbrev pub monic_size : List (List ℕ) → ℕ → ℕ
monic_size rows i =
    length (get_or rows i [])
    + (length rows - 2 - i) * (length (get_or rows (length rows - 1) []) - 1)

-- the degrees in x and in y, and the degree in x of the monic form, are within their limits
pub record IsWithinLimits (rows : List (List ℕ)) : Type 0 where
  pub y : length rows ≤ MAX_Y_DEGREE + 1
  pub x : x_size rows ≤ MAX_X_DEGREE + 1
  pub monic : (i : ℕ) → i + 1 < length rows → 0 < length (get_or rows i [])
      → monic_size rows i ≤ MAX_MONIC_DEGREE + 1

-- an equation of a function field: a polynomial in x and y with y, within the limits
pub record IsEquation (F : Elements ℕ) (rows : List (List ℕ)) : Type 0 where
  pub plane : IsPlane F rows
  pub has_y : 1 < length rows
  pub within : IsWithinLimits rows
