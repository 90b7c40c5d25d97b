use Rattle.std.proofs.Common.{◌≡◌, ℕ, suc, ◌+◌, ◌<◌, length}
use Rattle.ff_theory.specs.Ring.{IsElement, multiple}
use Rattle.ff_theory.specs.Poly.{coeff, polynomials}
use Rattle.ff_theory.specs.Values.{polys_of, ArePolys}
use Rattle.ff_poly.proofs.derivative.derivative_rows.Given as goal

abbrev pub invariant-loop-i : goal.invariant-loop-i
invariant-loop-i g l =
    let K = g.K.Ring.elements l.k in
    let P = polynomials K.ring in
    record {
      len : length l.multiples.items + 1 ≡ l.i;
      each : ArePolys K l.multiples.items;
      element : IsElement K l.factor;
      factor : K.value l.factor ≡ multiple K.ring (length l.multiples.items) K.one;
      rows : (j : ℕ) → j < length l.multiples.items → coeff P (polys_of K l.multiples.items) j
          ≡ multiple P (suc j) (coeff P (polys_of K l.rows) (suc j));
    }
