use Rattle.std.proofs.Common.{◌≡◌, ℕ, ◌<◌, All, length, get_or, []}
use Rattle.ff_theory.specs.Poly.{polynomials}
use Rattle.ff_theory.specs.Values.{poly_of, IsPoly}
use Rattle.ff_subst.specs.Congruence.{IsCongruent}
use Rattle.ff_subst.proofs.modulo.remainders.Given as goal

abbrev pub invariant-loop-row : goal.invariant-loop-row
invariant-loop-row g l = record {
  each : All (λ p. IsPoly (g.K.Ring.elements l.k) p) l.rests.items;
  count : length l.rests.items ≡ l.row-index;
  rests : (j : ℕ) → j < l.row-index
      → IsCongruent (polynomials (g.K.Ring.elements l.k).ring) (poly_of (g.K.Ring.elements l.k) l.m)
      (poly_of (g.K.Ring.elements l.k) (get_or l.rows j []))
      (poly_of (g.K.Ring.elements l.k) (get_or l.rests.items j []));
}
