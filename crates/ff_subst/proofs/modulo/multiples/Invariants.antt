use Rattle.std.proofs.Common.{[], get_or, length, ℕ, ◌<◌, ◌≡◌}
use Rattle.ff_theory.specs.Poly.{polynomials}
use Rattle.ff_theory.specs.Values.{plane_of, poly_of}
use Rattle.ff_theory.specs.Planes.{row_of}
use Rattle.ff_subst.specs.Congruence.{AreCongruent, ArePlanes}
use Rattle.ff_subst.proofs.modulo.multiples.Given as goal

abbrev pub invariant-loop-plane : goal.invariant-loop-plane
invariant-loop-plane g l = record {
  count : length l.products.items ≡ l.plane-index;
  each : ArePlanes (g.K.Ring.elements l.k) l.products.items;
  congruent : (j : ℕ) → j < l.plane-index → AreCongruent (g.K.Ring.elements l.k) l.m
      ((polynomials (polynomials (g.K.Ring.elements l.k).ring)).mul
      (row_of (g.K.Ring.elements l.k).ring (poly_of (g.K.Ring.elements l.k) l.c))
      (plane_of (g.K.Ring.elements l.k) (get_or l.planes j [])))
      (plane_of (g.K.Ring.elements l.k) (get_or l.products.items j []));
}
