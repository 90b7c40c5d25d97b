-- Leading coefficients of multiples by polynomials in z and of polynomials in z at one of degree
-- one; an element less one with the same leading term.
use Rattle.std.proofs.Common.{◌≡◌, ℕ, zero, suc, ◌+◌, ◌*◌, true, IsTrue, List, [], ◌∷◌}
use Rattle.std.proofs.Common.{length, refl, sym, ◌∙◌, ap, arith}
use Rattle.std.proofs.Math.Nat.{mul-add}
use Rattle.ff_theory.specs.Ring.{RingOps, power}
use Rattle.ff_theory.specs.Lawful.{Field, Domain}
use Rattle.ff_theory.specs.Eval.{eval_list, eval}
use Rattle.ff_theory.specs.Poly.{coeff, ends_in_nonzero, Poly, poly, polynomials}
use Rattle.ff_theory.specs.Division.{size}
use Rattle.ff_theory.proofs.Solver.{◌⊗◌, ring3, zero_add, mul_zero}
use Rattle.ff_theory.proofs.Series.{mul_top}
use Rattle.ff_theory.proofs.Poly.{trim-coeff}
use Rattle.ff_theory.proofs.Division.{add_at, mul_at, zero_from}
use Rattle.ff_theory.proofs.PolyMap.{polynomial_domain}
use Rattle.ff_table.specs.Coords.{Coords, at}
use Rattle.ff_table.specs.Table.{Table, IsTable, table_ring, Weighs, WeighsBelow}
use Rattle.ff_table.specs.Level.{at_level, z_multiple}
use Rattle.ff_table.proofs.Weights.{grows}
use Rattle.ff_table.proofs.Scalars.{multiple-at}
use Rattle.ff_table.proofs.Levels.{part-level}
use Rattle.ff_table.proofs.ReduceSteps.{clear-step}
use Rattle.ff_table.proofs.Substitution.{at_zeta, list-size}

module _ (K : Field) (s : Table K.ring) (table : IsTable K.ring s) where
  abbrev k : RingOps
  k = K.ring

  abbrev P : Domain
  P = polynomial_domain K

  abbrev T : RingOps
  T = table_ring K.ring s

  -- the leading coefficients multiply
  pub multiple-lead : (p : Poly K.ring) (d : ℕ) → size K.ring p ≡ suc d
      → (a : Coords (polynomials K.ring) s.rank) (w : ℕ) → Weighs K.ring s a w
      → at_level K.ring s (s.rank * d + w) (z_multiple K.ring s p a)
      ≡ K.mul (coeff K.ring p.coeffs d) (at_level K.ring s w a)
  multiple-lead p d e a w h = ap (λ n. at_level k s n (z_multiple k s p a)) split
      ∙ part-level K s table h.place (d + h.degree) h.in_range (z_multiple k s p a)
      ∙ ap (λ (q : Poly K.ring). coeff k q.coeffs (d + h.degree))
      (multiple-at K s p a h.place h.in_range)
      ∙ mul_at k K.laws K.tests p (at P.ring s.rank a h.place) (d + h.degree)
      ∙ mul_top k K.laws (coeff k p.coeffs) (coeff k (at P.ring s.rank a h.place).coeffs) d h.degree
      (d + h.degree) (λ i l. zero_from k K.laws K.tests p i (omega (arith, e, l)))
      (λ i l. h.below h.place h.in_range i
      (omega (arith, h.level, grows s.rank h.degree i l, table.algebra.positive))) refl
      ∙ ap (K.mul (coeff k p.coeffs d)) (sym (part-level K s table h.place h.degree h.in_range a)
      ∙ ap (λ n. at_level k s n a) (sym h.level))
    where
      split : s.rank * d + w ≡ s.rank * (d + h.degree) + s.weight h.place
      split = omega (arith, h.level, mul-add s.rank d h.degree)

  -- less an element with the same leading term
  pub below-step : (t : ℕ) (a g : Coords (polynomials K.ring) s.rank)
      → WeighsBelow K.ring s (suc t) g → at_level K.ring s t g ≡ at_level K.ring s t a
      → WeighsBelow K.ring s (suc t) a
      → WeighsBelow K.ring s t ((table_ring K.ring s).add a ((table_ring K.ring s).neg g))
  below-step t a g small same low l q d r = clear-step K s table (λ n. true) t a g small same
      (λ l d q r on. low l q d r) l d q r refl

module _ (K : Field) (zeta : Poly K.ring) (linear : size K.ring zeta ≡ 2) where
  abbrev base : RingOps
  base = K.ring

  abbrev Q : Domain
  Q = polynomial_domain K

  abbrev constant : K.carrier → Poly K.ring
  constant c = poly K.ring (c ∷ [])

  abbrev alpha : K.carrier
  alpha = coeff K.ring zeta.coeffs 1

  list-lead : (p : List K.carrier) (d : ℕ) → IsTrue (ends_in_nonzero base p) → length p ≡ suc d
      → coeff base (eval_list Q.ring constant zeta p).coeffs d
      ≡ K.mul (coeff base p d) (power base alpha d)
  unfolding poly
  list-lead [] d h e = absurd (omega arith)
  list-lead (c ∷ []) zero h e = ap (λ (q : Poly K.ring). coeff base q.coeffs 0)
      (ap (Q.add (constant c)) (mul_zero Q.ring Q.laws zeta) ∙ Q.laws.add_zero (constant c))
      ∙ trim-coeff base K.laws K.tests (c ∷ []) 0 ∙ sym (K.laws.mul_one c)
  list-lead (c ∷ []) (suc d) h e = absurd (omega arith)
  list-lead (c ∷ b ∷ p) zero h e = absurd (omega arith)
  list-lead (c ∷ b ∷ p) (suc d) h e =
      add_at base K.laws K.tests (constant c)
      (Q.mul zeta (eval_list Q.ring constant zeta (b ∷ p))) (suc d)
      ∙ ap (λ t. K.add t (coeff base
      (Q.mul zeta (eval_list Q.ring constant zeta (b ∷ p))).coeffs (suc d)))
      (trim-coeff base K.laws K.tests (c ∷ []) (suc d)) ∙ zero_add base K.laws _
      ∙ mul_at base K.laws K.tests zeta (eval_list Q.ring constant zeta (b ∷ p)) (suc d)
      ∙ mul_top base K.laws (coeff base zeta.coeffs)
      (coeff base (eval_list Q.ring constant zeta (b ∷ p)).coeffs) 1 d (suc d)
      (λ i l. zero_from base K.laws K.tests zeta i (omega (arith, linear, l)))
      (λ i l. zero_from base K.laws K.tests (eval_list Q.ring constant zeta (b ∷ p)) i
      (let n : size base (eval_list Q.ring constant zeta (b ∷ p)) ≡ suc d =
      list-size K zeta linear (b ∷ p) d h (omega arith) in omega (arith, n, l)))
      (let n : suc d ≡ 1 + d = omega arith in n)
      ∙ ap (K.mul alpha) (list-lead (b ∷ p) d h (omega arith))
      ∙ ring3 base K.laws (λ a c x. a ⊗ (c ⊗ x)) (λ a c x. c ⊗ (a ⊗ x)) refl alpha
      (coeff base (b ∷ p) d) (power base alpha d)

  -- the leading coefficient of p(zeta)
  pub at_zeta-lead : (p : Poly K.ring) (d : ℕ) → size K.ring p ≡ suc d
      → coeff K.ring (at_zeta K zeta linear p).coeffs d
      ≡ K.mul (coeff K.ring p.coeffs d) (power K.ring (coeff K.ring zeta.coeffs 1) d)
  unfolding eval
  at_zeta-lead p d e = list-lead p.coeffs d p.canonical e
