-- The order of a root of the leading polynomial bounds the degree of the next leading polynomial.
use Rattle.std.proofs.Common.{◌≡◌, ℕ, zero, suc, ◌+◌, ◌-◌, ◌*◌, ◌<◌, ◌≤◌, ◌⊎◌, inl, inr, List, []}
use Rattle.std.proofs.Common.{◌∷◌, refl, sym, ◌∙◌, ap, arith, mul_comm}
use Rattle.std.proofs.lemmas.Bool.{cases_lt}
use Rattle.std.proofs.Math.Nat.{mul-add, mul-suc, mul-zero}
use Rattle.ff_theory.specs.Ring.{RingOps, IsCommRing, power}
use Rattle.ff_theory.specs.Lawful.{Field}
use Rattle.ff_theory.specs.Poly.{coeff, polynomials}
use Rattle.ff_theory.proofs.Solver.{◌⊗◌, nil, ring1, ring3}
use Rattle.ff_table.specs.Coords.{Coords}
use Rattle.ff_table.specs.Table.{Table, IsTable, table_ring}
use Rattle.ff_table.specs.Leading.{part, IsBelowBy, AreBelow, end, next}
use Rattle.ff_table.specs.Shift.{leading}
use Rattle.ff_table.proofs.Weights.{grows}
use Rattle.ff_table.proofs.TableRing.{table_laws}
use Rattle.ff_table.proofs.Roots.{below-mul, below-zero}
use Rattle.ff_table.proofs.Scalars.{part-zero}
use Rattle.ff_table.proofs.One.{one-weight}

module _ (K : Field) (s : Table K.ring) (table : IsTable K.ring s) where
  abbrev T : RingOps
  T = table_ring K.ring s

  abbrev k : RingOps
  k = K.ring

  abbrev C : Type 0
  C = Coords (polynomials K.ring) s.rank

  TL : IsCommRing T
  TL = table_laws K s table

  -- coefficient i of the leading polynomial
  pub leading-at : (phi : C → k.carrier) → phi T.zero ≡ k.zero → (u : C) (p : List C) (i : ℕ)
      → coeff k (leading T phi u p) i ≡ phi (T.mul (coeff T p i) (power T u i))
  leading-at phi z u [] i = sym (ap phi (ring1 T TL (λ a. nil ⊗ a) (λ a. nil) refl (power T u i))
      ∙ z)
  leading-at phi z u (h ∷ p) zero = ap phi (sym (TL.mul_one h))
  leading-at phi z u (h ∷ p) (suc i) =
      leading-at (λ a. phi (T.mul a u))
      (ap phi (ring1 T TL (λ a. nil ⊗ a) (λ a. nil) refl u) ∙ z) u p i
      ∙ ap phi (ring3 T TL (λ c a u. c ⊗ a ⊗ u) (λ c a u. c ⊗ (u ⊗ a)) refl (coeff T p i)
      (power T u i) u)

  below-at : (t o n : ℕ) (p : List C) → AreBelow k s t o n p → (i : ℕ)
      → IsBelowBy k s (o + t * i) n (coeff T p i)
  below-at t o n [] (end o' n') i l q d r = below-zero K s table (o + t * i) n l q d r
  below-at t o n (h ∷ p) (next o' n' h' p' first rest) zero l q d r =
      first l q d (omega (arith, r, mul-zero t))
  below-at t o n (h ∷ p) (next o' n' h' p' first rest) (suc i) l q d r =
      below-at t (o + t) n p rest i l q d (omega (arith, r, mul-suc t i))

  below-power : (t : ℕ) (u : C) → IsBelowBy k s 0 (suc t) u → (i : ℕ)
      → IsBelowBy k s 0 (suc (t * i)) (power T u i)
  below-power t u h zero l q d r = (one-weight K s table).below l q d (omega (arith, r, mul-zero t))
  below-power t u h (suc i) l q d r =
      below-mul K s table 0 0 (suc t) (suc (t * i)) (suc (t * suc i)) u (power T u i) h
      (below-power t u h i)
      (omega (arith, mul-suc t i)) l q d (omega (arith, r))

  -- where coefficient r at the level t is not zero, the coefficients after it are zero at each
  -- lower level
  pub next-degree : (t v w x l d m n : ℕ) (u y : Coords (polynomials K.ring) s.rank)
      (p : List (Coords (polynomials K.ring) s.rank))
      → l < s.rank → w ≡ s.rank * d + s.weight l → m < s.rank → x ≡ s.rank * n + s.weight m
      → IsBelowBy K.ring s 0 (suc t) u → IsBelowBy K.ring s 0 (suc v) y → v < t
      → AreBelow K.ring s t 0 (suc w) p → AreBelow K.ring s v 0 (suc x) p
      → (r : ℕ) → ¬ (coeff K.ring (leading (table_ring K.ring s) (part K.ring s l d) u p) r
      ≡ K.zero)
      → (i : ℕ) → r < i → coeff K.ring (leading (table_ring K.ring s) (part K.ring s m n) y p) i
      ≡ K.zero
  next-degree t v w x l d m n u y p ql hw qm hx hu hy less high low r nz i after =
      leading-at (part k s m n) (part-zero K s m n qm) y p i
      ∙ below-mul K s table (0 + t * i) 0 (suc w) (suc (v * i)) (suc (w + v * i)) (coeff T p i)
      (power T y i) (below-at t 0 (suc w) p high i) (below-power v y hy i) (omega arith)
      m qm n (omega (
        arith,
        hx,
        bound,
        split_t,
        split_v,
        gap,
        mul_comm (i - r) v,
        mul_comm
            (i - r) t,
        after,
      ))
    where
      bound : w + v * r ≤ x + t * r
      bound = go (cases_lt (x + t * r) (w + v * r))
        where
          go : (x + t * r < w + v * r) ⊎ (w + v * r ≤ x + t * r) → w + v * r ≤ x + t * r
          go (inr q) = q
          go (inl q) = absurd (nz (leading-at (part k s l d) (part-zero K s l d ql) u p r
              ∙ below-mul K s table (0 + v * r) 0 (suc x) (suc (t * r)) (suc (x + t * r))
              (coeff T p r) (power T u r) (below-at v 0 (suc x) p low r) (below-power t u hu r)
              (omega arith)
              l ql d (omega (arith, hw, q))))

      index : i ≡ r + (i - r)
      index = omega (arith, after)

      split_t : t * i ≡ t * r + t * (i - r)
      split_t = ap (λ j. t * j) index ∙ mul-add t r (i - r)

      split_v : v * i ≡ v * r + v * (i - r)
      split_v = ap (λ j. v * j) index ∙ mul-add v r (i - r)

      gap : (i - r) * v + (i - r) ≤ (i - r) * t
      gap = grows (i - r) v t less
