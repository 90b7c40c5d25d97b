-- The monomials at the levels: powers of z times basis vectors.
use Rattle.std.proofs.Common.{◌≡◌, ℕ, zero, suc, ◌+◌, ◌*◌, ◌<◌, ◌≤◌, ◌⊎◌, inl, inr}
use Rattle.std.proofs.Common.{[], ◌∷◌, sym, ◌∙◌, ap, ap₂, arith}
use Rattle.std.proofs.lemmas.Bool.{cases_lt}
use Rattle.ff_theory.specs.Ring.{RingOps, power}
use Rattle.ff_theory.specs.Lawful.{Field, Domain}
use Rattle.ff_theory.specs.Poly.{coeff, Poly, poly, polynomials}
use Rattle.ff_theory.specs.Monomial.{variable}
use Rattle.ff_theory.proofs.Solver.{mul_zero}
use Rattle.ff_theory.proofs.Poly.{trim-coeff}
use Rattle.ff_theory.proofs.Division.{x_mul_zero, x_mul_suc}
use Rattle.ff_theory.proofs.PolyMap.{polynomial_domain}
use Rattle.ff_theory.specs.Span.{unit_at}
use Rattle.ff_theory.proofs.Span.{unit-same, unit-other}
use Rattle.ff_table.specs.Coords.{Coords, at}
use Rattle.ff_table.specs.Table.{Table, IsTable}
use Rattle.ff_table.specs.Leading.{part}
use Rattle.ff_table.specs.Level.{IsLevel, class_of, power_of, at_level, basis, monomial_at}
use Rattle.ff_table.specs.Table.{Weighs}
use Rattle.ff_table.proofs.Coords.{coords-at}
use Rattle.ff_table.proofs.Scalars.{zero-coeff, multiple-at}
use Rattle.ff_table.proofs.Levels.{class-below, level-split}

module _ (K : Field) (s : Table K.ring) (table : IsTable K.ring s) where
  abbrev k : RingOps
  k = K.ring

  abbrev P : Domain
  P = polynomial_domain K

  abbrev C : Type 0
  C = Coords (polynomials K.ring) s.rank

  abbrev z : Poly K.ring
  z = variable K.ring

  -- the coefficients of z^n
  pub power-coeff : (n d : ℕ) → coeff K.ring
      (power (polynomials K.ring) (variable K.ring) n).coeffs d ≡ unit_at K.ring n d
  unfolding poly
  power-coeff zero zero = trim-coeff k K.laws K.tests (K.one ∷ []) zero
  power-coeff zero (suc d) = trim-coeff k K.laws K.tests (K.one ∷ []) (suc d)
  power-coeff (suc n) zero = x_mul_zero k K.laws K.tests (power P.ring z n)
  power-coeff (suc n) (suc d) = x_mul_suc k K.laws K.tests (power P.ring z n) d ∙ power-coeff n d

  entry : (t l : ℕ) → l < s.rank → at P.ring s.rank (monomial_at k s t) l
      ≡ P.mul (power P.ring z (power_of s t)) (unit_at P.ring (class_of s t) l)
  entry t l q = multiple-at K s (power P.ring z (power_of s t)) (basis k s (class_of s t)) l q
      ∙ ap (P.mul (power P.ring z (power_of s t)))
      (coords-at P.ring s.rank (unit_at P.ring (class_of s t)) l q)

  own : (t : ℕ) → at P.ring s.rank (monomial_at k s t) (class_of s t)
      ≡ power P.ring z (power_of s t)
  own t = entry t (class_of s t) (class-below K s table t)
      ∙ ap (P.mul (power P.ring z (power_of s t))) (unit-same P.ring (class_of s t))
      ∙ P.laws.mul_one _

  -- the coefficient at its level is one
  pub monomial-one : (t : ℕ) → at_level K.ring s t (monomial_at K.ring s t) ≡ K.one
  monomial-one t = ap (λ (p : Poly K.ring). coeff k p.coeffs (power_of s t)) (own t)
      ∙ power-coeff (power_of s t) (power_of s t) ∙ unit-same k (power_of s t)

  same_or_not : (l i : ℕ) → (l ≡ i) ⊎ ¬ (l ≡ i)
  same_or_not l i = go (cases_lt l i) (cases_lt i l)
    where
      go : (l < i) ⊎ (i ≤ l) → (i < l) ⊎ (l ≤ i) → (l ≡ i) ⊎ ¬ (l ≡ i)
      go (inl q) b = inr (λ e. absurd (omega arith))
      go (inr q) (inl r) = inr (λ e. absurd (omega arith))
      go (inr q) (inr r) = inl (omega arith)

  -- and the others are zero
  pub monomial-zero : (t l d : ℕ) → IsLevel s t → l < s.rank → ¬ (s.rank * d + s.weight l ≡ t)
      → part K.ring s l d (monomial_at K.ring s t) ≡ K.zero
  monomial-zero t l d level q n = go (same_or_not l (class_of s t))
    where
      go : (l ≡ class_of s t) ⊎ ¬ (l ≡ class_of s t) → part k s l d (monomial_at k s t) ≡ k.zero
      go (inl e) = ap (λ j. part k s j d (monomial_at k s t)) e
          ∙ ap (λ (p : Poly K.ring). coeff k p.coeffs d) (own t)
          ∙ power-coeff (power_of s t) d ∙ unit-other k (power_of s t) d
          (λ f. n (ap₂ (λ i j. s.rank * j + s.weight i) e f ∙ sym (level-split K s table t level)))
      go (inr e) = ap (λ (p : Poly K.ring). coeff k p.coeffs d)
          (entry t l q ∙ ap (P.mul (power P.ring z (power_of s t)))
          (unit-other P.ring (class_of s t) l e) ∙ mul_zero P.ring P.laws _) ∙ zero-coeff k d

  -- the monomial at a level has that weight
  pub monomial-weight : (t : ℕ) → IsLevel s t → Weighs K.ring s (monomial_at K.ring s t) t
  monomial-weight t level = record {
    place = class_of s t;
    degree = power_of s t;
    in_range = class-below K s table t;
    level = level-split K s table t level;
    nonzero = λ h. K.is_field.one_not_zero (sym (monomial-one t) ∙ h);
    below = λ l q d r. monomial-zero t l d level q (λ e. absurd (omega arith));
  }
