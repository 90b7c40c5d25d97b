-- The coefficients of leading polynomials, by leading terms.
use Rattle.std.proofs.Common.{◌≡◌, ℕ, zero, suc, max, ◌+◌, ◌*◌, ◌<◌, cond, List, [], ◌∷◌, ◌++◌}
use Rattle.std.proofs.Common.{length, refl, sym, ◌∙◌, ap, ap₂, arith}
use Rattle.std.proofs.Math.Nat.{le-max_left, le-max_right, max-le, max-zero, zero-max, mul-suc}
use Rattle.std.proofs.Math.Nat.{mul-zero}
use Rattle.ff_theory.specs.Ring.{RingOps, IsCommRing, power}
use Rattle.ff_theory.specs.Lawful.{Field, Domain}
use Rattle.ff_theory.specs.Poly.{coeff, polynomials}
use Rattle.ff_theory.specs.Monomial.{variable}
use Rattle.ff_theory.proofs.Solver.{◌⊗◌, unit, ring2, zero_mul}
use Rattle.ff_theory.proofs.PolyMap.{polynomial_domain}
use Rattle.ff_table.specs.Coords.{Coords}
use Rattle.ff_table.specs.Table.{Table, IsTable, table_ring, Weighs, weight_of}
use Rattle.ff_table.specs.Level.{IsLevel, class_of, power_of, at_level, monomial_at, top_constant}
use Rattle.ff_table.specs.Level.{power_lead, z_multiple, basis}
use Rattle.ff_table.specs.Roots.{top_weight, leading_poly}
use Rattle.ff_table.proofs.TableRing.{table_laws, weight-mul}
use Rattle.ff_table.proofs.One.{one-weight}
use Rattle.ff_table.proofs.Powers.{power-weight}
use Rattle.ff_table.proofs.Scalars.{part-zero}
use Rattle.ff_table.proofs.Levels.{level-split, level-class, level-power, class-below}
use Rattle.ff_table.proofs.Embedding.{embed_map, weight-zero}
use Rattle.ff_table.proofs.Monomials.{monomial-one, monomial-weight}
use Rattle.ff_table.proofs.LevelProducts.{level-product}
use Rattle.ff_table.proofs.LeadingDegrees.{leading-at}

max-group : (a b c : ℕ) → max a (max b c) ≡ max (max a b) c
max-group a b c = omega (
  arith,
  max-le {a = a} {b = max b c} {k = max (max a b) c}
      (omega (arith, le-max_left a b, le-max_left (max a b) c))
      (max-le {a = b} {b = c} {k = max (max a b) c}
      (omega (arith, le-max_right a b, le-max_left (max a b) c)) (le-max_right (max a b) c)),
  max-le {a = max a b} {b = c} {k = max a (max b c)}
      (max-le {a = a} {b = b} {k = max a (max b c)} (le-max_left a (max b c))
      (omega (arith, le-max_left b c, le-max_right a (max b c))))
      (omega (arith, le-max_right b c, le-max_right a (max b c))),
)

module _ (K : Field) (s : Table K.ring) (table : IsTable K.ring s) where
  abbrev k : RingOps
  k = K.ring

  abbrev P : Domain
  P = polynomial_domain K

  abbrev T : RingOps
  T = table_ring K.ring s

  abbrev C : Type 0
  C = Coords (polynomials K.ring) s.rank

  TL : IsCommRing T
  TL = table_laws K s table

  module _ (t : ℕ) (level : IsLevel s t) where
    abbrev u : C
    u = monomial_at K.ring s t

    u-weight : (i : ℕ) → Weighs k s (power T u i) (i * t)
    u-weight i = power-weight K s table u t (monomial-weight K s table t level)
        (one-weight K s table) i

    one-lead : at_level k s 0 T.one ≡ K.one
    one-lead = ap₂ (at_level k s) zero_level unit_monomial
        ∙ monomial-one K s table (s.rank * 0 + s.weight 0)
      where
        zero_level : 0 ≡ s.rank * 0 + s.weight 0
        zero_level = omega (arith, weight-zero K s table)

        unit_monomial : T.one ≡ monomial_at k s (s.rank * 0 + s.weight 0)
        unit_monomial = sym (ap₂ (λ n i. z_multiple k s (power P.ring (variable k) n) (basis k s i))
            (level-power K s table 0 0 table.algebra.positive)
            (level-class K s table 0 0 table.algebra.positive)
            ∙ (embed_map K s table).on_one)

    -- the powers of the monomial
    pub power-lead : (i : ℕ)
        → at_level K.ring s (i * t) (power (table_ring K.ring s) (monomial_at K.ring s t) i)
        ≡ power_lead K.ring s t i
    power-lead zero = ap (λ n. at_level k s n T.one) (let e : zero * t ≡ 0 = omega arith in e)
        ∙ one-lead
    power-lead (suc i) = ap₂ (at_level k s) (let e : suc i * t ≡ i * t + t = omega arith in e)
        (TL.mul_comm u (power T u i))
        ∙ level-product K s table (power T u i) u (i * t) t (u-weight i)
        (monomial-weight K s table t level)
        ∙ ap₂ (λ a b. K.mul a (K.mul b (top_constant k s (class_of s (i * t)) (class_of s t))))
        (power-lead i) (monomial-one K s table t)
        ∙ ring2 k K.laws (λ a c. a ⊗ (unit ⊗ c)) (λ a c. a ⊗ c) refl (power_lead k s t i)
        (top_constant k s (class_of s (i * t)) (class_of s t))

    module _ (p : List (Coords (polynomials K.ring) s.rank)) (i : ℕ) where
      abbrev top : ℕ
      top = top_weight K.ring s t 0 p

      coefficient : coeff k (leading_poly k s t p) i
          ≡ at_level k s (top_weight k s t 0 p) (T.mul (coeff T p i) (power T u i))
      coefficient = leading-at K s table (at_level k s (top_weight k s t 0 p))
          (part-zero K s (class_of s (top_weight k s t 0 p)) (power_of s (top_weight k s t 0 p))
          (class-below K s table (top_weight k s t 0 p))) (monomial_at k s t) p i

      -- coefficient i of the leading polynomial, where h_i * u^i has the greatest weight
      pub lead-reached : (w : ℕ) → Weighs K.ring s (coeff (table_ring K.ring s) p i) w
          → w + i * t ≡ top_weight K.ring s t 0 p
          → coeff K.ring (leading_poly K.ring s t p) i
          ≡ K.mul (at_level K.ring s w (coeff (table_ring K.ring s) p i))
          (K.mul (power_lead K.ring s t i)
          (top_constant K.ring s (class_of s w) (class_of s (i * t))))
      lead-reached w h e = coefficient
          ∙ ap (λ n. at_level k s n (T.mul (coeff T p i) (power T u i))) (sym e)
          ∙ level-product K s table (coeff T p i) (power T u i) w (i * t) h (u-weight i)
          ∙ ap (λ a. K.mul (at_level k s w (coeff T p i))
          (K.mul a (top_constant k s (class_of s w) (class_of s (i * t))))) (power-lead i)

      -- where it has a lower weight
      pub lead-below : (w : ℕ) → Weighs K.ring s (coeff (table_ring K.ring s) p i) w
          → IsLevel s (top_weight K.ring s t 0 p) → w + i * t < top_weight K.ring s t 0 p
          → coeff K.ring (leading_poly K.ring s t p) i ≡ K.zero
      lead-below w h top_level l = coefficient
          ∙ (weight-mul K s table (coeff T p i) (power T u i) w (i * t) h (u-weight i)).below
          (class_of s (top_weight k s t 0 p)) (class-below K s table (top_weight k s t 0 p))
          (power_of s (top_weight k s t 0 p))
          (omega (arith, l, level-split K s table (top_weight k s t 0 p) top_level))

      -- and where h_i is zero
      pub lead-zero : coeff (table_ring K.ring s) p i ≡ (table_ring K.ring s).zero
          → coeff K.ring (leading_poly K.ring s t p) i ≡ K.zero
      lead-zero z = coefficient ∙ ap (at_level k s (top_weight k s t 0 p))
          (ap (λ a. T.mul a (power T u i)) z ∙ zero_mul T TL (power T u i))
          ∙ part-zero K s (class_of s (top_weight k s t 0 p)) (power_of s (top_weight k s t 0 p))
          (class-below K s table (top_weight k s t 0 p))

  -- the greatest weight with one more coefficient
  pub top_weight-more : (t o : ℕ) (p : List (Coords (polynomials K.ring) s.rank))
      (h : Coords (polynomials K.ring) s.rank) → top_weight K.ring s t o (p ++ h ∷ [])
      ≡ max (top_weight K.ring s t o p) (cond ((table_ring K.ring s).same h
      (table_ring K.ring s).zero) 0 (weight_of K.ring s h + (o + t * length p)))
  top_weight-more t o [] h = max-zero (cond (T.same h T.zero) 0 (weight_of k s h + o))
      ∙ ap (λ n. cond (T.same h T.zero) 0 (weight_of k s h + n))
      (let e : o ≡ o + t * 0 = omega (arith, mul-zero t) in e)
      ∙ sym (zero-max (cond (T.same h T.zero) 0 (weight_of k s h + (o + t * 0))))
  top_weight-more t o (a ∷ p) h =
      ap (max (cond (T.same a T.zero) 0 (weight_of k s a + o))) (top_weight-more t (o + t) p h
      ∙ ap (λ n. max (top_weight k s t (o + t) p)
      (cond (T.same h T.zero) 0 (weight_of k s h + n)))
      (let e : o + t + t * length p ≡ o + t * suc (length p) =
      omega (arith, mul-suc t (length p)) in e))
      ∙ max-group (cond (T.same a T.zero) 0 (weight_of k s a + o)) (top_weight k s t (o + t) p)
      (cond (T.same h T.zero) 0 (weight_of k s h + (o + t * suc (length p))))
