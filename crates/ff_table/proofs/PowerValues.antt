-- Polynomials over k[z] at an element w whose weight is prime to e, and combinations that are sums
-- of its powers.
use Rattle.std.proofs.Common.{◌≡◌, ℕ, zero, suc, ◌*◌, ◌<◌, ◌≤◌, []}
use Rattle.std.proofs.Common.{◌∷◌, refl, sym, ◌∙◌, ap, ap₂, subst}
use Rattle.ff_theory.specs.Ring.{RingOps, IsCommRing, power}
use Rattle.ff_theory.specs.Lawful.{Field, Domain}
use Rattle.ff_theory.specs.Map.{IsMap}
use Rattle.ff_theory.specs.Sum.{sum_below}
use Rattle.ff_theory.specs.Poly.{coeff, Poly, poly, polynomials}
use Rattle.ff_theory.specs.Eval.{eval}
use Rattle.ff_theory.specs.Division.{size}
use Rattle.ff_theory.specs.Monomial.{variable}
use Rattle.ff_theory.specs.Planes.{planes, Plane, row_of}
use Rattle.ff_theory.proofs.Solver.{◌⊕◌, ◌⊗◌, nil, unit, ring1}
use Rattle.ff_theory.proofs.Sums.{sum-ext, sum-add}
use Rattle.ff_theory.proofs.Poly.{polynomial_laws}
use Rattle.ff_theory.proofs.Evaluate.{at_trim, eval_map, eval-const}
use Rattle.ff_theory.proofs.FrobeniusPoly.{map-power}
use Rattle.ff_theory.proofs.PolyMap.{polynomial_domain}
use Rattle.ff_charts.proofs.Rows.{polynomial_of}
use Rattle.ff_charts.proofs.Rows.{value_sum, value_of_listed}
use Rattle.ff_table.specs.Coords.{Coords}
use Rattle.ff_table.specs.Table.{Table, IsTable, table_ring, Weighs}
use Rattle.ff_table.specs.Level.{scaled}
use Rattle.ff_table.specs.Reduce.{Reduction}
use Rattle.ff_table.specs.Powers.{IsPrimeTo, is_reached, power_sum, IsPowerSum}
use Rattle.ff_table.proofs.TableRing.{table_laws}
use Rattle.ff_table.proofs.Scalars.{multiple-add}
use Rattle.ff_table.proofs.LinearRelation.{LinearRelation, linear_relation}
use Rattle.ff_table.proofs.Embedding.{embed, embed_map, multiple-embed}
use Rattle.ff_table.proofs.PowerSums.{reduce-powers, clear-below, in_add}
use Rattle.ff_table.proofs.PowerSums.{in_zero, in-multiple}

module _ (K : Field) (s : Table K.ring) (table : IsTable K.ring s)
    (w : Coords (polynomials K.ring) s.rank) (W : ℕ) (weighs : Weighs K.ring s w W)
    (prime : IsPrimeTo s.rank W) where
  abbrev k : RingOps
  k = K.ring

  abbrev P : Domain
  P = polynomial_domain K

  abbrev T : RingOps
  T = table_ring K.ring s

  abbrev C : Type 0
  C = Coords (polynomials K.ring) s.rank

  abbrev Q : RingOps
  Q = planes K

  TL : IsCommRing T
  TL = table_laws K s table

  QL : IsCommRing (planes K)
  QL = polynomial_laws P.ring P.laws P.tests

  -- a combination of elements over k that is a sum of powers of w, not all of whose coefficients
  -- are zero
  pub record Dependent (f : ℕ → Coords (polynomials K.ring) s.rank) : Type 0 where
    pub coefficients : ℕ → K.carrier
    pub place : ℕ
    pub below : place < suc (s.rank * W)
    pub nonzero : ¬ (coefficients place ≡ K.zero)
    pub inside : IsPowerSum K.ring s w
        (sum_below (table_ring K.ring s) (suc (s.rank * W))
        (λ i. scaled K.ring s (coefficients i) (f i)))

  reduction : (a : C) → Reduction k s (IsPowerSum k s w) (is_reached prime) a
  reduction a = reduce-powers K s table w W weighs prime a

  sums-inside : (n : ℕ) (c : ℕ → K.carrier) (f : ℕ → C) → ((i : ℕ) → IsPowerSum k s w (f i))
      → IsPowerSum k s w (sum_below T n (λ i. scaled k s (c i) (f i)))
  sums-inside zero c f h = in_zero K s table w W weighs prime
  sums-inside (suc n) c f h = in_add K s table w W weighs prime _ _ (sums-inside n c f h)
      (in-multiple K s table w W weighs prime (poly k (c n ∷ [])) (f n) (h n))

  -- more elements than e * W depend on each other modulo the sums of powers
  pub dependent : (f : ℕ → Coords (polynomials K.ring) s.rank) → Dependent f
  dependent f = record {
    coefficients = r.coefficients;
    place = r.place;
    below = r.below;
    nonzero = r.nonzero;
    inside = subst (IsPowerSum k s w) (sym sums)
        (sums-inside (suc (s.rank * W)) r.coefficients (λ i. (reduction (f i)).multiple)
        (λ i. (reduction (f i)).inside));
  }
    where
      r : LinearRelation K s (suc (s.rank * W)) (λ i. (reduction (f i)).rest)
      r = linear_relation K s table (s.rank * W) (λ i. (reduction (f i)).rest)
          (λ i l. clear-below K s table w W weighs prime (reduction (f i)).rest
          (reduction (f i)).clear)

      sums : sum_below T (suc (s.rank * W)) (λ i. scaled k s (r.coefficients i) (f i))
          ≡ sum_below T (suc (s.rank * W))
          (λ i. scaled k s (r.coefficients i) (reduction (f i)).multiple)
      sums = sum-ext T TL (suc (s.rank * W)) _ _ (λ i l.
          ap (scaled k s (r.coefficients i)) (reduction (f i)).sum
          ∙ multiple-add K s (poly k (r.coefficients i ∷ [])) (reduction (f i)).multiple
          (reduction (f i)).rest)
          ∙ sum-add T TL (suc (s.rank * W))
          (λ i. scaled k s (r.coefficients i) (reduction (f i)).multiple)
          (λ i. scaled k s (r.coefficients i) (reduction (f i)).rest)
          ∙ ap (T.add _) r.sum ∙ TL.add_zero _

  -- the value of a polynomial over k[z] at w
  abbrev pub at_w : Plane K → Coords (polynomials K.ring) s.rank
  at_w F = eval (polynomials K.ring) (table_ring K.ring s) (embed K s table) w F

  pub at_w-map : IsMap (planes K) (table_ring K.ring s) at_w
  at_w-map = eval_map P.ring T P.laws P.tests TL (embed K s table) (embed_map K s table) w

  -- as a sum of powers
  pub at_w-sum : (F : Plane K) (n : ℕ) → size (polynomials K.ring) F ≤ n
      → at_w F ≡ power_sum K.ring s w n (coeff (polynomials K.ring) F.coeffs)
  at_w-sum F n l = value_sum P.ring P.laws P.tests T TL (embed K s table)
      (embed_map K s table).on_zero w F n l
      ∙ sum-ext T TL n _ _ (λ j q. sym (multiple-embed K s table (coeff P.ring F.coeffs j)
      (power T w j)))

  pub at_w-listed : (n : ℕ) (A : ℕ → Poly K.ring)
      → at_w (polynomial_of (polynomials K.ring) (polynomial_domain K).laws
      (polynomial_domain K).tests n A) ≡ power_sum K.ring s w n A
  at_w-listed n A = value_of_listed P.ring P.laws P.tests T TL (embed K s table)
      (embed_map K s table).on_zero w n A
      ∙ sum-ext T TL n _ _ (λ j q. sym (multiple-embed K s table (A j) (power T w j)))

  pub at_w-variable : at_w (variable (polynomials K.ring)) ≡ w
  unfolding poly eval
  at_w-variable = at_trim P.ring T P.laws P.tests TL (embed K s table) (embed_map K s table) w
      (P.zero ∷ P.one ∷ [])
      ∙ ap₂ (λ a b. T.add a (T.mul w (T.add b (T.mul w T.zero)))) (embed_map K s table).on_zero
      (embed_map K s table).on_one
      ∙ ring1 T TL (λ w. nil ⊕ w ⊗ (unit ⊕ w ⊗ nil)) (λ w. w) refl w

  pub at_w-power : (n : ℕ) → at_w (power (planes K) (variable (polynomials K.ring)) n)
      ≡ power (table_ring K.ring s) w n
  at_w-power n = map-power Q T at_w at_w-map (variable P.ring) n
      ∙ ap (λ t. power T t n) at_w-variable

  pub at_w-row : (a : Poly K.ring) → at_w (row_of K.ring a) ≡ embed K s table a
  at_w-row a = eval-const P.ring T P.laws P.tests TL (embed K s table) (embed_map K s table) w a
