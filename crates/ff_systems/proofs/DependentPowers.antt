-- Powers of an element that is finite-integral and infinity-integral depend on each other over k.
use Rattle.std.proofs.Common.{◌≡◌, ℕ, suc, ◌+◌, ◌*◌, ◌<◌, ◌≤◌, ◌⊎◌, inl, inr, false, length}
use Rattle.std.proofs.Common.{refl, sym, ◌∙◌, ap, arith}
use Rattle.std.proofs.lemmas.Bool.{cases_lt, eqb-true}
use Rattle.ff_theory.specs.Ring.{RingOps, IsCommRing, power}
use Rattle.ff_theory.specs.Lawful.{Domain, Field}
use Rattle.ff_theory.specs.Map.{IsMap}
use Rattle.ff_theory.specs.Sum.{sum_below}
use Rattle.ff_theory.specs.Poly.{coeff, Poly, poly, polynomials}
use Rattle.ff_theory.specs.Division.{size}
use Rattle.ff_theory.specs.Planes.{planes, Plane, row_of}
use Rattle.ff_theory.specs.Span.{Dependence}
use Rattle.ff_theory.specs.Algebra.{algebra_of, value_of, degree, constant}
use Rattle.ff_theory.proofs.Solver.{◌⊗◌, ring3, mul_zero}
use Rattle.ff_theory.proofs.Sums.{sum-ext, sum-mul}
use Rattle.ff_theory.proofs.Poly.{trim-coeff}
use Rattle.ff_theory.proofs.Division.{const_mul_at}
use Rattle.ff_theory.proofs.PolyMap.{polynomial_domain}
use Rattle.ff_theory.proofs.Dependence.{dependence}
use Rattle.ff_theory.proofs.Element.{algebra_is_ring, value_map, element_clear, cancel_row}
use Rattle.ff_theory.proofs.Element.{lowest_nonzero}
use Rattle.ff_theory.proofs.Domains.{field_domain}
use Rattle.ff_charts.specs.Integral.{HasDegrees, IsFiniteIntegral, IsInfinityIntegral}
use Rattle.ff_charts.specs.Lattice.{HasShape, flat}
use Rattle.ff_charts.proofs.Rows.{poly_size}
use Rattle.ff_charts.proofs.FiniteChart.{degree_is}
use Rattle.ff_charts.proofs.Flat.{flat_one, flat_ends, flat_zero}
use Rattle.ff_charts.proofs.Lattice.{shape_zero}
use Rattle.ff_conductor.proofs.FiniteIntegral.{form_plane}
use Rattle.ff_conductor.proofs.Degrees.{nonzero_size, factor_size, low_equal, row_mul_size}
use Rattle.ff_local.specs.ChartOrder.{plane_sum}
use Rattle.ff_local.proofs.PlaneSums.{sum_vector, sum_has_shape}
use Rattle.ff_table.proofs.BasisSums.{map-sum}

-- a combination of the first powers that is 0, with a coefficient that is not
pub record DependentPowers (k A : RingOps) (constant : k.carrier → A.carrier) (s : A.carrier)
    : Type 0 where
  pub count : ℕ
  pub coefficients : ℕ → k.carrier
  pub index : ℕ
  pub below : index < count
  pub nonzero : ¬ (coefficients index ≡ k.zero)
  pub sum : sum_below A count (λ i. A.mul (constant (coefficients i)) (power A s i)) ≡ A.zero

module _ (K : Field) (f : Plane K) (n : ℕ) (has : size (polynomials K.ring) f ≡ suc n)
    (s : (algebra_of K f).carrier) (finite : IsFiniteIntegral K f s)
    (infinite : IsInfinityIntegral K f s) where
  abbrev A : RingOps
  A = algebra_of K f

  abbrev D : Domain
  D = polynomial_domain K

  AL : IsCommRing (algebra_of K f)
  AL = algebra_is_ring K f

  VM : IsMap (planes K) (algebra_of K f) (value_of K f)
  VM = value_map K f

  abbrev H : (algebra_of K f).carrier
  H = value_of K f (row_of K.ring finite.h)

  -- h times a power is a plane
  numerator : (j : ℕ) → (N : Plane K) × ((size (polynomials K.ring) N ≤ n)
      × ((algebra_of K f).mul (value_of K f (row_of K.ring finite.h)) (power (algebra_of K f) s j)
      ≡ value_of K f N))
  numerator j = form_plane K f n has _ (finite.powers j)

  abbrev N : ℕ → Plane K
  N j = (numerator j).0

  abbrev l : ℕ
  l = size K.ring finite.h + infinite.bound

  abbrev row_at : Plane K → ℕ → Poly K.ring
  row_at M i = coeff (polynomials K.ring) M.coeffs i

  row_size : (j : ℕ) → HasDegrees K f infinite.bound (power (algebra_of K f) s j) → (i : ℕ)
      → size K.ring (coeff (polynomials K.ring) (N j).coeffs i)
      ≤ size K.ring finite.h + infinite.bound
  unfolding poly
  row_size j g i = let d : (k : ℕ) × (size K.ring g.0.den ≡ suc k) = nonzero_size K g.0.den nd in
      let e : (k : ℕ) × (size K.ring finite.h ≡ suc k) = nonzero_size K finite.h finite.nonzero in
      factor_size K g.0.den finite.h (row_at (N j) i) (coeff (polynomials K.ring) g.0.nums i)
      infinite.bound d.0 e.0 d.1 e.1 at (g.1 i)
    where
      nd : (polynomials K.ring).same g.0.den (polynomials K.ring).zero ≡ false
      nd = lowest_nonzero K f (degree K f) g.0.den g.0.nums g.0.lowest

      T : Plane K
      T = poly (polynomials K.ring) g.0.nums

      few : size (polynomials K.ring) T ≤ n
      few = let p : size (polynomials K.ring) T ≤ length g.0.nums = poly_size
          (polynomials K.ring) D.laws D.tests g.0.nums in
          let q : length g.0.nums ≡ degree K f = eqb-true (length g.0.nums) (degree K f)
          g.0.lowest.count in let r : degree K f
          ≡ n = degree_is K f n has in omega (arith, p, q, r)

      cross : (planes K).mul (row_of K.ring g.0.den) (N j)
          ≡ (planes K).mul (row_of K.ring finite.h) T
      cross = low_equal K f n has _ _ (row_mul_size K f n has g.0.den (N j) (numerator j).1.0)
          (row_mul_size K f n has finite.h T few)
          (VM.on_mul (row_of K.ring g.0.den) (N j)
          ∙ ap (A.mul (value_of K f (row_of K.ring g.0.den))) (sym (numerator j).1.1)
          ∙ ring3 A AL (λ d h s. d ⊗ (h ⊗ s)) (λ d h s. h ⊗ (d ⊗ s)) refl
          (value_of K f (row_of K.ring g.0.den)) H (power A s j)
          ∙ ap (A.mul H) (ap (A.mul (value_of K f (row_of K.ring g.0.den))) (sym g.0.stands)
          ∙ element_clear K f g.0.den g.0.nums nd)
          ∙ sym (VM.on_mul (row_of K.ring finite.h) T))

      at : D.mul g.0.den (row_at (N j) i) ≡ D.mul finite.h (coeff (polynomials K.ring) g.0.nums i)
      at = sym (const_mul_at D.ring D.laws D.tests g.0.den (N j) i)
          ∙ ap (λ (M : Plane K). coeff (polynomials K.ring) M.coeffs i) cross
          ∙ const_mul_at D.ring D.laws D.tests finite.h T i
          ∙ ap (D.mul finite.h) (trim-coeff D.ring D.laws D.tests g.0.nums i)

  shape : (j : ℕ) → HasShape K.ring n (size K.ring finite.h + infinite.bound) (N j)
  shape j = record {
    rows = (numerator j).1.0;
    each = row_size j (infinite.powers j);
  }

  relation : Dependence K.ring (suc (n * l)) (n * l)
      (λ j. flat K.ring (size K.ring finite.h + infinite.bound) (N j))
  relation = dependence (field_domain K) (n * l)
      (suc (n * l)) _ (omega arith)

  abbrev c : ℕ → K.carrier
  c = relation.coefficients

  abbrev r : ℕ
  r = suc (n * l)

  none : plane_sum K.ring r c N ≡ (planes K).zero
  none = flat_one K l n _ _ whole (shape_zero K n l) (λ j. at j (cases_lt j (n * l)))
    where
      whole : HasShape K.ring n l (plane_sum K.ring r c N)
      whole = sum_has_shape K n l r c N (λ i q. shape i)

      at : (j : ℕ) → (j < n * l) ⊎ (n * l ≤ j) → flat K.ring l (plane_sum K.ring r c N) j
          ≡ flat K.ring l (planes K).zero j
      at j (inl q) = sum_vector K l r c N j ∙ relation.sum j q ∙ sym (flat_zero K l j)
      at j (inr q) = flat_ends K l n (plane_sum K.ring r c N) whole j q ∙ sym (flat_zero K l j)

  pub dependent_powers : DependentPowers K.ring (algebra_of K f) (constant K f) s
  unfolding constant
  dependent_powers = record {
    count = r;
    coefficients = c;
    index = relation.index;
    below = relation.below;
    nonzero = relation.nonzero;
    sum = cancel_row K f finite.h finite.nonzero _ _ (sym (sum-mul A AL r H _)
        ∙ sum-ext A AL r _ _ (λ i q. ring3 A AL (λ h c s. h ⊗ (c ⊗ s)) (λ h c s. c ⊗ (h ⊗ s)) refl
        H (constant K f (c i)) (power A s i)
        ∙ ap (A.mul (constant K f (c i))) (numerator i).1.1
        ∙ sym (VM.on_mul _ (N i)))
        ∙ sym (map-sum (planes K) A (value_of K f) VM r _)
        ∙ ap (value_of K f) none ∙ VM.on_zero ∙ sym (mul_zero A AL H));
  }
