-- A turn of the descent, by the p-th powers of the u^j * theta^i.
use Rattle.std.proofs.Common.{◌≡◌, ℕ, zero, suc, pred, ◌+◌ as plus_ℕ, ◌*◌ as times_ℕ, ◌<◌, ◌≤◌, ◌⊎◌}
use Rattle.std.proofs.Common.{inl, inr, ◌↔◌}
use Rattle.std.proofs.Common.{List, length, refl, sym, ◌∙◌, ap, ap₂, subst, arith}
use Rattle.std.proofs.lemmas.Bool.{cases_lt}
use Rattle.ff_theory.specs.Ring.{RingOps, IsCommRing, Elements, power}
use Rattle.ff_theory.specs.Lawful.{Lawful, lawful_field, Field, Domain}
use Rattle.ff_theory.specs.Sum.{sum_below}
use Rattle.ff_theory.specs.Poly.{Poly, polynomials}
use Rattle.ff_theory.specs.Division.{size}
use Rattle.ff_theory.specs.Planes.{planes, Plane, row_of}
use Rattle.ff_theory.specs.Span.{InSpan, combination, unit_at}
use Rattle.ff_theory.specs.Vector.{vectors_of, combination_of}
use Rattle.ff_theory.specs.Values.{poly_of, IsPlane}
use Rattle.ff_theory.proofs.Solver.{◌⊗◌, ring3, mul_zero}
use Rattle.ff_theory.proofs.Division.{size-mul}
use Rattle.ff_theory.proofs.Sums.{sum-ext, sum-zero, sum-mul, sum-single}
use Rattle.ff_theory.proofs.Poly.{polynomial_laws}
use Rattle.ff_theory.proofs.PolyMap.{polynomial_domain, nonzero_size}
use Rattle.ff_theory.proofs.Span.{span-inside, span-same, unit-same, unit-other}
use Rattle.ff_charts.specs.Chart.{Chart as ChartOf, at_theta, IsChart}
use Rattle.ff_charts.specs.Lattice.{HasShape, flat, IsResidue, IsTimes}
use Rattle.ff_charts.proofs.Flat.{flat_one, flat_ends}
use Rattle.ff_charts.proofs.Lattice.{times_shape}
use Rattle.ff_descent.specs.Descent.{IsStepped}
use Rattle.ff_descent.proofs.Start.{constant_plane, plane_combination, combination_flat}
use Rattle.ff_descent.proofs.Start.{combination_shape}
use Rattle.ff_descent.proofs.Turn.{turn_into, turn_back, power_residue}
use Rattle.ff_lin.specs.Space.{SpaceParts, InSpace, SameSpace, frobenius}
use Rattle.ff_elem.specs.Elem.{algebra_in}
use Rattle.ff_data.specs.declared.order.Chart.{Chart}
use Rattle.ff_data.specs.Orders.{chart_of, InResidues, y_degree}
use Rattle.ff_order.specs.declared.chart.ChartRows.{ChartRows}
use Rattle.ff_order.specs.Rows.{IsChartRows}
use Rattle.ff_order.specs.Steps.{ArePowers, AreScaled, IsTurn, row_len, HasResidueShape}
use Rattle.ff_data.proofs.ChartLaws.{algebra_laws, chart_laws, chart_degree}
use Rattle.ff_order.proofs.FirstSpace.{chosen, row_len_is}
use Rattle.ff_order.proofs.LastSpace.{char}

module _ (K : Field) where
  abbrev PL : IsCommRing (planes K)
  PL = polynomial_laws (polynomials K.ring) (polynomial_domain K).laws (polynomial_domain K).tests

  -- the combination of the multiples by g
  pub multiples_combination : (g : Poly K.ring) (r : ℕ) (k : ℕ → K.carrier) (B : ℕ → Plane K)
      → plane_combination K r k (λ i. (planes K).mul (row_of K.ring g) (B i))
      ≡ (planes K).mul (row_of K.ring g) (plane_combination K r k B)
  multiples_combination g r k B = sum-ext (planes K) PL r _ _ (λ i q. ring3 (planes K) PL
      (λ a g b. a ⊗ (g ⊗ b)) (λ a g b. g ⊗ (a ⊗ b)) refl (constant_plane K (k i))
      (row_of K.ring g) (B i)) ∙ sum-mul (planes K) PL r (row_of K.ring g) _

  -- a plane is the combination of those with one entry
  pub plane_by_units : (n δ : ℕ) (N : Plane K) (U : ℕ → Plane K) → HasShape K.ring n δ N
      → ((s : ℕ) → s < times_ℕ n δ → HasShape K.ring n δ (U s))
      → ((s : ℕ) → s < times_ℕ n δ → (j : ℕ) → flat K.ring δ (U s) j ≡ unit_at K.ring s j)
      → plane_combination K (times_ℕ n δ) (flat K.ring δ N) U ≡ N
  plane_by_units n δ N U shape shapes units = flat_one K δ n _ N
      (combination_shape K n δ (times_ℕ n δ) (flat K.ring δ N) U shapes) shape
      (λ j. combination_flat K δ (times_ℕ n δ) (flat K.ring δ N) U j
      ∙ sum-ext K.ring K.laws (times_ℕ n δ) _
      (λ s. K.mul (flat K.ring δ N s) (unit_at K.ring s j))
      (λ s q. ap (K.mul (flat K.ring δ N s)) (units s q j)) ∙ go j (cases_lt j (times_ℕ n δ)))
    where
      go : (j : ℕ) → (j < times_ℕ n δ) ⊎ (times_ℕ n δ ≤ j) → sum_below K.ring (times_ℕ n δ)
          (λ s. K.mul (flat K.ring δ N s) (unit_at K.ring s j)) ≡ flat K.ring δ N j
      go j (inl q) = sum-single K.ring K.laws (times_ℕ n δ) j
          (λ s. K.mul (flat K.ring δ N s) (unit_at K.ring s j)) q
          (λ s t e. ap (K.mul (flat K.ring δ N s)) (unit-other K.ring s j (λ i. e (sym i)))
          ∙ mul_zero K.ring K.laws (flat K.ring δ N s))
          ∙ ap (K.mul (flat K.ring δ N j)) (unit-same K.ring j) ∙ K.laws.mul_one (flat K.ring δ N j)
      go j (inr q) = sum-ext K.ring K.laws (times_ℕ n δ) _ (λ s. K.zero)
          (λ s t. ap (K.mul (flat K.ring δ N s))
          (unit-other K.ring s j (λ e. absurd (omega (arith, e, q, t))))
          ∙ mul_zero K.ring K.laws (flat K.ring δ N s))
          ∙ sum-zero K.ring K.laws (times_ℕ n δ) ∙ sym (flat_ends K δ n N shape j q)

module _ (F : Elements ℕ) (L : Lawful F) (f : List (List ℕ)) (hf : IsPlane F f) (two : 1 < length f)
    (chart : Chart) (rows : ChartRows) (h : IsChartRows L f chart rows) where
  abbrev K : Field
  K = lawful_field L

  abbrev D : Domain
  D = polynomial_domain (lawful_field L)

  abbrev A : RingOps
  A = algebra_in L f

  abbrev AL : IsCommRing (algebra_in L f)
  AL = algebra_laws F L f hf two

  abbrev c : ChartOf F.ring (algebra_in L f)
  c = chart_of L f chart

  abbrev l : IsChart F.ring (algebra_in L f) (chart_of L f chart)
  l = chart_laws F L f hf two chart

  abbrev d : Poly F.ring
  d = poly_of F rows.d

  abbrev q : ℕ
  q = pred F.characteristic

  abbrev n : ℕ
  n = (chart_of L f chart).degree

  abbrev δ : ℕ
  δ = pred (size F.ring (poly_of F rows.d))

  pub characteristic_is : F.characteristic ≡ suc (pred F.characteristic)
  characteristic_is = let p : 0 < F.characteristic = L.finite.least.positive in omega (arith, p)

  modulus_power : (j : ℕ) → (chart_of L f chart).IsModulus
      (power (polynomials F.ring) (poly_of F rows.d) j)
  modulus_power zero = l.one_modulus
  modulus_power (suc j) = l.modulus_product d (power (polynomials F.ring) d j) h.modulus
      (modulus_power j)

  -- a power of d is a modulus, and its residues have rows that are not shorter
  pub power_modulus : (top : List ℕ)
      → poly_of F top ≡ power (polynomials F.ring) (poly_of F rows.d) F.characteristic
      → (chart_of L f chart).IsModulus (poly_of F top)
  power_modulus top e = subst (chart_of L f chart).IsModulus (sym e)
      (modulus_power F.characteristic)

  power_longer : (j : ℕ) → pred (size F.ring (poly_of F rows.d)) ≤ pred (size F.ring
      (power (polynomials F.ring) (poly_of F rows.d) (suc j)))
  power_longer j = go (nonzero_size K d (l.modulus_nonzero d h.modulus))
      (nonzero_size K (power (polynomials F.ring) d j) (l.modulus_nonzero _ (modulus_power j)))
    where
      go : (a : ℕ) × (size F.ring (poly_of F rows.d) ≡ suc a)
          → (b : ℕ) × (size F.ring (power (polynomials F.ring) (poly_of F rows.d) j) ≡ suc b)
          → pred (size F.ring (poly_of F rows.d)) ≤ pred (size F.ring
          (power (polynomials F.ring) (poly_of F rows.d) (suc j)))
      go a b = let s : size F.ring (power (polynomials F.ring) d (suc j)) ≡ suc (plus_ℕ a.0 b.0)
          = size-mul (lawful_field L) d
          (power (polynomials F.ring) d j) a.0 b.0 a.1 b.1 in omega (arith, s, a.1)

  pub top_longer : (top : List ℕ)
      → poly_of F top ≡ power (polynomials F.ring) (poly_of F rows.d) F.characteristic
      → row_len L f chart rows.d ≤ row_len L f chart top
  top_longer top e = subst (λ m. δ ≤ pred (size F.ring m))
      (sym (e ∙ ap (power (polynomials F.ring) d) characteristic_is))
      (power_longer (pred F.characteristic))

  module _ (below top : List ℕ)
      (below_is : poly_of F below ≡ power (polynomials F.ring) (poly_of F rows.d)
      (pred F.characteristic))
      (top_is : poly_of F top ≡ power (polynomials F.ring) (poly_of F rows.d) F.characteristic)
    where
      abbrev g : Poly F.ring
      g = poly_of F below

      abbrev δ' : ℕ
      δ' = pred (size F.ring (poly_of F top))

      top_suc : poly_of F top ≡ power (polynomials F.ring) (poly_of F rows.d)
          (suc (pred F.characteristic))
      top_suc = top_is ∙ ap (power (polynomials F.ring) d) characteristic_is

      -- the products of g have the shape of residues modulo top
      pub scaled_shape : (N : Plane (lawful_field L)) → HasResidueShape L f chart rows.d N
          → HasResidueShape L f chart top ((planes (lawful_field L)).mul (row_of F.ring (poly_of F
          below)) N)
      scaled_shape N shape = subst (λ m. HasShape F.ring n (pred (size F.ring m))
          ((planes K).mul (row_of F.ring g) N))
          (ap (λ t. D.mul t d) below_is
          ∙ D.laws.mul_comm (power (polynomials F.ring) d (pred F.characteristic)) d ∙ sym top_suc)
          (times_shape K A AL c l d h.modulus g
          (subst (chart_of L f chart).IsModulus (sym below_is)
          (modulus_power (pred F.characteristic)))
          (λ M. HasResidueShape L f chart rows.d M) N shape)

      module _ (space target : SpaceParts) (scaled : List (List ℕ))
          (len : length scaled ≡ length space.basis)
          (each : AreScaled L f chart rows.d top (poly_of F below) space.basis scaled)
          (same : SameSpace F target.basis scaled) where
        abbrev r : ℕ
        r = length space.basis

        abbrev IsPart : ℕ → Plane (lawful_field L) → Type 0
        IsPart i N = HasResidueShape L f chart rows.d N
            × (((j : ℕ) → flat F.ring (row_len L f chart rows.d) N j ≡ vectors_of F space.basis i j)
            × ((j : ℕ) → vectors_of F scaled i j ≡ flat F.ring (row_len L f chart top)
            ((planes (lawful_field L)).mul (row_of F.ring (poly_of F below)) N) j))

        B : (B : ℕ → Plane (lawful_field L)) × ((i : ℕ) → i < length space.basis → IsPart i (B i))
        B = chosen IsPart r each (planes K).zero

        abbrev T : Plane (lawful_field L) → Type 0
        T = InResidues F δ space

        abbrev whole : (ℕ → F.carrier) → Plane (lawful_field L)
        whole k = plane_combination K r k B.0

        whole_shape : (k : ℕ → F.carrier) → HasShape F.ring n δ (whole k)
        whole_shape k = combination_shape K n δ r k B.0 (λ i q. (B.1 i q).0)

        whole_flat : (k : ℕ → F.carrier) (j : ℕ) → flat F.ring δ (whole k) j
            ≡ combination F.ring r k (vectors_of F space.basis) j
        whole_flat k j = combination_flat K δ r k B.0 j ∙ sum-ext F.ring L.laws r _ _
            (λ i q. ap (F.mul (k i)) ((B.1 i q).1.0 j))

        scaled_flat : (k : ℕ → F.carrier) (j : ℕ)
            → flat F.ring δ' ((planes K).mul (row_of F.ring g) (whole k)) j
            ≡ combination F.ring r k (vectors_of F scaled) j
        scaled_flat k j = ap (λ N. flat F.ring δ' N j) (sym (multiples_combination K g r k B.0))
            ∙ combination_flat K δ' r k (λ i. (planes K).mul (row_of F.ring g) (B.0 i)) j
            ∙ sum-ext F.ring L.laws r _ _ (λ i q. ap (F.mul (k i)) (sym ((B.1 i q).1.1 j)))

        module _ (R : Plane (lawful_field L)) (shape : HasResidueShape L f chart top R) where
          times_into : InSpace F target (flat F.ring δ' R) → IsTimes F.ring n δ g T R
          times_into t = at (subst
              (λ r. InSpan F.ring r (vectors_of F scaled) (flat F.ring δ' R)) len
              (span-inside F.ring L.laws (length target.basis) (vectors_of F target.basis)
              (length scaled) (vectors_of F scaled) (flat F.ring δ' R) same.into t))
            where
              at : InSpan F.ring r (vectors_of F scaled) (flat F.ring δ' R)
                  → IsTimes F.ring n δ g T R
              at s = record {
                part = whole s.coefficients;
                shape = whole_shape s.coefficients;
                is_in = record {
                  coefficients = s.coefficients;
                  sum = whole_flat s.coefficients;
                };
                product = flat_one K δ' n R _ shape
                    (scaled_shape (whole s.coefficients) (whole_shape s.coefficients))
                    (λ j. s.sum j ∙ sym (scaled_flat s.coefficients j));
              }

          times_back : IsTimes F.ring n δ g T R → InSpace F target (flat F.ring δ' R)
          times_back t = span-inside F.ring L.laws (length scaled) (vectors_of F scaled)
              (length target.basis) (vectors_of F target.basis) (flat F.ring δ' R) same.back
              (subst (λ r. InSpan F.ring r (vectors_of F scaled) (flat F.ring δ' R)) (sym len)
              (record {
                coefficients = t.is_in.coefficients;
                sum = λ j. ap (λ N. flat F.ring δ' N j)
                    (t.product ∙ ap ((planes K).mul (row_of F.ring g)) part_is)
                    ∙ scaled_flat t.is_in.coefficients j;
              }))
            where
              part_is : t.part ≡ whole t.is_in.coefficients
              part_is = flat_one K δ n t.part (whole t.is_in.coefficients) t.shape
                  (whole_shape t.is_in.coefficients)
                  (λ j. t.is_in.sum j ∙ sym (whole_flat t.is_in.coefficients j))

        module _ (images : List (List ℕ)) (next : SpaceParts)
            (count : length images ≡ times_ℕ (y_degree L f) (pred (length rows.d)))
            (powers : ArePowers L f chart rows.d top images (length images))
            (turned : (v : ℕ → F.carrier) → InSpace F next v ↔ (InSpace F space v
            × InSpace F target (combination_of F images (frobenius F v)))) where
          abbrev N# : ℕ
          N# = times_ℕ (chart_of L f chart).degree (pred (size F.ring (poly_of F rows.d)))

          count_is : length images ≡ N#
          count_is = count ∙ ap₂ times_ℕ (sym (chart_degree F L f hf two chart))
              (sym (row_len_is F L f hf two chart rows.d h.d))

          abbrev IsImage : ℕ → Plane (lawful_field L) × Plane (lawful_field L) → Type 0
          IsImage s x = HasResidueShape L f chart rows.d x.0
              × (((j : ℕ) → flat F.ring (row_len L f chart rows.d) x.0 j ≡ unit_at F.ring s j)
              × (IsResidue (chart_of L f chart) (poly_of F top)
              (power (algebra_in L f) (at_theta (chart_of L f chart) x.0) F.characteristic) x.1
              × ((j : ℕ) → vectors_of F images s j ≡ flat F.ring (row_len L f chart top) x.1 j)))

          M : (M : ℕ → Plane (lawful_field L) × Plane (lawful_field L))
              × ((s : ℕ) → s < length images → IsImage s (M s))
          M = chosen IsImage (length images) (λ s b. let t = powers s b in
              ((t.0, t.1.1.1.0), (t.1.0, (t.1.1.0, t.1.1.1.1)))) ((planes K).zero, (planes K).zero)

          abbrev Ns : ℕ → Plane (lawful_field L)
          Ns s = (M.0 s).0

          abbrev Rs : ℕ → Plane (lawful_field L)
          Rs s = (M.0 s).1

          is_image : (s : ℕ) → s < N# → IsImage s (M.0 s)
          is_image s b = M.1 s (omega (arith, b, count_is))

          module _ (N : Plane (lawful_field L)) (shape : HasResidueShape L f chart rows.d N) where
            abbrev v : ℕ → F.carrier
            v = flat F.ring δ N

            abbrev R : Plane (lawful_field L)
            R = plane_combination K N# (λ i. power F.ring (v i) (suc (pred F.characteristic))) Rs

            N_is : plane_combination K N# v Ns ≡ N
            N_is = plane_by_units K n δ N Ns shape (λ s b. (is_image s b).0)
                (λ s b. (is_image s b).1.0)

            residue : IsResidue c (power (polynomials F.ring) d (suc (pred F.characteristic)))
                (power A (at_theta c N) (suc (pred F.characteristic))) R
            residue = subst (λ N. IsResidue c
                (power (polynomials F.ring) d (suc (pred F.characteristic)))
                (power A (at_theta c N) (suc (pred F.characteristic))) R) N_is
                (power_residue K A AL c l q d h.modulus (char F L f hf two chart rows h) N# v Ns Rs
                (λ s b. subst (λ m. IsResidue c m
                (power A (at_theta c (Ns s)) (suc (pred F.characteristic))) (Rs s)) top_suc
                (subst (λ p. IsResidue c (poly_of F top) (power A (at_theta c (Ns s)) p) (Rs s))
                characteristic_is (is_image s b).1.1.0)))

            R_shape : HasResidueShape L f chart top R
            R_shape = subst (λ m. HasShape F.ring n (pred (size F.ring m)) R) (sym top_suc)
                residue.shape

            R_flat : (j : ℕ) → flat F.ring δ' R j ≡ combination_of F images (frobenius F v) j
            R_flat j = combination_flat K δ' N#
                (λ i. power F.ring (v i) (suc (pred F.characteristic))) Rs j
                ∙ sum-ext F.ring L.laws N# _
                (λ i. F.mul (frobenius F v i) (vectors_of F images i j))
                (λ i b. ap₂ F.mul (ap (power F.ring (v i)) (sym characteristic_is))
                (sym ((is_image i b).1.1.1 j)))
                ∙ ap (λ r. sum_below F.ring r
                (λ i. F.mul (frobenius F v i) (vectors_of F images i j))) (sym count_is)

            into : InSpace F next v → IsStepped c q d T N
            into s = turn_back K A AL c l q d h.modulus T N R residue ((turned v).0 s).0
                (subst (λ g. IsTimes F.ring n δ g T R) below_is
                (times_into R R_shape (span-same F.ring L.laws (length target.basis)
                (vectors_of F target.basis) (combination_of F images (frobenius F v))
                (flat F.ring δ' R) R_flat ((turned v).0 s).1)))

            back : IsStepped c q d T N → InSpace F next v
            back s = (turned v).1 (
              s.is_in,
              span-same F.ring L.laws (length target.basis) (vectors_of F target.basis)
                  (flat F.ring δ' R) (combination_of F images (frobenius F v)) (λ j. sym (R_flat j))
                  (times_back R R_shape (subst (λ g. IsTimes F.ring n δ g T R) (sym below_is)
                  (turn_into K A AL c l q d h.modulus T N R residue s))),
            )

          pub next_space : IsTurn L f chart rows.d space next
          next_space = subst (λ e. (N : Plane (lawful_field L)) → HasResidueShape L f chart rows.d N
              → InResidues F e next N
              ↔ IsStepped (chart_of L f chart) (pred F.characteristic) (poly_of F rows.d)
              (InResidues F e space) N) (row_len_is F L f hf two chart rows.d h.d)
              (λ N shape. (into N shape, back N shape))
