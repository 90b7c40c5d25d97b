-- The span of the residues of the multiples is the space that the descent starts with.
use Rattle.std.proofs.Common.{◌≡◌, ℕ, pred, ◌*◌ as times_ℕ, ◌<◌, ◌≤◌, ◌⊎◌, inl, inr, ◌↔◌}
use Rattle.std.proofs.Common.{List, length, sym, ◌∙◌, ap, ap₂, subst, arith}
use Rattle.std.proofs.lemmas.Bool.{cases_lt}
use Rattle.ff_theory.specs.Ring.{RingOps, IsCommRing, Elements}
use Rattle.ff_theory.specs.Lawful.{Lawful, lawful_field, Field}
use Rattle.ff_theory.specs.Poly.{Poly, polynomials}
use Rattle.ff_theory.specs.Division.{size}
use Rattle.ff_theory.specs.Planes.{planes, Plane}
use Rattle.ff_theory.specs.Derivative.{derivative}
use Rattle.ff_theory.specs.Span.{InSpan}
use Rattle.ff_theory.specs.Vector.{vectors_of}
use Rattle.ff_theory.specs.Values.{poly_of, IsPoly, IsPlane}
use Rattle.ff_theory.proofs.Sums.{sum-ext}
use Rattle.ff_theory.proofs.Span.{span-inside}
use Rattle.ff_charts.specs.Chart.{Chart as ChartOf, InPowers, IsChart}
use Rattle.ff_charts.specs.Lattice.{flat, IsResidue, InLattice}
use Rattle.ff_charts.proofs.Chart.{powers_plane}
use Rattle.ff_charts.proofs.Lattice.{lat_above}
use Rattle.ff_descent.proofs.Start.{multiple_at, IsMultipleResidue, multiples_into, multiples_back}
use Rattle.ff_descent.proofs.Start.{start_into, start_back}
use Rattle.ff_lin.specs.Space.{SpaceParts, InSpace, SameSpace}
use Rattle.ff_poly.proofs.LongDivision.{poly-size}
use Rattle.ff_elem.specs.Elem.{algebra_in}
use Rattle.ff_data.specs.declared.order.Chart.{Chart}
use Rattle.ff_data.specs.Orders.{chart_of, different_of, InResidues, y_degree}
use Rattle.ff_order.specs.declared.chart.ChartRows.{ChartRows}
use Rattle.ff_order.specs.Rows.{IsChartRows}
use Rattle.ff_order.specs.Steps.{AreMultiples, IsStart, row_len}
use Rattle.ff_data.proofs.ChartLaws.{algebra_laws, chart_laws, chart_degree}

-- spans of families that agree
pub span_agree : (R : RingOps) (laws : IsCommRing R) (n : ℕ) (w u : ℕ → ℕ → R.carrier)
    → ((i : ℕ) → i < n → (j : ℕ) → w i j ≡ u i j) → (v : ℕ → R.carrier) → InSpan R n w v
    → InSpan R n u v
span_agree R laws n w u h v s = record {
  coefficients = s.coefficients;
  sum = λ j. s.sum j ∙ sum-ext R laws n (λ i. R.mul (s.coefficients i) (w i j))
      (λ i. R.mul (s.coefficients i) (u i j))
      (λ i l. ap (R.mul (s.coefficients i)) (h i l j));
}

-- a choice below a bound, and a default above it
abbrev pick : {C : Type 0} (P : ℕ → C → Type 0) (n : ℕ) → ((i : ℕ) → i < n → (x : C) × P i x) → C
    → (i : ℕ) → (i < n) ⊎ (n ≤ i) → C
pick P n h d i (inl l) = (h i l).0
pick P n h d i (inr l) = d

pub chosen : {C : Type 0} (P : ℕ → C → Type 0) (n : ℕ) → ((i : ℕ) → i < n → (x : C) × P i x) → C
    → (c : ℕ → C) × ((i : ℕ) → i < n → P i (c i))
chosen P n h d = (λ i. pick P n h d i (cases_lt i n), λ i l. go i l (cases_lt i n))
  where
    go : (i : ℕ) → i < n → (s : (i < n) ⊎ (n ≤ i)) → P i (pick P n h d i s)
    go i l (inl q) = (h i q).1
    go i l (inr q) = absurd (omega arith)

module _ (F : Elements ℕ) (L : Lawful F) (f : List (List ℕ)) (hf : IsPlane F f) (two : 1 < length f)
    (chart : Chart) where
  abbrev K : Field
  K = lawful_field L

  abbrev A : RingOps
  A = algebra_in L f

  abbrev AL : IsCommRing (algebra_in L f)
  AL = algebra_laws F L f hf two

  abbrev c : ChartOf F.ring (algebra_in L f)
  c = chart_of L f chart

  abbrev l : IsChart F.ring (algebra_in L f) (chart_of L f chart)
  l = chart_laws F L f hf two chart

  pub row_len_is : (d : List ℕ) → IsPoly F d → row_len L f chart d ≡ pred (length d)
  row_len_is d hd = ap pred (poly-size F.ring L.laws L.tests F.value d hd.canonical)

  module _ (rows : ChartRows) (h : IsChartRows L f chart rows) (space : SpaceParts)
      (list : List (List ℕ)) (n : ℕ) (len : length list ≡ n)
      (count : n ≡ times_ℕ (y_degree L f) (pred (length rows.d)))
      (multiples : AreMultiples L f chart rows.d rows.multiple list n)
      (same : SameSpace F space.basis list) where
    abbrev m : Poly F.ring
    m = poly_of F rows.d

    abbrev δ : ℕ
    δ = pred (size F.ring (poly_of F rows.d))

    abbrev N : ℕ
    N = times_ℕ (chart_of L f chart).degree (pred (size F.ring (poly_of F rows.d)))

    count_is : n ≡ N
    count_is = count ∙ ap₂ times_ℕ (sym (chart_degree F L f hf two chart))
        (sym (row_len_is rows.d h.d))

    abbrev IsRow : ℕ → Plane (lawful_field L) → Type 0
    IsRow s R = IsResidue (chart_of L f chart) (poly_of F rows.d)
        (multiple_at K A AL c l m h.modulus h.factor h.in_powers s) R
        × ((j : ℕ) → vectors_of F list s j
        ≡ flat F.ring (pred (size F.ring (poly_of F rows.d))) R j)

    R : (R : ℕ → Plane (lawful_field L)) × ((s : ℕ) → s < n → IsRow s (R s))
    R = chosen IsRow n (λ s q. multiples s q h.factor h.residue) (planes K).zero

    residues : (s : ℕ) → s < N → IsResidue c m
        (multiple_at K A AL c l m h.modulus h.factor h.in_powers s) (R.0 s)
    residues s q = (R.1 s (omega (arith, q, count_is))).0

    into_list : (v : ℕ → F.carrier) → InSpan F.ring N (λ s. flat F.ring δ (R.0 s)) v
        → InSpace F space v
    into_list v h = span-inside F.ring L.laws (length list) (vectors_of F list)
        (length space.basis) (vectors_of F space.basis) v same.back
        (subst (λ n. InSpan F.ring n (vectors_of F list) v) (sym (len ∙ count_is))
        (span_agree F.ring L.laws N (λ s. flat F.ring δ (R.0 s)) (vectors_of F list)
        (λ i q j. sym ((R.1 i (omega (arith, q, count_is))).1 j)) v h))

    from_list : (v : ℕ → F.carrier) → InSpace F space v
        → InSpan F.ring N (λ s. flat F.ring δ (R.0 s)) v
    from_list v h = span_agree F.ring L.laws N (vectors_of F list) (λ s. flat F.ring δ (R.0 s))
        (λ i q j. (R.1 i (omega (arith, q, count_is))).1 j) v
        (subst (λ n. InSpan F.ring n (vectors_of F list) v) (len ∙ count_is)
        (span-inside F.ring L.laws (length space.basis) (vectors_of F space.basis) (length list)
        (vectors_of F list) v same.into h))

    D : (algebra_in L f).carrier
    D = different_of L f chart

    hD : InPowers c (different_of L f chart)
    hD = powers_plane K A AL c l (derivative (polynomials F.ring) c.equation)

    abbrev IsMultiple : Plane (lawful_field L) → Type 0
    IsMultiple = IsMultipleResidue K A AL c l m h.modulus h.factor h.in_powers

    into : (w : (algebra_in L f).carrier) → InLattice c m (InResidues F δ space) w
        → InPowers c ((algebra_in L f).mul (different_of L f chart) w)
    into w q = start_back K A AL c l m h.modulus h.factor h.in_powers (different_of L f chart) hD
        h.product w (lat_above K A AL c l m h.modulus (InResidues F δ space) IsMultiple
        (λ M shape s. multiples_into K A AL c l m h.modulus h.factor h.in_powers R.0 residues M
        shape
        (from_list (flat F.ring δ M) s)) w q)

    back : (w : (algebra_in L f).carrier)
        → InPowers c ((algebra_in L f).mul (different_of L f chart) w)
        → InLattice c m (InResidues F δ space) w
    back w q = lat_above K A AL c l m h.modulus IsMultiple (InResidues F δ space)
        (λ M shape s. into_list (flat F.ring δ M)
        (multiples_back K A AL c l m h.modulus h.factor h.in_powers R.0 residues M s)) w
        (start_into K A AL c l m h.modulus h.factor h.in_powers (different_of L f chart) hD
        h.product w q)

    pub first_space : IsStart L f chart rows.d space
    first_space = subst (λ e. (w : (algebra_in L f).carrier)
        → InLattice (chart_of L f chart) (poly_of F rows.d) (InResidues F e space) w
        ↔ InPowers (chart_of L f chart) ((algebra_in L f).mul (different_of L f chart) w))
        (row_len_is rows.d h.d) (λ w. (into w, back w))
