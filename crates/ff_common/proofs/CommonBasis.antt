-- A basis of a space of numerators gives a basis of the elements over one denominator, for an
-- equation f over a field whose laws are L.
use Rattle.std.proofs.Common.{◌≡◌, ℕ, ◌<◌, ◌≤◌, ◌⊎◌, inl, inr, List, length}
use Rattle.std.proofs.Common.{false, refl, sym, ◌∙◌, ap, subst, arith}
use Rattle.std.proofs.lemmas.Bool.{cases_lt}
use Rattle.ff_theory.specs.Ring.{RingOps, IsCommRing, Elements}
use Rattle.ff_theory.specs.Lawful.{Field, Lawful, lawful_field}
use Rattle.ff_theory.specs.Poly.{polynomials}
use Rattle.ff_theory.specs.Planes.{planes, Plane}
use Rattle.ff_theory.specs.Span.{combination}
use Rattle.ff_theory.specs.Values.{poly_of, IsPlane}
use Rattle.ff_theory.specs.Vector.{vectors_of}
use Rattle.ff_theory.proofs.Solver.{◌⊗◌, ring3, mul_zero}
use Rattle.ff_theory.proofs.Sums.{sum-ext, sum-mul}
use Rattle.ff_theory.proofs.Span.{span-one, span-same}
use Rattle.ff_charts.specs.Chart.{Chart as ChartOf, at_u, at_theta, IsChart}
use Rattle.ff_charts.specs.Lattice.{HasShape, flat}
use Rattle.ff_charts.proofs.Chart.{cancel_u}
use Rattle.ff_charts.proofs.Flat.{flat_one, flat_zero}
use Rattle.ff_lin.specs.Space.{SpaceParts}
use Rattle.ff_lin.proofs.Echelon.{echelon-independent}
use Rattle.ff_elem.specs.declared.elem.Elem.{Elem}
use Rattle.ff_elem.specs.Elem.{algebra_in}
use Rattle.ff_data.specs.declared.order.Chart.TheVariants.{Finite}
use Rattle.ff_data.specs.Orders.{chart_of}
use Rattle.ff_data.specs.Combinations.{constant_in, combination_in, elems_of, InSpanOf, IsBasisOf}
use Rattle.ff_common.specs.Common.{IsOver, HasNumerator, HoldsNumerators, AreQuotientsBy}
use Rattle.ff_data.proofs.ChartLaws.{algebra_laws, chart_laws}
use Rattle.ff_data.proofs.PlaneCombinations.{planes_combined, combined_shape, combined_flat}
use Rattle.ff_data.proofs.PlaneCombinations.{combined_value}

module _ (F : Elements ℕ) (L : Lawful F) (f : List (List ℕ)) (hf : IsPlane F f) (two : 1 < length f)
    (d : List ℕ) (nonzero : (polynomials F.ring).same (poly_of F d) (polynomials F.ring).zero
    ≡ false) (l : ℕ) where
  abbrev K : Field
  K = lawful_field L

  abbrev A : RingOps
  A = algebra_in L f

  abbrev AL : IsCommRing (algebra_in L f)
  AL = algebra_laws F L f hf two

  abbrev C : ChartOf F.ring (algebra_in L f)
  C = chart_of L f Finite

  abbrev CL : IsChart F.ring (algebra_in L f) (chart_of L f Finite)
  CL = chart_laws F L f hf two Finite

  abbrev D : (algebra_in L f).carrier
  D = at_u (chart_of L f Finite) (poly_of F d)

  -- combinations of elements and of their numerators
  pub combined_over : (r : ℕ) (c : ℕ → F.carrier) (N : ℕ → Plane (lawful_field L))
      (w : ℕ → (algebra_in L f).carrier) → ((i : ℕ) → i < r → IsOver L f d (N i) (w i))
      → IsOver L f d (planes_combined (lawful_field L) c N r) (combination_in L f r c w)
  combined_over r c N w h = sym (sum-mul A AL r D _)
      ∙ sum-ext A AL r _ _ (λ i q. ring3 A AL (λ d c w. d ⊗ (c ⊗ w)) (λ d c w. c ⊗ (d ⊗ w)) refl D
      (constant_in L f (c i)) (w i) ∙ ap (A.mul (constant_in L f (c i))) (h i q))
      ∙ sym (combined_value K A AL C CL c N r)

  module _ (s : SpaceParts) (P : (algebra_in L f).carrier → Type 0)
      (holds : HoldsNumerators L f d l P P s) (ws : List Elem)
      (q : AreQuotientsBy L f d l s.basis ws) where
    abbrev r : ℕ
    r = length s.basis

    abbrev pick : (i : ℕ) → (i < length s.basis) ⊎ (length s.basis ≤ i) → Plane (lawful_field L)
    pick i (inl h) = (q.each i h).0
    pick i (inr h) = (planes (lawful_field L)).zero

    N : ℕ → Plane (lawful_field L)
    N i = pick i (cases_lt i (length s.basis))

    at : (i : ℕ) → i < length s.basis → HasShape F.ring (chart_of L f Finite).degree l (N i)
        × (((j : ℕ) → flat F.ring l (N i) j ≡ vectors_of F s.basis i j)
        × IsOver L f d (N i) (elems_of L f ws i))
    unfolding N
    at i h = go (cases_lt i (length s.basis))
      where
        go : (c : (i < length s.basis) ⊎ (length s.basis ≤ i))
            → HasShape F.ring (chart_of L f Finite).degree l (pick i c)
            × (((j : ℕ) → flat F.ring l (pick i c) j ≡ vectors_of F s.basis i j)
            × IsOver L f d (pick i c) (elems_of L f ws i))
        go (inl k) = (q.each i k).1
        go (inr k) = absurd (omega (arith, h, k))

    combined_vector : (c : ℕ → F.carrier) (j : ℕ)
        → flat F.ring l (planes_combined (lawful_field L) c N (length s.basis)) j
        ≡ combination F.ring (length s.basis) c (vectors_of F s.basis) j
    combined_vector c j = combined_flat K l c N r j
        ∙ sum-ext F.ring L.laws r _ _ (λ i h. ap (F.mul (c i)) ((at i h).1.0 j))

    shape : (c : ℕ → F.carrier) → HasShape F.ring (chart_of L f Finite).degree l
        (planes_combined (lawful_field L) c N (length s.basis))
    shape c = combined_shape K C.degree l c N r (λ i h. (at i h).0)

    over : (c : ℕ → F.carrier) → IsOver L f d
        (planes_combined (lawful_field L) c N (length s.basis))
        (combination_in L f (length s.basis) c (elems_of L f ws))
    over c = combined_over r c N (elems_of L f ws) (λ i h. (at i h).1.1)

    independent : (c : ℕ → F.carrier) → combination_in L f (length s.basis) c (elems_of L f ws)
        ≡ (algebra_in L f).zero → (i : ℕ) → i < length s.basis → c i ≡ F.zero
    independent c e = echelon-independent F.ring L.laws r (vectors_of F s.basis) _
        holds.space.space.echelon c (λ j. sym (combined_vector c j)
        ∙ ap (λ M. flat F.ring l M j) none ∙ flat_zero K l j)
      where
        none : planes_combined (lawful_field L) c N (length s.basis)
            ≡ (planes (lawful_field L)).zero
        none = CL.independent (planes_combined K c N r) (shape c).rows
            (sym (over c) ∙ ap (A.mul D) e ∙ mul_zero A AL D)

    spans : (w : (algebra_in L f).carrier) → P w
        → InSpanOf L f (length s.basis) (elems_of L f ws) w
    spans w p = record {
      coefficients = h.is_in.coefficients;
      sum = cancel_u K A AL C CL (poly_of F d) nonzero w _ (h.over
          ∙ ap (at_theta C) (flat_one K l C.degree h.plane (planes_combined K c N r) h.shape
          (shape c) (λ j. h.is_in.sum j ∙ sym (combined_vector c j))) ∙ sym (over c));
    }
      where
        h : HasNumerator L f d l s w
        h = holds.whole w p

        c : ℕ → F.carrier
        c = h.is_in.coefficients

    pub common_basis : IsBasisOf L f P ws
    common_basis = record {
      elems = q.elems;
      each = λ i h. let k : i < length s.basis = omega (arith, h, q.count) in
          holds.each (elems_of L f ws i) (record {
            plane = N i;
            shape = (at i k).0;
            is_in = span-same F.ring L.laws r (vectors_of F s.basis) (vectors_of F s.basis i)
                (flat F.ring l (N i)) (at i k).1.0
                (span-one F.ring L.laws r (vectors_of F s.basis) i k);
            over = (at i k).1.1;
          });
      independent = λ c e i h. independent c
          (ap (λ n. combination_in L f n c (elems_of L f ws)) (sym q.count) ∙ e) i
          (omega (arith, h, q.count));
      spans = λ w p. subst (λ n. InSpanOf L f n (elems_of L f ws) w) (sym q.count) (spans w p);
    }
