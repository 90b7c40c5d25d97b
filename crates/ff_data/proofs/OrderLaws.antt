-- The elements of an order: sums, and multiples by constants, for an equation f over a field whose
-- laws are L.
use Rattle.std.proofs.Common.{◌≡◌, ℕ, zero, suc, ◌-◌, ◌<◌, pred, List, [], ◌∷◌, length, refl, sym}
use Rattle.std.proofs.Common.{◌∙◌}
use Rattle.std.proofs.Common.{subst, arith}
use Rattle.ff_theory.specs.Ring.{IsCommRing, Elements}
use Rattle.ff_theory.specs.Lawful.{Lawful, lawful_field, Field}
use Rattle.ff_theory.specs.Poly.{poly, polynomials}
use Rattle.ff_theory.specs.Division.{size}
use Rattle.ff_theory.specs.Monic.{monic_form}
use Rattle.ff_theory.specs.Reversal.{Fits}
use Rattle.ff_theory.specs.Algebra.{degree}
use Rattle.ff_theory.specs.Values.{poly_of, plane_of, IsPlane}
use Rattle.ff_theory.specs.Vector.{vectors_of}
use Rattle.ff_theory.specs.Planes.{planes}
use Rattle.ff_theory.proofs.Solver.{◌⊕◌, ◌⊗◌, nil, unit, ring2}
use Rattle.ff_theory.proofs.Span.{span-same, span-zero, span-more}
use Rattle.ff_theory.proofs.Element.{algebra_is_ring}
use Rattle.ff_charts.specs.Chart.{IsChart}
use Rattle.ff_charts.specs.Lattice.{IsSubspace, flat}
use Rattle.ff_charts.proofs.Flat.{flat_add, flat_scale, flat_zero}
use Rattle.ff_charts.proofs.FiniteChart.{finite_is_chart, degree_is}
use Rattle.ff_charts.proofs.InfiniteChart.{infinite_is_chart}
use Rattle.ff_charts.proofs.Slope.{slope_is}
use Rattle.ff_charts.proofs.Closure.{lat_zero, lat_add, lat_constant}
use Rattle.ff_lin.specs.Space.{SpaceParts}
use Rattle.ff_elem.specs.Elem.{algebra_in}
use Rattle.ff_elem.proofs.Reduction.{plane-size}
use Rattle.ff_data.specs.declared.order.Chart.{Chart}
use Rattle.ff_data.specs.declared.order.Chart.TheVariants.{Finite, Infinite}
use Rattle.ff_data.specs.declared.order.Order.{Order}
use Rattle.ff_data.specs.Orders.{chart_of, slope_of, InResidues, IsOrder, InOrder}
use Rattle.ff_data.specs.Combinations.{constant_in, combination_in}

module _ (F : Elements ℕ) (L : Lawful F) where
  abbrev K : Field
  K = lawful_field L

  -- residues whose vectors are in a space
  pub residues-subspace : (l : ℕ) (s : SpaceParts) → IsSubspace F.ring (InResidues F l s)
  residues-subspace l s = record {
    on_zero = span-same F.ring L.laws r w (λ j. F.zero) (flat F.ring l (planes K).zero)
        (λ j. flat_zero K l j) (span-zero F.ring L.laws r w);
    on_add = λ M N h i. span-same F.ring L.laws r w _ (flat F.ring l ((planes K).add M N))
        (λ j. flat_add K l M N j ∙ ring2 F.ring L.laws (λ a b. a ⊕ b) (λ a b. unit ⊗ a ⊕ b) refl
        (flat F.ring l M j) (flat F.ring l N j)) (span-more F.ring L.laws r w F.one
        (flat F.ring l M) (flat F.ring l N) h i);
    on_scale = λ a N h. span-same F.ring L.laws r w _ (flat F.ring l ((planes K).mul
        (poly (polynomials F.ring) (poly F.ring (a ∷ []) ∷ [])) N))
        (λ j. flat_scale K l a N j ∙ ring2 F.ring L.laws (λ a b. a ⊗ b) (λ a b. a ⊗ b ⊕ nil) refl a
        (flat F.ring l N j)) (span-more F.ring L.laws r w a (flat F.ring l N) (λ j. F.zero) h
        (span-zero F.ring L.laws r w));
  }
    where
      r : ℕ
      r = length s.basis

      w : ℕ → ℕ → F.carrier
      w = vectors_of F s.basis

  module _ (f : List (List ℕ)) (hf : IsPlane F f) (two : 1 < length f) where
    has : size (polynomials F.ring) (plane_of F f) ≡ suc (length f - 1)
    has = let e : size (polynomials F.ring) (plane_of F f) ≡ length f = plane-size F L f hf in
        omega (arith, e, two)

    laws : IsCommRing (algebra_in L f)
    laws = algebra_is_ring (lawful_field L) (plane_of F f)

    fits : Fits F.ring (degree (lawful_field L) (plane_of F f))
        (monic_form (polynomials F.ring) (plane_of F f)) (slope_of L f)
    fits = subst (λ n. Fits F.ring n (monic_form (polynomials F.ring) (plane_of F f))
        (slope_of L f)) (sym (degree_is (lawful_field L) (plane_of F f) (length f - 1) has))
        (slope_is F.ring (monic_form (polynomials F.ring) (plane_of F f)) (length f - 1)).fits

    chart-laws : (chart : Chart) → IsChart F.ring (algebra_in L f) (chart_of L f chart)
    chart-laws Finite = finite_is_chart (lawful_field L) (plane_of F f) (length f - 1) has
    chart-laws Infinite = infinite_is_chart (lawful_field L) (plane_of F f) (length f - 1) has
        (slope_of L f) fits

    constant-is : (chart : Chart) (a : F.carrier) → (chart_of L f chart).constant a
        ≡ constant_in L f a
    constant-is Finite a = refl
    constant-is Infinite a = refl

    -- combinations of elements of an order
    pub order-combination : (o : Order) → IsOrder L f o → (n : ℕ) (c : ℕ → F.carrier)
        (w : ℕ → (algebra_in L f).carrier) → ((i : ℕ) → i < n → InOrder L f o (w i))
        → InOrder L f o (combination_in L f n c w)
    order-combination o h zero c w each = lat_zero K (algebra_in L f) laws (chart_of L f o.chart)
        (chart-laws o.chart) (poly_of F o.d) h.modulus (InResidues F (pred (length o.d)) o.space)
        (residues-subspace (pred (length o.d)) o.space)
    order-combination o h (suc n) c w each = lat_add K (algebra_in L f) laws (chart_of L f o.chart)
        (chart-laws o.chart) (poly_of F o.d) h.modulus (InResidues F (pred (length o.d)) o.space)
        (residues-subspace (pred (length o.d)) o.space) _ _
        (order-combination o h n c w (λ i l. each i (omega (arith, l))))
        (subst (λ t. InOrder L f o ((algebra_in L f).mul t (w n))) (constant-is o.chart (c n))
        (lat_constant K (algebra_in L f) laws (chart_of L f o.chart) (chart-laws o.chart)
        (poly_of F o.d) h.modulus (InResidues F (pred (length o.d)) o.space)
        (residues-subspace (pred (length o.d)) o.space) (c n) (w n) (each n (omega arith))))
