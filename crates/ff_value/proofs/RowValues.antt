-- The value of an element at a point by the rows of d times the element, for an equation f over a
-- field whose laws are L.
use Rattle.std.proofs.Common.{◌≡◌, ℕ, pred, ◌<◌, List, length, refl, sym, ◌∙◌, ap, subst}
use Rattle.ff_theory.specs.Ring.{RingOps, IsCommRing, Elements}
use Rattle.ff_theory.specs.Lawful.{Field, Lawful, lawful_field}
use Rattle.ff_theory.specs.Division.{size}
use Rattle.ff_theory.specs.Planes.{planes}
use Rattle.ff_theory.specs.Monomial.{variable}
use Rattle.ff_theory.specs.Vector.{vectors_of, vector_of}
use Rattle.ff_theory.specs.Values.{poly_of, IsPlane}
use Rattle.ff_theory.proofs.Solver.{◌⊕◌, ◌⊗◌, neg, nil, ring2}
use Rattle.ff_charts.specs.Chart.{Chart as ChartOf, at_u, InPowers, IsChart}
use Rattle.ff_charts.specs.Lattice.{IsSubspace}
use Rattle.ff_charts.proofs.Chart.{at_theta_map, powers_neg, powers_mul, powers_u, powers_at}
use Rattle.ff_charts.proofs.InvertedChart.{at_x}
use Rattle.ff_charts.proofs.Lattice.{lat_clears, shape_zero}
use Rattle.ff_charts.proofs.Closure.{lat_add, lat_powers_in, lat_at}
use Rattle.ff_local.specs.ChartValue.{InSpanLattice}
use Rattle.ff_elem.specs.Elem.{algebra_in}
use Rattle.ff_data.specs.declared.order.Chart.{Chart}
use Rattle.ff_data.specs.declared.order.Chart.TheVariants.{Finite, Infinite}
use Rattle.ff_data.specs.declared.order.Order.{Order}
use Rattle.ff_data.specs.declared.point.Point.{Point}
use Rattle.ff_data.specs.Orders.{chart_of, InResidues, IsOrder, InOrder}
use Rattle.ff_data.specs.Points.{HasValueAt, IsPoint, IsValueAt}
use Rattle.ff_data.specs.Numerators.{IsValueOfNumerator, IsOutside}
use Rattle.ff_data.proofs.ChartLaws.{algebra_laws, chart_laws}
use Rattle.ff_data.proofs.OrderLaws.{residues-subspace}
use Rattle.ff_value.specs.Value.{IsNear, IsFar}

module _ (F : Elements ℕ) (L : Lawful F) (f : List (List ℕ)) (hf : IsPlane F f) (two : 1 < length f)
    (o : Order) (h : IsOrder L f o) where
  abbrev K : Field
  K = lawful_field L

  abbrev A : RingOps
  A = algebra_in L f

  AL : IsCommRing (algebra_in L f)
  AL = algebra_laws F L f hf two

  abbrev C : ChartOf F.ring (algebra_in L f)
  C = chart_of L f o.chart

  CL : IsChart F.ring (algebra_in L f) (chart_of L f o.chart)
  CL = chart_laws F L f hf two o.chart

  -- an element of the power order has a value by any data
  some_value : (p : Point) (r : (algebra_in L f).carrier) → InPowers (chart_of L f o.chart) r
      → (t : F.carrier) × HasValueAt L f o p r t
  some_value p r q = (_, (inside, refl))
    where
      inside : InSpanLattice (lawful_field L) (chart_of L f o.chart) (F.value p.a)
          (F.value p.theta) (poly_of F o.d) (pred (length o.d)) (length o.space.basis)
          (vectors_of F o.space.basis) (vector_of F p.values) r
      inside = record {
        nums = (planes K).zero;
        is_in = (residues-subspace F L (pred (length o.d)) o.space).on_zero;
        residue = record {
          shape = shape_zero K C.degree (pred (size F.ring (poly_of F o.d)));
          rest = r;
          in_powers = q;
          sum = ring2 A AL (λ m r. m ⊗ r) (λ m r. nil ⊕ m ⊗ r) refl (at_u C (poly_of F o.d)) r
              ∙ ap (λ t. A.add t (A.mul (at_u C (poly_of F o.d)) r))
              (sym (at_theta_map K A AL C CL).on_zero);
        };
      }

  module _ (w : (algebra_in L f).carrier) (rows : List (List ℕ))
      (near : IsNear L f o.chart o.d w rows) where
    abbrev small : A.carrier
    small = (algebra_in L f).mul (chart_of L f o.chart).u near.rest

    pub near_value : (p : Point) → IsPoint L f o p → (v : ℕ)
        → IsValueOfNumerator L f o p rows v → IsValueAt L f o p w v
    near_value p q v value = record {
      element = at.element;
      value = subst (λ x. HasValueAt L f o p x (F.value v)) (sym near.sum) (cases o.chart refl);
    }
      where
        at : IsValueAt L f o p near.part v
        at = value near.part near.over

        t : (t : F.carrier) × HasValueAt L f o p near.rest t
        t = some_value p near.rest near.in_powers

        -- where u * rest is 0, and where the value of u is
        none : near.rest ≡ (algebra_in L f).zero → HasValueAt L f o p ((algebra_in L f).add
            near.part ((algebra_in L f).mul (chart_of L f o.chart).u near.rest)) (F.value v)
        none e = subst (λ x. HasValueAt L f o p x (F.value v))
            (ring2 A AL (λ a u. a) (λ a u. a ⊕ u ⊗ nil) refl near.part C.u
            ∙ ap (λ r. A.add near.part (A.mul C.u r)) (sym e)) at.value

        vanishes : F.value p.a ≡ F.zero → HasValueAt L f o p ((algebra_in L f).add
            near.part ((algebra_in L f).mul (chart_of L f o.chart).u near.rest)) (F.value v)
        vanishes e = subst (HasValueAt L f o p (A.add near.part (A.mul C.u near.rest)))
            (ap (λ a. F.add (F.value v) (F.mul a t.0)) e
            ∙ ring2 F.ring L.laws (λ v t. v ⊕ nil ⊗ t) (λ v t. v) refl (F.value v) t.0)
            (q.sums near.part (A.mul C.u near.rest) (F.value v) (F.mul (F.value p.a) t.0) at.value
            (q.products C.u near.rest (F.value p.a) t.0 q.value_of_u t.1))

        cases : (c : Chart) → o.chart ≡ c → HasValueAt L f o p ((algebra_in L f).add
            near.part ((algebra_in L f).mul (chart_of L f o.chart).u near.rest)) (F.value v)
        cases Finite e = none (near.exact e)
        cases Infinite e = vanishes (q.at_infinity e)

    pub near_outside : IsOutside L f o rows → ¬ InOrder L f o w
    near_outside out i = out near.part near.over (lat_at K A AL C CL (poly_of F o.d) h.modulus
        (InResidues F (pred (length o.d)) o.space) linear
        (ap (λ w. A.add w (A.neg (A.mul C.u near.rest))) near.sum
        ∙ ring2 A AL (λ a b. (a ⊕ b) ⊕ neg b) (λ a b. a) refl near.part (A.mul C.u near.rest))
        (lat_add K A AL C CL (poly_of F o.d) h.modulus
        (InResidues F (pred (length o.d)) o.space) linear w _ i
        (lat_powers_in K A AL C CL (poly_of F o.d) h.modulus
        (InResidues F (pred (length o.d)) o.space) linear _
        (powers_neg K A AL C CL _ (powers_mul K A AL C CL C.u near.rest in_u near.in_powers)))))
      where
        linear : IsSubspace F.ring (InResidues F (pred (length o.d)) o.space)
        linear = residues-subspace F L (pred (length o.d)) o.space

        in_u : InPowers (chart_of L f o.chart) (chart_of L f o.chart).u
        in_u = powers_at K A AL C CL (at_x F.ring L.laws L.tests A AL C.constant CL.constants C.u)
            (powers_u K A AL C CL (variable F.ring))

  pub far_outside : (w : (algebra_in L f).carrier) → IsFar L f o.chart o.d w → ¬ InOrder L f o w
  far_outside w far i = far (lat_clears K A AL C CL (poly_of F o.d) h.modulus
      (InResidues F (pred (length o.d)) o.space) w i)
