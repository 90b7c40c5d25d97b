-- The value of an element of an order at a point by its numerator: the residue modulo d, and what
-- is left.
use Rattle.std.proofs.Common.{◌≡◌, ℕ, pred, ◌<◌, ◌≤◌, List, length, refl, sym, ◌∙◌, ap}
use Rattle.std.proofs.Common.{subst, arith, Option, Some, None, MatchOption, IfSome, IfNone}
use Rattle.ff_theory.specs.Ring.{RingOps, IsCommRing, Elements}
use Rattle.ff_theory.specs.Lawful.{Domain, Field, Lawful, lawful_field}
use Rattle.ff_theory.specs.Poly.{Poly, polynomials}
use Rattle.ff_theory.specs.Division.{size}
use Rattle.ff_theory.specs.Eval.{eval, plane_at}
use Rattle.ff_theory.specs.Planes.{planes, Plane, row_of}
use Rattle.ff_theory.specs.Span.{product}
use Rattle.ff_theory.specs.Vector.{vector_of, combination_of}
use Rattle.ff_theory.specs.Values.{poly_of, plane_of, IsPlane}
use Rattle.ff_theory.proofs.Solver.{◌⊗◌, unit, ring1, ring2}
use Rattle.ff_theory.proofs.Evaluate.{eval_map}
use Rattle.ff_theory.proofs.PolyMap.{polynomial_domain}
use Rattle.ff_charts.specs.Chart.{Chart as ChartOf, at_u, at_theta, InPowers, IsChart}
use Rattle.ff_charts.specs.Lattice.{HasShape, flat, IsResidue}
use Rattle.ff_charts.proofs.Chart.{at_u_map, at_theta_map, row_times}
use Rattle.ff_charts.proofs.Lattice.{residue_one}
use Rattle.ff_poly.proofs.LongDivision.{poly-size, poly-size-le}
use Rattle.ff_lin.specs.Space.{IsSolution}
use Rattle.ff_elem.specs.Elem.{algebra_in}
use Rattle.ff_elem.proofs.PolyLemmas.{nonzero-length}
use Rattle.ff_lattice.specs.Residues.{AreResidues}
use Rattle.ff_data.specs.declared.order.Order.{Order}
use Rattle.ff_data.specs.declared.point.Point.{Point}
use Rattle.ff_data.specs.Orders.{chart_of, y_degree, InResidues, IsOrder, InOrder}
use Rattle.ff_data.specs.Points.{HasValueAt}
use Rattle.ff_data.specs.Numerators.{AreQuotients, IsResidueOf}
use Rattle.ff_data.proofs.ChartLaws.{algebra_laws, chart_laws, chart_degree}
use Rattle.ff_data.proofs.EvaluationLemmas.{identity}
use Rattle.ff_data.proofs.LocalOrder.{order_rows}
use Rattle.ff_data.proofs.PlaneQuotients.{quotient_is}

-- what holds of an answer that is passed on
pub if_some : {T : Type 0} (o : Option T) (P Q : T → Type 0) → ((x : T) → P x → Q x)
    → IfSome o P → IfSome o Q
if_some None P Q k h = tt
if_some (Some x) P Q k h = k x h

pub match_some : {T : Type 0} (o : Option T) (N : Type 0) (P Q : T → Type 0)
    → ((x : T) → P x → Q x) → MatchOption o N P → IfSome o Q
match_some None N P Q k h = tt
match_some (Some x) N P Q k h = k x h

pub match_none : {T : Type 0} (o : Option T) (N M : Type 0) (P : T → Type 0) → (N → M)
    → MatchOption o N P → IfNone o M
match_none None N M P k h = k h
match_none (Some x) N M P k h = tt

-- the coefficients of a residue, by the vector that the code solves for
module _ (F : Elements ℕ) (o : Order) (N : Poly (polynomials F.ring)) (rows : List (List ℕ)) (l : ℕ)
    (v w : List ℕ) (basis : rows ≡ o.space.basis) (len : l ≡ pred (length o.d)) (same : w ≡ v)
    (value : (j : ℕ) → vector_of F v j ≡ flat F.ring l N j) where
  vector_is : (j : ℕ) → vector_of F w j ≡ flat F.ring (pred (length o.d)) N j
  vector_is j = ap (λ v. vector_of F v j) same ∙ value j ∙ ap (λ l. flat F.ring l N j) len

  pub solved_vector : (c : ℕ → F.carrier) → IsSolution F rows w c → IsResidueOf F o N c
  solved_vector c s j = sym (vector_is j) ∙ sym (s j) ∙ ap (λ b. combination_of F b c j) basis

  pub unsolved_vector : ((c : ℕ → F.carrier) → ¬ IsSolution F rows w c)
      → ¬ InResidues F (pred (length o.d)) o.space N
  unsolved_vector n i = n i.coefficients (λ j.
      ap (λ b. combination_of F b i.coefficients j) basis ∙ sym (i.sum j) ∙ sym (vector_is j))

module _ (F : Elements ℕ) (L : Lawful F) (f : List (List ℕ)) (hf : IsPlane F f)
    (two : 1 < length f) (o : Order) (h : IsOrder L f o) where
  abbrev K : Field
  K = lawful_field L

  abbrev D : Domain
  D = polynomial_domain (lawful_field L)

  abbrev A : RingOps
  A = algebra_in L f

  AL : IsCommRing (algebra_in L f)
  AL = algebra_laws F L f hf two

  abbrev C : ChartOf F.ring (algebra_in L f)
  C = chart_of L f o.chart

  CL : IsChart F.ring (algebra_in L f) (chart_of L f o.chart)
  CL = chart_laws F L f hf two o.chart

  abbrev d : Poly F.ring
  d = poly_of F o.d

  size_d : size F.ring (poly_of F o.d) ≡ length o.d
  size_d = poly-size F.ring L.laws L.tests F.value o.d h.d.canonical

  pub order_length : 0 < length o.d
  order_length = nonzero-length F L o.d (CL.modulus_nonzero d h.modulus)

  -- residues of the rows have the shape of the order's
  pub low_shape : (N low : Plane (lawful_field L)) → AreResidues F.ring (poly_of F o.d) N low
      → size (polynomials F.ring) N ≤ y_degree L f
      → HasShape F.ring (y_degree L f) (pred (length o.d)) low
  low_shape N low r few = record {
    rows = omega (arith, r.rows, few);
    each = λ i. omega (arith, r.each i, size_d);
  }

  plane_few : (rows : List (List ℕ)) → length rows ≤ y_degree L f
      → size (polynomials F.ring) (plane_of F rows) ≤ y_degree L f
  plane_few rows few = let s : size (polynomials F.ring) (plane_of F rows) ≤ length rows =
      poly-size-le D.ring D.laws D.tests (λ p. poly_of F p) rows in omega (arith, s, few)

  pub list_shape : (rows : List (List ℕ)) (low : Plane (lawful_field L))
      → AreResidues F.ring (poly_of F o.d) (plane_of F rows) low → length rows ≤ y_degree L f
      → HasShape F.ring (y_degree L f) (pred (length o.d)) low
  list_shape rows low r few = low_shape (plane_of F rows) low r (plane_few rows few)

  module _ (rows : List (List ℕ)) (few : length rows ≤ y_degree L f)
      (low high : Plane (lawful_field L))
      (r : AreResidues F.ring (poly_of F o.d) (plane_of F rows) low)
      (q : AreQuotients F (poly_of F o.d) (plane_of F rows) high)
      (w : (algebra_in L f).carrier)
      (over : (algebra_in L f).mul (at_u (chart_of L f o.chart) (poly_of F o.d)) w
      ≡ at_theta (chart_of L f o.chart) (plane_of F rows)) where
    plane_sum : plane_of F rows ≡ (planes (lawful_field L)).add low
        ((planes (lawful_field L)).mul (row_of F.ring (poly_of F o.d)) high)
    plane_sum = r.sum ∙ ap (λ t. (planes K).add low ((planes K).mul (row_of F.ring d) t))
        (sym (quotient_is K d (CL.modulus_nonzero d h.modulus) (plane_of F rows) high low
        r.quotient r.sum r.each q))

    abbrev powers : InPowers (chart_of L f o.chart) (at_theta (chart_of L f o.chart) high)
    powers = record {
      unit = (polynomials F.ring).one;
      is_unit = CL.one_unit;
      nums = high;
      clears = ap (λ t. A.mul t (at_theta C high)) (at_u_map K A AL C CL).on_one
          ∙ ring1 A AL (λ n. unit ⊗ n) (λ n. n) refl (at_theta C high);
    }

    abbrev residue : IsResidue (chart_of L f o.chart) (poly_of F o.d)
        ((algebra_in L f).mul (at_u (chart_of L f o.chart) (poly_of F o.d)) w) low
    residue = record {
      shape = subst (λ n. HasShape F.ring n (pred (size F.ring d)) low)
          (sym (chart_degree F L f hf two o.chart))
          (subst (λ l. HasShape F.ring (y_degree L f) l low) (order_rows F L f hf two o h)
          (list_shape rows low r few));
      rest = at_theta C high;
      in_powers = powers;
      sum = over ∙ ap (at_theta C) plane_sum ∙ (at_theta_map K A AL C CL).on_add low _
          ∙ ap (A.add (at_theta C low)) (row_times K A AL C CL d high);
    }

    one_over : (a s : F.carrier) → F.mul (F.inverse (eval F.ring F.ring (λ s. s) a
        (polynomials F.ring).one)) s ≡ s
    one_over a s = ap (λ t. F.mul (F.inverse t) s)
        (eval_map F.ring F.ring L.laws L.tests L.laws (λ s. s) (identity F L) a).on_one
        ∙ ring2 F.ring L.laws (λ i s. i ⊗ s) (λ i s. (unit ⊗ i) ⊗ s) refl (F.inverse F.one) s
        ∙ ap (λ t. F.mul t s) (K.is_field.mul_inverse F.one K.is_field.one_not_zero)
        ∙ ring1 F.ring L.laws (λ s. unit ⊗ s) (λ s. s) refl s

    pub numerator_value : (p : Point) (c : List ℕ) → IsResidueOf F o low (vector_of F c)
        → (v : F.carrier) → v ≡ F.add (product F.ring (length o.space.basis) (vector_of F c)
        (vector_of F p.values))
        (plane_at F.ring F.ring (λ s. s) (F.value p.a) (F.value p.theta) high)
        → HasValueAt L f o p w v
    numerator_value p c s v e = (
      record {
        nums = low;
        is_in = record { coefficients = vector_of F c; sum = s };
        residue = residue;
      },
      e ∙ ap (F.add (product F.ring (length o.space.basis) (vector_of F c) (vector_of F p.values)))
          (sym (one_over (F.value p.a)
          (plane_at F.ring F.ring (λ s. s) (F.value p.a) (F.value p.theta) high))),
    )

    pub numerator_outside : ¬ InResidues F (pred (length o.d)) o.space low → ¬ InOrder L f o w
    numerator_outside n i = n (subst (InResidues F (pred (length o.d)) o.space)
        (residue_one K A AL C CL d h.modulus (A.mul (at_u C d) w) i.nums low i.residue residue)
        i.is_in)
