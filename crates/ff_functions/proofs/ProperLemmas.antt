-- Proper fractions: sums and multiples by constants, for an equation f over a field whose laws
-- are L.
use Rattle.std.proofs.Common.{ℕ, zero, suc, pred, ◌<◌, List, length, refl, sym, ◌∙◌, ap, ap₂}
use Rattle.std.proofs.Common.{subst, arith}
use Rattle.ff_theory.specs.Ring.{RingOps, IsCommRing, Elements}
use Rattle.ff_theory.specs.Lawful.{Domain, Field, Lawful, lawful_field}
use Rattle.ff_theory.specs.Map.{IsMap}
use Rattle.ff_theory.specs.Poly.{polynomials}
use Rattle.ff_theory.specs.Division.{size}
use Rattle.ff_theory.specs.Planes.{planes, row_of}
use Rattle.ff_theory.specs.Values.{IsPlane}
use Rattle.ff_theory.proofs.Solver.{◌⊕◌, ◌⊗◌, nil, ring3, ring4, mul_zero}
use Rattle.ff_theory.proofs.PolyMap.{polynomial_domain}
use Rattle.ff_charts.specs.Chart.{Chart as ChartOf, at_u, at_theta, IsChart}
use Rattle.ff_charts.specs.Lattice.{HasShape}
use Rattle.ff_charts.proofs.Chart.{at_u_map, at_theta_map, row_times}
use Rattle.ff_charts.proofs.Closure.{shape_plus}
use Rattle.ff_charts.proofs.Lattice.{shape_zero, times_shape}
use Rattle.ff_elem.specs.Elem.{algebra_in}
use Rattle.ff_data.specs.declared.order.Chart.TheVariants.{Finite}
use Rattle.ff_data.specs.Orders.{chart_of}
use Rattle.ff_data.specs.Combinations.{combination_in, constant_in}
use Rattle.ff_data.proofs.ChartLaws.{algebra_laws, chart_laws}
use Rattle.ff_data.proofs.PlaneCombinations.{planes_combined, combined_shape, combined_value}
use Rattle.ff_functions.specs.Elements.{IsProper}

module _ (F : Elements ℕ) (L : Lawful F) (f : List (List ℕ)) (hf : IsPlane F f)
    (two : 1 < length f) where
  abbrev K : Field
  K = lawful_field L

  abbrev A : RingOps
  A = algebra_in L f

  AL : IsCommRing (algebra_in L f)
  AL = algebra_laws F L f hf two

  abbrev C : ChartOf F.ring (algebra_in L f)
  C = chart_of L f Finite

  CL : IsChart F.ring (algebra_in L f) (chart_of L f Finite)
  CL = chart_laws F L f hf two Finite

  U : IsMap (polynomials F.ring) (algebra_in L f) (at_u (chart_of L f Finite))
  U = at_u_map K A AL C CL

  V : IsMap (planes (lawful_field L)) (algebra_in L f) (at_theta (chart_of L f Finite))
  V = at_theta_map K A AL C CL

  pub proper_zero : IsProper L f (algebra_in L f).zero
  proper_zero = record {
    modulus = (polynomials F.ring).one;
    is_modulus = CL.one_modulus;
    nums = (planes (lawful_field L)).zero;
    shape = shape_zero K C.degree (pred (size F.ring (polynomials F.ring).one));
    value = mul_zero A AL (at_u C (polynomials F.ring).one) ∙ sym V.on_zero;
  }

  pub proper_scale : (a : F.carrier) (w : (algebra_in L f).carrier) → IsProper L f w
      → IsProper L f ((algebra_in L f).mul (constant_in L f a) w)
  proper_scale a w h = record {
    modulus = h.modulus;
    is_modulus = h.is_modulus;
    nums = planes_combined (lawful_field L) (λ i. a) (λ i. h.nums) 1;
    shape = combined_shape K C.degree (pred (size F.ring h.modulus)) (λ i. a) (λ i. h.nums) 1
        (λ i q. h.shape);
    value = ring3 A AL (λ m c w. m ⊗ (c ⊗ w)) (λ m c w. nil ⊕ c ⊗ (m ⊗ w)) refl
        (at_u C h.modulus) (constant_in L f a) w
        ∙ ap (λ t. A.add A.zero (A.mul (constant_in L f a) t)) h.value
        ∙ sym (combined_value K A AL C CL (λ i. a) (λ i. h.nums) 1);
  }

  pub proper_add : (v w : (algebra_in L f).carrier) → IsProper L f v → IsProper L f w
      → IsProper L f ((algebra_in L f).add v w)
  proper_add v w h k = record {
    modulus = (polynomials F.ring).mul k.modulus h.modulus;
    is_modulus = CL.modulus_product k.modulus h.modulus k.is_modulus h.is_modulus;
    nums = (planes (lawful_field L)).add
        ((planes (lawful_field L)).mul (row_of F.ring k.modulus) h.nums)
        ((planes (lawful_field L)).mul (row_of F.ring h.modulus) k.nums);
    shape = shape_plus K C.degree _ _ _
        (times_shape K A AL C CL h.modulus h.is_modulus k.modulus k.is_modulus (λ N. Unit {0})
        h.nums h.shape)
        (subst (λ m. HasShape F.ring C.degree (pred (size F.ring m))
        ((planes (lawful_field L)).mul (row_of F.ring h.modulus) k.nums))
        (D.laws.mul_comm h.modulus k.modulus)
        (times_shape K A AL C CL k.modulus k.is_modulus h.modulus h.is_modulus (λ N. Unit {0})
        k.nums k.shape));
    value = ap (λ t. A.mul t (A.add v w)) (U.on_mul k.modulus h.modulus)
        ∙ ring4 A AL (λ b a v w. b ⊗ a ⊗ (v ⊕ w)) (λ b a v w. b ⊗ (a ⊗ v) ⊕ a ⊗ (b ⊗ w)) refl
        (at_u C k.modulus) (at_u C h.modulus) v w
        ∙ ap₂ (λ s t. A.add (A.mul (at_u C k.modulus) s) (A.mul (at_u C h.modulus) t)) h.value
        k.value
        ∙ sym (V.on_add _ _ ∙ ap₂ A.add (row_times K A AL C CL k.modulus h.nums)
        (row_times K A AL C CL h.modulus k.nums));
  }
    where
      D : Domain
      D = polynomial_domain K

  pub proper_sum : (n : ℕ) (c : ℕ → F.carrier) (w : ℕ → (algebra_in L f).carrier)
      → ((i : ℕ) → i < n → IsProper L f (w i)) → IsProper L f (combination_in L f n c w)
  proper_sum zero c w h = proper_zero
  proper_sum (suc n) c w h = proper_add _ _ (proper_sum n c w (λ i q. h i (omega (arith, q))))
      (proper_scale (c n) (w n) (h n (omega arith)))
