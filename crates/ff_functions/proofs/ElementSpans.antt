-- Combinations of given elements: sums, multiples by constants, and each of them, for an equation f
-- over a field whose laws are L.
use Rattle.std.proofs.Common.{ℕ, zero, suc, ◌<◌, List, length, refl, sym, ◌∙◌, ap, arith}
use Rattle.ff_theory.specs.Ring.{RingOps, IsCommRing, Elements}
use Rattle.ff_theory.specs.Lawful.{Lawful}
use Rattle.ff_theory.specs.Sum.{sum_below}
use Rattle.ff_theory.specs.Span.{unit_at}
use Rattle.ff_theory.specs.Values.{IsPlane}
use Rattle.ff_theory.proofs.Solver.{◌⊕◌, ◌⊗◌, unit, ring1, ring3, zero_mul}
use Rattle.ff_theory.proofs.Span.{unit-same, unit-other}
use Rattle.ff_theory.proofs.Sums.{sum-ext, sum-zero, sum-add, sum-mul, sum-single}
use Rattle.ff_charts.specs.Chart.{IsChart}
use Rattle.ff_elem.specs.Elem.{algebra_in}
use Rattle.ff_data.specs.declared.order.Chart.TheVariants.{Finite}
use Rattle.ff_data.specs.Orders.{chart_of}
use Rattle.ff_data.specs.Combinations.{combination_in, constant_in, InSpanOf}
use Rattle.ff_data.proofs.ChartLaws.{algebra_laws, chart_laws}

module _ (F : Elements ℕ) (L : Lawful F) (f : List (List ℕ)) (hf : IsPlane F f)
    (two : 1 < length f) where
  abbrev A : RingOps
  A = algebra_in L f

  AL : IsCommRing (algebra_in L f)
  AL = algebra_laws F L f hf two

  CL : IsChart F.ring (algebra_in L f) (chart_of L f Finite)
  CL = chart_laws F L f hf two Finite

  module _ (r : ℕ) (g : ℕ → (algebra_in L f).carrier) where
    pub element_span_zero : InSpanOf L f r g (algebra_in L f).zero
    element_span_zero = record {
      coefficients = λ i. F.zero;
      sum = sym (sum-ext A AL r _ (λ i. A.zero) (λ i q. ap (λ t. A.mul t (g i))
          CL.constants.on_zero ∙ zero_mul A AL (g i)) ∙ sum-zero A AL r);
    }

    pub element_span_add : (v w : (algebra_in L f).carrier) → InSpanOf L f r g v
        → InSpanOf L f r g w → InSpanOf L f r g ((algebra_in L f).add v w)
    element_span_add v w h k = record {
      coefficients = λ i. F.add (h.coefficients i) (k.coefficients i);
      sum = ap (λ t. A.add t w) h.sum ∙ ap (A.add (combination_in L f r h.coefficients g)) k.sum
          ∙ sym (sum-add A AL r _ _) ∙ sum-ext A AL r _ _ (λ i q.
          ring3 A AL (λ a b g. a ⊗ g ⊕ b ⊗ g) (λ a b g. (a ⊕ b) ⊗ g) refl
          (constant_in L f (h.coefficients i)) (constant_in L f (k.coefficients i)) (g i)
          ∙ ap (λ t. A.mul t (g i)) (sym (CL.constants.on_add _ _)));
    }

    pub element_span_scale : (a : F.carrier) (w : (algebra_in L f).carrier) → InSpanOf L f r g w
        → InSpanOf L f r g ((algebra_in L f).mul (constant_in L f a) w)
    element_span_scale a w h = record {
      coefficients = λ i. F.mul a (h.coefficients i);
      sum = ap (A.mul (constant_in L f a)) h.sum ∙ sym (sum-mul A AL r (constant_in L f a) _)
          ∙ sum-ext A AL r _ _ (λ i q. sym (AL.mul_assoc _ _ _)
          ∙ ap (λ t. A.mul t (g i)) (sym (CL.constants.on_mul a (h.coefficients i))));
    }

    pub element_span_one : (t : ℕ) → t < r → InSpanOf L f r g (g t)
    element_span_one t q = record {
      coefficients = unit_at F.ring t;
      sum = sym (sum-single A AL r t (λ i. A.mul (constant_in L f (unit_at F.ring t i)) (g i)) q
          (λ i l n. ap (λ a. A.mul (constant_in L f a) (g i)) (unit-other F.ring t i n)
          ∙ ap (λ a. A.mul a (g i)) CL.constants.on_zero ∙ zero_mul A AL (g i))
          ∙ ap (λ a. A.mul (constant_in L f a) (g t)) (unit-same F.ring t)
          ∙ ap (λ a. A.mul a (g t)) CL.constants.on_one
          ∙ ring1 A AL (λ g. unit ⊗ g) (λ g. g) refl (g t));
    }

    pub element_span_sum : (n : ℕ) (w : ℕ → (algebra_in L f).carrier)
        → ((i : ℕ) → i < n → InSpanOf L f r g (w i))
        → InSpanOf L f r g (sum_below (algebra_in L f) n w)
    element_span_sum zero w h = element_span_zero
    element_span_sum (suc n) w h = element_span_add _ _
        (element_span_sum n w (λ i q. h i (omega (arith, q)))) (h n (omega arith))
