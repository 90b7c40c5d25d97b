-- The elements that a search combines, at a point of the finite and at one of the infinite chart:
-- an order is a pole number exactly where a combination with the power of that order, and those
-- before it, is in the other order, or at infinity in the own one.
use Rattle.std.proofs.Common.{◌≡◌, ℕ, suc, pred, ◌+◌ as plus_ℕ, ◌<◌, ◌≤◌, List, length}
use Rattle.std.proofs.Common.{refl, sym, ◌∙◌, ap, subst}
use Rattle.ff_theory.specs.Ring.{RingOps, IsCommRing, Elements}
use Rattle.ff_theory.specs.Lawful.{Lawful}
use Rattle.ff_theory.specs.Values.{IsPlane}
use Rattle.ff_theory.proofs.Solver.{◌⊕◌, ◌⊗◌, neg, unit, ring2}
use Rattle.ff_theory.proofs.Sums.{sum-ext, sum-mul}
use Rattle.ff_charts.specs.Chart.{IsChart}
use Rattle.ff_elem.specs.Elem.{algebra_in}
use Rattle.ff_data.specs.declared.order.Chart.TheVariants.{Finite, Infinite}
use Rattle.ff_data.specs.declared.order.Order.{Order}
use Rattle.ff_data.specs.declared.point.Point.{Point}
use Rattle.ff_data.specs.Orders.{chart_of, InOrder, IsMaximal}
use Rattle.ff_data.specs.Poles.{IsPoleNumber}
use Rattle.ff_data.specs.Combinations.{combination_in, constant_in}
use Rattle.ff_data.proofs.ChartLaws.{algebra_laws, chart_laws}
use Rattle.ff_frac.specs.Places.{IsMaximalPlace, HasPoleOrder}
use Rattle.ff_functions.specs.declared.frame.Frame.{Frame}
use Rattle.ff_functions.specs.Elements.{IsProper, IsWithinReach, AreFrameElements}
use Rattle.ff_functions.proofs.ProperLemmas.{proper_zero, proper_sum}
use Rattle.ff_functions.proofs.ReachLemmas.{reach_least, order_reach, module_reach}
use Rattle.ff_functions.proofs.PoleNumbers.{IsNumberSum, number_sum, order_scaled}

module _ (F : Elements ℕ) (L : Lawful F) (f : List (List ℕ)) (hf : IsPlane F f)
    (two : 1 < length f) where
  abbrev A : RingOps
  A = algebra_in L f

  AL : IsCommRing (algebra_in L f)
  AL = algebra_laws F L f hf two

  CL : IsChart F.ring (algebra_in L f) (chart_of L f Finite)
  CL = chart_laws F L f hf two Finite

  minus_one : constant_in L f (F.neg F.one) ≡ A.neg A.one
  minus_one = CL.constants.on_neg F.one ∙ ap A.neg CL.constants.on_one

  -- negative coefficients
  negative_sum : (n : ℕ) (b : ℕ → F.carrier) (g : ℕ → (algebra_in L f).carrier)
      → combination_in L f n (λ i. F.mul (F.neg F.one) (b i)) g
      ≡ A.mul (constant_in L f (F.neg F.one)) (combination_in L f n b g)
  negative_sum n b g = sum-ext A AL n _ _ (λ i q. ap (λ t. A.mul t (g i))
      (CL.constants.on_mul (F.neg F.one) (b i)) ∙ AL.mul_assoc _ _ _)
      ∙ sum-mul A AL n (constant_in L f (F.neg F.one)) (λ i. A.mul (constant_in L f (b i)) (g i))

  module _ (o : Order) (p : Point) (h : IsMaximalPlace L f o p) (other : Order)
      (m : IsMaximal L f other) (s : Frame) (g : ℕ → (algebra_in L f).carrier) (j : ℕ)
      (u : ℕ → (algebra_in L f).carrier)
      (powers : (i : ℕ) → i < suc j → HasPoleOrder L f o p (suc i) (u (suc i))) where
    abbrev c : ℕ
    c = length s.numerators.items

    -- coefficients of a sum in the order, with the last one one
    pub record HasSumIn (order : Order) : Type 0 where
      pub first : ℕ → F.carrier
      pub second : ℕ → F.carrier
      pub last : second j ≡ F.one
      pub inside : InOrder L f order ((algebra_in L f).add
          (combination_in L f (length s.numerators.items) first g)
          (combination_in L f (suc j) second (λ i. u (suc i))))

    pub finite_number : other.chart ≡ Infinite → (n : ℕ) → pred (length other.d) ≤ n
        → AreFrameElements L f s o n g
        → ((i : ℕ) → i < suc j → IsProper L f (u (suc i)))
        → IsPoleNumber L f o p other (suc j) → HasSumIn other
    finite_number chart n within frame proper number = record {
      first = b.0;
      second = t.coefficients;
      last = t.last;
      inside = subst (InOrder L f other) (t.sum ∙ ap (λ a. A.add a part) b.1)
          t.has.up_to.in_other;
    }
      where
        found : (a : A.carrier) × IsNumberSum F L f hf two o p h other m j u powers a
        found = number_sum F L f hf two o p h other m j u powers number.0 number.1

        t : IsNumberSum F L f hf two o p h other m j u powers found.0
        t = found.1

        part : A.carrier
        part = combination_in L f (suc j) t.coefficients (λ i. u (suc i))

        b : (d : ℕ → F.carrier) × (found.0 ≡ combination_in L f c d g)
        b = frame.spanning found.0 part t.rest (proper_sum F L f hf two (suc j) t.coefficients
            (λ i. u (suc i)) proper) (subst (IsWithinReach L f n) t.sum
            (reach_least F L f hf two (pred (length other.d)) n within t.value
            (order_reach F L f hf two other m.order chart t.value t.has.up_to.in_other)))

    pub infinite_number : o.chart ≡ Infinite → (n : ℕ) → plus_ℕ (suc j) (pred (length o.d)) ≤ n
        → AreFrameElements L f s other n g → IsPoleNumber L f o p other (suc j) → HasSumIn o
    infinite_number chart n within frame number = record {
      first = λ i. F.mul (F.neg F.one) (b.0 i);
      second = t.coefficients;
      last = t.last;
      inside = subst (InOrder L f o) (sym (ap (λ x. A.add x part) (negative_sum c b.0 g
          ∙ ap (A.mul (constant_in L f (F.neg F.one))) (sym b.1 ∙ t.sum)
          ∙ ap (λ x. A.mul x (A.add found.0 part)) minus_one)
          ∙ ring2 A AL (λ a t. neg unit ⊗ (a ⊕ t) ⊕ t) (λ a t. neg unit ⊗ a) refl found.0 part
          ∙ ap (λ x. A.mul x found.0) (sym minus_one)))
          (order_scaled F L f hf two o h.maximal (F.neg F.one) found.0 t.rest);
    }
      where
        found : (a : A.carrier) × IsNumberSum F L f hf two o p h other m j u powers a
        found = number_sum F L f hf two o p h other m j u powers number.0 number.1

        t : IsNumberSum F L f hf two o p h other m j u powers found.0
        t = found.1

        part : A.carrier
        part = combination_in L f (suc j) t.coefficients (λ i. u (suc i))

        b : (d : ℕ → F.carrier) × (t.value ≡ combination_in L f c d g)
        b = frame.spanning t.value A.zero t.has.up_to.in_other (proper_zero F L f hf two)
            (subst (IsWithinReach L f n) (sym (AL.add_zero t.value))
            (reach_least F L f hf two (plus_ℕ (suc j) (pred (length o.d))) n within t.value
            (module_reach F L f hf two o p h chart (suc j) t.value t.has.up_to.in_module)))
