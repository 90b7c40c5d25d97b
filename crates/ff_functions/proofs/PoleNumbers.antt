-- Pole numbers of a point of a maximal order: which combinations of given elements have a pole of
-- given order there and no other, and that there is one where the order is a pole number. For an
-- equation f over a field whose laws are L.
use Rattle.std.proofs.Common.{◌≡◌, ℕ, suc, ◌<◌, List, length}
use Rattle.std.proofs.Common.{refl, sym, ◌∙◌, ap, ap₂, subst, arith}
use Rattle.ff_theory.specs.Ring.{RingOps, IsCommRing, Elements}
use Rattle.ff_theory.specs.Lawful.{Lawful}
use Rattle.ff_theory.specs.Values.{IsPlane}
use Rattle.ff_theory.proofs.Solver.{◌⊕◌, ◌⊗◌, nil, ring2}
use Rattle.ff_theory.proofs.Sums.{sum-ext}
use Rattle.ff_local.specs.Point.{OrderAt, combined}
use Rattle.ff_elem.specs.Elem.{algebra_in}
use Rattle.ff_data.specs.declared.order.Chart.{Chart}
use Rattle.ff_data.specs.declared.order.Chart.TheVariants.{Finite, Infinite}
use Rattle.ff_data.specs.declared.order.Order.{Order}
use Rattle.ff_data.specs.declared.point.Point.{Point}
use Rattle.ff_data.specs.Orders.{chart_of, InOrder, IsMaximal}
use Rattle.ff_data.specs.Poles.{HasPoleOf}
use Rattle.ff_data.specs.Combinations.{combination_in, constant_in}
use Rattle.ff_data.proofs.ChartLaws.{algebra_laws}
use Rattle.ff_data.proofs.OrderLaws.{order-combination}
use Rattle.ff_frac.specs.Places.{IsMaximalPlace, HasPoleOrder}
use Rattle.ff_frac.proofs.PoleOrders.{IsAbove}
use Rattle.ff_frac.proofs.PlaceLemmas.{place, place_pair, above_into}
use Rattle.ff_frac.proofs.PlaceLemmas.{above_back}
use Rattle.ff_functions.proofs.PoleChains.{IsChain, with_last, without_last}
use Rattle.ff_functions.proofs.PoleChains.{scaled_above, chain}

module _ (F : Elements ℕ) (L : Lawful F) (f : List (List ℕ)) (hf : IsPlane F f)
    (two : 1 < length f) where
  abbrev A : RingOps
  A = algebra_in L f

  AL : IsCommRing (algebra_in L f)
  AL = algebra_laws F L f hf two

  pub chart_constant : (chart : Chart) (a : F.carrier) → (chart_of L f chart).constant a
      ≡ constant_in L f a
  chart_constant Finite a = refl
  chart_constant Infinite a = refl

  -- multiples by constants
  pub order_scaled : (o : Order) → IsMaximal L f o → (a : F.carrier)
      → (w : (algebra_in L f).carrier) → InOrder L f o w
      → InOrder L f o ((algebra_in L f).mul (constant_in L f a) w)
  order_scaled o m a w k = subst (InOrder L f o)
      (ring2 A AL (λ c w. nil ⊕ c ⊗ w) (λ c w. c ⊗ w) refl (constant_in L f a) w)
      (order-combination F L f hf two o m.order 1 (λ i. a) (λ i. w) (λ i q. k))

  module _ (o : Order) (p : Point) (h : IsMaximalPlace L f o p) where
    abbrev P : OrderAt
    P = place F L f hf two o p h

    -- combinations in the order of the point's chart
    combined_is : (n : ℕ) (c : ℕ → F.carrier) (w : ℕ → (algebra_in L f).carrier)
        → combined P.order n c w ≡ combination_in L f n c w
    combined_is n c w = sum-ext A AL n _ _ (λ i q. ap (λ t. A.mul t (w i))
        (chart_constant o.chart (c i)))

    module _ (other : Order) (m : IsMaximal L f other) (j : ℕ)
        (u : ℕ → (algebra_in L f).carrier)
        (powers : (i : ℕ) → i < suc j → HasPoleOrder L f o p (suc i) (u (suc i))) where
      abbrev pub powers_part : (ℕ → F.carrier) → (algebra_in L f).carrier
      powers_part e = combination_in L f (suc j) e (λ i. u (suc i))

      are_above : (i : ℕ) → i < suc j → IsAbove P i (u (suc i))
      are_above i q = above_into F L f hf two o p h i (u (suc i)) (powers i q)

      -- a pole of order j + 1 at the point, and none elsewhere
      has_pole : (w : A.carrier) → IsAbove P j w → InOrder L f other w
          → HasPoleOf L f o p other (suc j) w
      has_pole w k q = let b = above_back F L f hf two o p h j w k in record {
        up_to = record { in_module = b.inside; in_other = q };
        not_less = λ n r. b.outside r.in_module;
      }

      into_above : (w : A.carrier) → HasPoleOf L f o p other (suc j) w → IsAbove P j w
      into_above w k = above_into F L f hf two o p h j w (record {
        inside = k.up_to.in_module;
        outside = λ q. k.not_less (λ z. absurd (omega (arith, z)))
            (record { in_module = q; in_other = k.up_to.in_other });
      })

      -- elements of the order, and the powers up to j + 1 with the last coefficient one
      pub combination_pole : (n : ℕ) (d e : ℕ → F.carrier) (g : ℕ → (algebra_in L f).carrier)
          → ((i : ℕ) → i < n → InOrder L f o (g i)) → e j ≡ F.one
          → InOrder L f other ((algebra_in L f).add (combination_in L f n d g) (powers_part e))
          → HasPoleOf L f o p other (suc j)
          ((algebra_in L f).add (combination_in L f n d g) (powers_part e))
      combination_pole n d e g inside one k = has_pole _ (with_last P
          (place_pair F L f hf two o p h).0 (place_pair F L f hf two o p h).1
          (place_pair F L f hf two o p h).2 u j are_above n d e g inside one _
          (ap₂ A.add (sym (combined_is n d g)) (sym (combined_is (suc j) e (λ i. u (suc i)))))) k

      -- where such a sum with any a is in the order
      pub rest_pole : (e : ℕ → F.carrier) (a : (algebra_in L f).carrier) → e j ≡ F.one
          → InOrder L f o ((algebra_in L f).add a (powers_part e)) → InOrder L f other a
          → HasPoleOf L f o p other (suc j) a
      rest_pole e a one k q = has_pole a (without_last P (place_pair F L f hf two o p h).0
          (place_pair F L f hf two o p h).1 (place_pair F L f hf two o p h).2 u j are_above e a one
          (subst (λ t. InOrder L f o (A.add a t)) (sym (combined_is (suc j) e (λ i. u (suc i)))) k))
          q

      -- a combination with the last coefficient one, for a pole number
      pub record IsNumberSum (a : (algebra_in L f).carrier) : Type 0 where
        pub coefficients : ℕ → F.carrier
        pub last : coefficients j ≡ F.one
        pub value : (algebra_in L f).carrier
        pub has : HasPoleOf L f o p other (suc j) value
        pub rest : InOrder L f o a
        pub sum : value ≡ (algebra_in L f).add a (powers_part coefficients)

      pub number_sum : (w : (algebra_in L f).carrier) → HasPoleOf L f o p other (suc j) w
          → (a : (algebra_in L f).carrier) × IsNumberSum a
      number_sum w k = (
        c.rest,
        record {
          coefficients = c.coefficients;
          last = c.last;
          value = A.mul (constant_in L f c.factor) w;
          has = has_pole _ (subst (IsAbove P j) scaled (scaled_above P
              (place_pair F L f hf two o p h).0 (place_pair F L f hf two o p h).1
              (place_pair F L f hf two o p h).2 u j are_above c.factor c.nonzero w
              (into_above w k))) (order_scaled other m c.factor w k.up_to.in_other);
          rest = c.inside;
          sum = sym scaled ∙ c.sum
              ∙ ap (A.add c.rest) (combined_is (suc j) c.coefficients (λ i. u (suc i)));
        },
      )
        where
          c : IsChain P (place_pair F L f hf two o p h).0 (place_pair F L f hf two o p h).1
              (place_pair F L f hf two o p h).2 u j are_above w
          c = chain P (place_pair F L f hf two o p h).0 (place_pair F L f hf two o p h).1
              (place_pair F L f hf two o p h).2 u j are_above w (into_above w k)

          scaled : P.mul (P.constant c.factor) w ≡ A.mul (constant_in L f c.factor) w
          scaled = ap (λ t. A.mul t w) (chart_constant o.chart c.factor)
