-- The common elements of a finite and an infinite order, for an equation f over a field whose laws
-- are L.
use Rattle.std.proofs.Common.{◌≡◌, ℕ, ◌<◌, List, length, sym, subst, Result, Ok, Err, IfErr}
use Rattle.ff_theory.specs.Ring.{Elements}
use Rattle.ff_theory.specs.Lawful.{Lawful}
use Rattle.ff_theory.specs.Values.{poly_of, IsPlane}
use Rattle.ff_elem.specs.declared.elem.Elem.{Elem}
use Rattle.ff_elem.specs.Elem.{algebra_in}
use Rattle.ff_data.specs.declared.order.Chart.{Chart}
use Rattle.ff_data.specs.declared.order.Chart.TheVariants.{Finite, Infinite}
use Rattle.ff_data.specs.declared.order.Order.{Order}
use Rattle.ff_data.specs.Orders.{chart_of, IsOrder}
use Rattle.ff_data.specs.Lattices.{IsCommon, IsLattice, InLatticeOf, InBoth}
use Rattle.ff_data.specs.Combinations.{IsBasisOf, elems_of}
use Rattle.ff_data.proofs.OrderLaws.{order-combination}
use Rattle.ff_const.specs.declared.factors.SplitFault.{SplitFault}
use Rattle.ff_const.specs.declared.factors.SplitFault.TheVariants.{Reducible, NoMemory}
use Rattle.ff_const.specs.Fixed.{InSpanOfAll, IsSplit, FixesConstants}

-- what holds of a fault that is passed on
pub err-map : {T F : Type 0} (P Q : F → Type 0) (r : Result T F) → ((e : F) → P e → Q e)
    → IfErr r P → IfErr r Q
err-map P Q (Ok x) h i = i
err-map P Q (Err e) h i = h e i

module _ (K : Elements ℕ) (L : Lawful K) (f : List (List ℕ)) where
  -- an order as a lattice of its chart
  pub order-lattice : (o : Order) (chart : Chart) → o.chart ≡ chart → IsOrder L f o
      → IsLattice L f chart o.d o.space
  order-lattice o chart e h = record {
    poly = h.d;
    modulus = subst (λ t. (chart_of L f t).IsModulus (poly_of K o.d)) e h.modulus;
    space = h.space;
  }

  module _ (finite infinite : Order) (hf : finite.chart ≡ Finite) (hi : infinite.chart ≡ Infinite)
    where
      both-into : (w : (algebra_in L f).carrier)
          → InBoth L f finite.d finite.space infinite.d infinite.space w
          → IsCommon L f finite infinite w
      both-into w h = record {
        in_finite = subst (λ t. InLatticeOf L f t finite.d finite.space w) (sym hf) h.in_finite;
        in_infinite = subst (λ t. InLatticeOf L f t infinite.d infinite.space w) (sym hi)
            h.in_infinite;
      }

      both-back : (w : (algebra_in L f).carrier) → IsCommon L f finite infinite w
          → InBoth L f finite.d finite.space infinite.d infinite.space w
      both-back w h = record {
        in_finite = subst (λ t. InLatticeOf L f t finite.d finite.space w) hf h.in_finite;
        in_infinite = subst (λ t. InLatticeOf L f t infinite.d infinite.space w) hi h.in_infinite;
      }

      -- a basis of the elements in both lattices is one of those in both orders
      pub common-basis : (ws : List Elem)
          → IsBasisOf L f (InBoth L f finite.d finite.space infinite.d infinite.space) ws
          → IsBasisOf L f (IsCommon L f finite infinite) ws
      common-basis ws h = record {
        elems = h.elems;
        each = λ i l. both-into (elems_of L f ws i) (h.each i l);
        independent = h.independent;
        spans = λ w q. h.spans w (both-back w q);
      }

      module _ (of : IsOrder L f finite) (oi : IsOrder L f infinite) (plane : IsPlane K f)
          (two : 1 < length f) (ws : List Elem)
          (basis : IsBasisOf L f (IsCommon L f finite infinite) ws) where
        -- the combinations of a basis are common elements
        span-common : (w : (algebra_in L f).carrier) → InSpanOfAll L f ws w
            → IsCommon L f finite infinite w
        span-common w h = subst (IsCommon L f finite infinite) (sym h.sum) (record {
          in_finite = order-combination K L f plane two finite of (length ws) h.coefficients
              (elems_of L f ws) (λ i l. (basis.each i l).in_finite);
          in_infinite = order-combination K L f plane two infinite oi (length ws) h.coefficients
              (elems_of L f ws) (λ i l. (basis.each i l).in_infinite);
        })

        pub fixes-common : FixesConstants L f (InSpanOfAll L f ws)
            → FixesConstants L f (IsCommon L f finite infinite)
        fixes-common h w q = h w (basis.spans w q)

        pub split-common : (fault : SplitFault) → IsSplit L f (InSpanOfAll L f ws) fault
            → IsSplit L f (IsCommon L f finite infinite) fault
        split-common (Reducible g h) s = (
          s.0,
          record {
            element = s.1.element;
            is_in = span-common s.1.element s.1.is_in;
            fixed = s.1.fixed;
            not_constant = s.1.not_constant;
          },
        )
        split-common NoMemory s = tt
