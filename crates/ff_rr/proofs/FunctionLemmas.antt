-- The functions of a pole module and an order as the common elements of two lattices, for an
-- equation f over a field whose laws are L.
use Rattle.std.proofs.Common.{◌≡◌, ℕ, List, refl, sym, subst}
use Rattle.ff_theory.specs.Ring.{Elements}
use Rattle.ff_theory.specs.Lawful.{Lawful}
use Rattle.ff_theory.specs.Values.{poly_of}
use Rattle.ff_elem.specs.declared.elem.Elem.{Elem}
use Rattle.ff_elem.specs.Elem.{algebra_in}
use Rattle.ff_data.specs.declared.order.Chart.{Chart}
use Rattle.ff_data.specs.declared.order.Chart.TheVariants.{Finite, Infinite}
use Rattle.ff_data.specs.declared.order.Order.{Order}
use Rattle.ff_data.specs.declared.point.Pole.{Pole}
use Rattle.ff_data.specs.declared.point.RRSpace.{RRSpace}
use Rattle.ff_data.specs.Orders.{chart_of, IsOrder}
use Rattle.ff_data.specs.Lattices.{IsLattice, InLatticeOf, InBoth}
use Rattle.ff_data.specs.Poles.{IsPole, IsModuleOf, IsSpaceAt, InModule}
use Rattle.ff_data.specs.Combinations.{IsBasisOf, elems_of}
use Rattle.ff_rr.specs.Functions.{IsFunctionOf}

-- the other chart
pub other_of_finite : (c : Chart) → ¬ (c ≡ Finite) → c ≡ Infinite
other_of_finite Finite n = absurd (n refl)
other_of_finite Infinite n = refl

pub other_of_infinite : (c : Chart) → ¬ (c ≡ Infinite) → c ≡ Finite
other_of_infinite Finite n = refl
other_of_infinite Infinite n = absurd (n refl)

module _ (F : Elements ℕ) (L : Lawful F) (f : List (List ℕ)) where
  -- a basis of the elements with one property is one of those with an equal property
  basis-same : (P Q : (algebra_in L f).carrier → Type 0) (ws : List Elem)
      → ((w : (algebra_in L f).carrier) → P w → Q w)
      → ((w : (algebra_in L f).carrier) → Q w → P w) → IsBasisOf L f P ws → IsBasisOf L f Q ws
  basis-same P Q ws into back h = record {
    elems = h.elems;
    each = λ i l. into (elems_of L f ws i) (h.each i l);
    independent = h.independent;
    spans = λ w q. h.spans w (back w q);
  }

  module _ (m : Pole) (other : Order) where
    -- the data as lattices
    pub pole-lattice : (c : Chart) → m.point.chart ≡ c → IsPole L f m
        → IsLattice L f c m.d m.space
    pole-lattice c e h = record {
      poly = h.d;
      modulus = subst (λ t. (chart_of L f t).IsModulus (poly_of F m.d)) e h.modulus;
      space = h.space;
    }

    pub order-lattice : (c : Chart) → other.chart ≡ c → IsOrder L f other
        → IsLattice L f c other.d other.space
    order-lattice c e h = record {
      poly = h.d;
      modulus = subst (λ t. (chart_of L f t).IsModulus (poly_of F other.d)) e h.modulus;
      space = h.space;
    }

    pub functions-finite : m.point.chart ≡ Finite → other.chart ≡ Infinite → (ws : List Elem)
        → IsBasisOf L f (InBoth L f m.d m.space other.d other.space) ws
        → IsBasisOf L f (IsFunctionOf L f m other) ws
    functions-finite hm ho ws = basis-same (InBoth L f m.d m.space other.d other.space)
        (IsFunctionOf L f m other) ws
        (λ w h. record {
          in_module = subst (λ t. InLatticeOf L f t m.d m.space w) (sym hm) h.in_finite;
          in_other = subst (λ t. InLatticeOf L f t other.d other.space w) (sym ho) h.in_infinite;
        })
        (λ w h. record {
          in_finite = subst (λ t. InLatticeOf L f t m.d m.space w) hm h.in_module;
          in_infinite = subst (λ t. InLatticeOf L f t other.d other.space w) ho h.in_other;
        })

    pub functions-infinite : m.point.chart ≡ Infinite → other.chart ≡ Finite → (ws : List Elem)
        → IsBasisOf L f (InBoth L f other.d other.space m.d m.space) ws
        → IsBasisOf L f (IsFunctionOf L f m other) ws
    functions-infinite hm ho ws = basis-same (InBoth L f other.d other.space m.d m.space)
        (IsFunctionOf L f m other) ws
        (λ w h. record {
          in_module = subst (λ t. InLatticeOf L f t m.d m.space w) (sym hm) h.in_infinite;
          in_other = subst (λ t. InLatticeOf L f t other.d other.space w) (sym ho) h.in_finite;
        })
        (λ w h. record {
          in_finite = subst (λ t. InLatticeOf L f t other.d other.space w) ho h.in_other;
          in_infinite = subst (λ t. InLatticeOf L f t m.d m.space w) hm h.in_module;
        })

    -- where the pole module is that of a point of an order
    pub space-at : (o : Order) → IsModuleOf L f o m → (s : RRSpace) → s.j ≡ m.j
        → IsBasisOf L f (IsFunctionOf L f m other) s.basis → IsSpaceAt L f o m.point other s
    space-at o h s e = basis-same _ _ s.basis
        (λ w q. record {
          in_module = subst (λ j. InModule L f o m.point j w) (sym e)
              ((h.exact w).0 q.in_module);
          in_other = q.in_other;
        })
        (λ w q. record {
          in_module = (h.exact w).1 (subst (λ j. InModule L f o m.point j w) e q.in_module);
          in_other = q.in_other;
        })
