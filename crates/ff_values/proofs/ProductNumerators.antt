-- The product of two numerators of an order is d times a plane, whose residue is a numerator.
use Rattle.std.proofs.Common.{◌≡◌, ◌≤◌, false, refl, sym, ◌∙◌, ap, ap₂, subst}
use Rattle.ff_theory.specs.Ring.{RingOps, IsCommRing}
use Rattle.ff_theory.specs.Lawful.{Domain, Field}
use Rattle.ff_theory.specs.Poly.{polynomials}
use Rattle.ff_theory.specs.Division.{size}
use Rattle.ff_theory.specs.Planes.{planes, Plane, row_of}
use Rattle.ff_theory.proofs.Solver.{◌⊕◌, ◌⊗◌, neg, ring2, ring3, ring4}
use Rattle.ff_theory.proofs.PolyMap.{polynomial_domain}
use Rattle.ff_charts.specs.Chart.{Chart, at_u, at_theta, IsChart}
use Rattle.ff_charts.specs.Lattice.{IsResidue}
use Rattle.ff_charts.proofs.Chart.{at_u_map, row_times, cancel_u, powers_mul, powers_u}
use Rattle.ff_charts.proofs.Lattice.{lat_clears}
use Rattle.ff_local.specs.Point.{OrderIn}
use Rattle.ff_local.specs.ChartOrder.{ChartOrder, InChartOrder, root_at}
use Rattle.ff_local.specs.ChartPole.{pole_modulus}
use Rattle.ff_local.specs.ChartFibre.{IsNumerator}
use Rattle.ff_local.proofs.Orders.{in_neg}
use Rattle.ff_local.proofs.ChartOrder.{order_in, powers_in}
use Rattle.ff_local.proofs.ChartQuotient.{plane_quotient}
use Rattle.ff_local.proofs.Quotients.{times_over}
use Rattle.ff_values.proofs.SpannedNumerators.{first_modulus, element_numerator, numerator_in}

module _ (K : Field) (A : RingOps) (AL : IsCommRing A) (c : Chart K.ring A) (l : IsChart K.ring A c)
    (o : ChartOrder c) (a : K.carrier) (modulus : c.IsModulus (root_at K.ring a)) where
  infixl 60 ◌+◌
  infixl 70 ◌*◌
  open A use {add as ◌+◌, mul as ◌*◌, neg as minus, carrier as C}

  abbrev D : Domain
  D = polynomial_domain K

  abbrev P : OrderIn
  P = order_in K A AL c l o a modulus

  abbrev over : Plane K → C
  over N = l.inverse o.modulus * at_theta c N

  modulus_nonzero : D.same o.modulus D.zero ≡ false
  modulus_nonzero = l.modulus_nonzero o.modulus o.is_modulus

  abbrev d : C
  d = at_u c o.modulus

  module _ (M N T : Plane K) (hm : IsNumerator c o a M) (hn : IsNumerator c o a N)
      (small : size (polynomials K.ring) T ≤ c.degree)
      (product : at_theta c T ≡ A.mul (at_theta c M) (at_theta c N)) where
    -- the product of the elements
    abbrev w : C
    w = over M * over N

    w_in : InChartOrder c o w
    w_in = o.closed (over M) (over N) (numerator_in K A AL c l o a modulus M hm)
        (numerator_in K A AL c l o a modulus N hn)

    twice : at_theta c T ≡ d * (d * w)
    twice = product ∙ sym (ap₂ A.mul (times_over K A AL c l o.modulus modulus_nonzero M)
        (times_over K A AL c l o.modulus modulus_nonzero N))
        ∙ ring3 A AL (λ d x y. d ⊗ x ⊗ (d ⊗ y)) (λ d x y. d ⊗ (d ⊗ (x ⊗ y))) refl d (over M)
        (over N)

    pub product_quotient : (Q : Plane K)
        × (T ≡ (planes K).mul (row_of K.ring o.modulus) Q)
    product_quotient = plane_quotient K A AL c l o.modulus o.is_modulus (d * w)
        (lat_clears K A AL c l o.modulus o.is_modulus o.space.In w w_in) T small twice

    module _ (Q R : Plane K) (quotient : T ≡ (planes K).mul (row_of K.ring o.modulus) Q)
        (residue : IsResidue c (pole_modulus c o a 1) (at_theta c Q) R) where
      over_quotient : over Q ≡ w
      over_quotient = cancel_u K A AL c l o.modulus modulus_nonzero _ _
          (times_over K A AL c l o.modulus modulus_nonzero Q
          ∙ cancel_u K A AL c l o.modulus modulus_nonzero _ _
          (sym (row_times K A AL c l o.modulus Q) ∙ ap (at_theta c) (sym quotient) ∙ twice))

      over_residue : over R ≡ over Q + minus (at_u c (root_at K.ring a) * residue.rest)
      over_residue = cancel_u K A AL c l o.modulus modulus_nonzero _ _
          (times_over K A AL c l o.modulus modulus_nonzero R
          ∙ ring2 A AL (λ r s. r) (λ r s. (r ⊕ s) ⊕ neg s) refl (at_theta c R)
          (at_u c (pole_modulus c o a 1) * residue.rest)
          ∙ ap₂ (λ x y. x + minus (y * residue.rest)) (sym residue.sum
          ∙ sym (times_over K A AL c l o.modulus modulus_nonzero Q))
          (ap (at_u c) (first_modulus K A AL c l o a modulus)
          ∙ (at_u_map K A AL c l).on_mul (root_at K.ring a) o.modulus)
          ∙ ring4 A AL (λ d q v r. d ⊗ q ⊕ neg (v ⊗ d ⊗ r))
          (λ d q v r. d ⊗ (q ⊕ neg (v ⊗ r))) refl d
          (over Q) (at_u c (root_at K.ring a)) residue.rest)

      -- the residue of the quotient is a numerator
      pub residue_numerator : IsNumerator c o a R
      residue_numerator = element_numerator K A AL c l o a modulus R residue.shape
          (subst (InChartOrder c o) (sym over_residue) (P.in_add _ _
          (subst (InChartOrder c o) (sym over_quotient) w_in)
          (in_neg P _ (powers_in K A AL c l o a modulus _
          (powers_mul K A AL c l _ _ (powers_u K A AL c l (root_at K.ring a))
          residue.in_powers)))))

      -- the product of the planes is d times the quotient
      pub product_is : A.mul (at_theta c M) (at_theta c N)
          ≡ A.mul (at_u c o.modulus) (at_theta c Q)
      product_is = sym product ∙ ap (at_theta c) quotient ∙ row_times K A AL c l o.modulus Q
