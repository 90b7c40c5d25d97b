-- The elements of the powers that a search has passed, at a point of a maximal order: their poles,
-- their images, and that they are proper at the finite chart. For an equation f over a field whose
-- laws are L.
use Rattle.std.proofs.Common.{◌≡◌, ℕ, zero, suc, pred, ◌+◌, ◌<◌, ◌≤◌, List, [], length, get_or}
use Rattle.std.proofs.Common.{sym, ◌∙◌, ap, subst, arith}
use Rattle.ff_theory.specs.Ring.{RingOps, Elements, power}
use Rattle.ff_theory.specs.Lawful.{Lawful}
use Rattle.ff_theory.specs.Poly.{Poly, polynomials}
use Rattle.ff_theory.specs.Division.{size}
use Rattle.ff_theory.specs.Values.{poly_of, plane_of, IsPlane}
use Rattle.ff_charts.specs.Chart.{IsChart, at_u, at_theta}
use Rattle.ff_charts.specs.Lattice.{HasShape}
use Rattle.ff_local.specs.ChartOrder.{root_at}
use Rattle.ff_lin.specs.Space.{SpaceParts}
use Rattle.ff_poly.proofs.LongDivision.{poly-size}
use Rattle.ff_elem.specs.Elem.{algebra_in}
use Rattle.ff_data.specs.declared.order.Chart.TheVariants.{Finite, Infinite}
use Rattle.ff_data.specs.declared.order.Order.{Order}
use Rattle.ff_data.specs.declared.point.Point.{Point}
use Rattle.ff_data.specs.Orders.{chart_of, y_degree}
use Rattle.ff_data.proofs.ChartLaws.{chart_laws, chart_degree}
use Rattle.ff_frac.specs.Places.{IsMaximalPlace, HasPoleOrder, IsOverModulus}
use Rattle.ff_frac.specs.Powers.{IsFraction, IsPowerAt}
use Rattle.ff_frac.proofs.PlaceLemmas.{place_point, some_over}
use Rattle.ff_functions.specs.declared.search.Search.{Search}
use Rattle.ff_functions.specs.Images.{IsImageOf}
use Rattle.ff_functions.specs.Elements.{IsProper}
use Rattle.ff_functions.specs.Combined.{HavePowers}
use Rattle.ff_functions.specs.Searches.{IsPowerImage, HoldSearch}
use Rattle.ff_functions.proofs.PowerImages.{power_image}

module _ (F : Elements ℕ) (L : Lawful F) (f : List (List ℕ)) (hf : IsPlane F f)
    (two : 1 < length f) (o : Order) (p : Point) (h : IsMaximalPlace L f o p) where
  l : IsChart F.ring (algebra_in L f) (chart_of L f o.chart)
  l = chart_laws F L f hf two o.chart

  abbrev root : Poly F.ring
  root = root_at F.ring (F.value p.a)

  abbrev A : RingOps
  A = algebra_in L f

  -- (u - a)^n * d
  abbrev pub modulus_at : ℕ → Poly F.ring
  modulus_at n = (polynomials F.ring).mul
      (power (polynomials F.ring) (root_at F.ring (F.value p.a)) n) (poly_of F o.d)

  root_power : (n : ℕ) → (chart_of L f o.chart).IsModulus (power (polynomials F.ring) root n)
  root_power zero = l.one_modulus
  root_power (suc n) = l.modulus_product root (power (polynomials F.ring) root n)
      (place_point F L f hf two o p h).is_modulus (root_power n)

  modulus_is : (n : ℕ) → (chart_of L f o.chart).IsModulus (modulus_at n)
  modulus_is n = l.modulus_product (power (polynomials F.ring) root n) (poly_of F o.d)
      (root_power n) h.maximal.order.modulus

  -- power n is a plane of the list over (u - a)^n * d
  pub power_over : (planes : List (List (List ℕ))) (n : ℕ) → (w : (algebra_in L f).carrier)
      × IsOverModulus L f o (modulus_at n) (get_or planes (pred n) []) w
  power_over planes n = some_over F L f hf two o p h (modulus_at n)
      (l.modulus_nonzero (modulus_at n) (modulus_is n)) (get_or planes (pred n) [])

  module _ (H c n m : ℕ) (t : SpaceParts) (first : ℕ → ℕ → F.carrier) (s : Search)
      (held : HoldSearch L f o p H c n m t first s) where
    abbrev planes : List (List (List ℕ))
    planes = s.trail.passed.items

    abbrev pub element_at : ℕ → (algebra_in L f).carrier
    element_at i = (power_over s.trail.passed.items i).0

    over : (i : ℕ) → IsOverModulus L f o (modulus_at (suc i)) (get_or planes i [])
        (element_at (suc i))
    over i = (power_over planes (suc i)).1

    module _ (i : ℕ) (q : i < m) where
      k : IsPowerImage L f o p H (i + 1) (get_or s.trail.passed.items i []) (held.images (c + i))
      k = held.powers i q

      at : IsPowerAt L f o p (i + 1) k.powers
      at = k.exact h

      fraction : IsFraction L f o k.powers.modulus k.powers.power
      fraction = k.form.power

      e : i + 1 ≡ suc i
      e = omega arith

      over_own : IsOverModulus L f o (poly_of F k.powers.modulus) k.powers.power
          (element_at (suc i))
      over_own = subst (λ N. IsOverModulus L f o (poly_of F k.powers.modulus) N
          (element_at (suc i))) (sym k.numerator)
          (subst (λ M. IsOverModulus L f o M (get_or planes i []) (element_at (suc i)))
          (sym (at.modulus ∙ ap modulus_at e)) (over i))

      pub power_pole : HasPoleOrder L f o p (suc i) (element_at (suc i))
      power_pole = subst (λ n. HasPoleOrder L f o p n (element_at (suc i))) e
          (at.power (element_at (suc i)) over_own)

      pub power_is_image : 0 < length o.d → (o.chart ≡ Infinite → pred (length o.d) + m ≤ H)
          → IsImageOf L f H (element_at (suc i)) (held.images (c + i))
      power_is_image positive room = power_image F L f hf two o p H (i + 1)
          (get_or planes i []) (held.images (c + i)) k
          (λ e. let r = room e in omega (arith, k.form.size, r, q, positive))
          (element_at (suc i)) over_own

      pub power_proper : o.chart ≡ Finite → IsProper L f (element_at (suc i))
      power_proper chart = record {
        modulus = poly_of F k.powers.modulus;
        is_modulus = subst (λ c. (chart_of L f c).IsModulus (poly_of F k.powers.modulus)) chart
            fraction.modulus;
        nums = plane_of F k.powers.power;
        shape = subst (λ n. HasShape F.ring n (pred (size F.ring (poly_of F k.powers.modulus)))
            (plane_of F k.powers.power)) (sym (chart_degree F L f hf two Finite))
            (subst (λ n. HasShape F.ring (y_degree L f) (pred n) (plane_of F k.powers.power))
            (sym (poly-size F.ring L.laws L.tests F.value k.powers.modulus fraction.poly.canonical))
            fraction.shape);
        value = subst (λ c. A.mul (at_u (chart_of L f c) (poly_of F k.powers.modulus))
            (element_at (suc i)) ≡ at_theta (chart_of L f c) (plane_of F k.powers.power)) chart
            over_own;
      }

    pub elements_powers : o.chart ≡ Finite
        → HavePowers L f o.d s.trail.powers.root s.trail.passed.items (λ i. element_at (suc i))
    elements_powers chart i q = let e : suc i ≡ i + 1 = omega arith in
        subst (λ r. A.mul (at_u (chart_of L f Finite) ((polynomials F.ring).mul
        (power (polynomials F.ring) r (i + 1)) (poly_of F o.d))) (element_at (suc i))
        ≡ at_theta (chart_of L f Finite) (plane_of F (get_or planes i [])))
        (sym (held.power h).root)
        (subst (λ n. A.mul (at_u (chart_of L f Finite) (modulus_at n)) (element_at (suc i))
        ≡ at_theta (chart_of L f Finite) (plane_of F (get_or planes i []))) e
        (subst (λ c. A.mul (at_u (chart_of L f c) (modulus_at (suc i))) (element_at (suc i))
        ≡ at_theta (chart_of L f c) (plane_of F (get_or planes i []))) chart (over i)))
