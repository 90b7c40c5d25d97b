-- The two maximal orders of E(f) by the descent: each level holds the integral elements, and a
-- level
-- that is the next one too, or that is closed under products, has no others.
use Rattle.std.proofs.Common.{◌≡◌, ℕ, zero, suc, ◌<◌, false, sym, ◌∙◌, subst, arith}
use Rattle.ff_theory.specs.Ring.{RingOps, IsCommRing, IsCharacteristic, FieldOps}
use Rattle.ff_theory.specs.Ring.{IsFiniteField}
use Rattle.ff_theory.specs.Lawful.{Field}
use Rattle.ff_theory.specs.Poly.{Poly, polynomials}
use Rattle.ff_theory.specs.Division.{size}
use Rattle.ff_theory.specs.Planes.{Plane}
use Rattle.ff_theory.specs.Monic.{monic_form}
use Rattle.ff_theory.specs.Reversal.{Fits}
use Rattle.ff_theory.specs.Algebra.{algebra_of, degree}
use Rattle.ff_theory.proofs.Element.{algebra_is_ring}
use Rattle.ff_theory.proofs.ElementPower.{algebra_characteristic, polynomials_characteristic}
use Rattle.ff_charts.specs.Chart.{at_u, InPowers}
use Rattle.ff_charts.specs.FieldCharts.{finite_chart, infinite_chart}
use Rattle.ff_charts.specs.Integral.{IsFiniteIntegral, IsInfinityIntegral}
use Rattle.ff_charts.specs.Lattice.{IsClosed}
use Rattle.ff_charts.proofs.FiniteChart.{finite_is_chart}
use Rattle.ff_charts.proofs.InfiniteChart.{infinite_is_chart}
use Rattle.ff_conductor.proofs.PowerParts.{HasRoots}
use Rattle.ff_conductor.proofs.Roots.{roots_exist}
use Rattle.ff_conductor.proofs.Conductor.{different, powers_different}
use Rattle.ff_conductor.proofs.FiniteIntegral.{finite_integral, integral_finite}
use Rattle.ff_conductor.proofs.InfiniteIntegral.{infinity_integral, integral_infinity}
use Rattle.ff_descent.specs.Descent.{InLevel, LevelSpace}
use Rattle.ff_descent.proofs.Maximal.{integral_in_level, level_integral}
use Rattle.ff_descent.proofs.Levels.{level_closed}

module _ (K : Field) (f : Plane K) (n : ℕ) (has : size (polynomials K.ring) f ≡ suc n) (q : ℕ)
    (more : 0 < q) (least : IsCharacteristic K.ring (suc q)) (roots : HasRoots K.ring (suc q)) where
  abbrev A : RingOps
  A = algebra_of K f

  abbrev AL : IsCommRing (algebra_of K f)
  AL = algebra_is_ring K f

  -- the derivative of the monic form at y'
  abbrev pub finite_different : (algebra_of K f).carrier
  finite_different = different K (algebra_of K f) (algebra_is_ring K f) (finite_chart K f)
      (finite_is_chart K f n has)

  -- b times the different is d
  module _ (b : (algebra_of K f).carrier) (d : Poly K.ring) (hb : InPowers (finite_chart K f) b)
      (nd : (polynomials K.ring).same d (polynomials K.ring).zero ≡ false)
      (product : (algebra_of K f).mul b
      (different K (algebra_of K f) (algebra_is_ring K f) (finite_chart K f)
      (finite_is_chart K f n has)) ≡ at_u (finite_chart K f) d) where
    pub finite_in_level : (i : ℕ) (s : (algebra_of K f).carrier) → IsFiniteIntegral K f s
        → InLevel (finite_chart K f) finite_different q i s
    finite_in_level i s h = integral_in_level K A AL (finite_chart K f) (finite_is_chart K f n has)
        q
        more (algebra_characteristic K (suc q) least f)
        (polynomials_characteristic K (suc q) least) roots b d hb nd product i s
        (integral_finite K f n has s h)

    pub level_finite : (i : ℕ) → ((w : (algebra_of K f).carrier)
        → InLevel (finite_chart K f) finite_different q i w
        → InLevel (finite_chart K f) finite_different q (suc i) w)
        → (w : (algebra_of K f).carrier) → InLevel (finite_chart K f) finite_different q i w
        → IsFiniteIntegral K f w
    level_finite i stands w h = finite_integral K f n has w
        (level_integral K A AL (finite_chart K f) (finite_is_chart K f n has) q
        more (algebra_characteristic K (suc q) least f) (polynomials_characteristic K (suc q) least)
        roots b d hb nd product i stands w h)

    pub closed_finite : (i : ℕ)
        → IsClosed (finite_chart K f) d (LevelSpace (finite_chart K f) finite_different q d i)
        → (w : (algebra_of K f).carrier) → InLevel (finite_chart K f) finite_different q i w
        → IsFiniteIntegral K f w
    closed_finite i closed w h = finite_integral K f n has w
        (level_closed K A AL (finite_chart K f) (finite_is_chart K f n has) q
        (algebra_characteristic K (suc q) least f) finite_different d b nd
        (powers_different K A AL (finite_chart K f)
        (finite_is_chart K f n has)) hb product i closed w
        h)

  module _ (e : ℕ) (fits : Fits K.ring (degree K f) (monic_form (polynomials K.ring) f) e) where
    -- the derivative of the equation of y'' at y''
    abbrev pub infinite_different : (algebra_of K f).carrier
    infinite_different = different K (algebra_of K f) (algebra_is_ring K f) (infinite_chart K f e)
        (infinite_is_chart K f n has e fits)

    module _ (b : (algebra_of K f).carrier) (d : Poly K.ring)
        (hb : InPowers (infinite_chart K f e) b)
        (nd : (polynomials K.ring).same d (polynomials K.ring).zero ≡ false)
        (product : (algebra_of K f).mul b
        (different K (algebra_of K f) (algebra_is_ring K f) (infinite_chart K f e)
        (infinite_is_chart K f n has e fits)) ≡ at_u (infinite_chart K f e) d) where
      pub infinite_in_level : (i : ℕ) (s : (algebra_of K f).carrier) → IsInfinityIntegral K f s
          → InLevel (infinite_chart K f e) infinite_different q i s
      infinite_in_level i s h = integral_in_level K A AL (infinite_chart K f e)
          (infinite_is_chart K f n has e fits) q more (algebra_characteristic K (suc q) least f)
          (polynomials_characteristic K (suc q) least) roots b d hb nd product i s
          (infinity_integral K f n has e fits s h)

      pub level_infinite : (i : ℕ) → ((w : (algebra_of K f).carrier)
          → InLevel (infinite_chart K f e) infinite_different q i w
          → InLevel (infinite_chart K f e) infinite_different q (suc i) w)
          → (w : (algebra_of K f).carrier)
          → InLevel (infinite_chart K f e) infinite_different q i w → IsInfinityIntegral K f w
      level_infinite i stands w h = integral_infinity K f n has e fits w
          (level_integral K A AL (infinite_chart K f e) (infinite_is_chart K f n has e fits) q more
          (algebra_characteristic K (suc q) least f) (polynomials_characteristic K (suc q) least)
          roots b d hb nd product i stands w h)

      pub closed_infinite : (infinite_chart K f e).IsModulus d → (i : ℕ)
          → IsClosed (infinite_chart K f e) d
          (LevelSpace (infinite_chart K f e) infinite_different q d i)
          → (w : (algebra_of K f).carrier)
          → InLevel (infinite_chart K f e) infinite_different q i w → IsInfinityIntegral K f w
      closed_infinite hd i closed w h = integral_infinity K f n has e fits w
          (level_closed K A AL (infinite_chart K f e) (infinite_is_chart K f n has e fits) q
          (algebra_characteristic K (suc q) least f) infinite_different d b hd
          (powers_different K A AL (infinite_chart K f e) (infinite_is_chart K f n has e fits)) hb
          product i
          closed w h)

-- what the descent wants of a finite field
module _ (F : FieldOps) (laws : IsCommRing F.ring) (finite : IsFiniteField F) (q : ℕ)
    (is : F.characteristic ≡ suc q) where
  pub field_least : IsCharacteristic F.ring (suc q)
  field_least = subst (IsCharacteristic F.ring) is finite.least

  pub field_roots : HasRoots F.ring (suc q)
  field_roots = subst (HasRoots F.ring) is (roots_exist F laws finite)

  -- one is not zero
  pub field_more : 0 < q
  field_more = go q field_least
    where
      go : (q : ℕ) → IsCharacteristic F.ring (suc q) → 0 < q
      go zero least = absurd (finite.field.one_not_zero (sym (laws.add_zero F.one)
          ∙ least.makes_zero))
      go (suc q) least = omega arith
