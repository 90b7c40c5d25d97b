-- The data of a power of an element with a pole at a point of an order, for an equation f over a
-- field whose laws are L. This project's own.
use Rattle.std.specs.Prelude.{◌≡◌, ℕ, ◌+◌, ◌≤◌, pred, List, length}
use Rattle.ff_theory.specs.Ring.{Elements, power}
use Rattle.ff_theory.specs.Lawful.{Lawful}
use Rattle.ff_theory.specs.Poly.{Poly, polynomials}
use Rattle.ff_theory.specs.Values.{poly_of, IsPoly, plane_of, IsPlane}
use Rattle.ff_charts.specs.Lattice.{HasShape}
use Rattle.ff_local.specs.ChartOrder.{root_at}
use Rattle.ff_lattice.specs.Residues.{AreResidues}
use Rattle.ff_data.specs.declared.order.Order.{Order}
use Rattle.ff_data.specs.declared.point.Point.{Point}
use Rattle.ff_data.specs.Orders.{chart_of, y_degree}
use Rattle.ff_fibre.specs.Fibres.{IsProductOver}
use Rattle.ff_frac.specs.Places.{IsMaximalPlace, IsPoleNumerator, first_modulus}
use Rattle.ff_frac.specs.declared.powers.Powers.{Powers}

module _ {F : Elements ℕ} (L : Lawful F) (f : List (List ℕ)) where
  -- a modulus of the order's chart, and a plane of residues modulo it
  pub record IsFraction (o : Order) (d : List ℕ) (N : List (List ℕ)) : Type 0 where
    pub poly : IsPoly F d
    pub modulus : (chart_of L f o.chart).IsModulus (poly_of F d)
    pub plane : IsPlane F N
    pub shape : HasShape F.ring (y_degree L f) (pred (length d)) (plane_of F N)

  -- u - a, a numerator, the chart's equation, and a numerator of a power i over a modulus with i
  -- coefficients more than that of the order
  pub record HasPowersForm (o : Order) (i : ℕ) (s : Powers) : Type 0 where
    pub root : IsPoly F s.root
    pub root_size : length s.root ≡ 2
    pub root_modulus : (chart_of L f o.chart).IsModulus (poly_of F s.root)
    pub multiplier : IsPlane F s.multiplier
    pub equation : IsPlane F s.equation
    pub equation_is : plane_of F s.equation ≡ (chart_of L f o.chart).equation
    pub size : length s.modulus ≡ length o.d + i
    pub power : IsFraction o s.modulus s.power

  -- u - a, d*(u - a)^i, a numerator over d*(u - a) of an element with a pole of order 1, and one
  -- over d*(u - a)^i of one with a pole of order i
  pub record IsPowerAt (o : Order) (p : Point) (i : ℕ) (s : Powers) : Type 0 where
    pub root : poly_of F s.root ≡ root_at F.ring (F.value p.a)
    pub modulus : poly_of F s.modulus ≡ (polynomials F.ring).mul
        (power (polynomials F.ring) (root_at F.ring (F.value p.a)) i) (poly_of F o.d)
    pub first : IsPoleNumerator L f o p 1 (first_modulus L f o p) s.multiplier
    pub power : IsPoleNumerator L f o p i (poly_of F s.modulus) s.power

  -- the power of order i + 1, where the one before has order i
  abbrev pub IsNextPower : Order → ℕ → Powers → Powers → Type 0
  IsNextPower o i s r = (p : Point) → IsMaximalPlace L f o p → IsPowerAt o p i s
      → IsPowerAt o p (i + 1) r

  -- the power of order 1, where the multiplier has it
  abbrev pub IsFirstPower : Order → List ℕ → List (List ℕ) → Powers → Type 0
  IsFirstPower o root N r = (p : Point) → IsMaximalPlace L f o p
      → poly_of F root ≡ root_at F.ring (F.value p.a)
      → IsPoleNumerator L f o p 1 (first_modulus L f o p) N → IsPowerAt o p 1 r

  -- the residue modulo m of the numerator over d of the product of the power and the multiplier
  pub record IsNextPlane (o : Order) (s : Powers) (m : List ℕ) (r : List (List ℕ))
      : Type 0 where
    pub quotient : Poly (polynomials F.ring)
    pub product : IsProductOver L f o (plane_of F s.power) (plane_of F s.multiplier) quotient
    pub residues : AreResidues F.ring (poly_of F m) quotient (plane_of F r)
