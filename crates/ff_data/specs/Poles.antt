-- Pole modules, the spaces L_j of a point and its pole numbers (Stichtenoth, sections 1.4 and 1.6),
-- for an equation f over a field whose laws are L.
use Rattle.std.specs.Prelude.{◌≡◌, ℕ, zero, suc, ◌*◌, pred, List, length, ◌↔◌}
use Rattle.ff_theory.specs.Ring.{Elements}
use Rattle.ff_theory.specs.Lawful.{Lawful}
use Rattle.ff_theory.specs.Values.{poly_of, IsPoly}
use Rattle.ff_charts.specs.Lattice.{InLattice}
use Rattle.ff_local.specs.Module.{IsCarried}
use Rattle.ff_lin.specs.Space.{IsSpaceOf}
use Rattle.ff_elem.specs.Elem.{algebra_in}
use Rattle.ff_data.specs.declared.order.Order.{Order}
use Rattle.ff_data.specs.declared.point.Point.{Point}
use Rattle.ff_data.specs.declared.point.Pole.{Pole}
use Rattle.ff_data.specs.declared.point.RRSpace.{RRSpace}
use Rattle.ff_data.specs.Orders.{chart_of, y_degree, InResidues, InOrder}
use Rattle.ff_data.specs.Points.{HasValueAt, IsPoint}
use Rattle.ff_data.specs.Combinations.{IsBasisOf}

module _ {F : Elements ℕ} (L : Lawful F) (f : List (List ℕ)) where
  -- w times any j elements of the kernel of the point is in the order
  abbrev pub InModule : Order → Point → ℕ → (algebra_in L f).carrier → Type 0
  InModule o p = IsCarried (algebra_in L f) (λ r. HasValueAt L f o p r F.zero) (InOrder L f o)

  -- L_j of a point of the order: these elements, where they are in the order of the other chart too
  pub record HasPoleUpTo (o : Order) (p : Point) (other : Order) (j : ℕ)
      (w : (algebra_in L f).carrier) : Type 0 where
    pub in_module : InModule o p j w
    pub in_other : InOrder L f other w

  -- w is in L_j, and not in L_(j-1)
  pub record HasPoleOf (o : Order) (p : Point) (other : Order) (j : ℕ)
      (w : (algebra_in L f).carrier) : Type 0 where
    pub up_to : HasPoleUpTo o p other j w
    pub not_less : ¬ (j ≡ 0) → ¬ HasPoleUpTo o p other (pred j) w

  -- 0, or a j for which L_j is larger than L_(j-1)
  abbrev pub IsPoleNumber : Order → Point → Order → ℕ → Type 0
  IsPoleNumber o p other zero = Unit {0}
  IsPoleNumber o p other (suc j) = (w : (algebra_in L f).carrier) × HasPoleOf o p other (suc j) w

  -- the data have the form of a pole module
  pub record IsPole (m : Pole) : Type 0 where
    pub d : IsPoly F m.d
    pub modulus : (chart_of L f m.point.chart).IsModulus (poly_of F m.d)
    pub space : IsSpaceOf F (y_degree L f * pred (length m.d)) m.space

  -- the elements of a pole module: d * w has a residue modulo d in the space
  abbrev pub InPole : Pole → (algebra_in L f).carrier → Type 0
  InPole m w = InLattice (chart_of L f m.point.chart) (poly_of F m.d)
      (InResidues F (pred (length m.d)) m.space) w

  -- its elements are exactly those that j elements of the kernel carry into the order
  pub record IsModuleOf (o : Order) (m : Pole) : Type 0 where
    pub form : IsPole m
    pub point : IsPoint L f o m.point
    pub exact : (w : (algebra_in L f).carrier) → InPole m w ↔ InModule o m.point m.j w

  -- the basis is one of L_j
  abbrev pub IsSpaceAt : Order → Point → Order → RRSpace → Type 0
  IsSpaceAt o p other s = IsBasisOf L f (HasPoleUpTo o p other s.j) s.basis
