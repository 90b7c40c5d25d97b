-- Lattices of the two charts, and what they have in common, for an equation f over a field whose
-- laws are L. This project's own.
use Rattle.std.specs.Prelude.{ℕ, ◌*◌, pred, List, length}
use Rattle.ff_theory.specs.Ring.{Elements}
use Rattle.ff_theory.specs.Lawful.{Lawful}
use Rattle.ff_theory.specs.Values.{poly_of, IsPoly}
use Rattle.ff_charts.specs.Lattice.{InLattice}
use Rattle.ff_lin.specs.Space.{SpaceParts, IsSpaceOf}
use Rattle.ff_elem.specs.Elem.{algebra_in}
use Rattle.ff_data.specs.declared.order.Chart.{Chart}
use Rattle.ff_data.specs.declared.order.Chart.TheVariants.{Finite, Infinite}
use Rattle.ff_data.specs.declared.order.Order.{Order}
use Rattle.ff_data.specs.Orders.{chart_of, y_degree, InResidues, InOrder}

module _ {F : Elements ℕ} (L : Lawful F) (f : List (List ℕ)) where
  -- w is in both orders
  pub record IsCommon (finite infinite : Order) (w : (algebra_in L f).carrier) : Type 0 where
    pub in_finite : InOrder L f finite w
    pub in_infinite : InOrder L f infinite w

  -- a modulus of the chart, and a space of residues modulo it
  pub record IsLattice (chart : Chart) (d : List ℕ) (s : SpaceParts) : Type 0 where
    pub poly : IsPoly F d
    pub modulus : (chart_of L f chart).IsModulus (poly_of F d)
    pub space : IsSpaceOf F (y_degree L f * pred (length d)) s

  -- d * w has a residue modulo d in the space
  abbrev pub InLatticeOf : Chart → List ℕ → SpaceParts → (algebra_in L f).carrier → Type 0
  InLatticeOf chart d s w = InLattice (chart_of L f chart) (poly_of F d)
      (InResidues F (pred (length d)) s) w

  -- w is in a lattice of the finite chart and in one of the infinite chart
  pub record InBoth (d : List ℕ) (s : SpaceParts) (t : List ℕ) (o : SpaceParts)
      (w : (algebra_in L f).carrier) : Type 0 where
    pub in_finite : InLatticeOf Finite d s w
    pub in_infinite : InLatticeOf Infinite t o w
