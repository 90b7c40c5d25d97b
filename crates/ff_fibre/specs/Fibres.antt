-- The data of the algebra O/(u-a)O of an order O, for an equation f over a field whose laws are L.
-- This project's own.
use Rattle.std.specs.Prelude.{◌≡◌, ℕ, ◌+◌, ◌*◌, ◌<◌, ◌≤◌, pred, List, [], length, get_or}
use Rattle.std.specs.List.{All}
use Rattle.std.specs.Global.{Vec}
use Rattle.ff_theory.specs.Ring.{Elements}
use Rattle.ff_theory.specs.Lawful.{Lawful}
use Rattle.ff_theory.specs.Poly.{Poly, polynomials}
use Rattle.ff_theory.specs.Division.{size}
use Rattle.ff_theory.specs.Monomial.{monomial}
use Rattle.ff_theory.specs.Values.{poly_of, IsPoly, plane_of}
use Rattle.ff_theory.specs.Vector.{vectors_of}
use Rattle.ff_charts.specs.Lattice.{HasShape, flat}
use Rattle.ff_lin.specs.Space.{rows_of, AreVectors, IsSpaceOf}
use Rattle.ff_local.specs.ChartOrder.{root_at}
use Rattle.ff_lattice.specs.Residues.{AreResidues}
use Rattle.ff_lattice.specs.Remainder.{IsCongruent}
use Rattle.ff_modulo.specs.Modulo.{IsBasisModulo, IsCombinationModulo, IsSpannedModulo}
use Rattle.ff_characters.specs.Characters.{IsTable, tables_of}
use Rattle.ff_common.specs.Common.{IsTimesSpace}
use Rattle.ff_data.specs.declared.order.Order.{Order}
use Rattle.ff_data.specs.Orders.{chart_of, y_degree}
use Rattle.ff_data.specs.Vectors.{IsPlaneWithin}
use Rattle.ff_data.specs.Numerators.{AreQuotients}
use Rattle.ff_fibre.specs.declared.parts.Fibre.{Fibre}

-- the algebra with another table
abbrev pub with_table : Fibre → Vec (Vec (Vec ℕ)) → Fibre
with_table s table = record {
  modulus = s.modulus;
  space = s.space;
  planes = s.planes;
  rows = s.rows;
  table = table;
}

-- row has the coefficients, l in each row, of the plane of which v has one less in each row
pub record IsWidened (F : Elements ℕ) (n l : ℕ) (v row : ℕ → F.carrier) : Type 0 where
  pub plane : Poly (polynomials F.ring)
  pub shape : HasShape F.ring n (pred l) plane
  pub old : (j : ℕ) → flat F.ring (pred l) plane j ≡ v j
  pub new : (j : ℕ) → row j ≡ flat F.ring l plane j

-- the list has the coefficients, l in each row, of the plane of n rows
pub record AreCoefficientsOf (F : Elements ℕ) (n l : ℕ) (v : ℕ → F.carrier)
    (a : List (List ℕ)) : Type 0 where
  pub shape : HasShape F.ring n l (plane_of F a)
  pub value : (j : ℕ) → flat F.ring l (plane_of F a) j ≡ v j

-- row has the coefficients of the residue of the plane a of n rows modulo m
pub record IsResidueVector (F : Elements ℕ) (n : ℕ) (m : List ℕ) (a : Poly (polynomials F.ring))
    (row : ℕ → F.carrier) : Type 0 where
  pub residue : Poly (polynomials F.ring)
  pub residues : AreResidues F.ring (poly_of F m) a residue
  pub shape : HasShape F.ring n (pred (length m)) residue
  pub value : (j : ℕ) → row j ≡ flat F.ring (pred (length m)) residue j

module _ {F : Elements ℕ} (L : Lawful F) (f : List (List ℕ)) where
  -- a modulus, a space of residues modulo it, and planes with their vectors
  pub record HasBasisForm (s : Fibre) : Type 0 where
    pub modulus : IsPoly F s.modulus
    pub nonzero : 0 < length s.modulus
    pub space : IsSpaceOf F (y_degree L f * pred (length s.modulus)) s.space
    pub planes : All (IsPlaneWithin F (y_degree L f)) s.planes.items
    pub rows : AreVectors F (y_degree L f * pred (length s.modulus)) s.rows.items
    pub count : length s.rows.items ≡ length s.planes.items

  -- and as many matrices with as many rows and columns as planes
  pub record HasFibreForm (s : Fibre) : Type 0 where
    pub basis : HasBasisForm s
    pub table : IsTable F (length s.planes.items) s.table.items

  -- the vectors of d * theta^0 .. d * theta^(n-1)
  abbrev pub ArePowerVectors : Order → List (List ℕ) → Type 0
  ArePowerVectors o vs = (i j : ℕ) → i < y_degree L f → vectors_of F vs i j
      ≡ flat F.ring (length o.d) (monomial (polynomials F.ring) (poly_of F o.d) i) j

  -- and then those of the numerators that the basis of the order's space stands for
  pub record AreSpanning (o : Order) (vs : List (List ℕ)) : Type 0 where
    pub count : length vs ≡ y_degree L f + length o.space.basis
    pub powers : ArePowerVectors o vs
    pub basis : (i : ℕ) → i < length o.space.basis → IsWidened F (y_degree L f) (length o.d)
        (vectors_of F o.space.basis i) (vectors_of F vs (y_degree L f + i))

  -- rows that are a basis of those of numerators of the order modulo the space
  abbrev pub AreBasisRows : Order → Fibre → Type 0
  AreBasisRows o s = (vs : List (List ℕ)) × (AreSpanning o vs
      × IsBasisModulo F s.space vs (rows_of s.rows.items))

  -- the modulus is d*(u-a), the space has the planes of that of the order times u - a, and the
  -- planes are a basis of the numerators of the order modulo it
  pub record IsBasisAt (o : Order) (a : F.carrier) (s : Fibre) : Type 0 where
    pub form : HasBasisForm s
    pub len : length s.modulus ≡ length o.d + 1
    pub modulus : poly_of F s.modulus
        ≡ (polynomials F.ring).mul (root_at F.ring a) (poly_of F o.d)
    pub space : IsTimesSpace L f (root_at F.ring a) (pred (length o.d)) (length o.d) o.space s.space
    pub vectors : (i : ℕ) → i < length s.planes.items → AreCoefficientsOf F (y_degree L f)
        (length o.d) (vectors_of F (rows_of s.rows.items) i) (get_or s.planes.items i [])
    pub basis : AreBasisRows o s

  -- c has the coordinates of the residue of the plane modulo the modulus, where it has any
  pub record AreCoordinatesOf (s : Fibre) (a : Poly (polynomials F.ring)) (c : ℕ → F.carrier)
      : Type 0 where
    pub residue : Poly (polynomials F.ring)
    pub residues : AreResidues F.ring (poly_of F s.modulus) a residue
    pub shape : HasShape F.ring (y_degree L f) (pred (length s.modulus)) residue
    pub value : IsSpannedModulo F s.space (rows_of s.rows.items)
        (flat F.ring (pred (length s.modulus)) residue)
        → IsCombinationModulo F s.space (rows_of s.rows.items) c
        (flat F.ring (pred (length s.modulus)) residue)

  -- q is the quotient by d of the remainder of the product a * b by the equation
  pub record IsProductOver (o : Order) (a b q : Poly (polynomials F.ring)) : Type 0 where
    pub square : Poly (polynomials F.ring)
    pub congruent : IsCongruent (polynomials F.ring) (chart_of L f o.chart).equation
        ((polynomials (polynomials F.ring)).mul a b) square
    pub few : size (polynomials F.ring) square ≤ y_degree L f
    pub quotients : AreQuotients F (poly_of F o.d) square q

  -- c has the coordinates of the product of the elements i and j of the basis, over d
  pub record IsEntryOf (o : Order) (s : Fibre) (i j : ℕ) (c : ℕ → F.carrier) : Type 0 where
    pub quotient : Poly (polynomials F.ring)
    pub product : IsProductOver o (plane_of F (get_or s.planes.items i []))
        (plane_of F (get_or s.planes.items j [])) quotient
    pub coordinates : AreCoordinatesOf s quotient c

  -- the first m rows of matrix i are such coordinates
  abbrev pub AreRowEntries : Order → Fibre → ℕ → List (List ℕ) → ℕ → Type 0
  AreRowEntries o s i matrix m = (j : ℕ) → j < m → IsEntryOf o s i j (vectors_of F matrix j)

  -- all rows of the first m matrices are
  abbrev pub AreEntries : Order → Fibre → List (List (List ℕ)) → ℕ → Type 0
  AreEntries o s table m = (i : ℕ) → i < m
      → AreRowEntries o s i (get_or table i []) (length s.planes.items)

  -- a basis, and the table of its products
  pub record IsFibreAt (o : Order) (a : F.carrier) (s : Fibre) : Type 0 where
    pub basis : IsBasisAt o a s
    pub table : IsTable F (length s.planes.items) s.table.items
    pub products : AreEntries o s (tables_of s.table.items) (length s.planes.items)
