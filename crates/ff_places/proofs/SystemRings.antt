-- The ring of the table of a pole system as a part of E(f): its elements are those of the spaces,
-- by their coordinates.
use Rattle.std.proofs.Common.{◌≡◌, ℕ, suc, ◌*◌, ◌<◌, List, [], length, get_or, All, sym, ◌∙◌, ap}
use Rattle.std.proofs.Common.{arith}
use Rattle.std.proofs.lemmas.List.Elements.{All-get_or}
use Rattle.ff_theory.specs.Ring.{RingOps, IsCommRing, Elements}
use Rattle.ff_theory.specs.Lawful.{Domain, Field, Lawful, lawful_field}
use Rattle.ff_theory.specs.Map.{IsMap}
use Rattle.ff_theory.specs.Sum.{sum_below}
use Rattle.ff_theory.specs.Algebra.{constant}
use Rattle.ff_theory.specs.Poly.{Poly, polynomials, coeff}
use Rattle.ff_theory.specs.Values.{poly_of, plane_of, IsPlane}
use Rattle.ff_theory.proofs.Sums.{sum-ext}
use Rattle.ff_theory.proofs.PolyMap.{polynomial_domain}
use Rattle.ff_table.specs.Coords.{Coords, coords, at}
use Rattle.ff_table.specs.Table.{Table, IsTable, table_ring, WeighsBelow}
use Rattle.ff_table.specs.InCode.{table_of}
use Rattle.ff_table.proofs.FreeBasis.{element-map, element-one, in_ring-single}
use Rattle.ff_table.proofs.Coords.{coords-at}
use Rattle.ff_table.proofs.Embedding.{embed}
use Rattle.ff_table.proofs.Laws.{one_at}
use Rattle.ff_table.proofs.Scalars.{multiple-at}
use Rattle.ff_table.proofs.PoleOrders.{at_z-map}
use Rattle.ff_elem.specs.Elem.{algebra_in, elem_of}
use Rattle.ff_data.specs.declared.order.Order.{Order}
use Rattle.ff_data.specs.declared.point.Point.{Point}
use Rattle.ff_data.specs.declared.system.System.{System}
use Rattle.ff_data.specs.Poles.{HasPoleUpTo}
use Rattle.ff_data.specs.Substitution.{poly_at}
use Rattle.ff_data.specs.Combinations.{elems_of}
use Rattle.ff_data.specs.Systems.{product_at, AreCoords, IsSystem}
use Rattle.ff_data.proofs.ChartLaws.{algebra_laws}
use Rattle.ff_systems.specs.Places.{IsPlace, HasLeastFunctions, HasLightCoords, coords_value}
use Rattle.ff_systems.proofs.Spaces.{spaces}
use Rattle.ff_systems.proofs.TableRule.{positive, z_order, independent, list_value, light_coords}
use Rattle.ff_systems.proofs.TableRule.{light_inside}
use Rattle.ff_places.proofs.SystemSpaces.{least_functions}

module _ (F : Elements ℕ) (L : Lawful F) (f : List (List ℕ)) (hf : IsPlane F f)
    (two : 1 < length f) (o : Order) (p : Point) (other : Order) (place : IsPlace L f o p other)
    (J : ℕ) (s : System) (y : IsSystem L f o p other J s) where
  abbrev K : Field
  K = lawful_field L

  abbrev A : RingOps
  A = algebra_in L f

  abbrev AL : IsCommRing (algebra_in L f)
  AL = algebra_laws F L f hf two

  abbrev P : Domain
  P = polynomial_domain K

  abbrev pub table : Table F.ring
  table = table_of F.ring (λ q. poly_of F q) s.weights s.table

  abbrev h : HasLeastFunctions L f o p other s
  h = least_functions L f o p other J s y

  abbrev count : length s.weights ≡ s.e
  count = y.form.weights

  abbrev at_z : Poly F.ring → (algebra_in L f).carrier
  at_z q = poly_at K (plane_of F f) (elem_of L f s.z) q

  z_map : IsMap (polynomials F.ring) (algebra_in L f) at_z
  z_map = at_z-map K A AL (constant K (plane_of F f)) (HasPoleUpTo L f o p other)
      (spaces F L f hf two o p other place) (length s.weights)
      (positive F L f hf two o p other place s h count) (elem_of L f s.z)
      (z_order F L f hf two o p other place s h count)

  some : 0 < length s.weights
  some = positive F L f hf two o p other place s h count

  abbrev b : ℕ → (algebra_in L f).carrier
  b i = elems_of L f s.b i

  -- the element with given coordinates
  abbrev value : (ℕ → Poly F.ring) → (algebra_in L f).carrier
  value c = sum_below (algebra_in L f) (length s.weights) (λ l. (algebra_in L f).mul (at_z (c l))
      (b l))

  abbrev pub elem : Coords (polynomials F.ring) (length s.weights) → (algebra_in L f).carrier
  elem x = sum_below (algebra_in L f) (length s.weights) (λ l. (algebra_in L f).mul
      (poly_at (lawful_field L) (plane_of F f) (elem_of L f s.z)
      (at (polynomials F.ring) (length s.weights) x l)) (elems_of L f s.b l))

  -- the products of the table have e entries
  long : (i k : ℕ) → i < s.e → k < s.e → length (product_at s i k) ≡ s.e
  long i k l n = (All-get_or (AreCoords F s) (get_or s.table i []) k []
      (let r : length (get_or s.table i []) ≡ s.e = All-get_or (λ r. length r ≡ s.e) s.table i []
      (omega (arith, l, y.form.rows)) y.form.row in omega (arith, n, r))
      (All-get_or (All (AreCoords F s)) s.table i [] (omega (arith, l, y.form.rows))
      y.form.table)).count

  products : (i k : ℕ) → i < length s.weights → k < length s.weights
      → value (table.product i k) ≡ A.mul (b i) (b k)
  products i k l n = sym (list_value F L f hf two o p other place s h count (product_at s i k)
      (long i k (omega (arith, l, count)) (omega (arith, n, count))))
      ∙ y.product i k (omega (arith, l, count)) (omega (arith, n, count))

  -- it is a map of rings, and one to one
  pub elem_map : IsMap (table_ring F.ring table) (algebra_in L f) elem
  elem_map = element-map K A AL at_z z_map (length s.weights) some b table.product y.basis.first
      products

  pub elem_one : (x w : Coords (polynomials F.ring) (length s.weights)) → elem x ≡ elem w → x ≡ w
  elem_one = element-one K A AL at_z z_map (length s.weights) some b table.product y.basis.first
      products (independent F L f hf two o p other place s h count)

  -- polynomials in z
  pub elem_embed : (rule : IsTable F.ring table) (q : Poly F.ring)
      → elem (embed (lawful_field L) table rule q)
      ≡ poly_at (lawful_field L) (plane_of F f) (elem_of L f s.z) q
  elem_embed rule q = sum-ext A AL (length s.weights) _ _ (λ l r. ap (λ t. A.mul (at_z t) (b l))
      (multiple-at K table q (table_ring F.ring table).one l r
      ∙ ap (P.mul q) (one_at P.ring P.laws (length s.weights) table.product l r)))
      ∙ in_ring-single K A AL at_z z_map (length s.weights) some b table.product 0 some q
      ∙ ap (A.mul (at_z q)) y.basis.first ∙ AL.mul_one (at_z q)

  -- the elements of L_j are those with coordinates of weight at most j
  pub elem_within : (j : ℕ) (x : Coords (polynomials F.ring) (length s.weights))
      → WeighsBelow F.ring table (suc j) x → HasPoleUpTo L f o p other j (elem x)
  elem_within j x m = light_inside F L f hf two o p other place s h count
      (at (polynomials F.ring) (length s.weights) x) j m

  pub coords_for : (j : ℕ) (a : (algebra_in L f).carrier) → HasPoleUpTo L f o p other j a
      → (x : Coords (polynomials F.ring) (length s.weights)) × ((elem x ≡ a)
      × WeighsBelow F.ring table (suc j) x)
  coords_for j a m = (
    x,
    (
      sum-ext A AL (length s.weights) _ _ (λ l r. ap (λ t. A.mul (at_z t) (b l))
          (coords-at P.ring (length s.weights) c.coords l r)) ∙ same ∙ sym c.value,
      light,
    ),
  )
    where
      c : HasLightCoords L f s j a
      c = light_coords F L f hf two o p other place s h count j a m

      x : Coords (polynomials F.ring) (length s.weights)
      x = coords (polynomials F.ring) (length s.weights) c.coords

      same : value c.coords ≡ coords_value L f s c.coords
      same = ap (λ n. sum_below A n (λ l. A.mul (at_z (c.coords l)) (b l))) count

      light : WeighsBelow F.ring table (suc j) x
      light l r d k = ap (λ (t : Poly F.ring). coeff F.ring t.coeffs d)
          (coords-at P.ring (length s.weights) c.coords l r)
          ∙ c.light l (omega (arith, r, count)) d
          (let q : length s.weights * d ≡ s.e * d = ap (λ n. n * d) count in omega (arith, k, q))
