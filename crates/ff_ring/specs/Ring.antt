-- The ring of the table of a system: coordinates over k[z], and their products.
use Rattle.std.specs.Prelude.{◌≡◌, ℕ, ◌+◌, ◌^◌, ◌<◌, List, [], length, get_or, map}
use Rattle.std.specs.List.{All}
use Rattle.ff_theory.specs.Ring.{RingOps, Elements, IsElement, power}
use Rattle.ff_theory.specs.Poly.{Poly}
use Rattle.ff_theory.specs.Monomial.{variable}
use Rattle.ff_theory.specs.Sum.{sum_below}
use Rattle.ff_theory.specs.Values.{poly_of, polys_over}
use Rattle.ff_table.specs.Coords.{product_at as table_product}
use Rattle.ff_table.specs.Table.{Table, IsTable, table_ring}
use Rattle.ff_table.specs.Level.{z_multiple, scaled, basis}
use Rattle.ff_table.specs.InCode.{coords_of, table_of}
use Rattle.ff_data.specs.declared.system.System.{System}
use Rattle.ff_data.specs.Systems.{AreCoords, product_at}
use Rattle.ff_ring.specs.declared.level.Monomial.{Monomial}
use Rattle.ff_ring.specs.Entries.{entry_at}

-- the weights and the table of a system have their forms, and each list has e entries
pub record HasTable (F : Elements ℕ) (s : System) : Type 0 where
  pub positive : 0 < s.e
  pub weights : length s.weights ≡ s.e
  pub rows : length s.table ≡ s.e
  pub row : All (λ r. length r ≡ s.e) s.table
  pub table : All (All (AreCoords F s)) s.table

-- coordinate l of the product of y and the basis element with these products
abbrev pub basis_product : (F : Elements ℕ) → List (List (List ℕ)) → List (List ℕ) → ℕ → Poly F.ring
basis_product F products y l = sum_below (polys_over F) (length y)
    (λ j. (polys_over F).mul (entry_at F y j) (entry_at F (get_or products j []) l))

-- coordinate l of the product of the basis elements i and j
abbrev pub table_entry : (F : Elements ℕ) → System → ℕ → ℕ → ℕ → Poly F.ring
table_entry F s i j l = entry_at F (product_at s i j) l

-- coordinate l of h + b_i * y, and of h + p * b_i * b
abbrev pub plus_basis_product_at : (F : Elements ℕ) → System → List (List ℕ) → ℕ → List (List ℕ)
    → ℕ → Poly F.ring
plus_basis_product_at F s h i y l = (polys_over F).add (entry_at F h l)
    (sum_below (polys_over F) s.e
    (λ j. (polys_over F).mul (entry_at F y j) (table_entry F s i j l)))

abbrev pub plus_product_at : (F : Elements ℕ) → System → List (List ℕ) → ℕ → Poly F.ring
    → List (List ℕ) → ℕ → Poly F.ring
plus_product_at F s h i p b l = (polys_over F).add (entry_at F h l)
    (sum_below (polys_over F) s.e (λ j. (polys_over F).mul p
    ((polys_over F).mul (entry_at F b j) (table_entry F s i j l))))

-- coordinate l of a * b
abbrev pub product : (F : Elements ℕ) → System → List (List ℕ) → List (List ℕ) → ℕ → Poly F.ring
product F s a b = table_product (polys_over F) s.e (table_entry F s) (entry_at F a) (entry_at F b)

-- the table of a system, its ring, and the element of the ring with given coordinates
abbrev pub table_in : (F : Elements ℕ) → System → Table F.ring
table_in F s = table_of F.ring (λ p. poly_of F p) s.weights s.table

-- the table rule
abbrev pub MeetsRule : Elements ℕ → System → Type 0
MeetsRule F s = IsTable F.ring (table_in F s)

abbrev pub ring_in : Elements ℕ → System → RingOps
ring_in F s = table_ring F.ring (table_in F s)

abbrev pub element_in : (F : Elements ℕ) (s : System) → List (List ℕ) → (ring_in F s).carrier
element_in F s c = coords_of (polys_over F) (λ p. poly_of F p) (length s.weights) c

abbrev pub elements_in : (F : Elements ℕ) (s : System) → List (List (List ℕ))
    → List (ring_in F s).carrier
elements_in F s p = map (λ c. element_in F s c) p

-- the element c * z ^ n * b_l of a monomial
abbrev pub monomial_in : (F : Elements ℕ) (s : System) → Monomial → (ring_in F s).carrier
monomial_in F s a = scaled F.ring (table_in F s) (F.value a.c)
    (z_multiple F.ring (table_in F s) (power (polys_over F) (variable F.ring) a.power)
    (basis F.ring (table_in F s) a.class))

-- n coordinates of elements
pub record AreCoordsList (F : Elements ℕ) (s : System) (n : ℕ) (p : List (List (List ℕ)))
    : Type 0 where
  pub each : All (AreCoords F s) p
  pub count : length p ≡ n

-- the parts of a monomial are within their bounds
pub record IsMonomial (F : Elements ℕ) (s : System) (a : Monomial) : Type 0 where
  pub c : IsElement F a.c
  pub class : a.class < s.e
  pub room : a.power + 1 < 2 ^ 64
