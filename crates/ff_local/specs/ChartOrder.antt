-- Orders of a chart, as residue lattices that are closed under products, and their points.
use Rattle.std.specs.Prelude.{◌≡◌, ℕ, ◌<◌, ◌⊎◌, pred, [], ◌∷◌}
use Rattle.ff_theory.specs.Ring.{RingOps}
use Rattle.ff_theory.specs.Sum.{sum_below}
use Rattle.ff_theory.specs.Poly.{Poly, poly, polynomials}
use Rattle.ff_theory.specs.Division.{size}
use Rattle.ff_charts.specs.Chart.{Chart}
use Rattle.ff_charts.specs.Lattice.{HasShape, IsSubspace, InLattice, IsClosed}

-- c 0 * N 0 + c 1 * N 1 + .. , r planes, with c in k
abbrev pub plane_sum : (k : RingOps) → ℕ → (ℕ → k.carrier) → (ℕ → Poly (polynomials k))
    → Poly (polynomials k)
plane_sum k r c N = sum_below (polynomials (polynomials k)) r (λ i.
    (polynomials (polynomials k)).mul (poly (polynomials k) (poly k (c i ∷ []) ∷ [])) (N i))

-- a space of planes of a shape, with a finite basis
pub record PlaneSpace (k : RingOps) (n l : ℕ) : Type 1 where
  pub In : Poly (polynomials k) → Type 0
  pub linear : IsSubspace k In
  pub decide : (N : Poly (polynomials k)) → HasShape k n l N → In N ⊎ ¬ (In N)
  pub count : ℕ
  pub basis : ℕ → Poly (polynomials k)
  pub shape : (i : ℕ) → i < count → HasShape k n l (basis i)
  pub is_in : (i : ℕ) → i < count → In (basis i)
  pub spans : (N : Poly (polynomials k)) → HasShape k n l N → In N
      → (e : ℕ → k.carrier) × (N ≡ plane_sum k count e basis)

-- u - a, as a polynomial in u
abbrev pub root_at : (k : RingOps) → k.carrier → Poly k
root_at k a = poly k (k.neg a ∷ k.one ∷ [])

module _ {k A : RingOps} (c : Chart k A) where
  -- a modulus, and a space of residues whose lattice is closed under products
  pub record ChartOrder : Type 1 where
    pub modulus : Poly k
    pub is_modulus : c.IsModulus modulus
    pub space : PlaneSpace k c.degree (pred (size k modulus))
    pub closed : IsClosed c modulus space.In

  -- the elements of the order
  abbrev pub InChartOrder : ChartOrder → A.carrier → Type 0
  InChartOrder o w = InLattice c o.modulus o.space.In w

  -- a point: each element of the order has one value, sums, products and constants keep theirs, u
  -- has the value a, and u - a is a modulus
  pub record ChartPoint (o : ChartOrder) : Type 1 where
    pub HasValue : A.carrier → k.carrier → Type 0
    pub inside : (w : A.carrier) (s : k.carrier) → HasValue w s → InChartOrder o w
    pub total : (w : A.carrier) → InChartOrder o w → (s : k.carrier) × HasValue w s
    pub single : (w : A.carrier) (s t : k.carrier) → HasValue w s → HasValue w t → s ≡ t
    pub on_constant : (s : k.carrier) → HasValue (c.constant s) s
    pub on_add : (v w : A.carrier) (s t : k.carrier) → HasValue v s → HasValue w t
        → HasValue (A.add v w) (k.add s t)
    pub on_mul : (v w : A.carrier) (s t : k.carrier) → HasValue v s → HasValue w t
        → HasValue (A.mul v w) (k.mul s t)
    pub a : k.carrier
    pub on_u : HasValue c.u a
    pub is_modulus : c.IsModulus (root_at k a)
