-- Powers, reduction modulo their multiples, and relations, in the ring of the table.
use Rattle.std.specs.Prelude.{◌≡◌, ℕ, ◌-◌, ◌*◌, ◌/◌, ◌%◌, ◌<◌, ◌≤◌, List, [], length}
use Rattle.std.specs.Prelude.{get_or}
use Rattle.std.specs.List.{Contains}
use Rattle.ff_theory.specs.Ring.{Elements, power}
use Rattle.ff_theory.specs.Monomial.{variable}
use Rattle.ff_theory.specs.Poly.{coeff}
use Rattle.ff_theory.specs.Span.{InSpan}
use Rattle.ff_theory.specs.Values.{poly_of, polys_over}
use Rattle.ff_theory.specs.Vector.{vector_of, vectors_of}
use Rattle.ff_lin.specs.Space.{rows_of, SameSpace, IsSolution}
use Rattle.ff_table.specs.Leading.{part}
use Rattle.ff_table.specs.Level.{at_level, z_multiple, basis}
use Rattle.ff_table.specs.Powers.{IsPrimeTo, is_reached, power_sum, IsPowerSum, IsRelation}
use Rattle.ff_table.specs.Reduce.{IsClear}
use Rattle.ff_table.specs.Table.{Weighs}
use Rattle.ff_data.specs.declared.search.Relation.{Relation}
use Rattle.ff_data.specs.declared.system.Coords.{Coords}
use Rattle.ff_data.specs.declared.system.System.{System}
use Rattle.ff_data.specs.Systems.{weight_at}
use Rattle.ff_ring.specs.Entries.{entry_at}
use Rattle.ff_ring.specs.Ring.{MeetsRule, table_in, ring_in, element_in}
use Rattle.ff_relation.specs.declared.annihilator.Rests.{Rests}
use Rattle.ff_relation.specs.declared.bases.Gap.{Gap}
use Rattle.ff_relation.specs.declared.bases.PowerBasis.{PowerBasis}
use Rattle.ff_relation.specs.declared.reduce.Rows.{Rows}

-- entry i of a list of numbers, and 0 past its end
abbrev pub number_at : List ℕ → ℕ → ℕ
number_at list i = get_or list i 0

module _ (F : Elements ℕ) (s : System) where
  -- the coefficient of z^d * b_l of the element with these coordinates
  abbrev pub coefficient_in : List (List ℕ) → ℕ → ℕ → F.carrier
  coefficient_in c l d = part F.ring (table_in F s) l d (element_in F s c)

  -- p(z) * a
  abbrev pub multiple_in : List ℕ → (ring_in F s).carrier → (ring_in F s).carrier
  multiple_in p a = z_multiple F.ring (table_in F s) (poly_of F p) a

  -- the coefficients of a at the gaps
  abbrev pub AreAtGaps : List Gap → (ring_in F s).carrier → List ℕ → Type 0
  AreAtGaps gaps a v = (j : ℕ) (g : Gap) → j < length gaps → vector_of F v j
      ≡ part F.ring (table_in F s) (get_or gaps j g).class (get_or gaps j g).degree a

  -- z^i * a, and the difference of two elements
  abbrev pub raised_in : ℕ → (ring_in F s).carrier → (ring_in F s).carrier
  raised_in i a = z_multiple F.ring (table_in F s) (power (polys_over F) (variable F.ring) i) a

  abbrev pub difference_in : (ring_in F s).carrier → (ring_in F s).carrier → (ring_in F s).carrier
  difference_in a c = (ring_in F s).add a ((ring_in F s).neg c)

  -- the basis element with an index
  abbrev pub basis_in : ℕ → (ring_in F s).carrier
  basis_in i = basis F.ring (table_in F s) i

  -- c_0(z) + c_1(z) * w + .. + c_(e-1)(z) * w^(e-1)
  abbrev pub sum_in : (ring_in F s).carrier → List (List ℕ) → (ring_in F s).carrier
  sum_in w c = power_sum F.ring (table_in F s) w (length s.weights) (entry_at F c)

  -- the coordinates of the powers of w, as many as the list has
  abbrev pub ArePowersOf : (ring_in F s).carrier → List (List (List ℕ)) → Type 0
  ArePowersOf w list = (j : ℕ) → j < length list
      → element_in F s (get_or list j []) ≡ power (ring_in F s) w j

  -- the inverses of the leading coefficients of the powers of w, which has the weight W
  abbrev pub AreInverses : (ring_in F s).carrier → ℕ → List ℕ → Type 0
  AreInverses w W list = (j : ℕ) → j < length list → F.value (number_at list j)
      ≡ F.inverse (at_level F.ring (table_in F s) (j * W) (power (ring_in F s) w j))

  -- q(z) * b_i is c_0(z) + c_1(z) * w + .. for the coordinates c over q
  abbrev pub IsWritten : (ring_in F s).carrier → ℕ → Coords → Type 0
  IsWritten w i c = multiple_in c.q (basis_in i) ≡ sum_in w c.c

  -- each basis element is written over the powers of w, by the coordinates with its index
  abbrev pub AreWritten : (ring_in F s).carrier → List Coords → Type 0
  AreWritten w list = (i : ℕ) (c : Coords) → i < length list → IsWritten w i (get_or list i c)

  abbrev pub WritesBasis : Relation → Type 0
  WritesBasis r = AreWritten (element_in F s r.w) r.back

  -- w^e + r_(e-1)(z) * w^(e-1) + .. + r_0(z) is 0, and there is no such relation of lower degree
  abbrev pub IsRelationOf : Relation → Type 0
  IsRelationOf r = IsRelation F.ring (table_in F s) (element_in F s r.w) (entry_at F r.coeffs)

-- the polynomial with the negatives of these coefficients, and 1 after them
pub record IsMonicLess (F : Elements ℕ) (c q : List ℕ) : Type 0 where
  pub low : (i : ℕ) → i < length c
      → coeff F.ring (poly_of F q).coeffs i ≡ F.neg (vector_of F c i)
  pub one : coeff F.ring (poly_of F q).coeffs (length c) ≡ F.one
  pub past : (i : ℕ) → length c < i → coeff F.ring (poly_of F q).coeffs i ≡ F.zero

-- the vector is the combination of the rows with the negatives of the lower coefficients of a monic
-- polynomial
pub record IsOfCombination (F : Elements ℕ) (rows : List (List ℕ)) (v q : List ℕ) : Type 0 where
  pub coefficients : List ℕ
  pub count : length coefficients ≡ length rows
  pub solution : IsSolution F rows v (vector_of F coefficients)
  pub monic : IsMonicLess F coefficients q

-- the exponents j with j * W in each class modulo e
abbrev pub AreExponents : ℕ → ℕ → List ℕ → Type 0
AreExponents e W list = (l : ℕ) → l < e → (number_at list l * W) % e ≡ l

-- the numbers of levels of each class that are less than the multiples of W in it
abbrev pub AreLimits : System → ℕ → List ℕ → List ℕ → Type 0
AreLimits s W exponents list = (l : ℕ) → l < s.e
    → number_at list l ≡ (number_at exponents l * W - weight_at s l) / s.e

-- the pairs of a class and the numbers below a limit, and those of each class
abbrev pub HasGaps : ℕ → ℕ → List Gap → Type 0
HasGaps class limit gaps = (d : ℕ) → d < limit
    → Contains gaps (record { class = class; degree = d })

abbrev pub HaveGaps : List ℕ → List Gap → Type 0
HaveGaps limits gaps = (l : ℕ) → l < length limits → HasGaps l (number_at limits l) gaps

module _ (F : Elements ℕ) (s : System) (w : (ring_in F s).carrier) where
  -- the powers of w, whose weight is prime to e, and what reduction modulo their multiples needs
  pub record PowersOf (p : PowerBasis) : Type 0 where
    pub rule : MeetsRule F s
    pub weight : ℕ
    pub weighs : Weighs F.ring (table_in F s) w weight
    pub prime : IsPrimeTo (length s.weights) weight
    pub powers : ArePowersOf F s w p.list.items
    pub exponents : AreExponents s.e weight p.exponents.items
    pub limits : AreLimits s weight p.exponents.items p.limits.items
    pub inverses : AreInverses F s w weight p.inverses.items
    pub gaps : HaveGaps p.limits.items p.gaps.items

module _ (F : Elements ℕ) (s : System) {w : (ring_in F s).carrier} {p : PowerBasis}
    (b : PowersOf F s w p) where
  -- a is zero at the levels from t on that multiples of powers have
  abbrev pub IsClearFrom : ℕ → (ring_in F s).carrier → Type 0
  IsClearFrom t a = IsClear F.ring (table_in F s) (is_reached b.prime) t a

  -- a is a sum of multiples of powers and a rest, which is zero at their levels from t on
  pub record IsSplit (a : (ring_in F s).carrier) (t : ℕ) (quotient rest : List (List ℕ))
      : Type 0 where
    pub sum : a ≡ (ring_in F s).add (sum_in F s w quotient) (element_in F s rest)
    pub clear : IsClearFrom t (element_in F s rest)

  abbrev pub IsSplitBy : (ring_in F s).carrier → ℕ → Rows → Type 0
  IsSplitBy a t r = IsSplit a t (rows_of r.quotient.items) (rows_of r.rest.items)

  -- what was split at the levels from n on is split at those from t on
  abbrev pub SplitsDown : ℕ → ℕ → Rows → Rows → Type 0
  SplitsDown n t old new = (a : (ring_in F s).carrier) → IsSplitBy a n old → IsSplitBy a t new

  -- a sum of multiples of the powers
  abbrev pub IsSumOf : (ring_in F s).carrier → Type 0
  IsSumOf a = IsPowerSum F.ring (table_in F s) w a

  -- The rests E i of the z^i * a: none of the vectors of their coefficients at the gaps before the
  -- last one is a combination of those before it.
  pub record AreRestsOf (a : (ring_in F s).carrier) (r : Rests) : Type 0 where
    pub element : ℕ → (ring_in F s).carrier
    pub congruent : (i : ℕ) → i ≤ length r.before.items
        → IsSumOf (difference_in F s (raised_in F s i a) (element i))
    pub clear : (i : ℕ) → i ≤ length r.before.items → IsClearFrom 0 (element i)
    pub before : (i : ℕ) → i < length r.before.items
        → AreAtGaps F s p.gaps.items (element i) (get_or (rows_of r.before.items) i [])
    pub last : AreAtGaps F s p.gaps.items (element (length r.before.items)) r.last.items
    pub rest : element (length r.before.items) ≡ element_in F s r.rest
    pub span : SameSpace F r.span.basis (rows_of r.before.items)
    pub alone : (i : ℕ) → i < length r.before.items
        → ¬ (InSpan F.ring i (vectors_of F (rows_of r.before.items))
        (vectors_of F (rows_of r.before.items) i))
