-- Elements over one denominator.
use Rattle.std.specs.Prelude.{◌≡◌, ℕ, ◌+◌, ◌<◌, List, [], length, slice_index_or as get_or}
use Rattle.ff_theory.specs.Ring.{Elements, power}
use Rattle.ff_theory.specs.Lawful.{Lawful, lawful_field}
use Rattle.ff_theory.specs.Sum.{sum_below}
use Rattle.ff_theory.specs.Poly.{Poly, coeff, polynomials}
use Rattle.ff_theory.specs.Planes.{row_of}
use Rattle.ff_theory.specs.Algebra.{constant}
use Rattle.ff_theory.specs.Values.{poly_of, IsPoly, plane_of}
use Rattle.ff_elem.specs.Elem.{algebra_in, elem_of, poly_in, plane_in, IsElem}
use Rattle.ff_subst.specs.declared.cleared.Cleared.{Cleared}
use Rattle.ff_subst.specs.declared.blocks.PowerList.{PowerList}
use Rattle.ff_subst.specs.Congruence.{ArePlanes}
use Rattle.ff_subst.specs.Columns.{plane_combination, constant_after}

module _ (K : Elements ℕ) where
  -- c and d are not 0, and c * a = d * b
  pub record IsCommonMultiple (a b c d : List ℕ) : Type 0 where
    pub left : IsPoly K c
    pub some_left : 0 < length c
    pub right : IsPoly K d
    pub some_right : 0 < length d
    pub equal : (polynomials K.ring).mul (poly_of K c) (poly_of K a)
        ≡ (polynomials K.ring).mul (poly_of K d) (poly_of K b)

  -- N is M times the polynomial c in x
  abbrev pub IsMultipleBy : (c : List ℕ) (M N : List (List ℕ)) → Type 0
  IsMultipleBy c M N = plane_of K N
      ≡ (polynomials (polynomials K.ring)).mul (row_of K.ring (poly_of K c)) (plane_of K M)

  -- entry j of a list is that of another one times c
  abbrev pub AreMultiplesBy : (c : List ℕ) (planes new : List (List (List ℕ))) → Type 0
  AreMultiplesBy c planes new = (j : ℕ) → j < length planes
      → IsMultipleBy c (get_or planes j []) (get_or new j [])

  -- the entries of a list times c, and after them these rows times d
  pub record IsAppendedBy (c : List ℕ) (planes : List (List (List ℕ))) (d : List ℕ)
      (rows : List (List ℕ)) (new : List (List (List ℕ))) : Type 0 where
    pub before : AreMultiplesBy c planes new
    pub end : IsMultipleBy d rows (get_or new (length planes) [])

  -- the like over a denominator
  pub record IsAppendedOver (den c : List ℕ) (planes : List (List (List ℕ))) (d : List ℕ)
      (rows : List (List ℕ)) (new : Cleared) : Type 0 where
    pub over : new.den ≡ den
    pub count : length new.planes ≡ length planes + 1
    pub each : ArePlanes K new.planes
    pub appended : IsAppendedBy c planes d rows new.planes

  -- the coefficients of x^i, x^(i + 1) and so on times the entries, added
  abbrev pub block_of : (p : List ℕ) → ℕ → List (List (List ℕ)) → Poly (polynomials K.ring)
  block_of p i planes = plane_combination K.ring (length planes) (λ j. constant_after K p i j)
      (λ j. plane_of K (get_or planes j []))

  -- N is c times such a sum, and d times these rows
  abbrev pub IsMixture : (c p : List ℕ) → ℕ → List (List (List ℕ)) → (d : List ℕ)
      → (rows N : List (List ℕ)) → Type 0
  IsMixture c p i planes d rows N = plane_of K N ≡ (polynomials (polynomials K.ring)).add
      ((polynomials (polynomials K.ring)).mul (row_of K.ring (poly_of K c)) (block_of p i planes))
      ((polynomials (polynomials K.ring)).mul (row_of K.ring (poly_of K d)) (plane_of K rows))

  -- a denominator that is not 0, and polynomials in x and y
  pub record IsCleared (r : Cleared) : Type 0 where
    pub den : IsPoly K r.den
    pub nonzero : 0 < length r.den
    pub planes : ArePlanes K r.planes

module _ {K : Elements ℕ} (L : Lawful K) (g : List (List ℕ)) where
  -- entry j is u j times the denominator
  abbrev pub AreCleared : (ℕ → (algebra_in L g).carrier) → Cleared → Type 0
  AreCleared u r = (j : ℕ) → j < length r.planes
      → (algebra_in L g).mul (poly_in L g r.den) (u j) ≡ plane_in L g (get_or r.planes j [])

  -- the coefficient of x^i as an element
  abbrev pub coefficient_in : List ℕ → ℕ → (algebra_in L g).carrier
  coefficient_in p i = constant (lawful_field L) (plane_of K g)
      (coeff K.ring (poly_of K p).coeffs i)

  -- the coefficients of x^i, .., x^(i + n - 1) times u 0, .., u (n - 1), added
  abbrev pub linear_sum : List ℕ → ℕ → (ℕ → (algebra_in L g).carrier) → ℕ
      → (algebra_in L g).carrier
  linear_sum p i u n = sum_below (algebra_in L g) n
      (λ j. (algebra_in L g).mul (coefficient_in p (i + j)) (u j))

  -- the coefficients of x^i, .., x^(i + n - 1) times 1, .., X^(n - 1), added, and X^n * u
  abbrev pub block_step : List ℕ → ℕ → ℕ → (X u : (algebra_in L g).carrier)
      → (algebra_in L g).carrier
  block_step p i n X u = (algebra_in L g).add (linear_sum p i (power (algebra_in L g) X) n)
      ((algebra_in L g).mul (power (algebra_in L g) X n) u)

  -- powers from 0 on, and an element after them
  pub record IsPowerList (r : PowerList) : Type 0 where
    pub cleared : IsCleared K r.list
    pub some : 0 < length r.list.planes
    pub next : IsElem L g r.next

  -- the powers of X
  pub record ArePowers (X : (algebra_in L g).carrier) (r : PowerList) : Type 0 where
    pub list : IsPowerList r
    pub powers : AreCleared (power (algebra_in L g) X) r.list
    pub next : elem_of L g r.next ≡ power (algebra_in L g) X (length r.list.planes)
