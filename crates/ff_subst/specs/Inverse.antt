-- Parts of the statement that two pairs are inverse.
use Rattle.std.specs.Prelude.{◌≡◌, ◌≤◌, ℕ, List, length}
use Rattle.ff_theory.specs.Ring.{Elements}
use Rattle.ff_theory.specs.Lawful.{Lawful, lawful_field}
use Rattle.ff_theory.specs.Values.{poly_of, IsPoly, plane_of}
use Rattle.ff_elem.specs.declared.elem.Elem.{Elem}
use Rattle.ff_elem.specs.Elem.{algebra_in, elem_of}
use Rattle.ff_data.specs.declared.pair.Pair.{Pair}
use Rattle.ff_data.specs.Pairs.{Satisfies, Undoes}
use Rattle.ff_data.specs.Substitution.{poly_at, plane_at_pair}
use Rattle.ff_theory.specs.Values.{ArePolys}

-- the parts of an element are polynomials
pub record ArePartsPolys (K : Elements ℕ) (e : Elem) : Type 0 where
  pub den : IsPoly K e.den
  pub num : ArePolys K e.num

pub record ArePairPolys (K : Elements ℕ) (p : Pair) : Type 0 where
  pub x : ArePartsPolys K p.x
  pub y : ArePartsPolys K p.y

-- with at most n numerators, for n from 1 on
pub record IsSmallPart (K : Elements ℕ) (n : ℕ) (e : Elem) : Type 0 where
  pub parts : ArePartsPolys K e
  pub count : length e.num ≤ n
  pub some : 1 ≤ n

pub record IsSmallPair (K : Elements ℕ) (n : ℕ) (p : Pair) : Type 0 where
  pub x : IsSmallPart K n p.x
  pub y : IsSmallPart K n p.y

module _ {K : Elements ℕ} (L : Lawful K) where
  -- the product with some element of E(g) is 1
  pub record HasInverse (g : List (List ℕ)) (a : (algebra_in L g).carrier) : Type 0 where
    pub inverse : (algebra_in L g).carrier
    pub inverts : (algebra_in L g).mul inverse a ≡ (algebra_in L g).one

  -- a polynomial in x at X
  abbrev pub polynomial_at : (g : List (List ℕ)) → (algebra_in L g).carrier → List ℕ
      → (algebra_in L g).carrier
  polynomial_at g X p = poly_at (lawful_field L) (plane_of K g) X (poly_of K p)

  -- the numerator of s at X and Y is v times its denominator at X
  abbrev pub IsQuotientAt : (g : List (List ℕ)) → Elem → (X Y v : (algebra_in L g).carrier) → Type 0
  IsQuotientAt g s X Y v = (algebra_in L g).mul v (polynomial_at g X s.den)
      ≡ plane_at_pair (lawful_field L) (plane_of K g) X Y (plane_of K s.num)

  -- the numerator of s at the pair
  abbrev pub numerator_at : (g : List (List ℕ)) → Elem → Pair → (algebra_in L g).carrier
  numerator_at g s pair = plane_at_pair (lawful_field L) (plane_of K g) (elem_of L g pair.x)
      (elem_of L g pair.y) (plane_of K s.num)

  -- the numerator of s at the pair is v times d
  abbrev pub IsProductAt : (g : List (List ℕ)) → Elem → Pair → (v d : (algebra_in L g).carrier)
      → Type 0
  IsProductAt g s pair v d = (algebra_in L g).mul v d ≡ numerator_at g s pair

  -- the pair of E(g) satisfies f, and `back` gives x and y at it
  pub record IsOneSided (f g : List (List ℕ)) (pair back : Pair) : Type 0 where
    pub satisfies : Satisfies L f g pair
    pub undone : Undoes L g back pair
