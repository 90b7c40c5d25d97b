-- Pairs of elements in code: values at a pair, satisfying pairs and inverse pairs.
use Rattle.std.specs.Prelude.{ℕ, List}
use Rattle.ff_theory.specs.Ring.{Elements}
use Rattle.ff_theory.specs.Lawful.{Lawful, lawful_field}
use Rattle.ff_theory.specs.Values.{poly_of, plane_of}
use Rattle.ff_elem.specs.declared.elem.Elem.{Elem}
use Rattle.ff_elem.specs.Elem.{algebra_in, elem_of, x_in, y_in, IsElem}
use Rattle.ff_data.specs.declared.pair.Pair.{Pair}
use Rattle.ff_data.specs.Substitution.{IsDefined, IsSatisfying, IsValue}

module _ {F : Elements ℕ} (L : Lawful F) where
  -- both parts are elements of E(g)
  pub record IsPair (g : List (List ℕ)) (p : Pair) : Type 0 where
    pub x : IsElem L g p.x
    pub y : IsElem L g p.y

  -- the pair (X, Y) of E(g) satisfies f
  abbrev pub Satisfies : (f g : List (List ℕ)) → Pair → Type 0
  Satisfies f g p = IsSatisfying (lawful_field L) (plane_of F f) (plane_of F g)
      (elem_of L g p.x) (elem_of L g p.y)

  -- the element s has a value at the pair (X, Y) of E(g)
  abbrev pub HasValue : (g : List (List ℕ)) → Elem → Pair → Type 0
  HasValue g s p = IsDefined (lawful_field L) (plane_of F g) (poly_of F s.den) (elem_of L g p.x)

  -- s(X, Y) is v
  abbrev pub ValueIs : (g : List (List ℕ)) → Elem → Pair → (algebra_in L g).carrier → Type 0
  ValueIs g s p v = IsValue (lawful_field L) (plane_of F g) (poly_of F s.den) (plane_of F s.num)
      (elem_of L g p.x) (elem_of L g p.y) v

  -- (U, V) of E(f) undoes (X, Y): X(U, V) is x and Y(U, V) is y
  pub record Undoes (f : List (List ℕ)) (pair back : Pair) : Type 0 where
    pub x : ValueIs f pair.x back (x_in L f)
    pub y : ValueIs f pair.y back (y_in L f)

  -- (X, Y) of E(g) satisfies f, (U, V) of E(f) satisfies g, and each undoes the other:
  -- X(U, V), Y(U, V), U(X, Y) and V(X, Y) are x, y, x and y
  pub record IsInversePair (f g : List (List ℕ)) (pair back : Pair) : Type 0 where
    pub satisfies : Satisfies f g pair
    pub back_satisfies : Satisfies g f back
    pub undoes : Undoes f pair back
    pub undone : Undoes g back pair
