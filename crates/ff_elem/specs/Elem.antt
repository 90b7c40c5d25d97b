-- Elements of E(f) in code, for an equation f over a field whose laws are L.
use Rattle.std.specs.Prelude.{◌≡◌, ℕ, List, [], ◌∷◌}
use Rattle.ff_theory.specs.Ring.{RingOps, Elements}
use Rattle.ff_theory.specs.Lawful.{Lawful, lawful_field}
use Rattle.ff_theory.specs.LowestTerms.{IsLowest}
use Rattle.ff_theory.specs.Algebra.{degree, algebra_of, value_of, element, over_of, Form, x_of}
use Rattle.ff_theory.specs.Algebra.{y_of}
use Rattle.ff_theory.specs.Values.{poly_of, polys_of, IsPoly, ArePolys, plane_of}
use Rattle.ff_elem.specs.declared.elem.Elem.{Elem}

module _ {F : Elements ℕ} (L : Lawful F) (f : List (List ℕ)) where
  -- the algebra k(x)[y]/f
  abbrev pub algebra_in : RingOps
  algebra_in = algebra_of (lawful_field L) (plane_of F f)

  -- each of its elements has a form in lowest terms
  abbrev pub HasForms : Type 0
  HasForms = (a : algebra_in.carrier) → Form (lawful_field L) (plane_of F f) a

  -- 1 is not 0 in it
  abbrev pub IsProper : Type 0
  IsProper = ¬ (algebra_in.one ≡ algebra_in.zero)

  -- the element that a list of numerators over a denominator stands for:
  -- the sum of the numerators times the powers of y, over the denominator
  abbrev pub elem_of : Elem → algebra_in.carrier
  elem_of e = element (lawful_field L) (plane_of F f) (poly_of F e.den) (polys_of F e.num)

  -- a monic denominator and as many numerators as f has powers of y below the leading one,
  -- in lowest terms
  pub record IsElem (e : Elem) : Type 0 where
    pub den : IsPoly F e.den
    pub num : ArePolys F e.num
    pub lowest : IsLowest (lawful_field L) (degree (lawful_field L) (plane_of F f))
        (poly_of F e.den) (polys_of F e.num)

  -- e is an element in lowest terms, and stands for v
  pub record ElemIs (v : algebra_in.carrier) (e : Elem) : Type 0 where
    pub element : IsElem e
    pub value : elem_of e ≡ v

  -- a polynomial in x and y as an element
  abbrev pub plane_in : List (List ℕ) → algebra_in.carrier
  plane_in rows = value_of (lawful_field L) (plane_of F f) (plane_of F rows)

  -- a polynomial in x as an element
  abbrev pub poly_in : List ℕ → algebra_in.carrier
  poly_in p = plane_in (p ∷ [])

  -- a polynomial in x and y over a polynomial in x
  abbrev pub over_in : List (List ℕ) → List ℕ → algebra_in.carrier
  over_in rows den = over_of (lawful_field L) (plane_of F f) (plane_of F rows) (poly_of F den)

  -- x and y as elements
  abbrev pub x_in : algebra_in.carrier
  x_in = x_of (lawful_field L) (plane_of F f)

  abbrev pub y_in : algebra_in.carrier
  y_in = y_of (lawful_field L) (plane_of F f)
