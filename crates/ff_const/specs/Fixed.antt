-- The elements w with w^q = w, where q is the number of elements of the field, and what they say of
-- the equation f, over a field whose laws are L. This project's own, after Berlekamp.
use Rattle.std.specs.Prelude.{◌≡◌, ℕ, zero, suc, ◌<◌, List, length, get_or}
use Rattle.std.specs.declared.cmp.Ordering.TheVariants.{Greater}
use Rattle.ff_theory.specs.Ring.{RingOps, Elements, power}
use Rattle.ff_theory.specs.Lawful.{Lawful}
use Rattle.ff_theory.specs.Values.{plane_of, IsPlane}
use Rattle.ff_factors.specs.Factors.{IsFactored}
use Rattle.ff_elem.specs.declared.elem.Elem.{Elem}
use Rattle.ff_elem.specs.Elem.{algebra_in, elem_of}
use Rattle.ff_elem.specs.Key.{key_cmp}
use Rattle.ff_data.specs.Combinations.{constant_in, elems_of, InSpanOf, AreElems}
use Rattle.ff_const.specs.declared.factors.SplitFault.{SplitFault}
use Rattle.ff_const.specs.declared.factors.SplitFault.TheVariants.{Reducible, NoMemory}
use Rattle.ff_const.specs.declared.factors.Kind.{Kind}
use Rattle.ff_const.specs.declared.factors.Kind.TheVariants.{Zero, Invertible, Divisor}
use Rattle.ff_const.specs.Keys.{plane_key}

-- the product of the first n terms
abbrev pub product_below : (R : RingOps) → ℕ → (ℕ → R.carrier) → R.carrier
product_below R zero f = R.one
product_below R (suc n) f = R.mul (product_below R n f) (f n)

module _ {F : Elements ℕ} (L : Lawful F) (f : List (List ℕ)) where
  -- w^q is w
  abbrev pub IsFixed : (algebra_in L f).carrier → Type 0
  IsFixed w = power (algebra_in L f) w F.size ≡ w

  -- w is a constant of the field
  abbrev pub IsConstant : (algebra_in L f).carrier → Type 0
  IsConstant w = (c : F.carrier) × (w ≡ constant_in L f c)

  -- the combinations of the elements
  abbrev pub InSpanOfAll : List Elem → (algebra_in L f).carrier → Type 0
  InSpanOfAll ws = InSpanOf L f (length ws) (elems_of L f ws)

  -- each element of the kind with w^q = w is a constant of the field
  abbrev pub FixesConstants : ((algebra_in L f).carrier → Type 0) → Type 0
  FixesConstants P = (w : (algebra_in L f).carrier) → P w → IsFixed w → IsConstant w

  -- some element of the kind with w^q = w is no constant of the field
  pub record FixesMore (P : (algebra_in L f).carrier → Type 0) : Type 0 where
    pub element : (algebra_in L f).carrier
    pub is_in : P element
    pub fixed : IsFixed element
    pub not_constant : ¬ IsConstant element

  -- f is a polynomial in x times g * h, both normalised and of positive y-degree, and the key of g
  -- is not greater than that of h
  pub record AreOrderedFactors (g h : List (List ℕ)) : Type 0 where
    pub first : IsPlane F g
    pub second : IsPlane F h
    pub factored : IsFactored F.ring (plane_of F f) (plane_of F g) (plane_of F h)
    pub ordered : ¬ (key_cmp (plane_key F g) (plane_key F h) ≡ Greater)

  -- w is not 0 and has no inverse
  pub record HasNone (w : (algebra_in L f).carrier) : Type 0 where
    pub nonzero : ¬ (w ≡ (algebra_in L f).zero)
    pub none : (b : (algebra_in L f).carrier)
        → ¬ ((algebra_in L f).mul w b ≡ (algebra_in L f).one)

  -- w has the inverse b
  abbrev pub IsInverted : (algebra_in L f).carrier → Type 0
  IsInverted w = (b : (algebra_in L f).carrier)
      × ((algebra_in L f).mul b w ≡ (algebra_in L f).one)

  -- w is 0, has an inverse, or is neither, and then f has these factors
  abbrev pub IsKind : (algebra_in L f).carrier → Kind → Type 0
  IsKind w Zero = w ≡ (algebra_in L f).zero
  IsKind w Invertible = IsInverted w
  IsKind w (Divisor g h) = HasNone w × AreOrderedFactors g h

  -- the element w less the constant c
  abbrev pub less_constant_of : (algebra_in L f).carrier → F.carrier → (algebra_in L f).carrier
  less_constant_of w c = (algebra_in L f).add w ((algebra_in L f).neg (constant_in L f c))

  -- f has these factors, and w is no constant of the field
  abbrev pub AreFactorsFrom : (algebra_in L f).carrier → (g h : List (List ℕ)) → Type 0
  AreFactorsFrom w g h = AreOrderedFactors g h × (¬ IsConstant w)

  -- v is w^q - w
  abbrev pub IsDifference : (w v : Elem) → Type 0
  IsDifference w v = elem_of L f v ≡ (algebra_in L f).add
      (power (algebra_in L f) (elem_of L f w) F.size) ((algebra_in L f).neg (elem_of L f w))

  -- each v of the list is the difference for the element w of the same index
  pub record AreDifferences (ws vs : List Elem) : Type 0 where
    pub elems : AreElems L f vs
    pub count : length vs ≡ length ws
    pub each : (d : Elem) (i : ℕ) → i < length ws → IsDifference (get_or ws i d) (get_or vs i d)

  -- the answer names factors that w gives
  abbrev pub IsSplitBy : (algebra_in L f).carrier → SplitFault → Type 0
  IsSplitBy w (Reducible g h) = AreFactorsFrom w g h
  IsSplitBy w NoMemory = Unit {0}

  -- the answer names factors, and some element of the kind shows that there are some
  abbrev pub IsSplit : ((algebra_in L f).carrier → Type 0) → SplitFault → Type 0
  IsSplit P (Reducible g h) = AreOrderedFactors g h × FixesMore P
  IsSplit P NoMemory = Unit {0}
