-- Divisors of zero, and what a refused inverse says.
use Rattle.std.specs.Prelude.{◌≡◌, ℕ, List}
use Rattle.ff_theory.specs.Ring.{Elements}
use Rattle.ff_theory.specs.Lawful.{Lawful}
use Rattle.ff_elem.specs.declared.elem.Elem.{Elem}
use Rattle.ff_elem.specs.declared.inverse.InvFault.{InvFault}
use Rattle.ff_elem.specs.declared.inverse.InvFault.TheVariants.{ZeroDivisor, NoMemory}
use Rattle.ff_elem.specs.Elem.{algebra_in, elem_of, IsElem}

module _ {F : Elements ℕ} (L : Lawful F) (f : List (List ℕ)) (a : Elem) where
  -- the product of the element a and u, which is not 0, is 0
  pub record IsZeroDivisor (u : Elem) : Type 0 where
    pub element : IsElem L f u
    pub nonzero : ¬ (elem_of L f u ≡ (algebra_in L f).zero)
    pub product : (algebra_in L f).mul (elem_of L f a) (elem_of L f u) ≡ (algebra_in L f).zero

  abbrev pub DividesZero : InvFault → Type 0
  DividesZero (ZeroDivisor u) = IsZeroDivisor u
  DividesZero NoMemory = Unit {0}

  -- no product of the element a is 1
  abbrev pub HasNoInverse : InvFault → Type 0
  HasNoInverse (ZeroDivisor u) = (b : (algebra_in L f).carrier)
      → ¬ ((algebra_in L f).mul (elem_of L f a) b ≡ (algebra_in L f).one)
  HasNoInverse NoMemory = Unit {0}
