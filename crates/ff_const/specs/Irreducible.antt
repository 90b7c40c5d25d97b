-- Irreducible equations f, over a field whose laws are L, and the factors of others.
use Rattle.std.specs.Prelude.{◌≡◌, ℕ, List}
use Rattle.std.specs.declared.cmp.Ordering.TheVariants.{Less}
use Rattle.ff_theory.specs.Ring.{Elements}
use Rattle.ff_theory.specs.Lawful.{Lawful}
use Rattle.ff_theory.specs.Poly.{Poly, polynomials}
use Rattle.ff_theory.specs.Values.{plane_of}
use Rattle.ff_factors.specs.Factors.{IsFactored, AreCoprime}
use Rattle.ff_elem.specs.Key.{key_cmp}
use Rattle.ff_const.specs.declared.factors.SplitFault.{SplitFault}
use Rattle.ff_const.specs.declared.factors.SplitFault.TheVariants.{Reducible, NoMemory}
use Rattle.ff_const.specs.Keys.{plane_key}

-- no polynomial of positive y-degree divides both over k(x), and the key of g is less than that of
-- h
pub record AreStrictFactors (F : Elements ℕ) (g h : List (List ℕ)) : Type 0 where
  pub coprime : AreCoprime F.ring (plane_of F g) (plane_of F h)
  pub less : key_cmp (plane_key F g) (plane_key F h) ≡ Less

-- the same of the factors that the answer names
abbrev pub IsStrict : (F : Elements ℕ) → SplitFault → Type 0
IsStrict F (Reducible g h) = AreStrictFactors F g h
IsStrict F NoMemory = Unit {0}

module _ {F : Elements ℕ} (L : Lawful F) (f : List (List ℕ)) where
  -- f is irreducible over k(x): it is no polynomial in x times g * h with both normalised and of
  -- positive y-degree
  abbrev pub IsIrreducible : Type 0
  IsIrreducible = (g h : Poly (polynomials F.ring)) → ¬ IsFactored F.ring (plane_of F f) g h
