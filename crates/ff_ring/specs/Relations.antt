-- Forms of relations of a pole system.
use Rattle.std.specs.Prelude.{◌≡◌, ℕ, length}
use Rattle.std.specs.List.{All}
use Rattle.ff_theory.specs.Ring.{Elements}
use Rattle.ff_theory.specs.Values.{IsPoly}
use Rattle.ff_data.specs.declared.system.Coords.{Coords}
use Rattle.ff_data.specs.declared.system.System.{System}
use Rattle.ff_data.specs.declared.search.Relation.{Relation}
use Rattle.ff_data.specs.Systems.{AreCoords}

-- a polynomial, and coordinates
pub record AreOverPoly (F : Elements ℕ) (s : System) (c : Coords) : Type 0 where
  pub q : IsPoly F c.q
  pub coords : AreCoords F s c.c

-- the parts of a relation have their forms
pub record IsRelationForm (F : Elements ℕ) (s : System) (r : Relation) : Type 0 where
  pub w : AreCoords F s r.w
  pub coeffs : AreCoords F s r.coeffs
  pub back : All (AreOverPoly F s) r.back
  pub count : length r.back ≡ s.e
