-- Forms of what reduction modulo multiples of powers needs and gives.
use Rattle.std.specs.Prelude.{◌≡◌, ℕ, ◌+◌, ◌^◌, ◌<◌, ◌≤◌, List, length}
use Rattle.std.specs.List.{All}
use Rattle.std.specs.Global.{Vec}
use Rattle.ff_theory.specs.Ring.{Elements}
use Rattle.ff_theory.specs.Vector.{IsVector}
use Rattle.ff_theory.specs.Values.{x_size, IsPoly, leading}
use Rattle.ff_lin.specs.Space.{AreVectors, IsSpaceOf}
use Rattle.ff_data.specs.declared.system.System.{System}
use Rattle.ff_data.specs.Systems.{AreCoords}
use Rattle.ff_ring.specs.Ring.{AreCoordsList}
use Rattle.ff_relation.specs.declared.bases.Gap.{Gap}
use Rattle.ff_relation.specs.declared.bases.PowerBasis.{PowerBasis}
use Rattle.ff_relation.specs.declared.reduce.Rows.{Rows}
use Rattle.ff_relation.specs.declared.reduce.Reduced.{Reduced}
use Rattle.ff_relation.specs.declared.annihilator.Rests.{Rests}

-- a monic polynomial
pub record IsMonic (F : Elements ℕ) (q : List ℕ) : Type 0 where
  pub poly : IsPoly F q
  pub monic : leading F q ≡ F.one

-- m rows of n elements
pub record AreRows (F : Elements ℕ) (m n : ℕ) (rows : List (Vec ℕ)) : Type 0 where
  pub each : AreVectors F n rows
  pub count : length rows ≡ m

module _ (F : Elements ℕ) (s : System) where
  -- e powers, and for each class or power an entry of the other lists
  pub record IsPowerBasis (p : PowerBasis) : Type 0 where
    pub exponents : All (λ j. j < s.e) p.exponents.items
    pub exponent_count : length p.exponents.items ≡ s.e
    pub limit_count : length p.limits.items ≡ s.e
    pub gaps : All (λ (g : Gap). g.class < s.e) p.gaps.items
    pub inverses : IsVector F s.e p.inverses.items
    pub list : AreCoordsList F s s.e p.list.items
    pub width : All (λ c. x_size c ≤ p.width) p.list.items

  -- e rows with room for each multiple of a power below n, and e rows of n factors
  pub record AreTaken (p : PowerBasis) (n : ℕ) (r : Rows) : Type 0 where
    pub room : n + p.width < 2 ^ 64
    pub rest : AreRows F s.e (n + p.width) r.rest.items
    pub quotient : AreRows F s.e n r.quotient.items

  -- the parts of a reduced element
  pub record IsReduced (r : Reduced) : Type 0 where
    pub quotient : AreCoords F s r.quotient
    pub rest : AreCoords F s r.rest

  -- vectors as long as there are gaps, the coordinates that the last one is of, and a space
  pub record AreRests (p : PowerBasis) (r : Rests) : Type 0 where
    pub before : AreVectors F (length p.gaps.items) r.before.items
    pub last : IsVector F (length p.gaps.items) r.last.items
    pub rest : AreCoords F s r.rest
    pub span : IsSpaceOf F (length p.gaps.items) r.span
