-- Elements X and Y of E(g) substituted for x and y.
use Rattle.std.specs.Prelude.{◌≡◌}
use Rattle.ff_theory.specs.Ring.{RingOps}
use Rattle.ff_theory.specs.Lawful.{Field}
use Rattle.ff_theory.specs.Poly.{Poly}
use Rattle.ff_theory.specs.Eval.{eval, plane_at}
use Rattle.ff_theory.specs.Planes.{Plane}
use Rattle.ff_theory.specs.Algebra.{algebra_of, constant}

module _ (K : Field) (g : Plane K) where
  -- the algebra E(g)
  abbrev A : RingOps
  A = algebra_of K g

  -- a polynomial in x at X
  abbrev pub poly_at : A.carrier → Poly K.ring → A.carrier
  poly_at X p = eval K.ring A (constant K g) X p

  -- a polynomial in x and y at X and Y: the sum of its rows at X times the powers of Y
  abbrev pub plane_at_pair : A.carrier → A.carrier → Plane K → A.carrier
  plane_at_pair X Y N = plane_at K.ring A (constant K g) X Y N

  -- the denominator at X has an inverse in E(g)
  pub record IsDefined (den : Poly K.ring) (X : (algebra_of K g).carrier) : Type 0 where
    pub inverse : (algebra_of K g).carrier
    pub inverts : (algebra_of K g).mul inverse (poly_at X den) ≡ (algebra_of K g).one

  -- v is the value of num / den at X and Y:
  -- the value of the numerator times the inverse of that of the denominator
  pub record IsValue (den : Poly K.ring) (num : Plane K) (X Y v : A.carrier) : Type 0 where
    pub inverse : (algebra_of K g).carrier
    pub inverts : (algebra_of K g).mul inverse (poly_at X den) ≡ (algebra_of K g).one
    pub product : v ≡ (algebra_of K g).mul (plane_at_pair X Y num) inverse

-- the pair (X, Y) of E(g) satisfies f: the value of f at X and Y is 0
abbrev pub IsSatisfying : (K : Field) (f g : Plane K) (X Y : (algebra_of K g).carrier) → Type 0
IsSatisfying K f g X Y = plane_at_pair K g X Y f ≡ (algebra_of K g).zero
