-- Powers of an element whose weight is prime to e, and reduction modulo them.
use Rattle.std.proofs.Common.{◌≡◌, ℕ, zero, suc, ◌+◌, ◌*◌, subst, arith}
use Rattle.ff_theory.specs.Ring.{power}
use Rattle.ff_theory.specs.Lawful.{Field}
use Rattle.ff_theory.specs.Poly.{polynomials}
use Rattle.ff_table.specs.Coords.{Coords}
use Rattle.ff_table.specs.Table.{Table, IsTable, table_ring}
use Rattle.ff_table.specs.Table.{Weighs}
use Rattle.ff_table.proofs.TableRing.{weight-mul}

module _ (K : Field) (s : Table K.ring) (table : IsTable K.ring s) where
  -- the weights of powers, where 1 has the weight 0
  pub power-weight : (a : Coords (polynomials K.ring) s.rank) (w : ℕ) → Weighs K.ring s a w
      → Weighs K.ring s (table_ring K.ring s).one 0
      → (j : ℕ) → Weighs K.ring s (power (table_ring K.ring s) a j) (j * w)
  power-weight a w h one zero = subst (Weighs K.ring s (table_ring K.ring s).one)
      (let e : 0 ≡ zero * w = omega arith in e) one
  power-weight a w h one (suc j) =
      subst (Weighs K.ring s (power (table_ring K.ring s) a (suc j)))
      (let e : w + j * w ≡ suc j * w = omega arith in e)
      (weight-mul K s table a (power (table_ring K.ring s) a j) w (j * w) h
      (power-weight a w h one j))
