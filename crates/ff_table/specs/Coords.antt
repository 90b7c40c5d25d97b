-- Coordinates, and the ring with given products of basis vectors.
use Rattle.std.specs.Prelude.{◌≡◌, ℕ, zero, suc, ◌<◌, Bool, List, length, refl}
use Rattle.std.proofs.Common.{ap}
use Rattle.ff_theory.specs.Ring.{RingOps}
use Rattle.ff_theory.specs.Sum.{sum_below}
use Rattle.ff_theory.specs.Lists.{listed}
use Rattle.ff_theory.specs.Poly.{coeff, list_same}
use Rattle.ff_theory.specs.Span.{unit_at}

-- lists of e elements
pub record Coords (R : RingOps) (e : ℕ) : Type 0 where
  pub entries : List R.carrier
  pub count : length entries ≡ e

pub count-listed : {C : Type 0} (e : ℕ) (f : ℕ → C) → length (listed e f) ≡ e
count-listed zero f = refl
count-listed (suc e) f = ap suc (count-listed e (λ i. f (suc i)))

-- the coordinates f 0, .., f (e - 1)
unfoldable pub coords : (R : RingOps) (e : ℕ) → (ℕ → R.carrier) → Coords R e
coords R e f = record { entries = listed e f; count = count-listed e f }

-- coordinate l, zero past the end
abbrev pub at : (R : RingOps) (e : ℕ) → Coords R e → ℕ → R.carrier
at R e a l = coeff R a.entries l

-- coordinate l of the product of a and b, where t i j l is coordinate l of the product of basis
-- vectors i and j
abbrev pub product_at : (R : RingOps) (e : ℕ) → (ℕ → ℕ → ℕ → R.carrier) → (ℕ → R.carrier)
    → (ℕ → R.carrier) → ℕ → R.carrier
product_at R e t a b l = sum_below R e
    (λ i. sum_below R e (λ j. R.mul (a i) (R.mul (b j) (t i j l))))

-- the ring of coordinates with these products
unfoldable pub coords_add : (R : RingOps) (e : ℕ) → Coords R e → Coords R e → Coords R e
coords_add R e a b = coords R e (λ l. R.add (at R e a l) (at R e b l))

unfoldable pub coords_neg : (R : RingOps) (e : ℕ) → Coords R e → Coords R e
coords_neg R e a = coords R e (λ l. R.neg (at R e a l))

unfoldable pub coords_mul : (R : RingOps) (e : ℕ) → (ℕ → ℕ → ℕ → R.carrier) → Coords R e
    → Coords R e → Coords R e
coords_mul R e t a b = coords R e (product_at R e t (at R e a) (at R e b))

unfoldable pub coords_same : (R : RingOps) (e : ℕ) → Coords R e → Coords R e → Bool
coords_same R e a b = list_same R a.entries b.entries

abbrev pub coords_ring : (R : RingOps) (e : ℕ) → (ℕ → ℕ → ℕ → R.carrier) → RingOps
coords_ring R e t = record {
  carrier = Coords R e;
  zero = coords R e (λ l. R.zero);
  one = coords R e (unit_at R 0);
  add = coords_add R e;
  neg = coords_neg R e;
  mul = coords_mul R e t;
  same = coords_same R e;
}

-- the products make a commutative algebra whose one is basis vector 0
pub record IsAlgebra (R : RingOps) (e : ℕ) (t : ℕ → ℕ → ℕ → R.carrier) : Type 0 where
  pub positive : 0 < e
  pub unit : (i l : ℕ) → i < e → l < e → t 0 i l ≡ unit_at R i l
  pub symmetric : (i j l : ℕ) → i < e → j < e → l < e → t i j l ≡ t j i l
  pub associative : (i j m l : ℕ) → i < e → j < e → m < e → l < e
      → sum_below R e (λ n. R.mul (t i j n) (t n m l))
      ≡ sum_below R e (λ n. R.mul (t j m n) (t i n l))
