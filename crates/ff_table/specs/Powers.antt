-- Powers of an element whose weight is prime to e, and relations between them over k[z].
use Rattle.std.specs.Prelude.{◌≡◌, ℕ, suc, ◌*◌, ◌%◌, ◌<◌, Bool, false, nat_lt}
use Rattle.ff_theory.specs.Ring.{RingOps, power}
use Rattle.ff_theory.specs.Sum.{sum_below}
use Rattle.ff_theory.specs.Poly.{Poly, polynomials}
use Rattle.ff_table.specs.Table.{Table, table_ring}
use Rattle.ff_table.specs.Level.{z_multiple, basis}

-- for each class modulo e the one j below e for which j * W is in it; there is one where W is
-- prime to e
pub record IsPrimeTo (e W : ℕ) : Type 0 where
  pub exponent : ℕ → ℕ
  pub in_range : (t : ℕ) → exponent t < e
  pub class : (t : ℕ) → (exponent t * W) % e ≡ t % e
  pub distinct : (i j : ℕ) → i < e → j < e → (i * W) % e ≡ (j * W) % e → i ≡ j

-- whether t is the weight of a multiple of a power of w over k[z], where w has the weight W: t is
-- j * W or more for the j of its class
abbrev pub is_reached : {e W : ℕ} → IsPrimeTo e W → ℕ → Bool
is_reached {W = W} prime t = nat_lt (prime.exponent t * W) (suc t)

module _ (k : RingOps) (s : Table k) (w : (table_ring k s).carrier) where
  -- A 0 + A 1 * w + .. , n terms
  abbrev pub power_sum : ℕ → (ℕ → Poly k) → (table_ring k s).carrier
  power_sum n A = sum_below (table_ring k s) n
      (λ j. z_multiple k s (A j) (power (table_ring k s) w j))

  -- a is a sum of multiples of powers of w below e
  pub record IsPowerSum (a : (table_ring k s).carrier) : Type 0 where
    pub coefficients : ℕ → Poly k
    pub sum : a ≡ power_sum s.rank coefficients

  -- w^e + r (e - 1) * w^(e - 1) + .. + r 0 = 0, and there is no such relation of lower degree
  pub record IsRelation (r : ℕ → Poly k) : Type 0 where
    pub vanishes : (table_ring k s).add (power (table_ring k s) w s.rank)
        (power_sum s.rank r) ≡ (table_ring k s).zero
    pub least : (A : ℕ → Poly k) → power_sum s.rank A ≡ (table_ring k s).zero
        → (j : ℕ) → j < s.rank → A j ≡ (polynomials k).zero

  -- how the basis vectors, times polynomials q that are not zero, are written over the powers of w
  pub record Written : Type 0 where
    pub q : ℕ → Poly k
    pub nonzero : (i : ℕ) → i < s.rank → (polynomials k).same (q i) (polynomials k).zero ≡ false
    pub coefficients : ℕ → ℕ → Poly k
    pub writes : (i : ℕ) → i < s.rank
        → z_multiple k s (q i) (basis k s i) ≡ power_sum s.rank (coefficients i)
