-- The least example: k[z] itself is the ring of the table with e = 1 and the weight 0. So the table
-- rule can be met.
use Rattle.std.proofs.Common.{◌≡◌, ℕ, zero, suc, ◌+◌, ◌*◌, ◌%◌, ◌<◌, ◌≤◌, refl, sym, ◌∙◌}
use Rattle.std.proofs.Common.{arith}
use Rattle.ff_theory.specs.Lawful.{Field}
use Rattle.ff_theory.specs.Poly.{coeff, polynomials}
use Rattle.ff_table.proofs.Sizes.{one-first, one-later}
use Rattle.ff_theory.specs.Span.{unit_at}
use Rattle.ff_table.specs.Table.{Table, IsTable}

module _ (K : Field) where
  abbrev pub plain_table : Table K.ring
  plain_table = record { rank = 1; weight = λ i. 0; product = λ i j l. (polynomials K.ring).one }

  one-at : (d : ℕ) → 1 ≤ 1 * d + 0 → coeff K.ring (polynomials K.ring).one.coeffs d ≡ K.zero
  one-at zero l = absurd (omega arith)
  one-at (suc d) l = one-later K d

  unit : (i l : ℕ) → i < 1 → l < 1 → (polynomials K.ring).one ≡ unit_at (polynomials K.ring) i l
  unit zero zero p q = refl
  unit zero (suc l) p q = absurd (omega arith)
  unit (suc i) l p q = absurd (omega arith)

  class : (i : ℕ) → i < 1 → 0 % 1 ≡ i
  class zero p = refl
  class (suc i) p = absurd (omega arith)

  pub plain_table-rule : IsTable K.ring plain_table
  plain_table-rule = record {
    algebra = record {
      positive = omega arith;
      unit = unit;
      symmetric =
          λ i j l p q r. refl;
      associative = λ i j m l p q r t. refl;
    };
    classes = class;
    weights = λ i j p q. record {
      place = 0;
      degree = 0;
      in_range = omega arith;
      level = refl;
      nonzero = λ h. K.is_field.one_not_zero (sym (one-first K) ∙ h);
      below = λ l r d b. one-at d b;
    };
  }
