-- Division in the ring of a table, and elements of k[z] that an element divides.
use Rattle.std.proofs.Common.{◌≡◌, ℕ, suc, [], ◌∷◌, ◌+◌, ◌-◌, ◌*◌, ◌%◌, ◌<◌, ◌≤◌, Bool, true}
use Rattle.std.proofs.Common.{nat_lt, refl}
use Rattle.std.proofs.Common.{sym, ◌∙◌, ap, ap₂, subst, arith}
use Rattle.std.proofs.lemmas.Bool.{lt-ltb, ltb-true}
use Rattle.std.proofs.Math.Nat.{mod-lt}
use Rattle.ff_theory.specs.Ring.{RingOps, IsCommRing}
use Rattle.ff_theory.specs.Lawful.{Field}
use Rattle.ff_theory.specs.Poly.{poly, polynomials}
use Rattle.ff_theory.proofs.Solver.{mul_zero}
use Rattle.ff_table.specs.Coords.{Coords, at}
use Rattle.ff_table.specs.Table.{Table, IsTable, table_ring, Weighs}
use Rattle.ff_table.specs.Weight.{IsBelow}
use Rattle.ff_table.specs.Level.{monomial_at, scaled}
use Rattle.ff_table.specs.Reduce.{Pivot, Reduction}
use Rattle.ff_table.proofs.TableRing.{table_laws, weight-mul}
use Rattle.ff_table.proofs.Scalars.{multiple-mul}
use Rattle.ff_table.proofs.Monomials.{monomial-weight}
use Rattle.ff_table.proofs.Reduce.{reduce}

module _ (K : Field) (s : Table K.ring) (table : IsTable K.ring s) where
  abbrev T : RingOps
  T = table_ring K.ring s

  abbrev C : Type 0
  C = Coords (polynomials K.ring) s.rank

  TL : IsCommRing T
  TL = table_laws K s table

  -- a multiple of a
  abbrev pub IsMultiple : Coords (polynomials K.ring) s.rank → Coords (polynomials K.ring) s.rank
      → Type 0
  IsMultiple a b = (q : Coords (polynomials K.ring) s.rank) × (b ≡ (table_ring K.ring s).mul a q)

  -- r = a * q + rest, and rest is zero or its weight is below that of a plus M
  pub record TableDivision (a r : Coords (polynomials K.ring) s.rank) (n : ℕ) : Type 0 where
    pub quotient : Coords (polynomials K.ring) s.rank
    pub rest : Coords (polynomials K.ring) s.rank
    pub sum : r ≡ (table_ring K.ring s).add ((table_ring K.ring s).mul a quotient) rest
    pub small : IsBelow K.ring s.rank s.weight n (at (polynomials K.ring) s.rank rest)

  -- M is at least each weight of a basis vector
  pub divide : (M : ℕ) → ((i : ℕ) → i < s.rank → s.weight i ≤ M)
      → (a : Coords (polynomials K.ring) s.rank) (w : ℕ) → Weighs K.ring s a w
      → (r : Coords (polynomials K.ring) s.rank) → TableDivision a r (w + M)
  divide M high a w h r = record {
    quotient = d.inside.0;
    rest = d.rest;
    sum = d.sum ∙ ap (λ b. T.add b d.rest) d.inside.1;
    small = λ l q n k. d.clear l n q (omega arith) (reached-from (s.rank * n + s.weight l) k);
  }
    where
      reached : ℕ → Bool
      reached t = nat_lt (w + M) (suc t)

      reached-from : (t : ℕ) → w + M ≤ t → nat_lt (w + M) (suc t) ≡ true
      reached-from t l = lt-ltb (w + M) (suc t) (omega arith)

      pivot : (t : ℕ) → nat_lt (w + M) (suc t) ≡ true → Pivot K.ring s (IsMultiple a) t
      pivot t on = let l : w + M < suc t = ltb-true (w + M) (suc t) on in
          let e : w + (t - w) ≡ t = omega (arith, l) in record {
            element = T.mul a (monomial_at K.ring s (t - w));
            inside = (monomial_at K.ring s (t - w), refl);
            weight = subst (Weighs K.ring s (T.mul a (monomial_at K.ring s (t - w)))) e
                (weight-mul K s table a (monomial_at K.ring s (t - w)) w (t - w) h
                (monomial-weight K s table (t - w)
                (omega (
                  arith,
                  l,
                  high ((t - w) % s.rank)
                      (mod-lt (t - w) table.algebra.positive),
                ))));
          }

      d : Reduction K.ring s (IsMultiple a) (λ t. nat_lt (w + M) (suc t)) r
      d = reduce K s table (IsMultiple a) (T.zero, sym (mul_zero T TL a))
          (λ b c m n. (T.add m.0 n.0, ap₂ T.add m.1 n.1 ∙ sym (TL.mul_add a m.0 n.0)))
          (λ c b m. (
            scaled K.ring s c m.0,
            ap (scaled K.ring s c) (m.1 ∙ TL.mul_comm a m.0)
                ∙ sym (multiple-mul K s (poly K.ring (c ∷ [])) m.0 a) ∙ TL.mul_comm _ a,
          ))
          (λ t. nat_lt (w + M) (suc t)) pivot r
