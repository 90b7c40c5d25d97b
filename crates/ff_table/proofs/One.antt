-- The element 1 has the weight 0, and so has basis vector 0.
use Rattle.std.proofs.Common.{◌≡◌, ℕ, ◌+◌, subst, arith}
use Rattle.ff_theory.specs.Lawful.{Field, Domain}
use Rattle.ff_table.specs.Table.{Table, IsTable, table_ring}
use Rattle.ff_table.specs.Table.{Weighs}
use Rattle.ff_table.proofs.Weights.{one_weight}
use Rattle.ff_table.proofs.TableRing.{differ_weight, weight-mul, table_domain}

module _ (K : Field) (s : Table K.ring) (table : IsTable K.ring s) where
  -- w + w = w for the weight w of 1 = 1 * 1
  pub one-weight : Weighs K.ring s (table_ring K.ring s).one 0
  one-weight = zero_case (differ)
    where
      D : Domain
      D = table_domain K s table

      differ : (w : ℕ) × Weighs K.ring s (table_ring K.ring s).one w
      differ = differ_weight K s table (table_ring K.ring s).one D.proper

      zero_case : (w : ℕ) × Weighs K.ring s (table_ring K.ring s).one w
          → Weighs K.ring s (table_ring K.ring s).one 0
      zero_case h = let e : h.0 + h.0 ≡ h.0 =
          one_weight K.ring s.rank s.weight table.classes _ (h.0 + h.0) h.0
          (subst (λ a. Weighs K.ring s a (h.0 + h.0)) (D.laws.mul_one (table_ring K.ring s).one)
          (weight-mul K s table (table_ring K.ring s).one
          (table_ring K.ring s).one h.0 h.0 h.1 h.1)) h.1 in
          let z : h.0 ≡ 0 = omega (arith, e) in
          subst (Weighs K.ring s (table_ring K.ring s).one) z h.1
