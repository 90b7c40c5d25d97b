-- The elements, times a common multiple, as polynomials over k[z] at w, where the basis is written
-- over the powers of w.
use Rattle.std.proofs.Common.{◌≡◌, ℕ, zero, suc, ◌<◌, ◌≤◌, ◌⊎◌, inl, inr, false, refl}
use Rattle.std.proofs.Common.{sym, ◌∙◌, ap, ap₂, arith}
use Rattle.std.proofs.lemmas.Bool.{cases_lt}
use Rattle.ff_theory.specs.Ring.{RingOps, IsCommRing}
use Rattle.ff_theory.specs.Lawful.{Field, Domain}
use Rattle.ff_theory.specs.Map.{IsMap}
use Rattle.ff_theory.specs.Sum.{sum_below}
use Rattle.ff_theory.specs.Poly.{Poly, polynomials}
use Rattle.ff_theory.specs.Planes.{planes, Plane, row_of}
use Rattle.ff_theory.proofs.Solver.{◌⊗◌, ring3}
use Rattle.ff_theory.proofs.Sums.{sum-ext, sum-mul}
use Rattle.ff_theory.proofs.PolyMap.{polynomial_domain}
use Rattle.ff_charts.proofs.Rows.{polynomial_of}
use Rattle.ff_table.specs.Coords.{Coords, at}
use Rattle.ff_table.specs.Table.{Table, IsTable, table_ring, Weighs}
use Rattle.ff_table.specs.Level.{z_multiple, basis}
use Rattle.ff_table.specs.Powers.{IsPrimeTo, Written}
use Rattle.ff_table.proofs.TableRing.{table_laws}
use Rattle.ff_table.proofs.Embedding.{embed, multiple-embed}
use Rattle.ff_table.proofs.PowerSums.{multiple-product}
use Rattle.ff_table.proofs.PowerValues.{at_w, at_w-map, at_w-listed, at_w-row}
use Rattle.ff_table.proofs.BasisSums.{map-sum, basis-sum}

module _ (K : Field) (s : Table K.ring) (table : IsTable K.ring s)
    (w : Coords (polynomials K.ring) s.rank) (W : ℕ) (weighs : Weighs K.ring s w W)
    (prime : IsPrimeTo s.rank W) (written : Written K.ring s w) where
  abbrev P : Domain
  P = polynomial_domain K

  abbrev T : RingOps
  T = table_ring K.ring s

  abbrev C : Type 0
  C = Coords (polynomials K.ring) s.rank

  abbrev Q : RingOps
  Q = planes K

  abbrev e : ℕ
  e = s.rank

  abbrev k : RingOps
  k = K.ring

  TL : IsCommRing T
  TL = table_laws K s table

  abbrev value : Plane K → C
  value F = at_w K s table w W weighs prime F

  map : IsMap (planes K) (table_ring K.ring s) (at_w K s table w W weighs prime)
  map = at_w-map K s table w W weighs prime

  -- a common multiple of the first n denominators
  pub record Common (n : ℕ) : Type 0 where
    pub multiple : Poly K.ring
    pub proper : P.same multiple P.zero ≡ false
    pub factor : (i : ℕ) → Poly K.ring
    pub product : (i : ℕ) → i < n → multiple ≡ P.mul (factor i) (written.q i)

  common : (n : ℕ) → n ≤ e → Common n
  common zero l = record {
    multiple = P.one;
    proper = P.proper;
    factor = λ i. P.one;
    product = λ i q. absurd (omega arith);
  }
  common (suc n) l = more (common n (omega arith))
    where
      more : Common n → Common (suc n)
      more c = record {
        multiple = P.mul c.multiple (written.q n);
        proper = P.no_divisors c.multiple (written.q n) c.proper (written.nonzero n l);
        factor = λ i. pick i (cases_lt i n);
        product = λ i q. both i q (cases_lt i n);
      }
        where
          pick : (i : ℕ) → (i < n) ⊎ (n ≤ i) → Poly K.ring
          pick i (inl o) = P.mul (c.factor i) (written.q n)
          pick i (inr o) = c.multiple

          both : (i : ℕ) → i < suc n → (o : (i < n) ⊎ (n ≤ i))
              → P.mul c.multiple (written.q n) ≡ P.mul (pick i o) (written.q i)
          both i q (inl o) = ap (λ t. P.mul t (written.q n)) (c.product i o)
              ∙ ring3 P.ring P.laws (λ f a b. (f ⊗ a) ⊗ b) (λ f a b. (f ⊗ b) ⊗ a) refl
              (c.factor i) (written.q i) (written.q n)
          both i q (inr o) = let z : n ≡ i = omega arith in
              ap (λ j. P.mul c.multiple (written.q j)) z

  pub whole : Common s.rank
  whole = common e (omega arith)

  abbrev pub M : Poly K.ring
  M = whole.multiple

  -- the sum of the multiples of the polynomials that write the basis
  abbrev pub plane : Coords (polynomials K.ring) s.rank → Plane K
  plane a = sum_below (planes K) s.rank (λ l. (planes K).mul
      (row_of K.ring ((polynomials K.ring).mul (at (polynomials K.ring) s.rank a l)
      (whole.factor l))) (polynomial_of (polynomials K.ring) (polynomial_domain K).laws
      (polynomial_domain K).tests s.rank (written.coefficients l)))

  pub plane-value : (a : Coords (polynomials K.ring) s.rank)
      → at_w K s table w W weighs prime (plane a) ≡ z_multiple K.ring s M a
  plane-value a = map-sum Q T (at_w K s table w W weighs prime) map e _
      ∙ sum-ext T TL e _ _ (λ l q. map.on_mul _ _
      ∙ ap₂ T.mul (at_w-row K s table w W weighs prime (P.mul (at P.ring e a l) (whole.factor l)))
      (at_w-listed K s table w W weighs prime e (written.coefficients l)
      ∙ sym (written.writes l q))
      ∙ sym (multiple-embed K s table (P.mul (at P.ring e a l) (whole.factor l))
      (z_multiple k s (written.q l) (basis k s l)))
      ∙ sym (multiple-product K s table (P.mul (at P.ring e a l) (whole.factor l)) (written.q l)
      (basis k s l))
      ∙ ap (λ p. z_multiple k s p (basis k s l)) (ring3 P.ring P.laws (λ a f q. (a ⊗ f) ⊗ q)
      (λ a f q. (f ⊗ q) ⊗ a) refl (at P.ring e a l) (whole.factor l) (written.q l)
      ∙ ap (λ t. P.mul t (at P.ring e a l)) (sym (whole.product l q)))
      ∙ multiple-product K s table whole.multiple (at P.ring e a l) (basis k s l)
      ∙ multiple-embed K s table whole.multiple (z_multiple k s (at P.ring e a l) (basis k s l)))
      ∙ sum-mul T TL e (embed K s table whole.multiple)
      (λ l. z_multiple k s (at P.ring e a l) (basis k s l))
      ∙ ap (T.mul (embed K s table whole.multiple)) (sym (basis-sum K s a))
      ∙ sym (multiple-embed K s table whole.multiple a)
