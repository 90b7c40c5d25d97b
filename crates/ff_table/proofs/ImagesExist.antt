-- In a domain that is closed in its field of fractions each root of the relation of w gives images
-- of the basis.
use Rattle.std.proofs.Common.{◌≡◌, ℕ, ◌<◌, ◌≤◌, ◌⊎◌, inl, inr, false, sym, ◌∙◌, ap, ap₂, arith}
use Rattle.std.proofs.Common.{refl}
use Rattle.std.proofs.lemmas.Bool.{cases_lt}
use Rattle.ff_theory.specs.Ring.{RingOps, IsCommRing, power}
use Rattle.ff_theory.specs.Lawful.{Field, Domain}
use Rattle.ff_theory.specs.Map.{IsMap}
use Rattle.ff_theory.specs.Sum.{sum_below}
use Rattle.ff_theory.specs.Poly.{Poly, polynomials}
use Rattle.ff_theory.specs.Planes.{planes, Plane, row_of}
use Rattle.ff_theory.proofs.Solver.{◌⊗◌, ring3}
use Rattle.ff_theory.proofs.Powers.{power-mul}
use Rattle.ff_theory.proofs.FrobeniusPoly.{map-power}
use Rattle.ff_theory.proofs.Evaluate.{eval-const}
use Rattle.ff_theory.proofs.PolyMap.{polynomial_domain}
use Rattle.ff_charts.proofs.Rows.{polynomial_of}
use Rattle.ff_table.specs.Closed.{IsClosed}
use Rattle.ff_table.specs.Coords.{Coords}
use Rattle.ff_table.specs.Table.{Table, IsTable, table_ring, Weighs}
use Rattle.ff_table.specs.Level.{basis}
use Rattle.ff_table.specs.Powers.{IsPrimeTo, IsRelation, Written}
use Rattle.ff_table.proofs.TableRing.{table_laws}
use Rattle.ff_table.proofs.Embedding.{embed, multiple-embed}
use Rattle.ff_table.proofs.PowerValues.{at_w, at_w-map, at_w-listed, at_w-row}
use Rattle.ff_table.proofs.WrittenBasis.{whole as common, plane, plane-value}
use Rattle.ff_table.proofs.Transfer.{at_rho, at_rho-map, at_rho-listed, transfer-equal}
use Rattle.ff_table.proofs.Images.{Images}

module _ (K : Field) (s : Table K.ring) (table : IsTable K.ring s)
    (w : Coords (polynomials K.ring) s.rank) (W : ℕ) (weighs : Weighs K.ring s w W)
    (prime : IsPrimeTo s.rank W) (r : ℕ → Poly K.ring) (relation : IsRelation K.ring s w r)
    (D : Domain) (h : Poly K.ring → D.carrier) (h_map : IsMap (polynomials K.ring) D.ring h)
    (h_nonzero : (p : Poly K.ring) → (polynomials K.ring).same p (polynomials K.ring).zero ≡ false
    → D.same (h p) D.zero ≡ false)
    (rho : D.carrier)
    (root : D.add (power D.ring rho s.rank)
    (sum_below D.ring s.rank (λ j. D.mul (h (r j)) (power D.ring rho j))) ≡ D.zero)
    (written : Written K.ring s w) (closed : IsClosed D) where
  abbrev P : Domain
  P = polynomial_domain K

  abbrev T : RingOps
  T = table_ring K.ring s

  abbrev Q : RingOps
  Q = planes K

  abbrev k : RingOps
  k = K.ring

  TL : IsCommRing T
  TL = table_laws K s table

  abbrev there : Plane K → D.carrier
  there F = at_rho K s table w W weighs prime r relation D.ring D.laws h h_map rho F

  there_map : IsMap (planes K) D.ring
      (at_rho K s table w W weighs prime r relation D.ring D.laws h h_map rho)
  there_map = at_rho-map K s table w W weighs prime r relation D.ring D.laws h h_map rho

  map : IsMap (planes K) (table_ring K.ring s) (at_w K s table w W weighs prime)
  map = at_w-map K s table w W weighs prime

  there-row : (a : Poly K.ring) → there (row_of k a) ≡ h a
  there-row a = eval-const P.ring D.ring P.laws P.tests D.laws h h_map rho a

  M : Poly K.ring
  M = (common K s table w W weighs prime written).multiple

  -- the polynomial that writes basis vector i, and that of a power of it
  abbrev over : ℕ → Plane K
  over i = polynomial_of P.ring P.laws P.tests s.rank (written.coefficients i)

  abbrev power_over : ℕ → ℕ → Plane K
  power_over i j = plane K s table w W weighs prime written (power T (basis k s i) j)

  -- M is a denominator of all powers
  powers : (i : ℕ) → i < s.rank → (j : ℕ)
      → D.mul (h M) (power D.ring (there (over i)) j)
      ≡ D.mul (there (power_over i j)) (power D.ring (h (written.q i)) j)
  unfolding M
  powers i q j = ap₂ D.mul (sym (there-row M)) (sym (map-power Q D.ring
      (at_rho K s table w W weighs prime r relation D.ring D.laws h h_map rho) there_map
      (over i) j))
      ∙ sym (there_map.on_mul (row_of k M) (power Q (over i) j))
      ∙ transfer-equal K s table w W weighs prime r relation D.ring D.laws h h_map rho root
      (Q.mul (row_of k M) (power Q (over i) j))
      (Q.mul (power_over i j) (power Q (row_of k (written.q i)) j)) equal
      ∙ there_map.on_mul (power_over i j) (power Q (row_of k (written.q i)) j)
      ∙ ap (D.mul (there (power_over i j))) (map-power Q D.ring
      (at_rho K s table w W weighs prime r relation D.ring D.laws h h_map rho) there_map
      (row_of k (written.q i)) j ∙ ap (λ t. power D.ring t j) (there-row (written.q i)))
    where
      equal : at_w K s table w W weighs prime (Q.mul (row_of k M) (power Q (over i) j))
          ≡ at_w K s table w W weighs prime
          (Q.mul (power_over i j) (power Q (row_of k (written.q i)) j))
      equal = map.on_mul _ _ ∙ ap₂ T.mul (at_w-row K s table w W weighs prime M)
          (map-power Q T (at_w K s table w W weighs prime) map (over i) j
          ∙ ap (λ t. power T t j) (at_w-listed K s table w W weighs prime s.rank
          (written.coefficients i) ∙ sym (written.writes i q)
          ∙ multiple-embed K s table (written.q i) (basis k s i))
          ∙ power-mul T TL (embed K s table (written.q i)) (basis k s i) j)
          ∙ ring3 T TL (λ m q b. m ⊗ (q ⊗ b)) (λ m q b. (m ⊗ b) ⊗ q) refl (embed K s table M)
          (power T (embed K s table (written.q i)) j) (power T (basis k s i) j)
          ∙ ap₂ T.mul (sym (multiple-embed K s table M (power T (basis k s i) j))
          ∙ sym (plane-value K s table w W weighs prime written (power T (basis k s i) j)))
          (ap (λ t. power T t j) (sym (at_w-row K s table w W weighs prime (written.q i)))
          ∙ sym (map-power Q T (at_w K s table w W weighs prime) map (row_of k (written.q i)) j))
          ∙ sym (map.on_mul _ _)

  found : (i : ℕ) → i < s.rank → (b : D.carrier) × (D.mul (h (written.q i)) b ≡ there (over i))
  unfolding M
  found i q = closed (there (over i)) (h (written.q i)) (h M)
      (h_nonzero (written.q i) (written.nonzero i q)) (h_nonzero M proper)
      (λ j. there (power_over i j)) (powers i q)
    where
      proper : P.same M P.zero ≡ false
      proper = (common K s table w W weighs prime written).proper

  pub images_exist : Images K s w written D h rho
  images_exist = record {
    image = λ i. pick i (cases_lt i s.rank);
    is_image = λ i q. is i q (cases_lt i s.rank)
        ∙ at_rho-listed K s table w W weighs prime r relation D.ring D.laws h h_map rho s.rank
        (written.coefficients i);
  }
    where
      pick : (i : ℕ) → (i < s.rank) ⊎ (s.rank ≤ i) → D.carrier
      pick i (inl q) = (found i q).0
      pick i (inr q) = D.zero

      is : (i : ℕ) → i < s.rank → (o : (i < s.rank) ⊎ (s.rank ≤ i))
          → D.mul (h (written.q i)) (pick i o) ≡ there (over i)
      is i q (inl o) = (found i o).1
      is i q (inr o) = absurd (omega arith)
