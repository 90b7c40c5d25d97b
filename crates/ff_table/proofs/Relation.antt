-- The relation of an element w whose weight is prime to e: w^e is a sum of multiples of the lower
-- powers over k[z].
use Rattle.std.proofs.Common.{◌≡◌, ℕ, zero, suc, pred, ◌+◌, ◌-◌, ◌*◌, ◌<◌, ◌≤◌, ◌⊎◌, inl, inr}
use Rattle.std.proofs.Common.{[], ◌∷◌, refl, sym, ◌∙◌, ap, ap₂, subst, arith}
use Rattle.std.proofs.lemmas.Bool.{cases_lt}
use Rattle.ff_theory.specs.Ring.{RingOps, IsCommRing, power}
use Rattle.ff_theory.specs.Lawful.{Field, Domain}
use Rattle.ff_theory.specs.Map.{IsMap}
use Rattle.ff_theory.specs.Divides.{Divides}
use Rattle.ff_theory.specs.Sum.{sum_below}
use Rattle.ff_theory.specs.Poly.{coeff, Poly, poly, polynomials}
use Rattle.ff_theory.specs.Division.{size, leading_coeff}
use Rattle.ff_theory.specs.Monomial.{variable}
use Rattle.ff_theory.specs.Planes.{planes, Plane, row_of}
use Rattle.ff_theory.proofs.Solver.{◌⊕◌, ◌⊗◌, neg, nil, unit, ring1, ring2, mul_zero}
use Rattle.ff_theory.proofs.Solver.{zero_mul}
use Rattle.ff_theory.proofs.Sums.{sum-ext, sum-mul}
use Rattle.ff_theory.proofs.Series.{mul_top}
use Rattle.ff_theory.proofs.Poly.{Poly_ext, trim-coeff, polynomial_laws}
use Rattle.ff_theory.proofs.Division.{add_at, neg_at, mul_at, x_mul_suc, zero_from, size-mul}
use Rattle.ff_theory.proofs.Division.{top_nonzero}
use Rattle.ff_theory.proofs.Gcd.{no_size}
use Rattle.ff_theory.proofs.PolyMap.{polynomial_domain, same_false, not_same}
use Rattle.ff_theory.proofs.ElementEuclid.{empty_plane, zero_plane_size}
use Rattle.ff_theory.proofs.Domains.{no_divisors}
use Rattle.ff_factors.specs.Factors.{IsPrimitivePart}
use Rattle.ff_factors.proofs.PrimitivePart.{primitive_part, primitive_size, scalar_nonzero}
use Rattle.ff_factors.proofs.Factored.{divisor_exact}
use Rattle.ff_charts.proofs.Rows.{polynomial_of, polynomial_at, polynomial_past, exact_size}
use Rattle.ff_charts.proofs.Rows.{poly_size}
use Rattle.ff_table.proofs.Sizes.{one-first, one-later}
use Rattle.ff_table.specs.Coords.{Coords}
use Rattle.ff_table.specs.Table.{Table, IsTable, table_ring, Weighs}
use Rattle.ff_table.specs.Level.{z_multiple, scaled}
use Rattle.ff_table.specs.Powers.{IsPrimeTo, power_sum, IsPowerSum, IsRelation}
use Rattle.ff_table.proofs.TableRing.{table_laws, zero_weight, table_domain}
use Rattle.ff_table.proofs.Scalars.{multiple-mul, zero-coeff}
use Rattle.ff_table.proofs.Multiples.{z_power, of_coefficients, coefficient, spread}
use Rattle.ff_table.proofs.Embedding.{embed, embed_map, embed-weight, multiple-embed}
use Rattle.ff_table.proofs.PowerSums.{independent}
use Rattle.ff_table.proofs.PowerValues.{Dependent, dependent, at_w, at_w-map, at_w-sum, at_w-listed}
use Rattle.ff_table.proofs.PowerValues.{at_w-power, at_w-row}
use Rattle.ff_table.proofs.PseudoDivision.{PseudoDivided, pseudo_divide}

module _ (K : Field) (s : Table K.ring) (table : IsTable K.ring s)
    (w : Coords (polynomials K.ring) s.rank) (W : ℕ) (weighs : Weighs K.ring s w W)
    (prime : IsPrimeTo s.rank W) where
  abbrev k : RingOps
  k = K.ring

  abbrev P : Domain
  P = polynomial_domain K

  abbrev T : RingOps
  T = table_ring K.ring s

  abbrev C : Type 0
  C = Coords (polynomials K.ring) s.rank

  abbrev Q : RingOps
  Q = planes K

  abbrev e : ℕ
  e = s.rank

  TL : IsCommRing T
  TL = table_laws K s table

  QL : IsCommRing (planes K)
  QL = polynomial_laws P.ring P.laws P.tests

  abbrev value : Plane K → C
  value F = at_w K s table w W weighs prime F

  map : IsMap (planes K) (table_ring K.ring s) (at_w K s table w W weighs prime)
  map = at_w-map K s table w W weighs prime

  abbrev X : Plane K
  X = variable (polynomials K.ring)

  -- the coefficients of X^n * F
  pub power-at : (n : ℕ) (F : Plane K) (i : ℕ)
      → coeff (polynomials K.ring)
      ((planes K).mul (power (planes K) (variable (polynomials K.ring)) n) F).coeffs (n + i)
      ≡ coeff (polynomials K.ring) F.coeffs i
  power-at zero F i = let z : zero + i ≡ i = omega arith in
      ap (coeff P.ring (Q.mul Q.one F).coeffs) z
      ∙ ap (λ (p : Plane K). coeff P.ring p.coeffs i) (ring1 Q QL (λ f. unit ⊗ f) (λ f. f) refl F)
  power-at (suc n) F i = let z : suc n + i ≡ suc (n + i) = omega arith in
      ap (coeff P.ring (Q.mul (power Q X (suc n)) F).coeffs) z
      ∙ ap (λ (p : Plane K). coeff P.ring p.coeffs (suc (n + i)))
      (QL.mul_assoc X (power Q X n) F)
      ∙ x_mul_suc P.ring P.laws P.tests (Q.mul (power Q X n) F) (n + i) ∙ power-at n F i

  -- a polynomial over k[z] that is zero at w, with the coefficients of F from index e on
  record Vanishing (F : Plane K) : Type 0 where
    pub plane : Plane K
    pub zero : value plane ≡ T.zero
    pub high : (i : ℕ) → coeff P.ring plane.coeffs (e + i) ≡ coeff P.ring F.coeffs i

  vanishing : (F : Plane K) → IsPowerSum k s w (T.mul (power T w e) (value F)) → Vanishing F
  vanishing F h = record {
    plane = Q.add (Q.mul (power Q X e) F) (Q.neg S);
    zero = map.on_add (Q.mul (power Q X e) F) (Q.neg S)
        ∙ ap₂ T.add (map.on_mul (power Q X e) F
        ∙ ap (λ t. T.mul t (value F)) (at_w-power K s table w W weighs prime e) ∙ h.sum)
        (map.on_neg S ∙ ap T.neg (at_w-listed K s table w W weighs prime e h.coefficients))
        ∙ TL.add_neg (power_sum k s w e h.coefficients);
    high = λ i. add_at P.ring P.laws P.tests (Q.mul (power Q X e) F) (Q.neg S) (e + i)
        ∙ ap₂ P.add (power-at e F i) (neg_at P.ring P.laws P.tests S (e + i)
        ∙ ap P.neg (polynomial_past P.ring P.laws P.tests e h.coefficients (e + i) (omega arith)))
        ∙ ring1 P.ring P.laws (λ a. a ⊕ neg nil) (λ a. a) refl (coeff P.ring F.coeffs i);
  }
    where
      S : Plane K
      S = polynomial_of P.ring P.laws P.tests e h.coefficients

  -- constants as coefficients: one that vanishes at w, of degree at least e
  powers : ℕ → C
  powers i = T.mul (power T w e) (power T w i)

  high_powers : Dependent K s table w W weighs prime powers
  high_powers = dependent K s table w W weighs prime powers

  constants : Plane K
  constants = polynomial_of P.ring P.laws P.tests (suc (e * W))
      (λ i. poly k (high_powers.coefficients i ∷ []))

  upper : Vanishing constants
  unfolding constants powers
  upper = vanishing constants (subst (IsPowerSum k s w) (sym sums) high_powers.inside)
    where
      sums : T.mul (power T w e) (value constants)
          ≡ sum_below T (suc (e * W)) (λ i. scaled k s (high_powers.coefficients i) (powers i))
      sums = ap (T.mul (power T w e)) (at_w-listed K s table w W weighs prime (suc (e * W))
          (λ i. poly k (high_powers.coefficients i ∷ [])))
          ∙ sym (sum-mul T TL (suc (e * W)) (power T w e)
          (λ i. scaled k s (high_powers.coefficients i) (power T w i)))
          ∙ sum-ext T TL (suc (e * W)) _ _ (λ i l. TL.mul_comm (power T w e) _
          ∙ multiple-mul K s (poly k (high_powers.coefficients i ∷ [])) (power T w i) (power T w e)
          ∙ ap (scaled k s (high_powers.coefficients i)) (TL.mul_comm (power T w i) (power T w e)))

  constant-small : (i : ℕ) → size k (coeff P.ring constants.coeffs i) ≤ 1
  unfolding constants
  constant-small i = go (cases_lt i (suc (e * W)))
    where
      go : (i < suc (e * W)) ⊎ (suc (e * W) ≤ i) → size k (coeff P.ring constants.coeffs i) ≤ 1
      go (inl l) = let z : size k (coeff P.ring constants.coeffs i)
          ≡ size k (poly k (high_powers.coefficients i ∷ [])) = ap (size k)
          (polynomial_at P.ring P.laws P.tests (suc (e * W))
          (λ i. poly k (high_powers.coefficients i ∷ [])) i l) in
          omega (arith, z, poly_size k K.laws K.tests (high_powers.coefficients i ∷ []))
      go (inr l) = let z : size k (coeff P.ring constants.coeffs i) ≡ size k P.zero = ap (size k)
          (polynomial_past P.ring P.laws P.tests (suc (e * W))
          (λ i. poly k (high_powers.coefficients i ∷ [])) i l) in
          omega (arith, z, poly_size k K.laws K.tests [])

  upper-nonzero : ¬ (upper.plane ≡ Q.zero)
  unfolding constants poly
  upper-nonzero z = high_powers.nonzero
      (sym (trim-coeff k K.laws K.tests (high_powers.coefficients high_powers.place ∷ []) 0)
      ∙ ap (λ (p : Poly K.ring). coeff k p.coeffs 0)
      (sym (polynomial_at P.ring P.laws P.tests (suc (e * W))
      (λ i. poly k (high_powers.coefficients i ∷ [])) high_powers.place high_powers.below)
      ∙ sym (upper.high high_powers.place)
      ∙ ap (λ (p : Plane K). coeff P.ring p.coeffs (e + high_powers.place)) z
      ∙ zero-coeff P.ring (e + high_powers.place)))

  -- and one of degree e
  multiples : ℕ → C
  multiples i = z_multiple k s (z_power K s table i) (power T w e)

  high_multiples : Dependent K s table w W weighs prime multiples
  high_multiples = dependent K s table w W weighs prime multiples

  leading : Poly K.ring
  leading = of_coefficients K s table (suc (e * W)) high_multiples.coefficients

  leading-nonzero : ¬ (leading ≡ P.zero)
  unfolding leading
  leading-nonzero z = high_multiples.nonzero
      (sym (coefficient K s table (suc (e * W)) high_multiples.place high_multiples.coefficients
      high_multiples.below) ∙ ap (λ (p : Poly K.ring). coeff k p.coeffs high_multiples.place) z
      ∙ zero-coeff k high_multiples.place)

  exact : Vanishing (row_of k leading)
  unfolding leading multiples
  exact = vanishing (row_of k leading) (subst (IsPowerSum k s w) (sym sums) high_multiples.inside)
    where
      sums : T.mul (power T w e) (value (row_of k leading))
          ≡ sum_below T (suc (e * W))
          (λ i. scaled k s (high_multiples.coefficients i) (multiples i))
      sums = ap (T.mul (power T w e)) (at_w-row K s table w W weighs prime leading)
          ∙ TL.mul_comm (power T w e) (embed K s table leading)
          ∙ sym (multiple-embed K s table leading (power T w e))
          ∙ spread K s table (suc (e * W)) high_multiples.coefficients (power T w e)

  exact-leading : coeff P.ring exact.plane.coeffs e ≡ leading
  unfolding poly
  exact-leading = let z : e ≡ e + 0 = omega arith in ap (coeff P.ring exact.plane.coeffs) z
      ∙ exact.high 0 ∙ trim-coeff P.ring P.laws P.tests (leading ∷ []) 0

  exact-past : (i : ℕ) → e < i → coeff P.ring exact.plane.coeffs i ≡ P.zero
  unfolding poly
  exact-past i l = let z : i ≡ e + suc (i - suc e) = omega (arith, l) in
      ap (coeff P.ring exact.plane.coeffs) z ∙ exact.high (suc (i - suc e))
      ∙ trim-coeff P.ring P.laws P.tests (leading ∷ []) (suc (i - suc e))

  exact-size : size P.ring exact.plane ≡ suc e
  exact-size = exact_size P.ring P.laws P.tests exact.plane e
      (λ z. leading-nonzero (sym exact-leading ∙ z)) exact-past

  exact-nonzero : ¬ (exact.plane ≡ Q.zero)
  exact-nonzero z = let h : size P.ring exact.plane ≡ 0 = ap (size P.ring) z ∙ zero_plane_size K in
      absurd (omega (arith, h, exact-size))

  -- without the common factors of its coefficients
  part : (c : Poly K.ring) × (F : Plane K) × IsPrimitivePart K.ring exact.plane c F
  part = primitive_part K exact.plane exact-nonzero

  F : Plane K
  F = part.1

  F-size : size P.ring F ≡ suc e
  unfolding F
  F-size = primitive_size K exact.plane part.0 part.1 exact-nonzero part.2 ∙ exact-size

  F-zero : value F ≡ T.zero
  unfolding F
  F-zero = no_divisors (table_domain K s table) (value part.1) (embed K s table part.0)
      (TL.mul_comm (value part.1) (embed K s table part.0)
      ∙ ap (λ t. T.mul t (value part.1)) (sym (at_w-row K s table w W weighs prime part.0))
      ∙ sym (map.on_mul (row_of k part.0) part.1) ∙ ap value (sym part.2.product) ∙ exact.zero)
      (embed-nonzero part.0 (not_same P.ring P.tests part.0 P.zero
      (scalar_nonzero K exact.plane part.0 part.1 exact-nonzero part.2.product)))
    where
      embed-nonzero : (p : Poly K.ring) → ¬ (p ≡ P.zero) → ¬ (embed K s table p ≡ T.zero)
      embed-nonzero p n z = go (size k p) refl
        where
          go : (m : ℕ) → size k p ≡ m → ⊥
          go zero h = n (no_size K p h)
          go (suc d) h = absurd (zero_weight K s table (e * d)
              (subst (λ a. Weighs k s a (e * d)) z (embed-weight K s table p d h)))

  -- it divides each polynomial that vanishes at w
  divides : (G : Plane K) → value G ≡ T.zero → Divides (planes K) F G
  unfolding F
  divides G vanish = divisor_exact K F G part.2.normalised.primitive (record {
    scalar = d.c;
    nonzero = d.nonzero;
    quotient = d.q;
    product = d.sum ∙ ap (Q.add (Q.mul d.q F)) rest-zero
        ∙ ring2 Q QL (λ a b. a ⊕ nil) (λ a b. a) refl (Q.mul d.q F) F;
  })
    where
      d : PseudoDivided P F e F-size (same_false P.ring P.tests _ P.zero
          (top_nonzero P.ring P.laws P.tests F e F-size)) G
      d = pseudo_divide P F e F-size (same_false P.ring P.tests _ P.zero
          (top_nonzero P.ring P.laws P.tests F e F-size)) G

      rest-value : value d.r ≡ T.zero
      rest-value = ring2 T TL (λ r q. r) (λ r q. q ⊗ nil ⊕ r) refl (value d.r) (value d.q)
          ∙ ap (λ t. T.add (T.mul (value d.q) t) (value d.r)) (sym F-zero)
          ∙ ap (λ t. T.add t (value d.r)) (sym (map.on_mul d.q F))
          ∙ sym (map.on_add (Q.mul d.q F) d.r) ∙ ap value (sym d.sum)
          ∙ map.on_mul (row_of k d.c) G ∙ ap (T.mul (value (row_of k d.c))) vanish
          ∙ mul_zero T TL (value (row_of k d.c))

      rest-zero : d.r ≡ Q.zero
      rest-zero = Poly_ext P.ring P.laws P.tests d.r Q.zero
          (λ i. each i (cases_lt i e) ∙ sym (zero-coeff P.ring i))
        where
          each : (i : ℕ) → (i < e) ⊎ (e ≤ i) → coeff P.ring d.r.coeffs i ≡ P.zero
          each i (inl l) = independent K s table w W weighs prime (coeff P.ring d.r.coeffs)
              (sym (at_w-sum K s table w W weighs prime d.r e d.small) ∙ rest-value) i l
          each i (inr l) = zero_from P.ring P.laws P.tests d.r i (omega (arith, l, d.small))

  -- so its leading coefficient is one
  F-monic : coeff P.ring F.coeffs e ≡ P.one
  unfolding F
  F-monic = go (divides upper.plane upper.zero)
    where
      row : Poly K.ring
      row = coeff P.ring F.coeffs e

      row-one : size k row ≡ 1 → row ≡ P.one
      row-one h = Poly_ext k K.laws K.tests row P.one at
        where
          at : (i : ℕ) → coeff k row.coeffs i ≡ coeff k P.one.coeffs i
          at zero = ap (λ n. coeff k row.coeffs (pred n)) (sym h)
              ∙ ap (λ n. leading_coeff k (coeff P.ring F.coeffs (pred n))) (sym F-size)
              ∙ part.2.normalised.leading_one ∙ sym (one-first K)
          at (suc i) = zero_from k K.laws K.tests row (suc i) (omega (arith, h))
              ∙ sym (one-later K i)

      go : Divides (planes K) F upper.plane → row ≡ P.one
      go (u, product) = sizes (size P.ring u) refl
        where
          sizes : (m : ℕ) → size P.ring u ≡ m → row ≡ P.one
          sizes zero h = absurd (upper-nonzero (product ∙ ap (λ t. Q.mul t F) (empty_plane K u h)
              ∙ zero_mul Q QL F))
          sizes (suc m) h = row-one (one (size k (coeff P.ring u.coeffs m)) refl (size k row) refl)
            where
              both : P.mul (coeff P.ring u.coeffs m) row ≡ coeff P.ring constants.coeffs m
              both = sym (mul_top P.ring P.laws (coeff P.ring u.coeffs) (coeff P.ring F.coeffs) m e
                  (m + e) (λ i l. zero_from P.ring P.laws P.tests u i (omega (arith, h, l)))
                  (λ i l. zero_from P.ring P.laws P.tests F i (omega (arith, F-size, l))) refl)
                  ∙ sym (mul_at P.ring P.laws P.tests u F (m + e))
                  ∙ ap (λ (p : Plane K). coeff P.ring p.coeffs (m + e)) (sym product)
                  ∙ (let z : m + e ≡ e + m = omega arith in ap (coeff P.ring upper.plane.coeffs) z)
                  ∙ upper.high m

              one : (x : ℕ) → size k (coeff P.ring u.coeffs m) ≡ x → (y : ℕ) → size k row ≡ y
                  → size k row ≡ 1
              one zero hx y hy = absurd (top_nonzero P.ring P.laws P.tests u m h
                  (no_size K (coeff P.ring u.coeffs m) hx))
              one (suc x) hx zero hy = absurd (top_nonzero P.ring P.laws P.tests F e F-size
                  (no_size K row hy))
              one (suc x) hx (suc y) hy = omega (
                arith,
                hy,
                size-mul K (coeff P.ring u.coeffs m) row x y
                    hx hy,
                ap (size k) both,
                constant-small m,
              )

  -- the relation
  pub relation : (r : ℕ → Poly K.ring) × IsRelation K.ring s w r
  unfolding F
  relation = (
    coeff P.ring F.coeffs,
    record {
      vanishes = TL.add_comm (power T w e) (power_sum k s w e (coeff P.ring F.coeffs))
          ∙ ap (T.add (power_sum k s w e (coeff P.ring F.coeffs)))
          (ring1 T TL (λ a. a) (λ a. unit ⊗ a) refl (power T w e)
          ∙ ap (λ t. T.mul t (power T w e)) (sym (embed_map K s table).on_one
          ∙ ap (embed K s table) (sym F-monic))
          ∙ sym (multiple-embed K s table (coeff P.ring F.coeffs e) (power T w e)))
          ∙ sym (at_w-sum K s table w W weighs prime F (suc e) (omega (arith, F-size))) ∙ F-zero;
      least = independent K s table w W weighs prime;
    },
  )
