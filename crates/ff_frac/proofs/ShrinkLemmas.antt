-- Rows that a polynomial divides, their quotients, and divisors of powers of the variable.
use Rattle.std.proofs.Common.{◌≡◌, ℕ, zero, suc, pred, ◌+◌, ◌-◌, ◌<◌, ◌≤◌, ◌⊎◌, inl, inr, Bool}
use Rattle.std.proofs.Common.{true, false}
use Rattle.std.proofs.Common.{List, [], length, refl, sym, ◌∙◌, ap, subst, arith}
use Rattle.std.proofs.lemmas.Bool.{cases_lt}
use Rattle.ff_theory.specs.Ring.{RingOps, Elements, power}
use Rattle.ff_theory.specs.Lawful.{Domain, Field, Lawful, lawful_field}
use Rattle.ff_theory.specs.Poly.{coeff, Poly, poly, polynomials}
use Rattle.ff_theory.specs.Divides.{Divides, IsCoprime}
use Rattle.ff_theory.specs.Division.{size, IsDivision}
use Rattle.ff_theory.specs.Monomial.{variable}
use Rattle.ff_theory.specs.Planes.{planes, Plane, row_of}
use Rattle.ff_theory.specs.Values.{poly_of, polys_of, plane_of, IsPoly}
use Rattle.ff_theory.proofs.Solver.{◌⊕◌, ◌⊗◌, nil, ring2, ring3, ring6, zero_mul, mul_zero}
use Rattle.ff_theory.proofs.Poly.{Poly_ext}
use Rattle.ff_theory.proofs.Powers.{power-add}
use Rattle.ff_theory.proofs.Product.{poly-coeff}
use Rattle.ff_theory.proofs.Coeffs.{coeff-map, coeff-past}
use Rattle.ff_theory.proofs.Divides.{divides_zero}
use Rattle.ff_theory.proofs.Division.{const_mul_at, add_at, size-mul, one_division}
use Rattle.ff_theory.proofs.PolyMap.{polynomial_domain, zero_size, nonzero_size, one_size, not_same}
use Rattle.ff_theory.proofs.PolyMap.{same_false}
use Rattle.ff_charts.specs.Lattice.{flat}
use Rattle.ff_charts.proofs.VariablePowers.{zeros, after_zeros, splits_list, starts_nonzero}
use Rattle.ff_charts.proofs.VariablePowers.{coprime_power}
use Rattle.ff_quotients.proofs.QuotientResidues.{variable_power_size}
use Rattle.ff_poly.proofs.LongDivision.{poly-size}
use Rattle.ff_lattice.specs.Residues.{AreResidues}
use Rattle.ff_data.specs.Numerators.{AreQuotients}
use Rattle.ff_frac.specs.Shrinking.{DividesRows, HasMultiple, IsQuotientVector}
use Rattle.ff_frac.proofs.FractionLemmas.{listed_shape}

module _ (K : Field) where
  abbrev D : Domain
  D = polynomial_domain K

  abbrev R : RingOps
  R = polynomials K.ring

  abbrev X : Poly K.ring
  X = variable K.ring

  -- the one quotient where the divisor divides
  module _ (b : Poly K.ring)
      (nonzero : (polynomials K.ring).same b (polynomials K.ring).zero ≡ false) where
    k : (k : ℕ) × (size K.ring b ≡ suc k)
    k = nonzero_size K b nonzero

    exact : (a : Poly K.ring) (h : Divides (polynomials K.ring) b a) → IsDivision K.ring a b h.0
        (polynomials K.ring).zero
    exact a h = record {
      sum = h.1 ∙ sym (D.laws.add_zero (D.mul h.0 b));
      smaller = let z = zero_size K in omega (arith, z, k.1);
    }

    pub exact_division : (a q r : Poly K.ring) → IsDivision K.ring a b q r
        → Divides (polynomials K.ring) b a → a ≡ (polynomials K.ring).mul b q
    exact_division a q r d h = h.1
        ∙ ap (λ t. D.mul t b) (sym (one_division K b k.0 k.1 a q r h.0 R.zero d (exact a h)).0)
        ∙ D.laws.mul_comm q b

    -- a remainder of what is smaller
    pub small_remainder : (a q r : Poly K.ring) → IsDivision K.ring a b q r
        → size K.ring a < size K.ring b → r ≡ a
    small_remainder a q r d s = (one_division K b k.0 k.1 a
        q r R.zero a d (record {
          sum = ring2 R D.laws (λ a b. a) (λ a b. nil ⊗ b ⊕ a) refl a b;
          smaller = s;
        })).1

  -- a divisor of a power of the variable is a multiple of one of as many coefficients
  pub power_divisor : (a : Poly K.ring) (i j : ℕ) → size K.ring a ≡ suc i
      → Divides (polynomials K.ring) a (power (polynomials K.ring) (variable K.ring) j)
      → Divides (polynomials K.ring) (power (polynomials K.ring) (variable K.ring) i) a
  power_divisor a i j has h = subst (λ n. Divides R (power R X n) a) index
      (s, whole ∙ D.laws.mul_comm xi s)
    where
      na : ¬ (a ≡ R.zero)
      na e = let z = zero_size K in let t = ap (size K.ring) e in omega (arith, has, t, z)

      xi : Poly K.ring
      xi = power R X (zeros K a.coeffs)

      s : Poly K.ring
      s = after_zeros K a.coeffs

      self : poly K.ring a.coeffs ≡ a
      self = Poly_ext K.ring K.laws K.tests (poly K.ring a.coeffs) a
          (poly-coeff K.ring K.laws K.tests a.coeffs)

      whole : a ≡ R.mul xi s
      whole = sym self ∙ splits_list K a.coeffs (λ z. na (sym self ∙ z))

      apart : IsCoprime R s (power R X j)
      apart = coprime_power K s (not_same K.ring K.tests _ _ (starts_nonzero K a.coeffs)) j

      y : Poly K.ring
      y = R.add apart.u (R.mul (R.mul apart.v h.0) xi)

      inverse : R.mul y s ≡ R.one
      inverse = ring6 R D.laws (λ u v q x s z. (u ⊕ (v ⊗ q) ⊗ x) ⊗ s)
          (λ u v q x s z. u ⊗ s ⊕ v ⊗ (q ⊗ (x ⊗ s))) refl apart.u apart.v h.0 xi s s
          ∙ ap (λ t. R.add (R.mul apart.u s) (R.mul apart.v t))
          (ap (R.mul h.0) (sym whole) ∙ sym h.1) ∙ apart.one

      small : (b e : Bool) → R.same y R.zero ≡ b → R.same s R.zero ≡ e → size K.ring s ≡ 1
      small true e p q = absurd (not_same R D.tests R.one R.zero D.proper (sym inverse
          ∙ ap (λ t. R.mul t s) (D.tests.same_true y R.zero p) ∙ zero_mul R D.laws s))
      small false true p q = absurd (not_same R D.tests R.one R.zero D.proper (sym inverse
          ∙ ap (R.mul y) (D.tests.same_true s R.zero q) ∙ mul_zero R D.laws y))
      small false false p q = let m = nonzero_size K y p in let n = nonzero_size K s q in
          let o : size K.ring R.one ≡ 1 = one_size K in
          let t : size K.ring (R.mul y s) ≡ suc (m.0 + n.0) = size-mul K y s m.0 n.0 m.1 n.1 in
          let e = ap (size K.ring) inverse in omega (arith, o, t, e, n.1)

      index : zeros K a.coeffs ≡ i
      index = let t : size K.ring (R.mul xi s) ≡ suc (zeros K a.coeffs + 0) = size-mul K xi s
          (zeros K a.coeffs) 0
          (variable_power_size K (zeros K a.coeffs)) (small _ _ refl refl) in
          let e = ap (size K.ring) whole in omega (arith, t, e, has)

  -- the quotient of a power of the variable by one
  pub power_quotient : (i j m : ℕ) (q : Poly K.ring)
      → power (polynomials K.ring) (variable K.ring) j
      ≡ (polynomials K.ring).mul (power (polynomials K.ring) (variable K.ring) i) q
      → size K.ring q ≡ suc m → power (polynomials K.ring) (variable K.ring) j
      ≡ (polynomials K.ring).mul (power (polynomials K.ring) (variable K.ring) i)
      (power (polynomials K.ring) (variable K.ring) m)
  power_quotient i j m q e has = ap (power R X) sum ∙ power-add R D.laws X i m
    where
      sum : j ≡ i + m
      sum = let s : size K.ring (R.mul (power R X i) q) ≡ suc (i + m) = size-mul K
          (power R X i) q i m (variable_power_size K i) has in
          let t = ap (size K.ring) e in let u = variable_power_size K j in omega (arith, s, t, u)

module _ (F : Elements ℕ) (L : Lawful F) where
  abbrev E : Domain
  E = polynomial_domain (lawful_field L)

  -- a row of a plane
  row_at : (rows : List (List ℕ)) (i : ℕ) → coeff (polynomials F.ring) (plane_of F rows).coeffs i
      ≡ coeff (polynomials F.ring) (polys_of F rows) i
  row_at rows i = poly-coeff E.ring E.laws E.tests (polys_of F rows) i

  divided_row : (g : Poly F.ring) (rows : List (List ℕ)) → DividesRows F g rows → (i : ℕ)
      → Divides (polynomials F.ring) g (coeff (polynomials F.ring) (plane_of F rows).coeffs i)
  divided_row g rows h i = go (cases_lt i (length rows))
    where
      go : (i < length rows) ⊎ (length rows ≤ i)
          → Divides (polynomials F.ring) g (coeff (polynomials F.ring) (plane_of F rows).coeffs i)
      go (inl q) = subst (Divides (polynomials F.ring) g) (sym (row_at rows i
          ∙ coeff-map E.ring (λ p. poly_of F p) rows i [] q)) (h i q)
      go (inr q) = subst (Divides (polynomials F.ring) g) (sym (row_at rows i
          ∙ coeff-past E.ring (λ p. poly_of F p) rows i q)) (divides_zero E.ring E.laws g)

  -- the vector of the residue of the quotient
  pub quotient_vector_is : (n : ℕ) (by m : List ℕ) → IsPoly F by → 0 < length by → IsPoly F m
      → 0 < length m → (rows : List (List ℕ)) → length rows ≤ n → HasMultiple F n by m rows
      → (Q : List (List ℕ)) → length Q ≤ n → AreQuotients F (poly_of F by) (plane_of F rows)
      (plane_of F Q) → (low : Plane (lawful_field L))
      → AreResidues F.ring (poly_of F m) (plane_of F Q) low → (w : ℕ → F.carrier)
      → ((j : ℕ) → w j ≡ flat F.ring (pred (length m)) low j)
      → IsQuotientVector F n (pred (length m)) (poly_of F by) (plane_of F rows) w
  quotient_vector_is n by m hb pb hm pm rows few h Q short q low r w v = record {
    part = low;
    shape = listed_shape F L m hm n Q low r short;
    vector = v;
    product = whole;
  }
    where
      b_size : size F.ring (poly_of F by) ≡ length by
      b_size = poly-size F.ring L.laws L.tests F.value by hb.canonical

      m_size : size F.ring (poly_of F m) ≡ length m
      m_size = poly-size F.ring L.laws L.tests F.value m hm.canonical

      nonzero_of : (p : Poly F.ring) → 0 < size F.ring p
          → (polynomials F.ring).same p (polynomials F.ring).zero ≡ false
      nonzero_of p s = same_false E.ring E.tests p E.zero
          (λ e. let z = zero_size (lawful_field L) in let t = ap (size F.ring) e in
          omega (arith, s, t, z))

      b_nonzero : (polynomials F.ring).same (poly_of F by) (polynomials F.ring).zero ≡ false
      b_nonzero = nonzero_of (poly_of F by) (omega (arith, pb, b_size))

      m_nonzero : (polynomials F.ring).same (poly_of F m) (polynomials F.ring).zero ≡ false
      m_nonzero = nonzero_of (poly_of F m) (omega (arith, pm, m_size))

      exact_row : (i : ℕ) → coeff (polynomials F.ring) (plane_of F rows).coeffs i
          ≡ E.mul (poly_of F by) (coeff (polynomials F.ring) (plane_of F Q).coeffs i)
      exact_row i = exact_division (lawful_field L) (poly_of F by) b_nonzero _ _ (q i).0 (q i).1
          (divided_row (poly_of F by) rows h.divides i)

      small : (i : ℕ) → size F.ring (coeff (polynomials F.ring) (plane_of F Q).coeffs i)
          < size F.ring (poly_of F m)
      small i = go (size F.ring (coeff (polynomials F.ring) (plane_of F Q).coeffs i)) refl
        where
          go : (s : ℕ) → size F.ring (coeff (polynomials F.ring) (plane_of F Q).coeffs i) ≡ s
              → size F.ring (coeff (polynomials F.ring) (plane_of F Q).coeffs i)
              < size F.ring (poly_of F m)
          go zero e = omega (arith, e, pm, m_size)
          go (suc a) e = let t : size F.ring (E.mul (poly_of F by)
              (coeff (polynomials F.ring) (plane_of F Q).coeffs i)) ≡ suc (pred (length by) + a)
              = size-mul (lawful_field L) (poly_of F by)
              (coeff (polynomials F.ring) (plane_of F Q).coeffs i) (pred (length by)) a
              (omega (arith, b_size, pb)) e in let u = ap (size F.ring) (exact_row i) in
              let v : size F.ring (coeff (polynomials F.ring) (plane_of F rows).coeffs i)
              ≤ pred (length by) + pred (length m) = h.shape.each i in
              omega (arith, t, u, v, e, pm, m_size)

      kept : (i : ℕ) → coeff (polynomials F.ring) low.coeffs i
          ≡ coeff (polynomials F.ring) (plane_of F Q).coeffs i
      kept i = small_remainder (lawful_field L) (poly_of F m) m_nonzero _
          (coeff (polynomials F.ring) r.quotient.coeffs i) _ (record {
            sum = ap (λ (T : Plane (lawful_field L)). coeff (polynomials F.ring) T.coeffs i) r.sum
                ∙ add_at E.ring E.laws E.tests low _ i
                ∙ ap (E.add (coeff (polynomials F.ring) low.coeffs i))
                (const_mul_at E.ring E.laws E.tests (poly_of F m) r.quotient i)
                ∙ ring3 E.ring E.laws (λ r d q. r ⊕ d ⊗ q) (λ r d q. q ⊗ d ⊕ r) refl
                (coeff (polynomials F.ring) low.coeffs i) (poly_of F m)
                (coeff (polynomials F.ring) r.quotient.coeffs i);
            smaller = r.each i;
          }) (small i)

      whole : plane_of F rows
          ≡ (planes (lawful_field L)).mul (row_of F.ring (poly_of F by)) low
      whole = Poly_ext E.ring E.laws E.tests (plane_of F rows) _ (λ i. exact_row i
          ∙ ap (E.mul (poly_of F by)) (sym (kept i))
          ∙ sym (const_mul_at E.ring E.laws E.tests (poly_of F by) low i))
