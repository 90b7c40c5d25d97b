-- Planes with few short rows, and the vectors that list their coefficients.
use Rattle.std.proofs.Common.{◌≡◌, ℕ, zero, suc, ◌+◌ as plus_ℕ, ◌*◌ as times_ℕ, ◌/◌, ◌%◌, ◌<◌, ◌≤◌}
use Rattle.std.proofs.Common.{◌⊎◌, inl, inr, [], ◌∷◌, sym, ◌∙◌, ap, ap₂, arith}
use Rattle.std.proofs.lemmas.Bool.{cases_lt}
use Rattle.std.proofs.lemmas.Nat.{div-mul-add, mod-mul-add, mul-add-lt, mod_below}
use Rattle.std.proofs.lemmas.Nat.{div-add-mod'}
use Rattle.ff_theory.specs.Lawful.{Domain, Field}
use Rattle.ff_theory.specs.Poly.{coeff, Poly, poly, polynomials}
use Rattle.ff_theory.specs.Division.{size}
use Rattle.ff_theory.specs.Planes.{planes, Plane}
use Rattle.ff_theory.specs.Span.{EndsAt}
use Rattle.ff_theory.proofs.Division.{add_at, neg_at, const_mul_at, zero_from}
use Rattle.ff_theory.proofs.PolyMap.{polynomial_domain, zero_size}
use Rattle.ff_charts.specs.Lattice.{HasShape, flat}
use Rattle.ff_charts.proofs.Rows.{polynomial_of, polynomial_at, polynomial_past, polynomial_size}
use Rattle.ff_charts.proofs.Rows.{equal_below}

times-mono : (p j m : ℕ) → j ≤ m → times_ℕ p j ≤ times_ℕ p m
times-mono zero j m l = omega arith
times-mono (suc p) j m l = let h : times_ℕ p j ≤ times_ℕ p m = times-mono p j m l in let a : times_ℕ
    (suc p) j ≡ plus_ℕ j (times_ℕ p j) = omega arith in
    let b : times_ℕ (suc p) m ≡ plus_ℕ m (times_ℕ p m) = omega arith in omega (arith, h, a, b, l)

module _ (K : Field) (l : ℕ) where
  abbrev P : Domain
  P = polynomial_domain K

  abbrev row_at : Plane K → ℕ → Poly K.ring
  row_at N i = coeff (polynomials K.ring) N.coeffs i

  pub flat_add : (M N : Plane K) (j : ℕ) → flat K.ring l ((planes K).add M N) j
      ≡ K.add (flat K.ring l M j) (flat K.ring l N j)
  flat_add M N j = ap (λ (h : Poly K.ring). coeff K.ring h.coeffs (j % l))
      (add_at (polynomials K.ring) P.laws P.tests M N (j / l))
      ∙ add_at K.ring K.laws K.tests (row_at M (j / l)) (row_at N (j / l)) (j % l)

  pub flat_neg : (N : Plane K) (j : ℕ) → flat K.ring l ((planes K).neg N) j
      ≡ K.neg (flat K.ring l N j)
  flat_neg N j = ap (λ (h : Poly K.ring). coeff K.ring h.coeffs (j % l))
      (neg_at (polynomials K.ring) P.laws P.tests N (j / l))
      ∙ neg_at K.ring K.laws K.tests (row_at N (j / l)) (j % l)

  -- a constant times a plane
  pub flat_scale : (a : K.carrier) (N : Plane K) (j : ℕ)
      → flat K.ring l ((planes K).mul (poly (polynomials K.ring) (poly K.ring (a ∷ []) ∷ [])) N) j
      ≡ K.mul a (flat K.ring l N j)
  flat_scale a N j = ap (λ (h : Poly K.ring). coeff K.ring h.coeffs (j % l))
      (const_mul_at (polynomials K.ring) P.laws P.tests (poly K.ring (a ∷ [])) N (j / l))
      ∙ const_mul_at K.ring K.laws K.tests a (row_at N (j / l)) (j % l)

  pub flat_zero : (j : ℕ) → flat K.ring l (planes K).zero j ≡ K.zero
  flat_zero j = ap (λ (h : Poly K.ring). coeff K.ring h.coeffs (j % l))
      (polynomial_past (polynomials K.ring) P.laws P.tests 0 (λ i. P.zero) (j / l) (omega arith))
      ∙ polynomial_past K.ring K.laws K.tests 0 (λ i. K.zero) (j % l) (omega arith)

  module _ (n : ℕ) where
    -- the entry of row i and power j
    pub flat_at : (N : Plane K) (i j : ℕ) → j < l → flat K.ring l N (plus_ℕ (times_ℕ i l) j)
        ≡ coeff K.ring (coeff (polynomials K.ring) N.coeffs i).coeffs j
    flat_at N i j h = ap₂ (λ a b. coeff K.ring (row_at N a).coeffs b) (div-mul-add i l j h)
        (mod-mul-add i l j h)

    -- planes of one shape with one vector are equal
    pub flat_one : (M N : Plane K) → HasShape K.ring n l M → HasShape K.ring n l N
        → ((j : ℕ) → flat K.ring l M j ≡ flat K.ring l N j) → M ≡ N
    flat_one M N p q h = equal_below (polynomials K.ring) P.laws P.tests M N n p.rows q.rows
        (λ i s. equal_below K.ring K.laws K.tests (row_at M i) (row_at N i) l (p.each i) (q.each i)
        (λ j t. sym (flat_at M i j t) ∙ h (plus_ℕ (times_ℕ i l) j) ∙ flat_at N i j t))

    -- the plane of a vector
    abbrev pub plane_with : (ℕ → K.carrier) → Plane K
    plane_with v = polynomial_of (polynomials K.ring) P.laws P.tests n
        (λ i. polynomial_of K.ring K.laws K.tests l (λ j. v (plus_ℕ (times_ℕ i l) j)))

    pub plane_with_shape : (v : ℕ → K.carrier) → HasShape K.ring n l (plane_with v)
    plane_with_shape v = record {
      rows = polynomial_size (polynomials K.ring) P.laws P.tests n g;
      each = λ i. go i (cases_lt i n);
    }
      where
        g : ℕ → Poly K.ring
        g i = polynomial_of K.ring K.laws K.tests l (λ j. v (plus_ℕ (times_ℕ i l) j))

        go : (i : ℕ) → (i < n) ⊎ (n ≤ i) → size K.ring (row_at (plane_with v) i) ≤ l
        go i (inl s) = let e : size K.ring (row_at (plane_with v) i)
            ≡ size K.ring (g i) = ap (size K.ring)
            (polynomial_at (polynomials K.ring) P.laws P.tests n g i s) in
            let r : size K.ring (g i) ≤ l = polynomial_size K.ring K.laws K.tests l
            (λ j. v (plus_ℕ (times_ℕ i l) j)) in omega (arith, e, r)
        go i (inr s) = let e : size K.ring (row_at (plane_with v) i)
            ≡ size K.ring P.zero = ap (size K.ring)
            (polynomial_past (polynomials K.ring) P.laws P.tests n g i s) in
            let z : size K.ring P.zero ≡ 0 = zero_size K in omega (arith, e, z)

    row_zero : (N : Plane K) → HasShape K.ring n l N → (i j : ℕ) → (n ≤ i) ⊎ (l ≤ j)
        → coeff K.ring (row_at N i).coeffs j ≡ K.zero
    row_zero N p i j (inl s) = ap (λ (h : Poly K.ring). coeff K.ring h.coeffs j)
        (zero_from (polynomials K.ring) P.laws P.tests N i
        (let r : size (polynomials K.ring) N ≤ n = p.rows in omega (arith, r, s)))
        ∙ zero_from K.ring K.laws K.tests P.zero j
        (let z : size K.ring P.zero ≡ 0 = zero_size K in omega (arith, z))
    row_zero N p i j (inr s) = zero_from K.ring K.laws K.tests (row_at N i) j
        (let r : size K.ring (row_at N i) ≤ l = p.each i in omega (arith, r, s))

    -- an index is in a row below n and a column below l, or past the end
    index_cases : (j : ℕ) → ((j / l < n) × (j % l < l))
        ⊎ (((n ≤ j / l) ⊎ (l ≤ j % l)) × (times_ℕ n l ≤ j))
    index_cases j = go (cases_lt 0 l) (cases_lt (j / l) n)
      where
        whole : plus_ℕ (times_ℕ (j / l) l) (j % l) ≡ j
        whole = div-add-mod' j l

        go : (0 < l) ⊎ (l ≤ 0) → (j / l < n) ⊎ (n ≤ j / l) → ((j / l < n) × (j % l < l))
            ⊎ (((n ≤ j / l) ⊎ (l ≤ j % l)) × (times_ℕ n l ≤ j))
        go (inr z) _ = inr (
          inr (omega (arith, z)),
          (let e : times_ℕ n l ≤ times_ℕ n 0 = times-mono n l 0 z in let w : times_ℕ n 0
              ≡ 0 = omega arith in omega (arith, e, w)),
        )
        go (inl p) (inl q) = inl (q, mod_below j l p)
        go (inl p) (inr q) = inr (
          inl q,
          (let e : times_ℕ l n ≤ times_ℕ l (j / l) = times-mono l n
              (j / l) q in let a : times_ℕ l n
              ≡ times_ℕ n l = omega arith in let b : times_ℕ l (j / l)
              ≡ times_ℕ (j / l) l = omega arith in omega (arith, e, a, b, whole)),
        )

    -- the vector of a plane ends after n * l entries
    pub flat_ends : (N : Plane K) → HasShape K.ring n l N
        → EndsAt K.ring (times_ℕ n l) (flat K.ring l N)
    flat_ends N p j q = go (index_cases j)
      where
        go : ((j / l < n) × (j % l < l)) ⊎ (((n ≤ j / l) ⊎ (l ≤ j % l)) × (times_ℕ n l ≤ j))
            → flat K.ring l N j ≡ K.zero
        go (inl c) = absurd (let m : plus_ℕ (times_ℕ (j / l) l) (j % l) < times_ℕ l n = mul-add-lt
            (j / l) l (j % l) n c.0 c.1 in let w : plus_ℕ (times_ℕ (j / l) l) (j % l)
            ≡ j = div-add-mod' j l in let a : times_ℕ l n
            ≡ times_ℕ n l = omega arith in omega (arith, m, w, a, q))
        go (inr c) = row_zero N p (j / l) (j % l) c.0

    -- each vector that does is the vector of its plane
    pub plane_with_flat : (v : ℕ → K.carrier) → EndsAt K.ring (times_ℕ n l) v → (j : ℕ)
        → flat K.ring l (plane_with v) j ≡ v j
    plane_with_flat v e j = go (index_cases j)
      where
        g : ℕ → Poly K.ring
        g i = polynomial_of K.ring K.laws K.tests l (λ j. v (plus_ℕ (times_ℕ i l) j))

        go : ((j / l < n) × (j % l < l)) ⊎ (((n ≤ j / l) ⊎ (l ≤ j % l)) × (times_ℕ n l ≤ j))
            → flat K.ring l (plane_with v) j ≡ v j
        go (inl c) = ap (λ (h : Poly K.ring). coeff K.ring h.coeffs (j % l))
            (polynomial_at (polynomials K.ring) P.laws P.tests n g (j / l) c.0)
            ∙ polynomial_at K.ring K.laws K.tests l (λ s. v (plus_ℕ (times_ℕ (j / l) l) s)) (j % l)
            c.1 ∙ ap v (div-add-mod' j l)
        go (inr c) = row_zero (plane_with v) (plane_with_shape v) (j / l) (j % l) c.0
            ∙ sym (e j c.1)
