-- The lemma of Gauss: where the rows of two planes have no common factor of positive degree, those
-- of the product have none. The proof needs no irreducible polynomials.
use Rattle.std.proofs.Common.{◌≡◌, ℕ, zero, suc, ◌+◌, ◌<◌, ◌≤◌, ◌⊎◌, inl, inr, refl, sym, ◌∙◌, ap}
use Rattle.std.proofs.Common.{arith}
use Rattle.std.proofs.lemmas.Bool.{cases_lt}
use Rattle.ff_theory.specs.Ring.{RingOps, IsCommRing}
use Rattle.ff_theory.specs.Lawful.{Domain, Field}
use Rattle.ff_theory.specs.Poly.{coeff, Poly, polynomials}
use Rattle.ff_theory.specs.Division.{size}
use Rattle.ff_theory.specs.Divides.{Divides, IsCoprime}
use Rattle.ff_factors.specs.Factors.{DividesAll, IsPrimitive}
use Rattle.ff_theory.proofs.Solver.{◌⊕◌, ◌⊗◌, unit, ring1, ring6, mul_zero, zero_mul}
use Rattle.ff_theory.proofs.Poly.{polynomial_laws}
use Rattle.ff_theory.proofs.Division.{mul_at, size-mul}
use Rattle.ff_theory.proofs.Gcd.{Bezout, bezout, no_size}
use Rattle.ff_theory.proofs.PolyMap.{zero_size, one_size, polynomial_domain}
use Rattle.ff_theory.proofs.QuotientUnits.{unit_poly}
use Rattle.ff_theory.specs.Planes.{planes, Plane}
use Rattle.ff_theory.proofs.Divides.{divides_self, divides_add, divides_left, divides_trans}
use Rattle.ff_theory.proofs.Divides.{divides_coprime}
use Rattle.ff_factors.proofs.Divides.{divides_corner, divides_all}

module _ (K : Field) where
  abbrev P : Type 0
  P = Poly K.ring

  abbrev R : RingOps
  R = polynomials K.ring

  RL : IsCommRing (polynomials K.ring)
  RL = polynomial_laws K.ring K.laws K.tests

  -- a divisor of d of positive degree below that of d
  record IsProper (d : P) : Type 0 where
    pub e : P
    pub of_d : Divides R e d
    pub positive : 1 < size K.ring e
    pub below : size K.ring e < size K.ring d

  pub zero_product : (a b : Poly K.ring) (n : ℕ) → size K.ring ((polynomials K.ring).mul a b)
      ≡ suc n → (size K.ring a ≡ 0) ⊎ (size K.ring b ≡ 0) → ⊥
  zero_product a b n h (inl z) = let k : size K.ring (R.mul a b)
      ≡ 0 = ap (λ t. size K.ring (R.mul t b)) (no_size K a
      z) ∙ ap (size K.ring) (zero_mul R RL b) ∙ zero_size K in absurd (omega (arith, h, k))
  zero_product a b n h (inr z) = let k : size K.ring (R.mul a b)
      ≡ 0 = ap (λ t. size K.ring (R.mul a t)) (no_size K b
      z) ∙ ap (size K.ring) (mul_zero R RL a) ∙ zero_size K in absurd (omega (arith, h, k))

  -- d divides c, or is coprime to it, or has a proper divisor
  compare : (d c : P) (n : ℕ) → size K.ring d ≡ suc n → Divides R d c
      ⊎ (IsCoprime (polynomials K.ring) d c ⊎ IsProper d)
  compare d c n has = go (size K.ring b.g) refl (size K.ring b.s) refl
    where
      b : Bezout K.ring d c
      b = bezout K (size K.ring c) d c (omega arith)

      product : size K.ring (R.mul b.s b.g) ≡ suc n
      product = ap (size K.ring) (sym b.of_a) ∙ has

      unit_case : (h : P) → R.mul h b.g ≡ R.one → IsCoprime (polynomials K.ring) d c
      unit_case h e = record {
        u = R.mul h b.u;
        v = R.mul h b.v;
        one = ring6 R RL (λ h u d v c z. h ⊗ u ⊗ d ⊕ h ⊗ v ⊗ c) (λ h u d v c z. h ⊗ (u ⊗ d ⊕ v ⊗ c))
            refl h b.u d b.v c c ∙ ap (R.mul h) (sym b.combination) ∙ e;
      }

      whole : (h : P) → R.mul h b.s ≡ R.one → Divides R d c
      whole h e = (
        R.mul b.t h,
        b.of_b
            ∙ ap (R.mul b.t) (ring1 R RL (λ g. g) (λ g. unit ⊗ g) refl b.g
            ∙ ap (λ t. R.mul t b.g) (sym e)) ∙ ring6 R RL (λ t h s g y z. t ⊗ (h ⊗ s ⊗ g))
            (λ t h s g y z. t ⊗ h ⊗ (s ⊗ g)) refl b.t h b.s b.g h h
            ∙ ap (R.mul (R.mul b.t h)) (sym b.of_a),
      )

      go : (k : ℕ) → size K.ring b.g ≡ k → (j : ℕ) → size K.ring b.s ≡ j → Divides R d c
          ⊎ (IsCoprime (polynomials K.ring) d c ⊎ IsProper d)
      go zero e j h = absurd (zero_product b.s b.g n product (inr e))
      go (suc zero) e j h = let u : (h : P) × (R.mul h b.g ≡ R.one) = unit_poly K b.g e in inr
          (inl (unit_case u.0 u.1))
      go (suc (suc k)) e zero h = absurd (zero_product b.s b.g n product (inl h))
      go (suc (suc k)) e (suc zero) h = let u : (h : P) × (R.mul h b.s ≡ R.one) = unit_poly K b.s h
          in inl (whole u.0 u.1)
      go (suc (suc k)) e (suc (suc j)) h = let z : size K.ring (R.mul b.s b.g)
          ≡ suc (suc j + suc k) = size-mul K b.s b.g
          (suc j) (suc k) h e in
          inr (inr (record {
            e = b.g;
            of_d = (b.s, b.of_a);
            positive = omega (arith, e);
            below =
                omega (arith, e, z, product, has);
          }))

  -- the first of the polynomials f 0, f 1, .. that d does not divide: it is coprime to d
  record First (d : P) (f : ℕ → P) : Type 0 where
    pub index : ℕ
    pub before : (i : ℕ) → i < index → Divides R d (f i)
    pub coprime : IsCoprime (polynomials K.ring) d (f index)

  first : (d : P) (m : ℕ) → size K.ring d ≡ suc m → (f : ℕ → P) (n : ℕ)
      → ((i : ℕ) → i < n → Divides R d (f i)) ⊎ (First d f ⊎ IsProper d)
  first d m has f zero = inl (λ i l. absurd (omega arith))
  first d m has f (suc n) = go (first d m has f n)
    where
      all : ((i : ℕ) → i < n → Divides R d (f i)) → Divides R d (f n) → (i : ℕ) → i < suc n
          → Divides R d (f i)
      all below last i l = pick (cases_lt i n)
        where
          pick : (i < n) ⊎ (n ≤ i) → Divides R d (f i)
          pick (inl k) = below i k
          pick (inr k) = let e : i ≡ n = omega arith in (last.0, ap f e ∙ last.1)

      next : ((i : ℕ) → i < n → Divides R d (f i)) → Divides R d (f n)
          ⊎ (IsCoprime (polynomials K.ring) d (f n) ⊎ IsProper d)
          → ((i : ℕ) → i < suc n → Divides R d (f i)) ⊎ (First d f ⊎ IsProper d)
      next below (inl last) = inl (all below last)
      next below (inr (inl c)) = inr (inl (record { index = n; before = below; coprime = c }))
      next below (inr (inr p)) = inr (inr p)

      go : ((i : ℕ) → i < n → Divides R d (f i)) ⊎ (First d f ⊎ IsProper d)
          → ((i : ℕ) → i < suc n → Divides R d (f i)) ⊎ (First d f ⊎ IsProper d)
      go (inl below) = next below (compare d (f n) m has)
      go (inr other) = inr other

  -- the rows of a plane: d divides all of them, or there is a first that it does not divide
  rows : (d : P) (m : ℕ) → size K.ring d ≡ suc m → (g : Plane K) → DividesAll R d g
      ⊎ (First d (coeff R g.coeffs) ⊎ IsProper d)
  rows d m has g = go (first d m has (coeff R g.coeffs) (size R g))
    where
      go : ((i : ℕ) → i < size R g → Divides R d (coeff R g.coeffs i))
          ⊎ (First d (coeff R g.coeffs) ⊎ IsProper d) → DividesAll R d g
          ⊎ (First d (coeff R g.coeffs) ⊎ IsProper d)
      go (inl below) = let D : Domain = polynomial_domain K in inl
          (divides_all R RL D.tests d g below)
      go (inr other) = inr other

  -- a divisor of 1 has degree 0
  pub one_divisor : (d : Poly K.ring) → Divides (polynomials K.ring) d (polynomials K.ring).one
      → size K.ring d ≤ 1
  one_divisor d h = go (size K.ring h.0) refl (size K.ring d) refl
    where
      product : size K.ring (R.mul h.0 d) ≡ 1
      product = ap (size K.ring) (sym h.1) ∙ one_size K

      go : (j : ℕ) → size K.ring h.0 ≡ j → (k : ℕ) → size K.ring d ≡ k → size K.ring d ≤ 1
      go j hj zero hk = omega arith
      go zero hj (suc k) hk = absurd (zero_product h.0 d 0 product (inl hj))
      go (suc j) hj (suc k) hk = let z : size K.ring (R.mul h.0 d)
          ≡ suc (j + k) = size-mul K h.0 d j k hj hk in
          omega (arith, z, product, hk)

  -- a d of positive degree that divides all rows of g * h, and a first row of g and of h that are
  -- coprime to it, cannot be
  no_two : (d : P) (g h : Plane K) → 1 < size K.ring d → DividesAll R d ((planes K).mul g h)
      → First d (coeff R g.coeffs) → First d (coeff R h.coeffs) → ⊥
  no_two d g h positive all s t = let small : size K.ring d ≤ 1 = one_divisor d one in absurd
      (omega (arith, positive, small))
    where
      D : Domain
      D = polynomial_domain K

      a : P
      a = coeff R g.coeffs s.index

      b : P
      b = coeff R h.coeffs t.index

      row : Divides R d (coeff R ((planes K).mul g h).coeffs (s.index + t.index))
      row = all (s.index + t.index)

      corner : Divides R d (R.mul a b)
      corner = divides_corner R RL d (coeff R g.coeffs) (coeff R h.coeffs) s.index t.index
          (s.index + t.index) refl s.before t.before
          (row.0, sym (mul_at R D.laws D.tests g h (s.index + t.index)) ∙ row.1)

      last : Divides R d b
      last = divides_coprime R RL d a b s.coprime.u s.coprime.v s.coprime.one corner

      sum : Divides R d (R.add (R.mul t.coprime.u d) (R.mul t.coprime.v b))
      sum = divides_add R RL d _ _ (divides_left R RL d t.coprime.u d (divides_self R RL d))
          (divides_left R RL d t.coprime.v b last)

      one : Divides R d R.one
      one = (sum.0, sym t.coprime.one ∙ sum.1)

  -- a common factor of positive degree of the rows of g or of those of h
  record IsShared (g h : Plane K) : Type 0 where
    pub factor : P
    pub positive : 1 < size K.ring factor
    pub divides : DividesAll R factor g ⊎ DividesAll R factor h

  -- of the rows of the product
  shared : (n : ℕ) (d : P) (g h : Plane K) → size K.ring d ≤ n → 1 < size K.ring d
      → DividesAll R d ((planes K).mul g h) → IsShared g h
  shared zero d g h small positive all = absurd (omega arith)
  shared (suc n) d g h small positive all = by_size (size K.ring d) refl
      (λ e l k. shared n e g h l k)
    where
      by_size : (m : ℕ) → size K.ring d ≡ m → ((e : P) → size K.ring e ≤ n → 1 < size K.ring e
          → DividesAll R e ((planes K).mul g h) → IsShared g h) → IsShared g h
      by_size zero has before = absurd (omega arith)
      by_size (suc m) has before = of_g (rows d m has g)
        where
          proper : IsProper d → IsShared g h
          proper p = before p.e (omega (arith, p.below)) p.positive
              (λ i. divides_trans R RL p.e d (coeff R ((planes K).mul g h).coeffs i) p.of_d (all i))

          of_h : First d (coeff R g.coeffs) → DividesAll R d h
              ⊎ (First d (coeff R h.coeffs) ⊎ IsProper d) → IsShared g h
          of_h s (inl whole) = record { factor = d; positive = positive; divides = inr whole }
          of_h s (inr (inl t)) = absurd (no_two d g h positive all s t)
          of_h s (inr (inr p)) = proper p

          of_g : DividesAll R d g ⊎ (First d (coeff R g.coeffs) ⊎ IsProper d) → IsShared g h
          of_g (inl whole) = record { factor = d; positive = positive; divides = inl whole }
          of_g (inr (inl s)) = of_h s (rows d m has h)
          of_g (inr (inr p)) = proper p

  pub gauss : (g h : Plane K) → IsPrimitive K.ring g → IsPrimitive K.ring h
      → IsPrimitive K.ring ((planes K).mul g h)
  unfolding IsPrimitive
  gauss g h free_g free_h d all = go (cases_lt 1 (size K.ring d))
    where
      never : (s : IsShared g h) → DividesAll R s.factor g ⊎ DividesAll R s.factor h → ⊥
      never s (inl k) = let x : size K.ring s.factor ≤ 1 = free_g s.factor k in absurd
          (omega (arith, s.positive, x))
      never s (inr k) = let x : size K.ring s.factor ≤ 1 = free_h s.factor k in absurd
          (omega (arith, s.positive, x))

      go : (1 < size K.ring d) ⊎ (size K.ring d ≤ 1) → size K.ring d ≤ 1
      go (inl l) = let s : IsShared g h = shared (size K.ring d) d g h (omega arith) l all in absurd
          (never s s.divides)
      go (inr l) = l
