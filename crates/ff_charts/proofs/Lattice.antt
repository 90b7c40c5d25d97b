-- Residues modulo a modulus, and residue lattices.
use Rattle.std.proofs.Common.{◌≡◌, ℕ, zero, suc, pred, ◌+◌ as plus_ℕ, ◌<◌, ◌≤◌, ◌⊎◌, inl, inr}
use Rattle.std.proofs.Common.{false, refl, sym, ◌∙◌, ap, ap₂, subst, arith}
use Rattle.std.proofs.lemmas.Bool.{cases_lt}
use Rattle.ff_theory.specs.Divides.{IsCoprime}
use Rattle.ff_theory.specs.Ring.{RingOps, IsCommRing, power}
use Rattle.ff_theory.specs.Lawful.{Domain, Field}
use Rattle.ff_theory.specs.Sum.{sum_below}
use Rattle.ff_theory.specs.Poly.{coeff, Poly, polynomials}
use Rattle.ff_theory.specs.Division.{size, IsDivision}
use Rattle.ff_theory.proofs.Solver.{◌⊕◌, ◌⊗◌, neg, nil, unit, ring1, ring2, ring3, ring4, ring6}
use Rattle.ff_theory.proofs.Solver.{mul_zero, add_cancel}
use Rattle.ff_theory.specs.Map.{IsMap}
use Rattle.ff_theory.proofs.Sums.{sum-ext, sum-add, sum-mul}
use Rattle.ff_theory.proofs.Poly.{polynomial_laws}
use Rattle.ff_theory.proofs.Division.{const_mul_at, add_at, neg_at, size-add, size-neg, size-mul}
use Rattle.ff_theory.proofs.Division.{size-mul-le, size_le, zero_from}
use Rattle.ff_theory.proofs.Gcd.{no_size, coprime_divides}
use Rattle.ff_theory.proofs.PolyMap.{polynomial_domain, nonzero_size, zero_size}
use Rattle.ff_theory.proofs.Quotient.{quotient_of, remainder_of, divides}
use Rattle.ff_theory.specs.Planes.{planes, Plane, row_of}
use Rattle.ff_charts.specs.Chart.{Chart, at_u, at_theta, InPowers, IsIntegral}
use Rattle.ff_charts.specs.Chart.{IsChart}
use Rattle.ff_charts.specs.Lattice.{HasShape, IsTimes, IsResidue, InLattice, IsClosed}
use Rattle.ff_charts.proofs.Rows.{polynomial_of, polynomial_at, polynomial_past, polynomial_size}
use Rattle.ff_charts.proofs.Rows.{equal_below, value_sum, value_of_listed}
use Rattle.ff_charts.proofs.Chart.{at_u_map, at_theta_map, row_times, cancel_u, powers_plane}
use Rattle.ff_charts.proofs.Chart.{powers_at, powers_u, powers_zero, powers_one, powers_mul}
use Rattle.ff_charts.proofs.Chart.{powers_add, powers_neg, powers_reduced, Reduced, reduced}

module _ (K : Field) where
  abbrev D : Domain
  D = polynomial_domain K

  -- a multiple of m with fewer coefficients is 0
  pub small_multiple : (m w h : Poly K.ring) → (polynomials K.ring).same m (polynomials K.ring).zero
      ≡ false → h ≡ (polynomials K.ring).mul m w → size K.ring h ≤ pred (size K.ring m) → h
      ≡ (polynomials K.ring).zero
  small_multiple m w h nm e small = go (size K.ring w) refl (nonzero_size K m nm)
    where
      go : (j : ℕ) → size K.ring w ≡ j → (k : ℕ) × (size K.ring m ≡ suc k) → h
          ≡ (polynomials K.ring).zero
      go zero z k = e ∙ ap (D.mul m) (no_size K w z)
          ∙ mul_zero D.ring D.laws m
      go (suc j) z k = let s : size K.ring h ≡ suc (plus_ℕ k.0 j) = ap (size K.ring) e
          ∙ size-mul K m w k.0 j k.1 z in
          let p : pred (size K.ring m) ≡ k.0 = ap pred k.1 in absurd (omega (arith, s, p, small))

  -- rows that differ by a constant in x
  pub shape_zero : (n l : ℕ) → HasShape K.ring n l (planes K).zero
  shape_zero n l = record {
    rows = size_le (polynomials K.ring) D.laws D.tests (planes K).zero n (λ
        i q. none i);
    each = λ i. size_le K.ring K.laws K.tests
        (coeff (polynomials K.ring) (planes K).zero.coeffs i) l
        (λ j q. ap (λ (p : Poly K.ring). coeff K.ring p.coeffs j) (none i)
        ∙ polynomial_past K.ring K.laws K.tests 0 (λ i. K.zero) j (omega arith));
  }
    where
      none : (i : ℕ) → coeff (polynomials K.ring) (planes K).zero.coeffs i ≡ D.zero
      none i = polynomial_past (polynomials K.ring) D.laws D.tests 0 (λ i. D.zero) i (omega arith)

  pub shape_minus : (n l : ℕ) (M N : Plane K) → HasShape K.ring n l M → HasShape K.ring n l N
      → HasShape K.ring n l ((planes K).add M ((planes K).neg N))
  shape_minus n l M N p q = record {
    rows = size-add (polynomials K.ring) D.laws D.tests M ((planes K).neg N) n p.rows
        (let s : size (polynomials K.ring) ((planes K).neg N) ≤ size (polynomials K.ring)
        N = size-neg (polynomials K.ring) D.laws D.tests N in let r : size (polynomials K.ring) N
        ≤ n = q.rows in omega (arith, s, r));
    each = λ i. subst (λ h. size K.ring h ≤ l)
        (sym (add_at (polynomials K.ring) D.laws D.tests M ((planes K).neg N) i
        ∙ ap (D.add (coeff (polynomials K.ring) M.coeffs i))
        (neg_at (polynomials K.ring) D.laws D.tests N i)))
        (size-add K.ring K.laws K.tests _ _ l (p.each i)
        (let s : size K.ring (D.neg (coeff (polynomials K.ring) N.coeffs i)) ≤ size K.ring
        (coeff (polynomials K.ring) N.coeffs i) = size-neg K.ring K.laws K.tests
        (coeff (polynomials K.ring) N.coeffs i) in
        let r : size K.ring (coeff (polynomials K.ring) N.coeffs i) ≤ l = q.each i in omega
        (arith, s, r)));
  }

module _ (K : Field) (A : RingOps) (AL : IsCommRing A) (c : Chart K.ring A) (l : IsChart K.ring A c)
  where
    infixl 60 ◌+◌
    infixl 70 ◌*◌
    open A use {add as ◌+◌, mul as ◌*◌, neg as minus, carrier as C}

    abbrev P : Domain
    P = polynomial_domain K

    PL : IsCommRing (planes K)
    PL = polynomial_laws P.ring P.laws P.tests

    abbrev row_at : Plane K → ℕ → Poly K.ring
    row_at N i = coeff (polynomials K.ring) N.coeffs i

    U : IsMap (polynomials K.ring) A (at_u c)
    U = at_u_map K A AL c l

    V : IsMap (planes K) A (at_theta c)
    V = at_theta_map K A AL c l

    theta_sum : (N : Plane K) (m : ℕ) → size (polynomials K.ring) N ≤ m → at_theta c N
        ≡ sum_below A m (λ i. at_u c (row_at N i) * power A c.theta i)
    theta_sum N m q = value_sum (polynomials K.ring) P.laws P.tests A AL (at_u c) U.on_zero c.theta
        N
        m q

    -- each plane is, up to m times another one, one with reduced rows
    pub record Split (m : Poly K.ring) (N : Plane K) : Type 0 where
      pub low : Plane K
      pub high : Plane K
      pub shape : HasShape K.ring c.degree (pred (size K.ring m)) low
      pub sum : at_theta c N ≡ A.add (at_theta c low) (A.mul (at_u c m) (at_theta c high))

    split_rows : (m : Poly K.ring) (N : Plane K) → size (polynomials K.ring) N ≤ c.degree → (k : ℕ)
        × (size K.ring m ≡ suc k) → Split m N
    split_rows m N q k = record {
      low = polynomial_of (polynomials K.ring) P.laws P.tests n low;
      high = polynomial_of (polynomials K.ring) P.laws P.tests n high;
      shape = record {
        rows = polynomial_size (polynomials K.ring) P.laws P.tests n low;
        each = λ i.
            each i (cases_lt i n);
      };
      sum = theta_sum N n q ∙ sum-ext A AL n _ (λ i. at_u c (low i) * power A c.theta i + at_u c m *
          (at_u c (high i) * power A c.theta i)) (λ i s.
          ap (λ h. h * power A c.theta i)
          (ap (at_u c) (division i).sum ∙ U.on_add _ (low i)
          ∙ ap (λ t. t + at_u c (low i)) (U.on_mul (high i) m))
          ∙ ring4 A AL (λ h m r p. (h ⊗ m ⊕ r) ⊗ p) (λ h m r p. r ⊗ p ⊕ m ⊗ (h ⊗ p)) refl
          (at_u c (high i)) (at_u c m) (at_u c (low i)) (power A c.theta i))
          ∙ sum-add A AL n (λ i. at_u c (low i) * power A c.theta i)
          (λ i. at_u c m * (at_u c (high i) * power A c.theta i))
          ∙ ap₂ A.add (sym (value_of_listed (polynomials K.ring) P.laws P.tests A AL (at_u c)
          U.on_zero c.theta n low))
          (sum-mul A AL n (at_u c m) (λ i. at_u c (high i) * power A c.theta i)
          ∙ ap (λ t. at_u c m * t) (sym (value_of_listed (polynomials K.ring) P.laws P.tests A AL
          (at_u c) U.on_zero c.theta n high)));
    }
      where
        n : ℕ
        n = c.degree

        low : ℕ → Poly K.ring
        low i = remainder_of K m k.0 k.1 (row_at N i)

        high : ℕ → Poly K.ring
        high i = quotient_of K m k.0 k.1 (row_at N i)

        division : (i : ℕ) → IsDivision K.ring (row_at N i) m (high i) (low i)
        division i = divides K m k.0 k.1 (row_at N i)

        each : (i : ℕ) → (i < n) ⊎ (n ≤ i)
            → size K.ring (row_at (polynomial_of (polynomials K.ring) P.laws P.tests n low) i)
            ≤ pred
            (size K.ring m)
        each i (inl s) = let z : size K.ring (low i) < size K.ring m = (division i).smaller in
            let p : pred (size K.ring m) ≡ k.0 = ap pred k.1 in
            subst (λ h. size K.ring h ≤ pred (size K.ring m))
            (sym (polynomial_at (polynomials K.ring) P.laws P.tests n low i s))
            (omega (arith, z, p, k.1))
        each i (inr s) = subst (λ h. size K.ring h ≤ pred (size K.ring m))
            (sym (polynomial_past (polynomials K.ring) P.laws P.tests n low i s))
            (let z : size K.ring P.zero ≡ 0 = zero_size K in omega (arith, z))

    pub split_plane : (m : Poly K.ring) → (polynomials K.ring).same m (polynomials K.ring).zero
        ≡ false → (N : Plane K) → Split m N
    split_plane m nm N = at (reduced K A AL c l N)
      where
        at : Reduced K A AL c l N → Split m N
        at r = record { low = s.low; high = s.high; shape = s.shape; sum = r.same_value ∙ s.sum }
          where
            s : Split m r.plane
            s = split_rows m r.plane r.small (nonzero_size K m nm)

    -- residue_exists
    pub residue : (m : Poly K.ring) → c.IsModulus m → (a : A.carrier) → InPowers c a → (N : Plane K)
        × IsResidue c m a N
    residue m hm a p = (
      s.low,
      record {
        shape = s.shape;
        rest = at_theta c s.high + at_u c b.v * a;
        in_powers = powers_add K A AL c l _ _ (powers_plane K A AL c l s.high)
            (powers_mul K A AL c l _ _ (powers_u K A AL c l b.v) p);
        sum = ring1 A AL (λ a. a) (λ a. unit ⊗ a) refl a
            ∙ ap (λ t. t * a) (sym U.on_one ∙ ap (at_u c) (sym b.one)
            ∙ U.on_add (P.mul b.u p.unit) (P.mul b.v m)
            ∙ ap₂ A.add (U.on_mul b.u p.unit) (U.on_mul b.v m))
            ∙ ring6 A AL (λ u s v m a z. (u ⊗ s ⊕ v ⊗ m) ⊗ a)
            (λ u s v m a z. u ⊗ (s ⊗ a) ⊕ m ⊗ (v ⊗ a))
            refl (at_u c b.u) (at_u c p.unit) (at_u c b.v) (at_u c m) a a
            ∙ ap (λ t. t + at_u c m * (at_u c b.v * a))
            (ap (λ t. at_u c b.u * t) p.clears ∙ sym (row_times K A AL c l b.u p.nums) ∙ s.sum)
            ∙ ring4 A AL (λ l m h v. (l ⊕ m ⊗ h) ⊕ m ⊗ v) (λ l m h v. l ⊕ m ⊗ (h ⊕ v)) refl
            (at_theta c s.low) (at_u c m) (at_theta c s.high) (at_u c b.v * a);
      },
    )
      where
        b : IsCoprime (polynomials K.ring) p.unit m
        b = l.coprime p.unit m p.is_unit hm

        s : Split m ((planes K).mul (row_of K.ring b.u) p.nums)
        s = split_plane m (l.modulus_nonzero m hm) ((planes K).mul (row_of K.ring b.u) p.nums)

    -- residue_unique: a reduced plane that is m times an element of the power order is 0
    pub residue_zero : (m : Poly K.ring) → c.IsModulus m → (N : Plane K)
        → HasShape K.ring c.degree (pred (size K.ring m)) N → (b : A.carrier) → InPowers c b
        → at_theta c N ≡ A.mul (at_u c m) b → N ≡ (planes K).zero
    residue_zero m hm N shape b p e = equal_below (polynomials K.ring) P.laws P.tests N
        (planes K).zero c.degree shape.rows (shape_zero K c.degree 0).rows each
      where
        M : (M : Plane K) × ((size (polynomials K.ring) M ≤ c.degree)
            × (at_u c p.unit * b ≡ at_theta c M))
        M = powers_reduced K A AL c l b p

        left : Plane K
        left = (planes K).mul (row_of K.ring p.unit) N

        right : Plane K
        right = (planes K).mul (row_of K.ring m) M.0

        few : (h : Poly K.ring) (N : Plane K) → size (polynomials K.ring) N ≤ c.degree
            → size (polynomials K.ring) ((planes K).mul (row_of K.ring h) N) ≤ c.degree
        few h N q = size_le (polynomials K.ring) P.laws P.tests ((planes K).mul (row_of K.ring h) N)
            c.degree
            (λ i r. const_mul_at (polynomials K.ring) P.laws P.tests h N i
            ∙ ap (P.mul h) (zero_from (polynomials K.ring) P.laws P.tests N i (omega (arith, q, r)))
            ∙ mul_zero P.ring P.laws h)

        values : at_theta c left ≡ at_theta c right
        values = row_times K A AL c l p.unit N ∙ ap (λ t. at_u c p.unit * t) e
            ∙ ring3 A AL (λ s m b. s ⊗ (m ⊗ b)) (λ s m b. m ⊗ (s ⊗ b)) refl (at_u c p.unit)
            (at_u c m)
            b
            ∙ ap (λ t. at_u c m * t) M.1.1 ∙ sym (row_times K A AL c l m M.0)

        difference : (planes K).add left ((planes K).neg right) ≡ (planes K).zero
        difference = l.independent ((planes K).add left ((planes K).neg right))
            (size-add (polynomials K.ring) P.laws P.tests left ((planes K).neg right) c.degree
            (few p.unit N shape.rows)
            (let s : size (polynomials K.ring) ((planes K).neg right) ≤ size (polynomials K.ring)
            right = size-neg (polynomials K.ring) P.laws P.tests right in let r : size
            (polynomials K.ring) right ≤ c.degree = few m M.0 M.1.0 in omega (arith, s, r)))
            (V.on_add left ((planes K).neg right) ∙ ap₂ A.add values (V.on_neg right)
            ∙ AL.add_neg (at_theta c right))

        same : left ≡ right
        same = add_cancel (planes K) PL left right ((planes K).neg right)
            (difference ∙ sym (PL.add_neg right))

        cop : IsCoprime (polynomials K.ring) p.unit m
        cop = l.coprime p.unit m p.is_unit hm

        each : (i : ℕ) → i < c.degree → row_at N i ≡ row_at (planes K).zero i
        each i q = small_multiple K m (P.add (P.mul cop.v (row_at N i)) (P.mul cop.u (row_at M.0
            i)))
            (row_at N i) (l.modulus_nonzero m hm)
            (coprime_divides K m p.unit (row_at N i)
            (row_at M.0 i) cop.v cop.u (P.laws.add_comm (P.mul cop.v m) (P.mul cop.u p.unit)
            ∙ cop.one)
            (sym (const_mul_at (polynomials K.ring) P.laws P.tests p.unit N i)
            ∙ ap (λ (T : Plane K). row_at T i) same
            ∙ const_mul_at (polynomials K.ring) P.laws P.tests m M.0 i)) (shape.each i)
            ∙ sym (polynomial_past (polynomials K.ring) P.laws P.tests 0 (λ i. P.zero) i
            (omega arith))

    -- an element has one residue
    pub residue_one : (m : Poly K.ring) → c.IsModulus m → (a : A.carrier) (M N : Plane K)
        → IsResidue c m a M → IsResidue c m a N → M ≡ N
    residue_one m hm a M N p q = add_cancel (planes K) PL M N ((planes K).neg N)
        (residue_zero m hm ((planes K).add M ((planes K).neg N))
        (shape_minus K c.degree (pred (size K.ring m)) M N p.shape q.shape)
        (q.rest + minus p.rest) (powers_add K A AL c l _ _ q.in_powers (powers_neg K A AL c l _
        p.in_powers))
        (V.on_add M ((planes K).neg N) ∙ ap (A.add (at_theta c M)) (V.on_neg N)
        ∙ ring4 A AL (λ x m r y. x ⊕ neg y) (λ x m r y. (x ⊕ m ⊗ r) ⊕ neg (m ⊗ r) ⊕ neg y) refl
        (at_theta c M) (at_u c m) p.rest (at_theta c N)
        ∙ ap (λ t. t + minus (at_u c m * p.rest) + minus (at_theta c N)) (sym p.sum ∙ q.sum)
        ∙ ring4 A AL (λ y m r s. (y ⊕ m ⊗ s) ⊕ neg (m ⊗ r) ⊕ neg y) (λ y m r s. m ⊗ (s ⊕ neg r))
        refl
        (at_theta c N) (at_u c m) p.rest q.rest)
        ∙ sym (PL.add_neg N))

    -- what has a residue is in the power order
    pub powers_residue : (m : Poly K.ring) (a : A.carrier) (N : Plane K) → IsResidue c m a N
        → InPowers c a
    powers_residue m a N r = powers_at K A AL c l (sym r.sum)
        (powers_add K A AL c l _ _ (powers_plane K A AL c l N)
        (powers_mul K A AL c l _ _ (powers_u K A AL c l m) r.in_powers))

    module _ (m : Poly K.ring) (hm : c.IsModulus m) where
      pub lat_contains : (T : Plane K → Type 0) → T (planes K).zero → (a : A.carrier) → InPowers c a
          → InLattice c m T a
      lat_contains T t a p = record {
        nums = (planes K).zero;
        is_in = t;
        residue = record {
          shape = shape_zero K c.degree (pred (size K.ring m));
          rest = a;
          in_powers = p;
          sum = ring2 A AL (λ m a. m ⊗ a) (λ m a. nil ⊕ m ⊗ a) refl (at_u c m) a
              ∙ ap (λ t. t + at_u c m * a) (sym V.on_zero);
        };
      }

      -- m times an element of the lattice is in the power order
      pub lat_clears : (T : Plane K → Type 0) (w : A.carrier) → InLattice c m T w
          → InPowers c (A.mul (at_u c m) w)
      lat_clears T w h = powers_residue m _ h.nums h.residue

      lat_sum : (N : Plane K) (a : C) → at_u c m * (l.inverse m * at_theta c N + a)
          ≡ at_theta c N + at_u c m * a
      lat_sum N a = ring4 A AL (λ m i v a. m ⊗ (i ⊗ v ⊕ a)) (λ m i v a. (i ⊗ m) ⊗ v ⊕ m ⊗ a) refl
          (at_u c m) (l.inverse m) (at_theta c N) a
          ∙ ap (λ t. t * at_theta c N + at_u c m * a) (l.inverts m (l.modulus_nonzero m hm))
          ∙ ring3 A AL (λ v m a. unit ⊗ v ⊕ m ⊗ a) (λ v m a. v ⊕ m ⊗ a) refl (at_theta c N)
          (at_u c m) a

      -- lat_elements: N/m + a
      pub lat_element : (T : Plane K → Type 0) (N : Plane K)
          → HasShape K.ring c.degree (pred (size K.ring m)) N → T N → (a : A.carrier) → InPowers c a
          → InLattice c m T (A.add (A.mul (l.inverse m) (at_theta c N)) a)
      lat_element T N shape t a p = record {
        nums = N;
        is_in = t;
        residue = record
            { shape = shape; rest = a; in_powers = p; sum = lat_sum N a };
      }

      pub lat_parts : (T : Plane K → Type 0) (w : A.carrier) (h : InLattice c m T w) → w
          ≡ A.add (A.mul (l.inverse m) (at_theta c h.nums)) h.residue.rest
      lat_parts T w h = cancel_u K A AL c l m (l.modulus_nonzero m hm) _ _
          (h.residue.sum ∙ sym (lat_sum h.nums h.residue.rest))

      -- lat_quotient: the lattices lie in one another as their residues do
      pub lat_below : (S T : Plane K → Type 0)
          → ((w : A.carrier) → InLattice c m S w → InLattice c m T w) → (N : Plane K)
          → HasShape K.ring c.degree (pred (size K.ring m)) N → S N → T N
      lat_below S T h N shape s = at (h _ (lat_element S N shape s A.zero (powers_zero K A AL c l)))
        where
          w : C
          w = l.inverse m * at_theta c N + A.zero

          at : InLattice c m T w → T N
          at q = subst T (residue_one m hm (at_u c m * w) q.nums N q.residue
              (record {
                shape = shape;
                rest = A.zero;
                in_powers = powers_zero K A AL c l;
                sum = lat_sum N A.zero;
              })) q.is_in

      pub lat_above : (S T : Plane K → Type 0)
          → ((N : Plane K) → HasShape K.ring c.degree (pred (size K.ring m)) N → S N → T N)
          → (w : A.carrier) → InLattice c m S w → InLattice c m T w
      lat_above S T h w q = record {
        nums = q.nums;
        is_in = h q.nums q.residue.shape q.is_in;
        residue = q.residue;
      }

      -- a lattice that is closed under products: m times each power of an element is in the power
      -- order
      pub lat_powers : (T : Plane K → Type 0) → T (planes K).zero → IsClosed c m T → (w : A.carrier)
          → InLattice c m T w → (j : ℕ) → InLattice c m T (power A w j)
      lat_powers T t closed w h zero = lat_contains T t A.one (powers_one K A AL c l)
      lat_powers T t closed w h (suc j) = closed w (power A w j) h (lat_powers T t closed w h j)

      -- lat_max
      pub lat_integral : (T : Plane K → Type 0) → T (planes K).zero → IsClosed c m T
          → (w : A.carrier)
          → InLattice c m T w → IsIntegral c w
      lat_integral T t closed w h = record {
        modulus = m;
        is_modulus = hm;
        powers = λ j. lat_clears T (power A w j)
            (lat_powers T t closed w h j);
      }

      -- rescale: the lattice of m and T is that of g * m and g * T
      module _ (g : Poly K.ring) (hg : c.IsModulus g) (T : Plane K → Type 0) where
        abbrev gT : Plane K → Type 0
        gT = IsTimes K.ring c.degree (pred (size K.ring m)) g T

        pub times_shape : (N : Plane K) → HasShape K.ring c.degree (pred (size K.ring m)) N
            → HasShape K.ring c.degree (pred (size K.ring (P.mul g m)))
            ((planes K).mul (row_of K.ring g) N)
        times_shape N s = record {
          rows = size_le (polynomials K.ring) P.laws P.tests ((planes K).mul (row_of K.ring g) N)
              c.degree
              (λ i r. const_mul_at (polynomials K.ring) P.laws P.tests g N i
              ∙ ap (P.mul g) (zero_from (polynomials K.ring) P.laws P.tests N i
              (let q : size (polynomials K.ring) N ≤ c.degree = s.rows in omega (arith, q, r)))
              ∙ mul_zero P.ring P.laws g);
          each = λ i. subst (λ h. size K.ring h ≤ pred (size K.ring (P.mul g m)))
              (sym (const_mul_at (polynomials K.ring) P.laws P.tests g N i))
              (fit (row_at N i) (s.each i) (nonzero_size K g (l.modulus_nonzero g hg))
              (nonzero_size K m (l.modulus_nonzero m hm)));
        }
          where
            fit : (h : Poly K.ring) → size K.ring h ≤ pred (size K.ring m) → (a : ℕ)
                × (size K.ring g ≡ suc a) → (b : ℕ) × (size K.ring m ≡ suc b)
                → size K.ring (P.mul g h) ≤ pred (size K.ring (P.mul g m))
            fit h q a b = let x : pred (size K.ring m) ≡ b.0 = ap pred b.1 in
                let y : pred (size K.ring (P.mul g m))
                ≡ plus_ℕ a.0 b.0 = ap pred (size-mul K g
                m a.0 b.0 a.1 b.1) in
                let z : size K.ring (P.mul g h) ≤ plus_ℕ a.0 b.0 = size-mul-le K.ring K.laws K.tests
                g
                h (plus_ℕ a.0 b.0) (omega (arith, q, x, a.1)) in omega (arith, y, z)

        pub rescale_into : (w : A.carrier) → InLattice c m T w
            → InLattice c (P.mul g m) (IsTimes K.ring c.degree (pred (size K.ring m)) g T) w
        rescale_into w h = record {
          nums = (planes K).mul (row_of K.ring g) h.nums;
          is_in = record {
            part = h.nums;
            shape = h.residue.shape;
            is_in = h.is_in;
            product = refl;
          };
          residue = record {
            shape = times_shape h.nums h.residue.shape;
            rest = h.residue.rest;
            in_powers = h.residue.in_powers;
            sum = ap (λ t. t * w) (U.on_mul g m) ∙ AL.mul_assoc _ _ _
                ∙ ap (λ t. at_u c g * t) h.residue.sum
                ∙ ring4 A AL (λ g v m r. g ⊗ (v ⊕ m ⊗ r)) (λ g v m r. g ⊗ v ⊕ (g ⊗ m) ⊗ r) refl
                (at_u c g) (at_theta c h.nums) (at_u c m) h.residue.rest
                ∙ ap₂ (λ s t. s + t * h.residue.rest) (sym (row_times K A AL c l g h.nums))
                (sym (U.on_mul g m));
          };
        }

        pub rescale_back : (w : A.carrier)
            → InLattice c (P.mul g m) (IsTimes K.ring c.degree (pred (size K.ring m)) g T) w
            → InLattice c m T w
        rescale_back w h = record {
          nums = h.is_in.part;
          is_in = h.is_in.is_in;
          residue = record {
            shape = h.is_in.shape;
            rest = h.residue.rest;
            in_powers = h.residue.in_powers;
            sum = cancel_u K A AL c l g (l.modulus_nonzero g hg) _ _
                (sym (AL.mul_assoc _ _ _) ∙ ap (λ t. t * w) (sym (U.on_mul g m)) ∙ h.residue.sum
                ∙ ap₂ (λ s t. s + t * h.residue.rest)
                (ap (at_theta c) h.is_in.product ∙ row_times K A AL c l g h.is_in.part)
                (U.on_mul g m)
                ∙ ring4 A AL (λ g v m r. g ⊗ v ⊕ (g ⊗ m) ⊗ r) (λ g v m r. g ⊗ (v ⊕ m ⊗ r)) refl
                (at_u c g) (at_theta c h.is_in.part) (at_u c m) h.residue.rest);
          };
        }
