-- A lattice is closed under products where those of basis vectors with u, theta and one another
-- are in it.
use Rattle.std.proofs.Common.{◌≡◌, ℕ, zero, suc, pred, ◌<◌, refl, sym, ◌∙◌, ap, ap₂, subst, arith}
use Rattle.ff_theory.specs.Ring.{RingOps, IsCommRing}
use Rattle.ff_theory.specs.Lawful.{Field}
use Rattle.ff_theory.specs.Sum.{sum_below}
use Rattle.ff_theory.specs.Poly.{Poly}
use Rattle.ff_theory.specs.Division.{size}
use Rattle.ff_theory.specs.Planes.{planes, Plane}
use Rattle.ff_theory.specs.Span.{InSpan}
use Rattle.ff_theory.specs.Map.{IsMap}
use Rattle.ff_theory.proofs.Solver.{◌⊕◌, ◌⊗◌, nil, unit, ring1, ring2, ring3, ring4}
use Rattle.ff_theory.proofs.Sums.{sum-ext}
use Rattle.ff_theory.proofs.Span.{span-same, span-zero, span-more}
use Rattle.ff_charts.specs.Chart.{Chart, at_u, at_theta, InPowers, IsChart}
use Rattle.ff_charts.specs.Lattice.{HasShape, flat, IsSubspace, IsResidue, InLattice, IsClosed}
use Rattle.ff_charts.proofs.Chart.{at_theta_map, cancel_u, powers_mul}
use Rattle.ff_charts.proofs.Flat.{flat_add, flat_scale, flat_zero, flat_one}
use Rattle.ff_charts.proofs.Closure.{lat_at, lat_add, lat_zero, lat_constant, lat_powers_in}
use Rattle.ff_charts.proofs.Closure.{lat_closed}
use Rattle.ff_conductor.proofs.Conductor.{powers_theta}
use Rattle.ff_descent.proofs.Start.{constant_plane, plane_combination, combination_flat}
use Rattle.ff_descent.proofs.Start.{combination_shape, constant_at}

module _ (K : Field) (A : RingOps) (AL : IsCommRing A) (c : Chart K.ring A) (l : IsChart K.ring A c)
    (m : Poly K.ring) (hm : c.IsModulus m) (r : ℕ) (w : ℕ → ℕ → K.carrier) where
  infixl 60 ◌+◌
  infixl 70 ◌*◌
  open A use {add as ◌+◌, mul as ◌*◌, carrier as C}

  abbrev δ : ℕ
  δ = pred (size K.ring m)

  V : IsMap (planes K) A (at_theta c)
  V = at_theta_map K A AL c l

  -- planes whose vectors are combinations of the r vectors
  abbrev T : Plane K → Type 0
  T N = InSpan K.ring r w (flat K.ring (pred (size K.ring m)) N)

  pub span_subspace : IsSubspace K.ring
      (λ N. InSpan K.ring r w (flat K.ring (pred (size K.ring m)) N))
  span_subspace = record {
    on_zero = span-same K.ring K.laws r w (λ j. K.zero) (flat K.ring δ (planes K).zero)
        (λ j. flat_zero K δ j) (span-zero K.ring K.laws r w);
    on_add = λ M N p q. span-same K.ring K.laws r w
        (λ j. K.add (K.mul K.one (flat K.ring δ M j)) (flat K.ring δ N j))
        (flat K.ring δ ((planes K).add M N))
        (λ j. flat_add K δ M N j ∙ ring2 K.ring K.laws (λ a b. a ⊕ b) (λ a b. unit ⊗ a ⊕ b) refl
        (flat K.ring δ M j) (flat K.ring δ N j))
        (span-more K.ring K.laws r w K.one (flat K.ring δ M) (flat K.ring δ N) p q);
    on_scale = λ a N p. span-same K.ring K.laws r w
        (λ j. K.add (K.mul a (flat K.ring δ N j)) K.zero)
        (flat K.ring δ ((planes K).mul (constant_plane K a) N))
        (λ j. flat_scale K δ a N j ∙ sym (K.laws.add_zero (K.mul a (flat K.ring δ N j))))
        (span-more K.ring K.laws r w a (flat K.ring δ N) (λ j. K.zero) p
        (span-zero K.ring K.laws r w));
  }

  -- an element with a residue among those planes
  abbrev pub HasResidue : A.carrier → Type 0
  HasResidue x = (R : Plane K) × (IsResidue c m x R
      × InSpan K.ring r w (flat K.ring (pred (size K.ring m)) R))

  undo : (x : C) → at_u c m * (l.inverse m * x) ≡ x
  undo x = ring3 A AL (λ m i x. m ⊗ (i ⊗ x)) (λ m i x. (i ⊗ m) ⊗ x) refl (at_u c m) (l.inverse m) x
      ∙ ap (λ t. t * x) (l.inverts m (l.modulus_nonzero m hm))
      ∙ ring1 A AL (λ x. unit ⊗ x) (λ x. x) refl x

  -- is m times an element of the lattice
  lat_of : (x : C) → HasResidue x → (a : C) × (InLattice c m T a × (x ≡ at_u c m * a))
  lat_of x h = (
    l.inverse m * x,
    (
      record {
        nums = h.0;
        is_in = h.1.1;
        residue = subst (λ t. IsResidue c m t h.0) (sym (undo x)) h.1.0;
      },
      sym (undo x),
    ),
  )

  -- the planes of the r vectors
  module _ (N : ℕ → Plane K)
      (shapes : (i : ℕ) → i < r → HasShape K.ring c.degree (pred (size K.ring m)) (N i))
      (flats : (i : ℕ) → i < r → (j : ℕ) → flat K.ring (pred (size K.ring m)) (N i) j ≡ w i j)
    where
      at_combination : (n : ℕ) (k : ℕ → K.carrier) → at_theta c (plane_combination K n k N)
          ≡ sum_below A n (λ i. c.constant (k i) * at_theta c (N i))
      at_combination zero k = V.on_zero
      at_combination (suc n) k = V.on_add (plane_combination K n k N)
          ((planes K).mul (constant_plane K (k n)) (N n))
          ∙ ap₂ A.add (at_combination n k) (V.on_mul (constant_plane K (k n)) (N n)
          ∙ ap (λ t. t * at_theta c (N n)) (constant_at K A AL c l m hm (k n)))

      pub plane_is : (M : Plane K) → HasShape K.ring c.degree (pred (size K.ring m)) M
          → (t : InSpan K.ring r w (flat K.ring (pred (size K.ring m)) M))
          → M ≡ plane_combination K r t.coefficients N
      plane_is M shape t = flat_one K δ c.degree M
          (plane_combination K r t.coefficients N) shape
          (combination_shape K c.degree δ r t.coefficients N shapes)
          (λ j. t.sum j ∙ sum-ext K.ring K.laws r
          (λ i. K.mul (t.coefficients i) (w i j))
          (λ i. K.mul (t.coefficients i) (flat K.ring δ (N i) j))
          (λ i b. ap (K.mul (t.coefficients i)) (sym (flats i b j)))
          ∙ sym (combination_flat K δ r t.coefficients N j))

      at_span : (M : Plane K) → HasShape K.ring c.degree (pred (size K.ring m)) M
          → (t : T M) → at_theta c M
          ≡ sum_below A r (λ i. c.constant (t.coefficients i) * at_theta c (N i))
      at_span M shape t = ap (at_theta c) (plane_is M shape t) ∙ at_combination r t.coefficients

      -- products of a combination, where those of its terms are d times elements of the lattice
      spread : (d y : C) (n : ℕ) (k : ℕ → K.carrier) (x : ℕ → C)
          → ((i : ℕ) → i < n → (a : C) × (InLattice c m T a × (x i * y ≡ d * a)))
          → (a : C) × (InLattice c m T a
          × (sum_below A n (λ i. c.constant (k i) * x i) * y ≡ d * a))
      spread d y zero k x h = (
        A.zero,
        (
          lat_zero K A AL c l m hm T span_subspace,
          ring2 A AL (λ y d. nil ⊗ y) (λ y d. d ⊗ nil) refl y d,
        ),
      )
      spread d y (suc n) k x h = at (spread d y n k x (λ i b. h i (omega arith))) (h n
          (omega arith))
        where
          S : C
          S = sum_below A n (λ i. c.constant (k i) * x i)

          at : (a : C) × (InLattice c m T a × (S * y ≡ d * a))
              → (a : C) × (InLattice c m T a × (x n * y ≡ d * a))
              → (a : C) × (InLattice c m T a × ((S + c.constant (k n) * x n) * y ≡ d * a))
          at p q = (
            p.0 + c.constant (k n) * q.0,
            (
              lat_add K A AL c l m hm T span_subspace p.0 (c.constant (k n) * q.0) p.1.0
                  (lat_constant K A AL c l m hm T span_subspace (k n) q.0 q.1.0),
              ring4 A AL (λ s k x y. (s ⊕ k ⊗ x) ⊗ y) (λ s k x y. s ⊗ y ⊕ k ⊗ (x ⊗ y)) refl S
                  (c.constant (k n)) (x n) y
                  ∙ ap₂ (λ a b. a + c.constant (k n) * b) p.1.1 q.1.1
                  ∙ ring4 A AL (λ d a k b. d ⊗ a ⊕ k ⊗ (d ⊗ b)) (λ d a k b. d ⊗ (a ⊕ k ⊗ b)) refl d
                  p.0 (c.constant (k n)) q.0,
            ),
          )

      by_factor : (y : C) → InPowers c y
          → ((i : ℕ) → i < r → HasResidue (at_theta c (N i) * y)) → (v : C) → InLattice c m T v
          → InLattice c m T (y * v)
      by_factor y hy h v q = at (spread (at_u c m) y r q.is_in.coefficients (λ i. at_theta c (N i))
          (λ i b. lat_of (at_theta c (N i) * y) (h i b)))
        where
          S : C
          S = sum_below A r (λ i. c.constant (q.is_in.coefficients i) * at_theta c (N i))

          at : (a : C) × (InLattice c m T a × (S * y ≡ at_u c m * a)) → InLattice c m T (y * v)
          at a = lat_at K A AL c l m hm T span_subspace
              (sym (cancel_u K A AL c l m (l.modulus_nonzero m hm) (y * v)
              (a.0 + q.residue.rest * y)
              (ring3 A AL (λ m y v. m ⊗ (y ⊗ v)) (λ m y v. (m ⊗ v) ⊗ y) refl (at_u c m) y v
              ∙ ap (λ t. t * y) (q.residue.sum
              ∙ ap (λ t. t + at_u c m * q.residue.rest) (at_span q.nums q.residue.shape q.is_in))
              ∙ ring4 A AL (λ s m e y. (s ⊕ m ⊗ e) ⊗ y) (λ s m e y. s ⊗ y ⊕ m ⊗ (e ⊗ y)) refl S
              (at_u c m) q.residue.rest y
              ∙ ap (λ t. t + at_u c m * (q.residue.rest * y)) a.1.1
              ∙ sym (AL.mul_add (at_u c m) a.0 (q.residue.rest * y)))))
              (lat_add K A AL c l m hm T span_subspace a.0 (q.residue.rest * y) a.1.0
              (lat_powers_in K A AL c l m hm T span_subspace (q.residue.rest * y)
              (powers_mul K A AL c l q.residue.rest y q.residue.in_powers hy)))

      pub closed_span : InPowers c c.u → ((i : ℕ) → i < r
          → HasResidue (A.mul (at_theta c (N i)) c.u))
          → ((i : ℕ) → i < r → HasResidue (A.mul (at_theta c (N i)) c.theta))
          → ((i j : ℕ) → i < r → j < r → (x : A.carrier)
          × ((A.mul (at_theta c (N i)) (at_theta c (N j)) ≡ A.mul (at_u c m) x) × HasResidue x))
          → IsClosed c m (λ N. InSpan K.ring r w (flat K.ring (pred (size K.ring m)) N))
      closed_span hu by_u by_theta products = lat_closed K A AL c l m hm T span_subspace
          (by_factor c.u hu by_u) (by_factor c.theta (powers_theta K A AL c l) by_theta)
          (λ P Q p q s t. pair P Q p q s t)
        where
          mm : C
          mm = at_u c m * at_u c m

          entry : (i j : ℕ) → i < r → j < r
              → (a : C) × (InLattice c m T a × (at_theta c (N i) * at_theta c (N j) ≡ mm * a))
          entry i j a b = let x = products i j a b in let y = lat_of x.0 x.1.1 in (
            y.0,
            (
              y.1.0,
              x.1.0 ∙ ap (A.mul (at_u c m)) y.1.1
                  ∙ sym (AL.mul_assoc (at_u c m) (at_u c m) y.0),
            ),
          )

          pair : (P Q : Plane K) → HasShape K.ring c.degree (pred (size K.ring m)) P
              → HasShape K.ring c.degree (pred (size K.ring m)) Q → T P → T Q
              → (a : C) × (InLattice c m T a × (at_theta c P * at_theta c Q ≡ mm * a))
          pair P Q p q s t = at (spread mm (at_theta c P) r t.coefficients (λ j. at_theta c
              (N j)) row)
            where
              S : C
              S = sum_below A r (λ i. c.constant (s.coefficients i) * at_theta c (N i))

              row : (j : ℕ) → j < r
                  → (a : C) × (InLattice c m T a × (at_theta c (N j) * at_theta c P ≡ mm * a))
              row j b = let x = spread mm (at_theta c (N j)) r s.coefficients
                  (λ i. at_theta c (N i)) (λ i a. entry i j a b) in (
                    x.0,
                    (
                      x.1.0,
                      AL.mul_comm (at_theta c (N j)) (at_theta c P)
                          ∙ ap (λ t. t * at_theta c (N j)) (at_span P p s) ∙ x.1.1,
                    ),
                  )

              at : (a : C) × (InLattice c m T a
                  × (sum_below A r (λ i. c.constant (t.coefficients i) * at_theta c (N i))
                  * at_theta c P ≡ mm * a))
                  → (a : C) × (InLattice c m T a × (at_theta c P * at_theta c Q ≡ mm * a))
              at a = (
                a.0,
                (
                  a.1.0,
                  AL.mul_comm (at_theta c P) (at_theta c Q)
                      ∙ ap (λ u. u * at_theta c P) (at_span Q q t) ∙ a.1.1,
                ),
              )
