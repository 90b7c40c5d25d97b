-- Spans of residues, and the space that the descent starts with: the residues of the multiples of
-- B.
use Rattle.std.proofs.Common.{◌≡◌, ℕ, zero, suc, pred, ◌+◌ as plus_ℕ, ◌*◌ as times_ℕ, ◌/◌, ◌%◌, ◌<◌}
use Rattle.std.proofs.Common.{[], ◌∷◌, refl, sym, ◌∙◌, ap, ap₂, subst, arith}
use Rattle.ff_theory.specs.Ring.{RingOps, IsCommRing, power}
use Rattle.ff_theory.specs.Lawful.{Domain, Field}
use Rattle.ff_theory.specs.Sum.{sum_below}
use Rattle.ff_theory.specs.Poly.{Poly, poly, polynomials}
use Rattle.ff_theory.specs.Division.{size}
use Rattle.ff_theory.specs.Planes.{planes, Plane}
use Rattle.ff_theory.specs.Span.{combination, InSpan}
use Rattle.ff_theory.proofs.Solver.{◌⊕◌, ◌⊗◌, neg, nil, ring1, ring3, ring4, ring6}
use Rattle.ff_theory.specs.Map.{IsMap}
use Rattle.ff_theory.proofs.Sums.{sum-ext, sum-mul}
use Rattle.ff_theory.proofs.Evaluate.{eval-const}
use Rattle.ff_theory.proofs.PolyMap.{polynomial_domain}
use Rattle.ff_charts.specs.Chart.{Chart, at_u, at_theta, InPowers, IsChart}
use Rattle.ff_charts.specs.Lattice.{HasShape, flat, IsResidue, InLattice}
use Rattle.ff_charts.proofs.Chart.{at_row, at_u_map, at_theta_map, powers_at, powers_add}
use Rattle.ff_charts.proofs.Chart.{powers_neg, powers_mul, powers_plane, powers_zero, cancel_u}
use Rattle.ff_charts.proofs.Rows.{polynomial_of, value_of_listed}
use Rattle.ff_conductor.proofs.Trace.{sum-blocks}
use Rattle.std.proofs.lemmas.Nat.{div-mul-add, mod-mul-add}
use Rattle.ff_charts.proofs.Flat.{flat_add, flat_scale, flat_zero, flat_one, flat_ends, plane_with}
use Rattle.ff_charts.proofs.Flat.{plane_with_shape, plane_with_flat}
use Rattle.ff_charts.proofs.Lattice.{residue, residue_one, shape_zero}
use Rattle.ff_charts.proofs.Closure.{shape_plus, shape_scale}

-- a constant as a plane
abbrev pub constant_plane : (K : Field) → K.carrier → Plane K
constant_plane K a = poly (polynomials K.ring) (poly K.ring (a ∷ []) ∷ [])

-- c 0 * R 0 + c 1 * R 1 + .. , r planes
abbrev pub plane_combination : (K : Field) → ℕ → (ℕ → K.carrier) → (ℕ → Plane K) → Plane K
plane_combination K r c R = sum_below (planes K) r
    (λ i. (planes K).mul (constant_plane K (c i)) (R i))

module _ (K : Field) where
  pub combination_flat : (l r : ℕ) (c : ℕ → K.carrier) (R : ℕ → Plane K) (j : ℕ)
      → flat K.ring l (plane_combination K r c R) j
      ≡ combination K.ring r c (λ i. flat K.ring l (R i)) j
  combination_flat l zero c R j = flat_zero K l j
  combination_flat l (suc r) c R j = flat_add K l (plane_combination K r c R)
      ((planes K).mul (constant_plane K (c r)) (R r)) j
      ∙ ap₂ K.add (combination_flat l r c R j) (flat_scale K l (c r) (R r) j)

  pub combination_shape : (n l r : ℕ) (c : ℕ → K.carrier) (R : ℕ → Plane K)
      → ((i : ℕ) → i < r → HasShape K.ring n l (R i))
      → HasShape K.ring n l (plane_combination K r c R)
  combination_shape n l zero c R h = shape_zero K n l
  combination_shape n l (suc r) c R h = shape_plus K n l _ _
      (combination_shape n l r c R (λ i q. h i (omega arith)))
      (shape_scale K n l (c r) (R r) (h r (omega arith)))

module _ (K : Field) (A : RingOps) (AL : IsCommRing A) (c : Chart K.ring A) (l : IsChart K.ring A c)
    (m : Poly K.ring) (hm : c.IsModulus m) where
  infixl 60 ◌+◌
  infixl 70 ◌*◌
  open A use {add as ◌+◌, mul as ◌*◌, neg as minus, carrier as C}

  abbrev n : ℕ
  n = c.degree

  abbrev δ : ℕ
  δ = pred (size K.ring m)

  V : IsMap (planes K) A (at_theta c)
  V = at_theta_map K A AL c l

  pub constant_at : (k : K.carrier) → at_theta c (constant_plane K k) ≡ c.constant k
  constant_at k = at_row K A AL c l (poly K.ring (k ∷ []))
      ∙ eval-const K.ring A K.laws K.tests AL c.constant l.constants c.u k

  pub residue_zero_is : IsResidue c m A.zero (planes K).zero
  residue_zero_is = record {
    shape = shape_zero K c.degree (pred (size K.ring m));
    rest = A.zero;
    in_powers = powers_zero K A AL c l;
    sum = ring1 A AL (λ m. nil) (λ m. nil ⊕ m ⊗ nil) refl (at_u c m)
        ∙ ap (λ t. t + at_u c m * A.zero) (sym V.on_zero);
  }

  pub residue_add : (a b : A.carrier) (M N : Plane K) → IsResidue c m a M → IsResidue c m b N
      → IsResidue c m (A.add a b) ((planes K).add M N)
  residue_add a b M N p q = record {
    shape = shape_plus K c.degree (pred (size K.ring m)) M N p.shape q.shape;
    rest = p.rest + q.rest;
    in_powers = powers_add K A AL c l _ _ p.in_powers q.in_powers;
    sum = ap₂ A.add p.sum q.sum ∙ ring6 A AL (λ x y m r s z. (x ⊕ m ⊗ r) ⊕ (y ⊕ m ⊗ s)) (λ x y m r s
        z. (x ⊕ y) ⊕ m ⊗ (r ⊕ s)) refl (at_theta c M) (at_theta c N) (at_u c m) p.rest q.rest
        (at_u c m)
        ∙ ap (λ t. t + at_u c m * (p.rest + q.rest)) (sym (V.on_add M N));
  }

  pub residue_scale : (k : K.carrier) (a : A.carrier) (N : Plane K) → IsResidue c m a N
      → IsResidue c m (A.mul (c.constant k) a) ((planes K).mul (constant_plane K k) N)
  residue_scale k a N p = record {
    shape = shape_scale K c.degree (pred (size K.ring m)) k N p.shape;
    rest = at_theta c (constant_plane K k) * p.rest;
    in_powers = powers_mul K A AL c l _ _ (powers_plane K A AL c l (constant_plane K k))
        p.in_powers;
    sum = ap (λ t. t * a) (sym (constant_at k)) ∙ ap (A.mul (at_theta c (constant_plane K k))) p.sum
        ∙ ring4 A AL (λ k x m r. k ⊗ (x ⊕ m ⊗ r)) (λ k x m r. k ⊗ x ⊕ m ⊗ (k ⊗ r)) refl
        (at_theta c (constant_plane K k)) (at_theta c N) (at_u c m) p.rest
        ∙ ap (λ t. t + at_u c m * (at_theta c (constant_plane K k) * p.rest))
        (sym (V.on_mul (constant_plane K k) N));
  }

  -- c 0 * a 0 + c 1 * a 1 + .. , r elements
  abbrev pub element_combination : ℕ → (ℕ → K.carrier) → (ℕ → A.carrier) → A.carrier
  element_combination r k a = sum_below A r (λ i. A.mul (c.constant (k i)) (a i))

  pub residue_combination : (r : ℕ) (k : ℕ → K.carrier) (a : ℕ → A.carrier) (R : ℕ → Plane K)
      → ((i : ℕ) → i < r → IsResidue c m (a i) (R i))
      → IsResidue c m (element_combination r k a) (plane_combination K r k R)
  residue_combination zero k a R h = residue_zero_is
  residue_combination (suc r) k a R h = residue_add _ _ _ _
      (residue_combination r k a R (λ i q. h i (omega arith)))
      (residue_scale (k r) (a r) (R r) (h r (omega arith)))

  -- the combinations of the vectors of residues are the vectors of the residues of the combinations
  pub span_into : (r : ℕ) (a : ℕ → A.carrier) (R : ℕ → Plane K)
      → ((i : ℕ) → i < r → IsResidue c m (a i) (R i)) → (N : Plane K)
      → HasShape K.ring c.degree (pred (size K.ring m)) N
      → InSpan K.ring r (λ i. flat K.ring (pred (size K.ring m)) (R i))
      (flat K.ring (pred (size K.ring m)) N) → (k : ℕ → K.carrier)
      × IsResidue c m (element_combination r k a) N
  span_into r a R h N shape s = (
    s.coefficients,
    subst (IsResidue c m (element_combination r
        s.coefficients a)) (sym same) (residue_combination r s.coefficients a R h),
  )
    where
      same : N ≡ plane_combination K r s.coefficients R
      same = flat_one K δ n N (plane_combination K r s.coefficients R) shape
          (combination_shape K n δ r s.coefficients R (λ i q. (h i q).shape))
          (λ j. s.sum j ∙ sym (combination_flat K δ r s.coefficients R j))

  pub span_back : (r : ℕ) (a : ℕ → A.carrier) (R : ℕ → Plane K)
      → ((i : ℕ) → i < r → IsResidue c m (a i) (R i)) → (N : Plane K) (k : ℕ → K.carrier)
      → IsResidue c m (element_combination r k a) N
      → InSpan K.ring r (λ i. flat K.ring (pred (size K.ring m)) (R i))
      (flat K.ring (pred (size K.ring m)) N)
  span_back r a R h N k q = record {
    coefficients = k;
    sum = λ j. ap (λ M. flat K.ring δ M j)
        (residue_one K A AL c l m hm (element_combination r k a) N (plane_combination K r k R) q
        (residue_combination r k a R h)) ∙ combination_flat K δ r k R j;
  }

  -- the multiples of B by elements of the power order, and those by u^j * theta^i
  module _ (B : A.carrier) (hB : InPowers c B) where
    abbrev pub multiple_at : ℕ → A.carrier
    multiple_at s = A.mul B (A.mul (power A c.u (s % pred (size K.ring m))) (power A c.theta (s /
        pred (size K.ring m))))

    multiples_sum : (k : ℕ → K.carrier) → element_combination (times_ℕ n δ) k multiple_at
        ≡ A.mul B (at_theta c (plane_with K δ n k))
    multiples_sum k = sum-ext A AL (times_ℕ n δ) _ _
        (λ s q. ring3 A AL (λ k b t. k ⊗ (b ⊗ t)) (λ k b t. b ⊗ (k ⊗ t)) refl (c.constant (k s)) B
        (power A c.u (s % δ) * power A c.theta (s / δ))) ∙ sum-mul A AL (times_ℕ n δ) B _
        ∙ ap (A.mul B) (sum-blocks A AL n δ _ ∙ sum-ext A AL n _ _ (λ i q. block i q)
        ∙ sym (value_of_listed (polynomials K.ring) P.laws P.tests A AL (at_u c) U.on_zero
        c.theta n row))
      where
        P : Domain
        P = polynomial_domain K

        U : IsMap (polynomials K.ring) A (at_u c)
        U = at_u_map K A AL c l

        row : ℕ → Poly K.ring
        row i = polynomial_of K.ring K.laws K.tests δ (λ j. k (plus_ℕ (times_ℕ i δ) j))

        block : (i : ℕ) → i < n → sum_below A δ (λ j. c.constant (k (plus_ℕ (times_ℕ i δ) j)) *
            (power A c.u (plus_ℕ (times_ℕ i δ) j % δ) * power A c.theta
            (plus_ℕ (times_ℕ i δ) j / δ))) ≡ at_u c (row i) * power A c.theta i
        block i q = sum-ext A AL δ _ _
            (λ j t. ap₂ (λ a b. c.constant (k (plus_ℕ (times_ℕ i δ) j)) *
            (power A c.u a * power A c.theta b)) (mod-mul-add i δ j t) (div-mul-add i δ j t)
            ∙ ring3 A AL (λ k u t. k ⊗ (u ⊗ t)) (λ k u t. t ⊗ (k ⊗ u)) refl
            (c.constant (k (plus_ℕ (times_ℕ i δ) j))) (power A c.u j) (power A c.theta i))
            ∙ sum-mul A AL δ (power A c.theta i) _ ∙ AL.mul_comm _ _
            ∙ ap (λ t. t * power A c.theta i)
            (sym (value_of_listed K.ring K.laws K.tests A AL c.constant l.constants.on_zero c.u
            δ (λ j. k (plus_ℕ (times_ℕ i δ) j))))

    -- N is the residue of a multiple of B
    abbrev pub IsMultipleResidue : Plane K → Type 0
    IsMultipleResidue N = (a : A.carrier) × (InPowers c a × IsResidue c m (A.mul B a) N)

    pub multiples_into : (R : ℕ → Plane K)
        → ((s : ℕ) → s < times_ℕ c.degree (pred (size K.ring m))
        → IsResidue c m (multiple_at s) (R s)) → (N : Plane K)
        → HasShape K.ring c.degree (pred (size K.ring m)) N
        → InSpan K.ring (times_ℕ c.degree (pred (size K.ring m)))
        (λ s. flat K.ring (pred (size K.ring m)) (R s)) (flat K.ring (pred (size K.ring m)) N)
        → IsMultipleResidue N
    multiples_into R h N shape s = at (span_into (times_ℕ n δ) multiple_at R h N shape s)
      where
        at : (k : ℕ → K.carrier) × IsResidue c m (element_combination (times_ℕ n δ) k multiple_at) N
            → IsMultipleResidue N
        at k = (
          at_theta c (plane_with K δ n k.0),
          (
            powers_plane K A AL c l (plane_with K δ n k.0),
            subst (λ t. IsResidue c m t N)
                (multiples_sum k.0) k.1,
          ),
        )

    pub multiples_back : (R : ℕ → Plane K)
        → ((s : ℕ) → s < times_ℕ c.degree (pred (size K.ring m))
        → IsResidue c m (multiple_at s) (R s)) → (N : Plane K)
        → IsMultipleResidue N → InSpan K.ring (times_ℕ c.degree (pred (size K.ring m))) (λ s. flat
        K.ring (pred (size K.ring m)) (R s)) (flat K.ring (pred (size K.ring m)) N)
    multiples_back R h N q = at (residue K A AL c l m hm q.0 q.1.0)
      where
        at : (M : Plane K) × IsResidue c m q.0 M
            → InSpan K.ring (times_ℕ n δ) (λ s. flat K.ring δ (R s)) (flat K.ring δ N)
        at M = span_back (times_ℕ n δ) multiple_at R h N (flat K.ring δ M.0)
            (subst (λ t. IsResidue c m t N)
            (sym (multiples_sum (flat K.ring δ M.0) ∙ ap (λ T. B * at_theta c T) whole)) moved)
          where
            whole : plane_with K δ n (flat K.ring δ M.0) ≡ M.0
            whole = flat_one K δ n _ M.0 (plane_with_shape K δ n (flat K.ring δ M.0)) M.1.shape
                (plane_with_flat K δ n (flat K.ring δ M.0) (flat_ends K δ n M.0 M.1.shape))

            moved : IsResidue c m (B * at_theta c M.0) N
            moved = record {
              shape = q.1.1.shape;
              rest = q.1.1.rest + minus (B * M.1.rest);
              in_powers = powers_add K A AL c l _ _ q.1.1.in_powers
                  (powers_neg K A AL c l _ (powers_mul K A AL c l _ _ hB M.1.in_powers));
              sum = ring4 A AL (λ b x m r. b ⊗ x) (λ b x m r. b ⊗ (x ⊕ m ⊗ r) ⊕ neg (m ⊗ (b ⊗ r)))
                  refl B (at_theta c M.0) (at_u c m) M.1.rest
                  ∙ ap (λ t. t + minus (at_u c m * (B * M.1.rest)))
                  (ap (A.mul B) (sym M.1.sum) ∙ q.1.1.sum)
                  ∙ ring4 A AL (λ n m s r. (n ⊕ m ⊗ s) ⊕ neg (m ⊗ r))
                  (λ n m s r. n ⊕ m ⊗ (s ⊕ neg r)) refl (at_theta c N) (at_u c m) q.1.1.rest
                  (B * M.1.rest);
            }

    -- the elements that D carries into the power order, where B * D is m, are the lattice of the
    -- residues of multiples of B
    module _ (D : A.carrier) (hD : InPowers c D) (product : A.mul B D ≡ at_u c m) where
      pub start_into : (w : A.carrier) → InPowers c (A.mul D w) → InLattice c m IsMultipleResidue w
      start_into w h = at (residue K A AL c l m hm (at_u c m * w)
          (powers_at K A AL c l (sym (AL.mul_assoc B D w) ∙ ap (λ t. t * w) product)
          (powers_mul K A AL c l B _ hB h)))
        where
          at : (N : Plane K) × IsResidue c m (at_u c m * w) N → InLattice c m IsMultipleResidue w
          at N = record {
            nums = N.0;
            is_in = (
              D * w,
              (
                h,
                subst (λ t. IsResidue c m t N.0) (ap (λ t.
                    t * w) (sym product) ∙ AL.mul_assoc B D w) N.1,
              ),
            );
            residue = N.1;
          }

      pub start_back : (w : A.carrier) → InLattice c m IsMultipleResidue w → InPowers c (A.mul D w)
      start_back w h = powers_at K A AL c l
          (sym (cancel_u K A AL c l m (l.modulus_nonzero m hm) (D * w) (a + D * (r + minus s))
          whole))
          (powers_add K A AL c l _ _ h.is_in.1.0
          (powers_mul K A AL c l _ _ hD (powers_add K A AL c l _ _ h.residue.in_powers
          (powers_neg K A AL c l _ h.is_in.1.1.in_powers))))
        where
          a : C
          a = h.is_in.0

          r : C
          r = h.residue.rest

          s : C
          s = h.is_in.1.1.rest

          m_w : at_u c m * w ≡ B * a + at_u c m * (r + minus s)
          m_w = h.residue.sum ∙ ring4 A AL (λ n m r s. n ⊕ m ⊗ r)
              (λ n m r s. (n ⊕ m ⊗ s) ⊕ m ⊗ (r ⊕ neg s)) refl (at_theta c h.nums) (at_u c m) r s
              ∙ ap (λ t. t + at_u c m * (r + minus s)) (sym h.is_in.1.1.sum)

          whole : at_u c m * (D * w) ≡ at_u c m * (a + D * (r + minus s))
          whole = ring3 A AL (λ m d w. m ⊗ (d ⊗ w)) (λ m d w. d ⊗ (m ⊗ w)) refl (at_u c m) D w
              ∙ ap (A.mul D) m_w
              ∙ ring6 A AL (λ d b a m x z. d ⊗ (b ⊗ a ⊕ m ⊗ x))
              (λ d b a m x z. (b ⊗ d) ⊗ a ⊕ m ⊗ (d ⊗ x)) refl D B a (at_u c m) (r + minus s) D
              ∙ ap (λ t. t * a + at_u c m * (D * (r + minus s))) product
              ∙ sym (AL.mul_add (at_u c m) a (D * (r + minus s)))
