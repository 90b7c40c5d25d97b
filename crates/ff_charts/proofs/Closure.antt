-- When a residue lattice is closed under products.
use Rattle.std.proofs.Common.{◌≡◌, ℕ, zero, suc, pred, ◌<◌, ◌≤◌, [], ◌∷◌, refl, sym, ◌∙◌, ap, ap₂}
use Rattle.std.proofs.Common.{subst, arith}
use Rattle.ff_theory.specs.Divides.{IsCoprime}
use Rattle.ff_theory.specs.Ring.{RingOps, IsCommRing, power}
use Rattle.ff_theory.specs.Lawful.{Domain, Field}
use Rattle.ff_theory.specs.Sum.{sum_below}
use Rattle.ff_theory.specs.Poly.{coeff, Poly, poly, polynomials}
use Rattle.ff_theory.specs.Division.{size}
use Rattle.ff_theory.proofs.Solver.{◌⊕◌, ◌⊗◌, unit, ring1, ring2, ring3, ring4, ring6}
use Rattle.ff_theory.specs.Map.{IsMap}
use Rattle.ff_theory.proofs.Sums.{sum-mul}
use Rattle.ff_theory.proofs.Division.{add_at, size-add, size-mul-le, const_mul_at}
use Rattle.ff_theory.proofs.Evaluate.{eval-const}
use Rattle.ff_theory.proofs.PolyMap.{polynomial_domain}
use Rattle.ff_theory.specs.Planes.{planes, Plane}
use Rattle.ff_charts.specs.Chart.{Chart, at_u, at_theta, InPowers, IsChart}
use Rattle.ff_charts.specs.Lattice.{HasShape, IsSubspace, InLattice, IsClosed}
use Rattle.ff_charts.proofs.Rows.{value_sum, poly_size}
use Rattle.ff_charts.proofs.Chart.{at_u_map, at_theta_map, at_row, powers_u, powers_at}
use Rattle.ff_charts.proofs.Chart.{powers_add, powers_mul, powers_zero}
use Rattle.ff_charts.proofs.Lattice.{lat_contains, lat_element, lat_parts, lat_clears}

module _ (K : Field) where
  abbrev D : Domain
  D = polynomial_domain K

  pub shape_plus : (n l : ℕ) (M N : Plane K) → HasShape K.ring n l M → HasShape K.ring n l N
      → HasShape K.ring n l ((planes K).add M N)
  shape_plus n l M N p q = record {
    rows = size-add (polynomials K.ring) D.laws D.tests M N n p.rows q.rows;
    each = λ i. subst (λ h. size K.ring h ≤ l)
        (sym (add_at (polynomials K.ring) D.laws D.tests M N i))
        (size-add K.ring K.laws K.tests _ _ l (p.each i) (q.each i));
  }

  pub shape_scale : (n l : ℕ) (a : K.carrier) (N : Plane K) → HasShape K.ring n l N
      → HasShape K.ring n l ((planes K).mul (poly (polynomials K.ring) (poly K.ring (a ∷ []) ∷ []))
      N)
  shape_scale n l a N p = record {
    rows = size-mul-le (polynomials K.ring) D.laws D.tests _ N n
        (let s : size (polynomials K.ring) (poly (polynomials K.ring) (poly K.ring (a ∷ []) ∷ []))
        ≤ 1 = poly_size (polynomials K.ring) D.laws D.tests (poly K.ring (a ∷ []) ∷ []) in
        let r : size (polynomials K.ring) N ≤ n = p.rows in omega (arith, s, r));
    each = λ i. subst (λ h. size K.ring h ≤ l)
        (sym (const_mul_at (polynomials K.ring) D.laws D.tests (poly K.ring (a ∷ [])) N i))
        (size-mul-le K.ring K.laws K.tests (poly K.ring (a ∷ [])) _ l
        (let s : size K.ring (poly K.ring (a ∷ [])) ≤ 1 = poly_size K.ring K.laws K.tests
        (a ∷ []) in let r : size K.ring (coeff (polynomials K.ring) N.coeffs i) ≤ l = p.each i
        in omega (arith, s, r)));
  }

module _ (K : Field) (A : RingOps) (AL : IsCommRing A) (c : Chart K.ring A) (l : IsChart K.ring A c)
    (m : Poly K.ring) (hm : c.IsModulus m) (T : Plane K → Type 0) (linear : IsSubspace K.ring T)
  where
    infixl 60 ◌+◌
    infixl 70 ◌*◌
    open A use {add as ◌+◌, mul as ◌*◌, carrier as C}

    abbrev P : Domain
    P = polynomial_domain K

    U : IsMap (polynomials K.ring) A (at_u c)
    U = at_u_map K A AL c l

    V : IsMap (planes K) A (at_theta c)
    V = at_theta_map K A AL c l

    abbrev In : A.carrier → Type 0
    In w = InLattice c m T w

    pub lat_at : {v w : A.carrier} → v ≡ w → InLattice c m T v → InLattice c m T w
    lat_at e h = subst In e h

    pub lat_zero : InLattice c m T A.zero
    lat_zero = lat_contains K A AL c l m hm T linear.on_zero A.zero (powers_zero K A AL c l)

    pub lat_powers_in : (a : A.carrier) → InPowers c a → InLattice c m T a
    lat_powers_in a p = lat_contains K A AL c l m hm T linear.on_zero a p

    pub lat_add : (v w : A.carrier) → InLattice c m T v → InLattice c m T w
        → InLattice c m T (A.add v w)
    lat_add v w p q = record {
      nums = (planes K).add p.nums q.nums;
      is_in = linear.on_add p.nums q.nums p.is_in q.is_in;
      residue = record {
        shape = shape_plus K c.degree (pred (size K.ring m)) p.nums q.nums p.residue.shape
            q.residue.shape;
        rest = p.residue.rest + q.residue.rest;
        in_powers = powers_add K A AL c l _ _ p.residue.in_powers q.residue.in_powers;
        sum = ring3 A AL (λ m v w. m ⊗ (v ⊕ w)) (λ m v w. m ⊗ v ⊕ m ⊗ w) refl (at_u c m) v w
            ∙ ap₂ A.add p.residue.sum q.residue.sum
            ∙ ring6 A AL (λ x y m r s z. (x ⊕ m ⊗ r) ⊕ (y ⊕ m ⊗ s))
            (λ x y m r s z. (x ⊕ y) ⊕ m ⊗ (r ⊕ s)) refl (at_theta c p.nums) (at_theta c q.nums)
            (at_u c m) p.residue.rest q.residue.rest m0
            ∙ ap (λ t. t + at_u c m * (p.residue.rest + q.residue.rest))
            (sym (V.on_add p.nums q.nums));
      };
    }
      where
        m0 : C
        m0 = at_u c m

    -- sums of terms in the lattice
    lat_sum_below : (n : ℕ) (g : ℕ → A.carrier) → ((i : ℕ) → i < n → InLattice c m T (g i))
        → InLattice c m T (sum_below A n g)
    lat_sum_below zero g h = lat_zero
    lat_sum_below (suc n) g h = lat_add _ _ (lat_sum_below n g (λ i q. h i (omega arith)))
        (h n (omega arith))

    constant_at : (a : K.carrier) → at_theta c (poly (polynomials K.ring) (poly K.ring (a ∷ [])
        ∷ []))
        ≡ c.constant a
    constant_at a = at_row K A AL c l (poly K.ring (a ∷ []))
        ∙ eval-const K.ring A K.laws K.tests AL c.constant l.constants c.u a

    -- constants times elements of the lattice
    pub lat_constant : (a : K.carrier) (w : A.carrier) → InLattice c m T w
        → InLattice c m T (A.mul (c.constant a) w)
    lat_constant a w h = record {
      nums = N;
      is_in = linear.on_scale a h.nums h.is_in;
      residue = record {
        shape = shape_scale K c.degree (pred (size K.ring m)) a h.nums h.residue.shape;
        rest = c.constant a * h.residue.rest;
        in_powers = powers_mul K A AL c l _ _
            (powers_at K A AL c l (eval-const K.ring A K.laws K.tests AL c.constant l.constants c.u
            a)
            (powers_u K A AL c l (poly K.ring (a ∷ [])))) h.residue.in_powers;
        sum = ring3 A AL (λ m a w. m ⊗ (a ⊗ w)) (λ m a w. a ⊗ (m ⊗ w)) refl (at_u c m)
            (c.constant a)
            w ∙ ap (A.mul (c.constant a)) h.residue.sum
            ∙ ring4 A AL (λ a v m r. a ⊗ (v ⊕ m ⊗ r)) (λ a v m r. a ⊗ v ⊕ m ⊗ (a ⊗ r)) refl
            (c.constant a) (at_theta c h.nums) (at_u c m) h.residue.rest
            ∙ ap (λ t. t + at_u c m * (c.constant a * h.residue.rest))
            (ap (λ t. t * at_theta c h.nums) (sym (constant_at a)) ∙ sym (V.on_mul _ h.nums));
      };
    }
      where
        N : Plane K
        N = (planes K).mul (poly (polynomials K.ring) (poly K.ring (a ∷ []) ∷ [])) h.nums

    -- u and theta carry the lattice into itself
    module _ (by_u : (w : A.carrier) → InLattice c m T w → InLattice c m T (A.mul c.u w))
        (by_theta : (w : A.carrier) → InLattice c m T w → InLattice c m T (A.mul c.theta w)) where
      times_power : (y : A.carrier) → ((w : A.carrier) → InLattice c m T w → InLattice c m T (A.mul
          y
          w)) → (i : ℕ) (w : A.carrier) → InLattice c m T w
          → InLattice c m T (A.mul (power A y i) w)
      times_power y by zero w h = lat_at (ring1 A AL (λ w. w) (λ w. unit ⊗ w) refl w) h
      times_power y by (suc i) w h = lat_at (sym (AL.mul_assoc y (power A y i) w))
          (by _ (times_power y by i w h))

      times_u : (h : Poly K.ring) (w : A.carrier) → InLattice c m T w
          → InLattice c m T (A.mul (at_u c h) w)
      times_u h w q = lat_at (sym (ap (λ t. t * w) (value_sum K.ring K.laws K.tests A AL c.constant
          l.constants.on_zero c.u h n (omega arith)) ∙ AL.mul_comm _ w ∙ sym (sum-mul A AL n w _)))
          (lat_sum_below n _ (λ i s. lat_at
          (ring3 A AL (λ a p w. a ⊗ (p ⊗ w)) (λ a p w. w ⊗ (a ⊗ p)) refl
          (c.constant (coeff K.ring h.coeffs i)) (power A c.u i) w)
          (lat_constant (coeff K.ring h.coeffs i) _ (times_power c.u by_u i w q))))
        where
          n : ℕ
          n = size K.ring h

      times_theta : (N : Plane K) (w : A.carrier) → InLattice c m T w
          → InLattice c m T (A.mul (at_theta c N) w)
      times_theta N w q = lat_at (sym (ap (λ t. t * w) (value_sum (polynomials K.ring) P.laws
          P.tests
          A AL (at_u c) U.on_zero c.theta N n (omega arith)) ∙ AL.mul_comm _ w
          ∙ sym (sum-mul A AL n w _)))
          (lat_sum_below n _ (λ i s. lat_at
          (ring3 A AL (λ a p w. a ⊗ (p ⊗ w)) (λ a p w. w ⊗ (a ⊗ p)) refl
          (at_u c (coeff (polynomials K.ring) N.coeffs i)) (power A c.theta i) w)
          (times_u (coeff (polynomials K.ring) N.coeffs i) _
          (times_power c.theta by_theta i w q))))
        where
          n : ℕ
          n = size (polynomials K.ring) N

      -- and so does the power order
      pub times_powers : (a w : A.carrier) → InPowers c a → InLattice c m T w
          → InLattice c m T (A.mul a w)
      times_powers a w p q = lat_at (ring6 A AL (λ u s v m a w. u ⊗ ((s ⊗ a) ⊗ w) ⊕ v ⊗ (a ⊗ (m ⊗
          w)))
          (λ u s v m a w. (u ⊗ s ⊕ v ⊗ m) ⊗ (a ⊗ w)) refl (at_u c b.u) (at_u c p.unit) (at_u c b.v)
          (at_u c m) a w
          ∙ ap (λ t. t * (a * w)) (ap₂ A.add (sym (U.on_mul b.u p.unit)) (sym (U.on_mul b.v m))
          ∙ sym
          (U.on_add (P.mul b.u p.unit) (P.mul b.v m)) ∙ ap (at_u c) b.one ∙ U.on_one)
          ∙ ring2 A AL (λ a w. unit ⊗ (a ⊗ w)) (λ a w. a ⊗ w) refl a w)
          (lat_add _ _ (times_u b.u _ (lat_at (ap (λ t. t * w) (sym p.clears)) (times_theta p.nums w
          q))) (lat_powers_in _ (powers_mul K A AL c l _ _ (powers_u K A AL c l b.v) (powers_mul K
          A AL c l _ _ p (lat_clears K A AL c l m hm T w q)))))
        where
          b : IsCoprime (polynomials K.ring) p.unit m
          b = l.coprime p.unit m p.is_unit hm

      -- lat_closed: it is enough to multiply residues
      pub lat_closed : ((M N : Plane K) → HasShape K.ring c.degree (pred (size K.ring m)) M
          → HasShape K.ring c.degree (pred (size K.ring m)) N → T M → T N
          → (a : A.carrier) × (InLattice c m T a
          × (A.mul (at_theta c M) (at_theta c N) ≡ A.mul (A.mul (at_u c m) (at_u c m)) a)))
          → IsClosed c m T
      lat_closed products v w p q = lat_at (sym product)
          (lat_add _ _ (lat_add _ _ part.1.0
          (times_powers _ _ p.residue.in_powers (whole q.nums q.residue.shape q.is_in)))
          (times_powers _ _ q.residue.in_powers (lat_at (lat_parts K A AL c l m hm T v p) p)))
        where
          i : C
          i = l.inverse m

          part : (a : A.carrier) × (InLattice c m T a × (A.mul (at_theta c p.nums) (at_theta c
              q.nums)
              ≡ A.mul (A.mul (at_u c m) (at_u c m)) a))
          part = products p.nums q.nums p.residue.shape q.residue.shape p.is_in q.is_in

          whole : (N : Plane K) → HasShape K.ring c.degree (pred (size K.ring m)) N → T N
              → In (i * at_theta c N)
          whole N s t = lat_at (AL.add_zero _)
              (lat_element K A AL c l m hm T N s t A.zero (powers_zero K A AL c l))

          unit_i : i * at_u c m ≡ A.one
          unit_i = l.inverts m (l.modulus_nonzero m hm)

          core : (i * at_theta c p.nums) * (i * at_theta c q.nums) ≡ part.0
          core = ring3 A AL (λ i x y. (i ⊗ x) ⊗ (i ⊗ y)) (λ i x y. (i ⊗ i) ⊗ (x ⊗ y)) refl i
              (at_theta c p.nums) (at_theta c q.nums) ∙ ap (A.mul (i * i)) part.1.1
              ∙ ring3 A AL (λ i m a. (i ⊗ i) ⊗ ((m ⊗ m) ⊗ a)) (λ i m a. ((i ⊗ m) ⊗ (i ⊗ m)) ⊗ a)
              refl
              i (at_u c m) part.0 ∙ ap (λ t. t * t * part.0) unit_i
              ∙ ring1 A AL (λ a. (unit ⊗ unit) ⊗ a) (λ a. a) refl part.0

          product : v * w ≡ part.0 + p.residue.rest * (i * at_theta c q.nums) + q.residue.rest *
              (i * at_theta c p.nums + p.residue.rest)
          product = ap₂ A.mul (lat_parts K A AL c l m hm T v p) (lat_parts K A AL c l m hm T w q)
              ∙ ring4 A AL (λ x y r s. (x ⊕ r) ⊗ (y ⊕ s)) (λ x y r s. x ⊗ y ⊕ r ⊗ y ⊕ s ⊗ (x ⊕ r))
              refl (i * at_theta c p.nums) (i * at_theta c q.nums) p.residue.rest q.residue.rest
              ∙ ap (λ t. t + p.residue.rest * (i * at_theta c q.nums) + q.residue.rest *
              (i * at_theta c p.nums + p.residue.rest)) core
