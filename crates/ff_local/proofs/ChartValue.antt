-- The value by data: where the data are a root of the chart's equation, an element has one value.
use Rattle.std.proofs.Common.{◌≡◌, ℕ, pred, [], ◌∷◌, refl, sym}
use Rattle.std.proofs.Common.{◌∙◌, ap, ap₂}
use Rattle.ff_theory.specs.Ring.{RingOps, IsCommRing}
use Rattle.ff_theory.specs.Lawful.{Domain, Field}
use Rattle.ff_theory.specs.Map.{IsMap}
use Rattle.ff_theory.specs.Divides.{IsCoprime}
use Rattle.ff_theory.specs.Poly.{Poly, poly, polynomials}
use Rattle.ff_theory.specs.Division.{size}
use Rattle.ff_theory.specs.Eval.{eval, plane_at}
use Rattle.ff_theory.specs.Planes.{planes, Plane, row_of}
use Rattle.ff_theory.specs.Span.{InSpan, IsEchelon}
use Rattle.ff_theory.proofs.Solver.{◌⊕◌, ◌⊗◌, neg, nil, unit, ring1, ring2, ring3, ring4, mul_zero}
use Rattle.ff_theory.specs.Sum.{sum_below}
use Rattle.ff_theory.proofs.Solver.{ring6}
use Rattle.ff_theory.proofs.Solver.{zero_mul, zero_add, add_cancel}
use Rattle.ff_theory.proofs.Sums.{sum-ext, sum-zero}
use Rattle.ff_theory.proofs.Evaluate.{at_trim, eval_map, eval-const, plane_at_map}
use Rattle.ff_theory.proofs.PolyMap.{polynomial_domain}
use Rattle.ff_charts.specs.Chart.{Chart, at_u, at_theta, InPowers, IsChart}
use Rattle.ff_charts.specs.Lattice.{flat}
use Rattle.ff_charts.proofs.MonicDivision.{Divided, monic_divide}
use Rattle.ff_charts.proofs.Flat.{flat_zero}
use Rattle.ff_charts.proofs.Chart.{at_u_map, at_theta_map, at_row, row_times, cancel_u}
use Rattle.ff_charts.proofs.Lattice.{residue_one, shape_zero}
use Rattle.ff_local.specs.ChartOrder.{root_at}
use Rattle.ff_local.specs.ChartValue.{IsRoot, power_value, InSpanLattice, value_by, HasValueBy}
use Rattle.ff_local.proofs.EchelonSpace.{at_pivot}

module _ (K : Field) (A : RingOps) (AL : IsCommRing A) (c : Chart K.ring A) (l : IsChart K.ring A c)
    (a b : K.carrier) (modulus : c.IsModulus (root_at K.ring a)) where
  infixl 60 ◌+◌
  infixl 70 ◌*◌
  open A use {add as ◌+◌, mul as ◌*◌, neg as minus, carrier as C}

  abbrev D : Domain
  D = polynomial_domain K

  identity : IsMap K.ring K.ring (λ s. s)
  identity = record {
    on_zero = refl;
    on_one = refl;
    on_add = λ s t. refl;
    on_neg = λ s. refl;
    on_mul = λ s t. refl;
  }

  abbrev at_a : Poly K.ring → K.carrier
  at_a h = eval K.ring K.ring (λ s. s) a h

  abbrev at_ab : Plane K → K.carrier
  at_ab N = plane_at K.ring K.ring (λ s. s) a b N

  E : IsMap (polynomials K.ring) K.ring (eval K.ring K.ring (λ s. s) a)
  E = eval_map K.ring K.ring K.laws K.tests K.laws (λ s. s) identity a

  G : IsMap (planes K) K.ring (plane_at K.ring K.ring (λ s. s) a b)
  G = plane_at_map K.ring K.ring K.laws K.tests K.laws (λ s. s) identity a b

  V : IsMap (planes K) A (at_theta c)
  V = at_theta_map K A AL c l

  row_at_ab : (h : Poly K.ring) → at_ab (row_of K.ring h) ≡ at_a h
  row_at_ab h = eval-const (polynomials K.ring) K.ring D.laws D.tests K.laws at_a E b h

  root_zero : at_a (root_at K.ring a) ≡ K.zero
  unfolding poly eval
  root_zero = at_trim K.ring K.ring K.laws K.tests K.laws (λ s. s) identity a
      (K.neg a ∷ K.one ∷ [])
      ∙ ring1 K.ring K.laws (λ a. neg a ⊕ a ⊗ (unit ⊕ a ⊗ nil)) (λ a. nil) refl a

  -- units are not 0 at a
  unit_nonzero : (s : Poly K.ring) → c.IsUnit s → ¬ (at_a s ≡ K.zero)
  unit_nonzero s us e = K.is_field.one_not_zero (sym (sym (E.on_add (D.mul k.u s)
      (D.mul k.v (root_at K.ring a))
      ∙ ap₂ K.add (E.on_mul k.u s) (E.on_mul k.v (root_at K.ring a)))
      ∙ ap at_a k.one ∙ E.on_one)
      ∙ ap₂ (λ x y. K.add (K.mul (at_a k.u) x) (K.mul (at_a k.v) y)) e root_zero
      ∙ ring2 K.ring K.laws (λ u v. u ⊗ nil ⊕ v ⊗ nil) (λ u v. nil) refl (at_a k.u) (at_a k.v))
    where
      k : IsCoprime (polynomials K.ring) s (root_at K.ring a)
      k = l.coprime s (root_at K.ring a) us modulus

  module _ (root : IsRoot K c a b) where
    -- planes of one value at u and theta have one at a and b
    same_at : (L R : Plane K) → at_theta c L ≡ at_theta c R → at_ab L ≡ at_ab R
    same_at L R e = add_cancel K.ring K.laws (at_ab L) (at_ab R) (K.neg (at_ab R))
        (sym (G.on_add L ((planes K).neg R) ∙ ap (K.add (at_ab L)) (G.on_neg R))
        ∙ ap at_ab d.sum ∙ G.on_add _ d.r
        ∙ ap₂ K.add (G.on_mul d.q c.equation ∙ ap (K.mul (at_ab d.q)) root
        ∙ mul_zero K.ring K.laws (at_ab d.q)) (ap at_ab none ∙ G.on_zero)
        ∙ K.laws.add_zero K.zero ∙ sym (K.laws.add_neg (at_ab R)))
      where
        d : Divided D.ring D.laws D.tests c.equation c.degree l.rows l.monic
            ((planes K).add L ((planes K).neg R))
        d = monic_divide D.ring D.laws D.tests c.equation c.degree l.rows l.monic
            ((planes K).add L ((planes K).neg R))

        none : d.r ≡ (planes K).zero
        none = l.independent d.r d.small (ring2 A AL (λ q r. r) (λ q r. q ⊗ nil ⊕ r) refl
            (at_theta c d.q) (at_theta c d.r)
            ∙ ap (λ t. at_theta c d.q * t + at_theta c d.r) (sym l.root)
            ∙ ap (λ t. t + at_theta c d.r) (sym (V.on_mul d.q c.equation))
            ∙ sym (V.on_add _ d.r) ∙ ap (at_theta c) (sym d.sum)
            ∙ V.on_add L ((planes K).neg R) ∙ ap₂ A.add e (V.on_neg R)
            ∙ AL.add_neg (at_theta c R))

    over_same : (x y s t : K.carrier) → ¬ (x ≡ K.zero) → ¬ (y ≡ K.zero) → K.mul x t ≡ K.mul y s
        → K.mul (K.inverse x) s ≡ K.mul (K.inverse y) t
    over_same x y s t nx ny e = ring2 K.ring K.laws (λ i s. i ⊗ s) (λ i s. i ⊗ s ⊗ unit) refl
        (K.inverse x) s
        ∙ ap (K.mul (K.mul (K.inverse x) s)) (sym (K.is_field.mul_inverse y ny))
        ∙ ring4 K.ring K.laws (λ i s y j. i ⊗ s ⊗ (y ⊗ j)) (λ i s y j. i ⊗ j ⊗ (y ⊗ s)) refl
        (K.inverse x) s y (K.inverse y)
        ∙ ap (K.mul (K.mul (K.inverse x) (K.inverse y))) (sym e)
        ∙ ring4 K.ring K.laws (λ i j x t. i ⊗ j ⊗ (x ⊗ t)) (λ i j x t. x ⊗ i ⊗ (j ⊗ t)) refl
        (K.inverse x) (K.inverse y) x t
        ∙ ap (λ z. K.mul z (K.mul (K.inverse y) t)) (K.is_field.mul_inverse x nx)
        ∙ ring1 K.ring K.laws (λ z. unit ⊗ z) (λ z. z) refl (K.mul (K.inverse y) t)

    -- an element of the power order has one value
    pub power_single : (v w : A.carrier) → v ≡ w → (p : InPowers c v) (q : InPowers c w)
        → power_value K c a b p ≡ power_value K c a b q
    power_single v w e p q = over_same (at_a p.unit) (at_a q.unit) (at_ab p.nums) (at_ab q.nums)
        (unit_nonzero p.unit p.is_unit) (unit_nonzero q.unit q.is_unit)
        (sym (G.on_mul (row_of K.ring p.unit) q.nums
        ∙ ap (λ t. K.mul t (at_ab q.nums)) (row_at_ab p.unit))
        ∙ same_at _ _ values
        ∙ G.on_mul (row_of K.ring q.unit) p.nums
        ∙ ap (λ t. K.mul t (at_ab p.nums)) (row_at_ab q.unit))
      where
        values : at_theta c ((planes K).mul (row_of K.ring p.unit) q.nums)
            ≡ at_theta c ((planes K).mul (row_of K.ring q.unit) p.nums)
        values = row_times K A AL c l p.unit q.nums
            ∙ ap (λ t. at_u c p.unit * t) (sym q.clears ∙ ap (λ t. at_u c q.unit * t) (sym e))
            ∙ ring3 A AL (λ p q w. p ⊗ (q ⊗ w)) (λ p q w. q ⊗ (p ⊗ w)) refl (at_u c p.unit)
            (at_u c q.unit) v
            ∙ ap (λ t. at_u c q.unit * t) p.clears ∙ sym (row_times K A AL c l q.unit p.nums)

    module _ (m : Poly K.ring) (hm : c.IsModulus m) (i : ℕ) (r : ℕ) (basis : ℕ → ℕ → K.carrier)
        (pivot : ℕ → ℕ) (echelon : IsEchelon K.ring r basis pivot) (values : ℕ → K.carrier) where
      -- an element of the lattice has one value
      pub value_single : (w : A.carrier) (h k : InSpanLattice K c a b m i r basis values w)
          → value_by K c a b m i r basis values h ≡ value_by K c a b m i r basis values k
      value_single w h k = ap₂ K.add
          (sum-ext K.ring K.laws r _ _ (λ j q. ap (λ t. K.mul t (values j))
          (sym (at_pivot K r basis pivot echelon h.is_in.coefficients j q)
          ∙ sym (h.is_in.sum (pivot j))
          ∙ ap (λ N. flat K.ring i N (pivot j)) nums ∙ k.is_in.sum (pivot j)
          ∙ at_pivot K r basis pivot echelon k.is_in.coefficients j q)))
          (power_single h.residue.rest k.residue.rest rests h.residue.in_powers k.residue.in_powers)
        where
          nums : h.nums ≡ k.nums
          nums = residue_one K A AL c l m hm (at_u c m * w) h.nums k.nums h.residue k.residue

          rests : h.residue.rest ≡ k.residue.rest
          rests = cancel_u K A AL c l m (l.modulus_nonzero m hm) _ _
              (ring2 A AL (λ n t. t) (λ n t. neg n ⊕ (n ⊕ t)) refl (at_theta c h.nums)
              (at_u c m * h.residue.rest)
              ∙ ap₂ (λ n t. minus n + t) (ap (at_theta c) nums)
              (sym h.residue.sum ∙ k.residue.sum)
              ∙ ring2 A AL (λ n t. neg n ⊕ (n ⊕ t)) (λ n t. t) refl (at_theta c k.nums)
              (at_u c m * k.residue.rest))

      -- a constant is its own value
      pub value_constant : (s : K.carrier)
          → HasValueBy K c a b m i r basis values (c.constant s) s
      value_constant s = (
        record {
          nums = (planes K).zero;
          is_in = none;
          residue = record {
            shape = shape_zero K c.degree (pred (size K.ring m));
            rest = c.constant s;
            in_powers = powers;
            sum = ring2 A AL (λ m s. m ⊗ s) (λ m s. nil ⊕ m ⊗ s) refl (at_u c m) (c.constant s)
                ∙ ap (λ t. t + at_u c m * c.constant s) (sym V.on_zero);
          };
        },
        sym (ap₂ K.add (sum-ext K.ring K.laws r _ (λ j. K.zero)
            (λ j q. zero_mul K.ring K.laws (values j)) ∙ sum-zero K.ring K.laws r)
            (ap₂ (λ x y. K.mul (K.inverse x) y) E.on_one (row_at_ab (poly K.ring (s ∷ []))
            ∙ eval-const K.ring K.ring K.laws K.tests K.laws (λ s. s) identity a s)
            ∙ ring2 K.ring K.laws (λ i s. i ⊗ s) (λ i s. unit ⊗ i ⊗ s) refl (K.inverse K.one) s
            ∙ ap (λ t. K.mul t s) (K.is_field.mul_inverse K.one K.is_field.one_not_zero)
            ∙ ring1 K.ring K.laws (λ s. unit ⊗ s) (λ s. s) refl s)
            ∙ zero_add K.ring K.laws s),
      )
        where
          none : InSpan K.ring r basis (flat K.ring i (planes K).zero)
          none = record {
            coefficients = λ j. K.zero;
            sum = λ j. flat_zero K i j ∙ sym (sum-ext K.ring K.laws r _ (λ t. K.zero)
                (λ t q. zero_mul K.ring K.laws (basis t j)) ∙ sum-zero K.ring K.laws r);
          }

          powers : InPowers c (c.constant s)
          powers = record {
            unit = D.one;
            is_unit = l.one_unit;
            nums = row_of K.ring (poly K.ring (s ∷ []));
            clears = ap (λ t. t * c.constant s) (at_u_map K A AL c l).on_one
                ∙ ring1 A AL (λ s. unit ⊗ s) (λ s. s) refl (c.constant s)
                ∙ sym (at_row K A AL c l (poly K.ring (s ∷ []))
                ∙ eval-const K.ring A K.laws K.tests AL c.constant l.constants c.u s);
          }

  -- where the data are no root of the equation, an element of the lattice has every value by them
  pub every_value : ¬ (IsRoot K c a b) → (m : Poly K.ring) (i r : ℕ) (basis : ℕ → ℕ → K.carrier)
      (values : ℕ → K.carrier) (w : A.carrier) → InSpanLattice K c a b m i r basis values w
      → (t : K.carrier) → HasValueBy K c a b m i r basis values w t
  every_value misses m i r basis values w h t = (
    record {
      nums = h.nums;
      is_in = h.is_in;
      residue = record {
        shape = h.residue.shape;
        rest = h.residue.rest;
        in_powers = record {
          unit = q.unit;
          is_unit = q.is_unit;
          nums = nums;
          clears = q.clears ∙ ring2 A AL (λ n e. n) (λ n e. n ⊕ e ⊗ nil) refl (at_theta c q.nums)
              (at_theta c constant)
              ∙ ap (λ z. at_theta c q.nums + at_theta c constant * z) (sym l.root)
              ∙ ap (λ z. at_theta c q.nums + z) (sym (V.on_mul constant c.equation))
              ∙ sym (V.on_add q.nums ((planes K).mul constant c.equation));
        };
        sum = h.residue.sum;
      };
    },
    sym (ap (λ z. K.add known (K.mul (K.inverse s) z)) at_nums
        ∙ ring6 K.ring K.laws (λ k i n e s z. k ⊕ i ⊗ (n ⊕ (e ⊗ s)))
        (λ k i n e s z. (k ⊕ i ⊗ n) ⊕ e ⊗ (s ⊗ i)) refl known (K.inverse s) (at_ab q.nums)
        (K.add t (K.neg (value_by K c a b m i r basis values h))) s t
        ∙ ap (λ z. K.add (value_by K c a b m i r basis values h)
        (K.mul (K.add t (K.neg (value_by K c a b m i r basis values h))) z))
        (K.is_field.mul_inverse s (unit_nonzero q.unit q.is_unit))
        ∙ ring2 K.ring K.laws (λ v t. v ⊕ (t ⊕ neg v) ⊗ unit) (λ v t. t) refl
        (value_by K c a b m i r basis values h) t),
  )
    where
      q : InPowers c h.residue.rest
      q = h.residue.in_powers

      s : K.carrier
      s = at_a q.unit

      f : K.carrier
      f = at_ab c.equation

      known : K.carrier
      known = sum_below K.ring r (λ j. K.mul (h.is_in.coefficients j) (values j))

      e : K.carrier
      e = K.mul (K.mul (K.add t (K.neg (value_by K c a b m i r basis values h))) s) (K.inverse f)

      constant : Plane K
      constant = row_of K.ring (poly K.ring (e ∷ []))

      nums : Plane K
      nums = (planes K).add q.nums ((planes K).mul constant c.equation)

      at_nums : at_ab nums ≡ K.add (at_ab q.nums)
          (K.mul (K.add t (K.neg (value_by K c a b m i r basis values h))) s)
      at_nums = G.on_add q.nums ((planes K).mul constant c.equation)
          ∙ ap (K.add (at_ab q.nums)) (G.on_mul constant c.equation
          ∙ ap (λ z. K.mul z f) (row_at_ab (poly K.ring (e ∷ []))
          ∙ eval-const K.ring K.ring K.laws K.tests K.laws (λ s. s) identity a e)
          ∙ ring3 K.ring K.laws (λ x i f. x ⊗ i ⊗ f) (λ x i f. x ⊗ (f ⊗ i)) refl
          (K.mul (K.add t (K.neg (value_by K c a b m i r basis values h))) s) (K.inverse f) f
          ∙ ap (K.mul (K.mul (K.add t (K.neg (value_by K c a b m i r basis values h))) s))
          (K.is_field.mul_inverse f misses)
          ∙ K.laws.mul_one _)
