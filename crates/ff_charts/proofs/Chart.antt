-- The ring maps of a chart, and its power order as a ring.
use Rattle.std.proofs.Common.{◌≡◌, ℕ, zero, suc, ◌≤◌, false, refl, sym, ◌∙◌, ap, ap₂}
use Rattle.ff_theory.specs.Ring.{RingOps, IsCommRing, power}
use Rattle.ff_theory.specs.Lawful.{Domain, Field}
use Rattle.ff_theory.specs.Poly.{Poly, polynomials}
use Rattle.ff_theory.specs.Division.{size}
use Rattle.ff_theory.specs.Eval.{eval}
use Rattle.ff_charts.specs.Chart.{Chart, at_u, at_theta, InPowers, IsChart}
use Rattle.ff_theory.proofs.Solver.{◌⊕◌, ◌⊗◌, neg, nil, unit, ring1, ring2, ring4}
use Rattle.ff_theory.specs.Map.{IsMap}
use Rattle.ff_theory.proofs.Poly.{polynomial_laws}
use Rattle.ff_theory.proofs.Evaluate.{eval_map, eval-const, plane_at_map}
use Rattle.ff_theory.proofs.PolyMap.{polynomial_domain}
use Rattle.ff_theory.specs.Planes.{planes, Plane, row_of}
use Rattle.ff_charts.proofs.MonicDivision.{Divided, monic_divide}

module _ (K : Field) (A : RingOps) (AL : IsCommRing A) (c : Chart K.ring A) (l : IsChart K.ring A c)
  where
    infixl 60 ◌+◌
    infixl 70 ◌*◌
    open A use {add as ◌+◌, mul as ◌*◌, carrier as C}

    abbrev D : Domain
    D = polynomial_domain K

    PL : IsCommRing (planes K)
    PL = polynomial_laws D.ring D.laws D.tests

    pub at_u_map : IsMap (polynomials K.ring) A (at_u c)
    at_u_map = eval_map K.ring A K.laws K.tests AL c.constant l.constants c.u

    pub at_theta_map : IsMap (planes K) A (at_theta c)
    at_theta_map = plane_at_map K.ring A K.laws K.tests AL c.constant l.constants c.u c.theta

    pub at_row : (h : Poly K.ring) → at_theta c (row_of K.ring h) ≡ at_u c h
    at_row h = eval-const (polynomials K.ring) A D.laws D.tests AL (eval K.ring A c.constant c.u)
        at_u_map c.theta h

    pub row_times : (h : Poly K.ring) (N : Plane K)
        → at_theta c ((planes K).mul (row_of K.ring h) N)
        ≡ A.mul (at_u c h) (at_theta c N)
    row_times h N = at_theta_map.on_mul (row_of K.ring h) N ∙ ap (λ t. t * at_theta c N) (at_row h)

    -- a polynomial in u that is not 0 cancels
    pub cancel_u : (h : Poly K.ring) → (polynomials K.ring).same h (polynomials K.ring).zero ≡ false
        → (a b : A.carrier) → A.mul (at_u c h) a ≡ A.mul (at_u c h) b → a ≡ b
    cancel_u h nh a b e = sym (back a) ∙ ap (λ t. l.inverse h * t) e ∙ back b
      where
        back : (a : C) → l.inverse h * (at_u c h * a) ≡ a
        back a = sym (AL.mul_assoc (l.inverse h) (at_u c h) a) ∙ ap (λ t. t * a) (l.inverts h nh)
            ∙ ring1 A AL (λ a. unit ⊗ a) (λ a. a) refl a

    -- the power order is a ring that holds the planes at u and theta
    pub powers_plane : (N : Plane K) → InPowers c (at_theta c N)
    powers_plane N = record {
      unit = D.one;
      is_unit = l.one_unit;
      nums = N;
      clears = ap (λ t. t *
          at_theta c N) at_u_map.on_one ∙ ring1 A AL (λ n. unit ⊗ n) (λ n. n) refl (at_theta c N);
    }

    pub powers_at : {a b : A.carrier} → a ≡ b → InPowers c a → InPowers c b
    powers_at e p = record {
      unit = p.unit;
      is_unit = p.is_unit;
      nums = p.nums;
      clears = ap (λ t. at_u
          c p.unit * t) (sym e) ∙ p.clears;
    }

    pub powers_u : (h : Poly K.ring) → InPowers c (at_u c h)
    powers_u h = powers_at (at_row h) (powers_plane (row_of K.ring h))

    pub powers_zero : InPowers c A.zero
    powers_zero = powers_at at_theta_map.on_zero (powers_plane (planes K).zero)

    pub powers_one : InPowers c A.one
    powers_one = powers_at at_theta_map.on_one (powers_plane (planes K).one)

    pub powers_mul : (a b : A.carrier) → InPowers c a → InPowers c b → InPowers c (A.mul a b)
    powers_mul a b p q = record {
      unit = D.mul p.unit q.unit;
      is_unit = l.unit_product p.unit q.unit p.is_unit q.is_unit;
      nums = (planes K).mul p.nums q.nums;
      clears = ap (λ t. t * (a * b)) (at_u_map.on_mul p.unit q.unit)
          ∙ ring4 A AL (λ s t a b. (s ⊗ t) ⊗ (a ⊗ b)) (λ s t a b. (s ⊗ a) ⊗ (t ⊗ b)) refl
          (at_u c p.unit) (at_u c q.unit) a b
          ∙ ap₂ A.mul p.clears q.clears ∙ sym (at_theta_map.on_mul p.nums q.nums);
    }

    pub powers_add : (a b : A.carrier) → InPowers c a → InPowers c b → InPowers c (A.add a b)
    powers_add a b p q = record {
      unit = D.mul p.unit q.unit;
      is_unit = l.unit_product p.unit q.unit p.is_unit q.is_unit;
      nums = (planes K).add ((planes K).mul (row_of K.ring q.unit) p.nums)
          ((planes K).mul (row_of K.ring p.unit) q.nums);
      clears = ap (λ t. t * (a + b)) (at_u_map.on_mul p.unit q.unit)
          ∙ ring4 A AL (λ s t a b. (s ⊗ t) ⊗ (a ⊕ b)) (λ s t a b. t ⊗ (s ⊗ a) ⊕ s ⊗ (t ⊗ b)) refl
          (at_u c p.unit) (at_u c q.unit) a b
          ∙ ap₂ (λ x y. at_u c q.unit * x + at_u c p.unit * y) p.clears q.clears
          ∙ sym (at_theta_map.on_add _ _
          ∙ ap₂ A.add (row_times q.unit p.nums) (row_times p.unit q.nums));
    }

    pub powers_neg : (a : A.carrier) → InPowers c a → InPowers c (A.neg a)
    powers_neg a p = record {
      unit = p.unit;
      is_unit = p.is_unit;
      nums = (planes K).neg p.nums;
      clears = ring2 A AL (λ s a. s ⊗ neg a) (λ s a. neg (s ⊗ a)) refl (at_u c p.unit) a
          ∙ ap A.neg p.clears ∙ sym (at_theta_map.on_neg p.nums);
    }

    pub powers_power : (a : A.carrier) → InPowers c a → (n : ℕ) → InPowers c (power A a n)
    powers_power a p zero = powers_one
    powers_power a p (suc n) = powers_mul a (power A a n) p (powers_power a p n)

    -- a unit has its inverse in the power order
    pub powers_over : (s : Poly K.ring) → c.IsUnit s → (a : A.carrier)
        → InPowers c (A.mul (at_u c s) a) → InPowers c a
    powers_over s us a p = record {
      unit = D.mul p.unit s;
      is_unit = l.unit_product p.unit s p.is_unit us;
      nums = p.nums;
      clears = ap (λ t. t * a) (at_u_map.on_mul p.unit s)
          ∙ AL.mul_assoc (at_u c p.unit) (at_u c s) a
          ∙ p.clears;
    }

    -- the same plane at u and theta with fewer rows than the equation
    pub record Reduced (N : Plane K) : Type 0 where
      pub plane : Plane K
      pub small : size (polynomials K.ring) plane ≤ c.degree
      pub same_value : at_theta c N ≡ at_theta c plane

    pub reduced : (N : Plane K) → Reduced N
    reduced N = record {
      plane = d.r;
      small = d.small;
      same_value = ap (at_theta c) d.sum
          ∙ at_theta_map.on_add _ _ ∙ ap (λ t. t + at_theta c d.r) (at_theta_map.on_mul d.q
          c.equation
          ∙ ap (λ t. at_theta c d.q * t) l.root)
          ∙ ring2 A AL (λ q r. q ⊗ nil ⊕ r) (λ q r. r) refl (at_theta c d.q) (at_theta c d.r);
    }
      where
        d : Divided D.ring D.laws D.tests c.equation c.degree l.rows l.monic N
        d = monic_divide D.ring D.laws D.tests c.equation c.degree l.rows l.monic N

    -- an element of the power order has numerators with fewer rows than the equation
    pub powers_reduced : (a : A.carrier) (p : InPowers c a) → (N : Plane K)
        × ((size (polynomials K.ring) N ≤ c.degree) × (A.mul (at_u c p.unit) a ≡ at_theta c N))
    powers_reduced a p = (
      (reduced p.nums).plane,
      ((reduced p.nums).small, p.clears ∙ (reduced p.nums).same_value),
    )
