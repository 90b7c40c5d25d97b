-- Planes over a modulus, u - a, and the moduli d*(u-a)^j.
use Rattle.std.proofs.Common.{◌≡◌, ℕ, zero, suc, false, [], ◌∷◌, refl, sym, ◌∙◌, ap, ap₂}
use Rattle.ff_theory.specs.Ring.{RingOps, IsCommRing}
use Rattle.ff_theory.specs.Lawful.{Domain, Field}
use Rattle.ff_theory.specs.Map.{IsMap}
use Rattle.ff_theory.specs.Poly.{Poly, poly, polynomials}
use Rattle.ff_theory.specs.Eval.{eval}
use Rattle.ff_theory.proofs.Evaluate.{at_trim}
use Rattle.ff_theory.specs.Planes.{Plane}
use Rattle.ff_theory.proofs.Solver.{◌⊕◌, ◌⊗◌, nil, unit, ring1, ring2, ring4}
use Rattle.ff_theory.proofs.PolyMap.{polynomial_domain}
use Rattle.ff_charts.specs.Chart.{Chart, at_u, at_theta, IsChart}
use Rattle.ff_charts.proofs.Chart.{at_u_map, cancel_u}
use Rattle.ff_local.specs.ChartOrder.{ChartOrder, root_at}
use Rattle.ff_local.specs.ChartPole.{root_power, pole_modulus}

module _ (K : Field) (A : RingOps) (AL : IsCommRing A) (c : Chart K.ring A) (l : IsChart K.ring A c)
  where
    infixl 60 ◌+◌
    infixl 70 ◌*◌
    open A use {add as ◌+◌, mul as ◌*◌, carrier as C}

    abbrev D : Domain
    D = polynomial_domain K

    U : IsMap (polynomials K.ring) A (at_u c)
    U = at_u_map K A AL c l

    -- the quotient of a plane by a modulus
    abbrev over : Poly K.ring → Plane K → C
    over m N = l.inverse m * at_theta c N

    pub times_over : (m : Poly K.ring) → (polynomials K.ring).same m (polynomials K.ring).zero
        ≡ false
        → (N : Plane K)
        → A.mul (at_u c m) (A.mul (l.inverse m) (at_theta c N)) ≡ at_theta c N
    times_over m n N = sym (AL.mul_assoc _ _ _)
        ∙ ap (λ t. t * at_theta c N) (AL.mul_comm _ _ ∙ l.inverts m n)
        ∙ ring1 A AL (λ n. unit ⊗ n) (λ n. n) refl (at_theta c N)

    -- the value of u - a
    pub root_value : (a : K.carrier) → at_u c (root_at K.ring a)
        ≡ A.add (c.constant (K.neg a)) c.u
    unfolding poly eval
    root_value a = at_trim K.ring A K.laws K.tests AL c.constant l.constants c.u
        (K.neg a ∷ K.one ∷ [])
        ∙ ap (λ t. c.constant (K.neg a) + c.u * (t + c.u * A.zero)) l.constants.on_one
        ∙ ring2 A AL (λ a u. a ⊕ u ⊗ (unit ⊕ u ⊗ nil)) (λ a u. a ⊕ u) refl
        (c.constant (K.neg a)) c.u

    module _ (o : ChartOrder c) (a : K.carrier) (modulus : c.IsModulus (root_at K.ring a)) where
      abbrev M : ℕ → Poly K.ring
      M j = pole_modulus c o a j

      abbrev root : Poly K.ring
      root = root_at K.ring a

      pub root_modulus : (j : ℕ) → c.IsModulus (root_power c o a j)
      root_modulus zero = l.one_modulus
      root_modulus (suc j) = l.modulus_product root (root_power c o a j) modulus (root_modulus j)

      pub is_pole_modulus : (j : ℕ) → c.IsModulus (pole_modulus c o a j)
      is_pole_modulus j = l.modulus_product (root_power c o a j) o.modulus (root_modulus j)
          o.is_modulus

      pub pole_nonzero : (j : ℕ) → (polynomials K.ring).same (pole_modulus c o a j)
          (polynomials K.ring).zero ≡ false
      pole_nonzero j = l.modulus_nonzero (M j) (is_pole_modulus j)

      -- N/d over u - a
      pub first_over : (N : Plane K)
          → A.mul (A.mul (l.inverse o.modulus) (at_theta c N)) (l.inverse (root_at K.ring a))
          ≡ A.mul (l.inverse (pole_modulus c o a 1)) (at_theta c N)
      first_over N = cancel_u K A AL c l (M 1) (pole_nonzero 1) _ _
          (ap (λ t. t * (over o.modulus N * l.inverse root)) (ap (at_u c)
          (ring2 D.ring D.laws (λ v d. v ⊗ unit ⊗ d) (λ v d. d ⊗ v) refl root o.modulus)
          ∙ U.on_mul o.modulus root)
          ∙ ring4 A AL (λ d v g i. d ⊗ v ⊗ (g ⊗ i)) (λ d v g i. d ⊗ g ⊗ (i ⊗ v)) refl
          (at_u c o.modulus) (at_u c root) (over o.modulus N) (l.inverse root)
          ∙ ap₂ A.mul (times_over o.modulus (l.modulus_nonzero o.modulus o.is_modulus) N)
          (l.inverts root (l.modulus_nonzero root modulus))
          ∙ AL.mul_one (at_theta c N) ∙ sym (times_over (M 1) (pole_nonzero 1) N))
