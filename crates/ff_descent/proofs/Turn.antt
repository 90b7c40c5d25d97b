-- One turn of the descent by p-th powers of residues modulo d^p: a semilinear test.
use Rattle.std.proofs.Common.{◌≡◌, ℕ, zero, suc, pred, ◌<◌, [], ◌∷◌, sym, ◌∙◌, ap, ap₂, subst}
use Rattle.std.proofs.Common.{arith}
use Rattle.ff_theory.specs.Ring.{RingOps, IsCommRing, power}
use Rattle.ff_theory.specs.Lawful.{Domain, Field}
use Rattle.ff_theory.specs.Poly.{Poly, poly, polynomials}
use Rattle.ff_theory.specs.Division.{size}
use Rattle.ff_theory.specs.Planes.{planes, Plane, row_of}
use Rattle.ff_theory.specs.Map.{IsMap}
use Rattle.ff_theory.proofs.Powers.{power-mul}
use Rattle.ff_theory.proofs.Frobenius.{HasCharacteristic, frobenius-add, power-zero}
use Rattle.ff_theory.proofs.FrobeniusPoly.{map-power}
use Rattle.ff_theory.proofs.PolyMap.{polynomial_domain}
use Rattle.ff_theory.proofs.Evaluate.{eval-const}
use Rattle.ff_charts.specs.Chart.{Chart, at_u, at_theta, IsChart}
use Rattle.ff_charts.specs.Lattice.{HasShape, IsResidue, IsTimes}
use Rattle.ff_charts.proofs.Chart.{at_theta_map, at_u_map, at_row, row_times}
use Rattle.ff_charts.proofs.Lattice.{residue_one, times_shape}
use Rattle.ff_descent.specs.Descent.{IsStepped}
use Rattle.ff_descent.proofs.Start.{constant_plane, plane_combination, residue_zero_is}
use Rattle.ff_descent.proofs.Start.{residue_add, residue_scale}

module _ (K : Field) (A : RingOps) (AL : IsCommRing A) (c : Chart K.ring A) (l : IsChart K.ring A c)
    (q : ℕ) (d : Poly K.ring) (hd : c.IsModulus d) where
  infixl 60 ◌+◌
  infixl 70 ◌*◌
  open A use {add as ◌+◌, mul as ◌*◌, carrier as C}

  abbrev D : Domain
  D = polynomial_domain K

  U : IsMap (polynomials K.ring) A (at_u c)
  U = at_u_map K A AL c l

  V : IsMap (planes K) A (at_theta c)
  V = at_theta_map K A AL c l

  -- d^(p-1) and d^p, for p = q + 1
  abbrev pub below_top : Poly K.ring
  below_top = power (polynomials K.ring) d q

  abbrev pub top : Poly K.ring
  top = power (polynomials K.ring) d (suc q)

  modulus_power : (j : ℕ) → c.IsModulus (power (polynomials K.ring) d j)
  modulus_power zero = l.one_modulus
  modulus_power (suc j) = l.modulus_product d (power (polynomials K.ring) d j) hd (modulus_power j)

  pub top_modulus : c.IsModulus top
  top_modulus = modulus_power (suc q)

  power_at : (j : ℕ) → at_u c (power (polynomials K.ring) d j) ≡ power A (at_u c d) j
  power_at j = map-power (polynomials K.ring) A (at_u c) U d j

  module _ (T : Plane K → Type 0) where
    -- N steps exactly where the residue of its p-th power modulo d^p is d^(p-1) times one in T
    pub turn_into : (N R : Plane K) → IsResidue c top (power A (at_theta c N) (suc q)) R
        → IsStepped c q d T N → IsTimes K.ring c.degree (pred (size K.ring d)) below_top T R
    turn_into N R residue h = record {
      part = h.next;
      shape = h.shape;
      is_in = h.next_in;
      product = residue_one K A AL c l top top_modulus (power A (at_theta c N) (suc q)) R
          ((planes K).mul (row_of K.ring below_top) h.next) residue (record {
            shape = subst (λ m. HasShape K.ring c.degree (pred (size K.ring m))
                ((planes K).mul (row_of K.ring below_top) h.next)) (D.laws.mul_comm below_top d)
                (times_shape K A AL c l d hd below_top (modulus_power q) T h.next h.shape);
            rest = h.rest;
            in_powers = h.in_powers;
            sum = h.sum ∙ ap₂ (λ s t. s + t * h.rest)
                (ap (λ t. t * at_theta c h.next) (sym (power_at q))
                ∙ sym (row_times K A AL c l below_top h.next)) (sym (power_at (suc q)));
          });
    }

    pub turn_back : (N R : Plane K) → IsResidue c top (power A (at_theta c N) (suc q)) R → T N
        → IsTimes K.ring c.degree (pred (size K.ring d)) below_top T R → IsStepped c q d T N
    turn_back N R residue t h = record {
      is_in = t;
      next = h.part;
      shape = h.shape;
      next_in = h.is_in;
      rest = residue.rest;
      in_powers = residue.in_powers;
      sum = residue.sum ∙ ap₂ (λ s t. s + t * residue.rest)
          (ap (at_theta c) h.product ∙ row_times K A AL c l below_top h.part
          ∙ ap (λ t. t * at_theta c h.part) (power_at q)) (power_at (suc q));
    }

  -- the residue of the p-th power of a combination, from those of the p-th powers
  module _ (char : HasCharacteristic A (suc q)) where
    constant_power : (a : K.carrier) → power A (at_theta c (constant_plane K a)) (suc q)
        ≡ c.constant (power K.ring a (suc q))
    constant_power a = ap (λ t. power A t (suc q)) (at_row K A AL c l (poly K.ring (a ∷ []))
        ∙ eval-const K.ring A K.laws K.tests AL c.constant l.constants c.u a)
        ∙ sym (map-power K.ring A c.constant l.constants a (suc q))

    pub power_residue : (r : ℕ) (k : ℕ → K.carrier) (N R : ℕ → Plane K)
        → ((i : ℕ) → i < r → IsResidue c top (power A (at_theta c (N i)) (suc q)) (R i))
        → IsResidue c top (power A (at_theta c (plane_combination K r k N)) (suc q))
        (plane_combination K r (λ i. power K.ring (k i) (suc q)) R)
    power_residue zero k N R h = subst (λ a. IsResidue c top a (planes K).zero)
        (sym (ap (λ t. power A t (suc q)) V.on_zero ∙ power-zero A AL (suc q) (omega arith)))
        (residue_zero_is K A AL c l top top_modulus)
    power_residue (suc r) k N R h = subst (λ a. IsResidue c top a
        (plane_combination K (suc r) (λ i. power K.ring (k i) (suc q)) R)) (sym sum)
        (residue_add K A AL c l top top_modulus _ _ _ _
        (power_residue r k N R (λ i j. h i (omega arith)))
        (residue_scale K A AL c l top top_modulus (power K.ring (k r) (suc q)) _ (R r)
        (h r (omega arith))))
      where
        sum : power A (at_theta c (plane_combination K (suc r) k N)) (suc q)
            ≡ power A (at_theta c (plane_combination K r k N)) (suc q)
            + c.constant (power K.ring (k r) (suc q)) * power A (at_theta c (N r)) (suc q)
        sum = ap (λ t. power A t (suc q)) (V.on_add (plane_combination K r k N)
            ((planes K).mul (constant_plane K (k r)) (N r))
            ∙ ap (A.add (at_theta c (plane_combination K r k N)))
            (V.on_mul (constant_plane K (k r)) (N r)))
            ∙ frobenius-add A AL (suc q) char (at_theta c (plane_combination K r k N))
            (at_theta c (constant_plane K (k r)) * at_theta c (N r))
            ∙ ap (A.add (power A (at_theta c (plane_combination K r k N)) (suc q)))
            (power-mul A AL (at_theta c (constant_plane K (k r))) (at_theta c (N r)) (suc q)
            ∙ ap (λ t. t * power A (at_theta c (N r)) (suc q)) (constant_power (k r)))
