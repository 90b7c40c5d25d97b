-- The residue of a product with a plane.
use Rattle.std.proofs.Common.{◌≡◌, ℕ, suc, ◌<◌, ◌≤◌, refl, sym, ◌∙◌, ap, ap₂, arith}
use Rattle.ff_theory.specs.Ring.{RingOps, IsCommRing, power}
use Rattle.ff_theory.specs.Lawful.{Field}
use Rattle.ff_theory.specs.Poly.{coeff, Poly, polynomials}
use Rattle.ff_theory.specs.Division.{size}
use Rattle.ff_theory.specs.Planes.{planes, Plane, row_of}
use Rattle.ff_theory.specs.Map.{IsMap}
use Rattle.ff_theory.proofs.Solver.{◌⊕◌, ◌⊗◌, nil, ring2, ring4}
use Rattle.ff_charts.specs.Chart.{Chart, at_u, at_theta, IsChart}
use Rattle.ff_charts.specs.Lattice.{IsResidue}
use Rattle.ff_charts.proofs.Chart.{at_theta_map, row_times, powers_add, powers_mul, powers_plane}
use Rattle.ff_lattice.specs.Remainder.{IsCongruent}
use Rattle.ff_lattice.specs.Residues.{AreResidues}

module _ (K : Field) (A : RingOps) (AL : IsCommRing A) (c : Chart K.ring A) (l : IsChart K.ring A c)
    (m : Poly K.ring) where
  infixl 60 ◌+◌
  infixl 70 ◌*◌
  open A use {add as ◌+◌, mul as ◌*◌, carrier as C}

  V : IsMap (planes K) A (at_theta c)
  V = at_theta_map K A AL c l

  pub product_residue : (a : A.carrier) (M Q T R : Plane K)
      → IsCongruent (polynomials K.ring) c.equation ((planes K).mul M Q) T
      → size (polynomials K.ring) T ≤ c.degree → AreResidues K.ring m T R
      → IsResidue c m a M → IsResidue c m (A.mul a (at_theta c Q)) R
  product_residue a M Q T R congruent small residues p = record {
    shape = record {
      rows = let s : size (polynomials K.ring) R ≤ size (polynomials K.ring) T = residues.rows in
          omega (arith, s, small);
      each = λ i. let s : size K.ring (coeff (polynomials K.ring) R.coeffs i) < size K.ring m
          = residues.each i in omega (arith, s);
    };
    rest = at_theta c residues.quotient + p.rest * at_theta c Q;
    in_powers = powers_add K A AL c l _ _ (powers_plane K A AL c l residues.quotient)
        (powers_mul K A AL c l _ _ p.in_powers (powers_plane K A AL c l Q));
    sum = ap (λ t. t * at_theta c Q) p.sum
        ∙ ring4 A AL (λ x m r q. (x ⊕ m ⊗ r) ⊗ q) (λ x m r q. x ⊗ q ⊕ m ⊗ (r ⊗ q)) refl
        (at_theta c M) (at_u c m) p.rest (at_theta c Q)
        ∙ ap (λ t. t + at_u c m * (p.rest * at_theta c Q)) product
        ∙ ring4 A AL (λ x m k s. (x ⊕ m ⊗ k) ⊕ m ⊗ s) (λ x m k s. x ⊕ m ⊗ (k ⊕ s)) refl
        (at_theta c R) (at_u c m) (at_theta c residues.quotient) (p.rest * at_theta c Q);
  }
    where
      product : at_theta c M * at_theta c Q
          ≡ at_theta c R + at_u c m * at_theta c residues.quotient
      product = sym (V.on_mul M Q) ∙ ap (at_theta c) congruent.sum
          ∙ V.on_add ((planes K).mul congruent.quotient c.equation) T
          ∙ ap₂ A.add (V.on_mul congruent.quotient c.equation
          ∙ ap (A.mul (at_theta c congruent.quotient)) l.root) (ap (at_theta c) residues.sum
          ∙ V.on_add R ((planes K).mul (row_of K.ring m) residues.quotient)
          ∙ ap (A.add (at_theta c R)) (row_times K A AL c l m residues.quotient))
          ∙ ring2 A AL (λ q r. q ⊗ nil ⊕ r) (λ q r. r) refl (at_theta c congruent.quotient)
          (at_theta c R + at_u c m * at_theta c residues.quotient)

module _ (A : RingOps) (AL : IsCommRing A) where
  -- one factor more
  pub power_step : (v b : A.carrier) (n : ℕ) → A.mul (A.mul v (power A b n)) b
      ≡ A.mul v (power A b (suc n))
  power_step v b n = AL.mul_assoc v (power A b n) b ∙ ap (A.mul v) (AL.mul_comm (power A b n) b)
