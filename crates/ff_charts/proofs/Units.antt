-- Residues of elements that a polynomial clears which is invertible modulo m.
use Rattle.std.proofs.Common.{◌≡◌, refl, ◌∙◌, sym, ap, ap₂}
use Rattle.ff_theory.specs.Ring.{RingOps, IsCommRing}
use Rattle.ff_theory.specs.Lawful.{Field}
use Rattle.ff_theory.specs.Map.{IsMap}
use Rattle.ff_theory.specs.Poly.{Poly, polynomials}
use Rattle.ff_theory.specs.Planes.{planes, Plane, row_of}
use Rattle.ff_theory.proofs.Solver.{◌⊕◌, ◌⊗◌, unit, ring1, ring4, ring6}
use Rattle.ff_charts.specs.Chart.{Chart, at_u, at_theta, InPowers, IsChart}
use Rattle.ff_charts.specs.Lattice.{IsResidue}
use Rattle.ff_charts.proofs.Chart.{at_u_map, row_times, powers_add, powers_mul, powers_u}

module _ (K : Field) (A : RingOps) (AL : IsCommRing A) (c : Chart K.ring A) (l : IsChart K.ring A c)
    (m s v w : Poly K.ring) where
  infixl 60 ◌+◌
  infixl 70 ◌*◌
  open A use {add as ◌+◌, mul as ◌*◌, carrier as C}

  U : IsMap (polynomials K.ring) A (at_u c)
  U = at_u_map K A AL c l

  -- s * a is N, and v * s + w * m is 1: then a has the residue of v * N
  pub residue_by_unit : (polynomials K.ring).add ((polynomials K.ring).mul v s)
      ((polynomials K.ring).mul w m) ≡ (polynomials K.ring).one
      → (a : A.carrier) → InPowers c a → (N : Plane K) → A.mul (at_u c s) a ≡ at_theta c N
      → (R : Plane K) → IsResidue c m (at_theta c ((planes K).mul (row_of K.ring v) N)) R
      → IsResidue c m a R
  residue_by_unit one a ha N clears R h = record {
    shape = h.shape;
    rest = h.rest + at_u c w * a;
    in_powers = powers_add K A AL c l _ _ h.in_powers
        (powers_mul K A AL c l (at_u c w) a (powers_u K A AL c l w) ha);
    sum = ring1 A AL (λ a. a) (λ a. unit ⊗ a) refl a ∙ ap (λ t. t * a) (sym at_one)
        ∙ ring6 A AL (λ v s w m a z. (v ⊗ s ⊕ w ⊗ m) ⊗ a) (λ v s w m a z. v ⊗ (s ⊗ a) ⊕ m ⊗ (w ⊗ a))
        refl (at_u c v) (at_u c s) (at_u c w) (at_u c m) a a
        ∙ ap (λ t. t + at_u c m * (at_u c w * a)) (ap (A.mul (at_u c v)) clears
        ∙ sym (row_times K A AL c l v N) ∙ h.sum)
        ∙ ring4 A AL (λ n m r t. (n ⊕ m ⊗ r) ⊕ m ⊗ t) (λ n m r t. n ⊕ m ⊗ (r ⊕ t)) refl
        (at_theta c R) (at_u c m) h.rest (at_u c w * a);
  }
    where
      at_one : at_u c v * at_u c s + at_u c w * at_u c m ≡ A.one
      at_one = sym (U.on_add _ _ ∙ ap₂ A.add (U.on_mul v s) (U.on_mul w m)) ∙ ap (at_u c) one
          ∙ U.on_one
