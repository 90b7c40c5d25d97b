-- Whether an element is in the power order of a chart, or in a residue lattice.
use Rattle.std.proofs.Common.{◌≡◌, ◌⊎◌, inl, inr, pred, Bool, true, false, refl, sym, ◌∙◌, ap}
use Rattle.std.proofs.Common.{subst}
use Rattle.ff_theory.specs.Ring.{RingOps, IsCommRing, IsTested}
use Rattle.ff_theory.specs.Lawful.{Domain, Field}
use Rattle.ff_theory.specs.Poly.{Poly}
use Rattle.ff_theory.specs.Division.{size}
use Rattle.ff_theory.specs.Planes.{planes, Plane}
use Rattle.ff_theory.proofs.Solver.{◌⊕◌, ◌⊗◌, neg, nil, ring2, ring4}
use Rattle.ff_theory.proofs.Poly.{polynomial_tests}
use Rattle.ff_theory.proofs.PolyMap.{polynomial_domain, not_same}
use Rattle.ff_charts.specs.Chart.{Chart, at_u, at_theta, InPowers, IsChart, Cleared}
use Rattle.ff_charts.specs.Lattice.{HasShape, IsResidue, InLattice}
use Rattle.ff_charts.proofs.Chart.{at_u_map, at_theta_map, cancel_u, powers_plane, powers_u}
use Rattle.ff_charts.proofs.Chart.{powers_add, powers_mul, powers_neg}
use Rattle.ff_charts.proofs.Lattice.{Split, split_plane, residue, residue_zero, residue_one}
use Rattle.ff_charts.proofs.Lattice.{lat_clears}

module _ (K : Field) (A : RingOps) (AL : IsCommRing A) (c : Chart K.ring A) (l : IsChart K.ring A c)
  where
    infixl 60 ◌+◌
    infixl 70 ◌*◌
    open A use {add as ◌+◌, mul as ◌*◌, neg as minus, carrier as C}

    abbrev P : Domain
    P = polynomial_domain K

    tests : IsTested (planes K)
    tests = polynomial_tests P.ring P.laws P.tests

    -- a is cleared by a modulus m times a unit s, and m divides the numerators or does not
    pub decide_powers : (a : A.carrier) → InPowers c a ⊎ ¬ (InPowers c a)
    decide_powers a = go ((planes K).same d.low (planes K).zero) refl
      where
        f : Cleared c a
        f = l.cleared a

        m : Poly K.ring
        m = l.modulus_of f.den

        hm : c.IsModulus m
        hm = l.is_modulus f.den f.nonzero

        s : Poly K.ring
        s = l.unit_of f.den

        d : Split K A AL c l m f.nums
        d = split_plane K A AL c l m (l.modulus_nonzero m hm) f.nums

        whole : at_u c m * (at_u c s * a) ≡ at_theta c d.low + at_u c m * at_theta c d.high
        whole = sym (AL.mul_assoc (at_u c m) (at_u c s) a)
            ∙ ap (λ t. t * a) (sym (ap (at_u c) (l.splits f.den f.nonzero)
            ∙ (at_u_map K A AL c l).on_mul m s))
            ∙ f.clears ∙ d.sum

        yes : d.low ≡ (planes K).zero → InPowers c a
        yes e = record {
          unit = s;
          is_unit = l.is_unit f.den f.nonzero;
          nums = d.high;
          clears = cancel_u K A AL c l m (l.modulus_nonzero m hm) (at_u c s * a) (at_theta c d.high)
              (whole ∙ ap (λ t. t + at_u c m * at_theta c d.high)
              (ap (at_theta c) e ∙ (at_theta_map K A AL c l).on_zero)
              ∙ ring2 A AL (λ m h. nil ⊕ m ⊗ h) (λ m h. m ⊗ h) refl (at_u c m) (at_theta c d.high));
        }

        no : InPowers c a → d.low ≡ (planes K).zero
        no p = residue_zero K A AL c l m hm d.low d.shape (at_u c s * a + minus (at_theta c d.high))
            (powers_add K A AL c l _ _ (powers_mul K A AL c l _ _ (powers_u K A AL c l s) p)
            (powers_neg K A AL c l _ (powers_plane K A AL c l d.high)))
            (ring4 A AL (λ x m h z. x) (λ x m h z. (x ⊕ m ⊗ h) ⊕ neg (m ⊗ h)) refl
            (at_theta c d.low) (at_u c m) (at_theta c d.high) a
            ∙ ap (λ t. t + minus (at_u c m * at_theta c d.high)) (sym whole)
            ∙ ring4 A AL (λ m s a h. m ⊗ (s ⊗ a) ⊕ neg (m ⊗ h)) (λ m s a h. m ⊗ (s ⊗ a ⊕ neg h))
            refl (at_u c m) (at_u c s) a (at_theta c d.high))

        go : (b : Bool) → (planes K).same d.low (planes K).zero ≡ b
            → InPowers c a ⊎ ¬ (InPowers c a)
        go true e = inl (yes (tests.same_true d.low (planes K).zero e))
        go false e = inr (λ p. not_same (planes K) tests d.low (planes K).zero e (no p))

    -- the residue of an element is in the space or is not
    pub decide_lattice : (m : Poly K.ring) → c.IsModulus m → (T : Plane K → Type 0)
        → ((N : Plane K) → HasShape K.ring c.degree (pred (size K.ring m)) N → T N ⊎ ¬ (T N))
        → (w : A.carrier) → InLattice c m T w ⊎ ¬ (InLattice c m T w)
    decide_lattice m hm T decide w = by_powers (decide_powers (at_u c m * w))
      where
        by_residue : (N : Plane K) → IsResidue c m (at_u c m * w) N → T N ⊎ ¬ (T N)
            → InLattice c m T w ⊎ ¬ (InLattice c m T w)
        by_residue N r (inl t) = inl (record { nums = N; is_in = t; residue = r })
        by_residue N r (inr n) = inr (λ h. n (subst T
            (residue_one K A AL c l m hm (at_u c m * w) h.nums N h.residue r) h.is_in))

        by_powers : InPowers c (at_u c m * w) ⊎ ¬ (InPowers c (at_u c m * w))
            → InLattice c m T w ⊎ ¬ (InLattice c m T w)
        by_powers (inl p) = at (residue K A AL c l m hm (at_u c m * w) p)
          where
            at : (N : Plane K) × IsResidue c m (at_u c m * w) N
                → InLattice c m T w ⊎ ¬ (InLattice c m T w)
            at r = by_residue r.0 r.1 (decide r.0 r.1.shape)
        by_powers (inr n) = inr (λ h. n (lat_clears K A AL c l m hm T w h))
