-- The descent: each level is a lattice whose residues are computed from those of the level before,
-- and holds the integral elements.
use Rattle.std.proofs.Common.{◌≡◌, ℕ, zero, suc, ◌*◌ as times_ℕ, ◌<◌, refl, sym, ◌∙◌, ap}
use Rattle.ff_theory.specs.Ring.{RingOps, IsCommRing, power}
use Rattle.ff_theory.specs.Lawful.{Domain, Field}
use Rattle.ff_theory.specs.Poly.{Poly, polynomials}
use Rattle.ff_theory.proofs.Solver.{◌⊕◌, ◌⊗◌, neg, ring2, ring3, ring4, ring6}
use Rattle.ff_theory.proofs.Powers.{power-mul}
use Rattle.ff_theory.proofs.Frobenius.{HasCharacteristic, frobenius-add, power-power}
use Rattle.ff_theory.proofs.FrobeniusPoly.{map-power}
use Rattle.ff_theory.proofs.PolyMap.{polynomial_domain}
use Rattle.ff_theory.specs.Planes.{Plane}
use Rattle.ff_charts.specs.Chart.{Chart, at_u, at_theta, InPowers, IsIntegral, IsChart}
use Rattle.ff_charts.specs.Lattice.{IsResidue, InLattice}
use Rattle.ff_descent.specs.Descent.{InLevel, IsCarried, IsStepped}
use Rattle.ff_charts.proofs.Chart.{at_u_map, cancel_u, powers_at, powers_mul, powers_add}
use Rattle.ff_charts.proofs.Chart.{powers_neg, powers_power}
use Rattle.ff_charts.proofs.FiniteChart.{power_nonzero}
use Rattle.ff_conductor.proofs.PowerParts.{HasRoots}
use Rattle.ff_conductor.proofs.Conductor.{different, IsFree}
use Rattle.ff_conductor.proofs.Integral.{conductor}
use Rattle.ff_charts.proofs.Lattice.{residue}

module _ (K : Field) (A : RingOps) (AL : IsCommRing A) (c : Chart K.ring A) (l : IsChart K.ring A c)
  where
    infixl 60 ◌+◌
    infixl 70 ◌*◌
    open A use {add as ◌+◌, mul as ◌*◌, neg as minus, carrier as C}

    abbrev P : Domain
    P = polynomial_domain K

    -- a power of an integral element is integral
    pub integral_power : (s : A.carrier) → IsIntegral c s → (n : ℕ) → IsIntegral c (power A s n)
    integral_power s h n = record {
      modulus = h.modulus;
      is_modulus = h.is_modulus;
      powers = λ j.
          powers_at K A AL c l (ap (λ t. at_u c h.modulus * t) (sym (power-power A AL s n j)))
          (h.powers (times_ℕ j n));
    }

    -- start_exact: level 0 is the lattice of the residues that b carries to multiples of d
    module _ (q : ℕ) (b e : A.carrier) (d : Poly K.ring) (hd : c.IsModulus d) (hb : InPowers c b)
        (he : InPowers c e) (product : A.mul e b ≡ at_u c d) where
      abbrev δ : C
      δ = at_u c d

      pub start_into : (w : A.carrier) → InLevel c b q 0 w → InLattice c d (IsCarried c b d) w
      start_into w h = at (residue K A AL c l d hd (δ * w)
          (powers_at K A AL c l (sym (AL.mul_assoc e b w) ∙ ap (λ t. t * w) product)
          (powers_mul K A AL c l e _ he h)))
        where
          at : (N : Plane K) × IsResidue c d (δ * w) N → InLattice c d (IsCarried c b d) w
          at N = record {
            nums = N.0;
            is_in = record {
              rest = b * w + minus (b * N.1.rest);
              in_powers = powers_add K A AL c l _ _ h
                  (powers_neg K A AL c l _ (powers_mul K A AL c l b _ hb N.1.in_powers));
              sum = ring4 A AL (λ b v d r. b ⊗ v) (λ b v d r. b ⊗ (v ⊕ d ⊗ r) ⊕ neg (d ⊗ (b ⊗ r)))
                  refl
                  b (at_theta c N.0) δ N.1.rest ∙ ap (λ t. b * t + minus (δ * (b * N.1.rest))) (sym
                  N.1.sum)
                  ∙ ring4 A AL (λ b d w r. b ⊗ (d ⊗ w) ⊕ neg (d ⊗ (b ⊗ r)))
                  (λ b d w r. d ⊗ (b ⊗ w ⊕ neg (b ⊗ r))) refl b δ w N.1.rest;
            };
            residue = N.1;
          }

      pub start_back : (w : A.carrier) → InLattice c d (IsCarried c b d) w → InLevel c b q 0 w
      start_back w h = powers_at K A AL c l
          (sym (cancel_u K A AL c l d (l.modulus_nonzero d hd) (b * w)
          (h.is_in.rest + b * h.residue.rest) (
          ring3 A AL (λ d b w. d ⊗ (b ⊗ w)) (λ d b w. b ⊗ (d ⊗ w)) refl δ b w
          ∙ ap (λ t. b * t) h.residue.sum ∙ AL.mul_add b _ _
          ∙ ap (λ t. t + b * (δ * h.residue.rest)) h.is_in.sum
          ∙ ring4 A AL (λ d s b r. d ⊗ s ⊕ b ⊗ (d ⊗ r)) (λ d s b r. d ⊗ (s ⊕ b ⊗ r)) refl δ
          h.is_in.rest b h.residue.rest)))
          (powers_add K A AL c l _ _ h.is_in.in_powers
          (powers_mul K A AL c l b _ hb h.residue.in_powers))

    -- step_exact: the elements of a lattice whose p-th power is in it
    module _ (q : ℕ) (char : HasCharacteristic A (suc q)) (b : A.carrier) (d : Poly K.ring)
        (hd : c.IsModulus d) (T : Plane K → Type 0) where
      abbrev γ : C
      γ = at_u c d

      -- (d*w)^p is N^p plus d^p times an element of the power order
      lifted : (w : C) (N : Plane K) (r : C) → γ * w ≡ at_theta c N + γ * r
          → power A γ q * (γ * power A w (suc q))
          ≡ power A (at_theta c N) (suc q) + power A γ (suc q) * power A r (suc q)
      lifted w N r e = ring3 A AL (λ g d w. g ⊗ (d ⊗ w)) (λ g d w. (d ⊗ g) ⊗ w) refl (power A γ q) γ
          (power A w (suc q)) ∙ sym (power-mul A AL γ w (suc q)) ∙ ap (λ t. power A t (suc q)) e
          ∙ frobenius-add A AL (suc q) char (at_theta c N) (γ * r)
          ∙ ap (λ t. power A (at_theta c N) (suc q) + t) (power-mul A AL γ r (suc q))

      pub step_into : (w : A.carrier) → InLattice c d T w → InLattice c d T (power A w (suc q))
          → InLattice c d (IsStepped c q d T) w
      step_into w h k = record {
        nums = h.nums;
        residue = h.residue;
        is_in = record {
          is_in = h.is_in;
          next = k.nums;
          shape = k.residue.shape;
          next_in = k.is_in;
          rest = k.residue.rest + minus (power A h.residue.rest (suc q));
          in_powers = powers_add K A AL c l _ _ k.residue.in_powers
              (powers_neg K A AL c l _ (powers_power K A AL c l _ h.residue.in_powers (suc q)));
          sum = ring2 A AL (λ n g. n) (λ n g. (n ⊕ g) ⊕ neg g) refl
              (power A (at_theta c h.nums) (suc q))
              (power A γ (suc q) * power A h.residue.rest (suc q))
              ∙ ap (λ t. t + minus (power A γ (suc q) * power A h.residue.rest (suc q)))
              (sym (lifted w h.nums h.residue.rest h.residue.sum)
              ∙ ap (λ t. power A γ q * t) k.residue.sum)
              ∙ ring6 A AL (λ g m d r s z. g ⊗ (m ⊕ d ⊗ r) ⊕ neg ((d ⊗ g) ⊗ s))
              (λ g m d r s z. g ⊗ m ⊕ (d ⊗ g) ⊗ (r ⊕ neg s)) refl (power A γ q) (at_theta c k.nums)
              γ k.residue.rest (power A h.residue.rest (suc q)) γ;
        };
      }

      pub step_back : (w : A.carrier) → InLattice c d (IsStepped c q d T) w → InLattice c d T w
          × InLattice c d T (power A w (suc q))
      step_back w h = (
        record { nums = h.nums; is_in = h.is_in.is_in; residue = h.residue },
        record {
          nums = h.is_in.next;
          is_in = h.is_in.next_in;
          residue = record {
            shape = h.is_in.shape;
            rest = h.is_in.rest + power A h.residue.rest (suc q);
            in_powers = powers_add K A AL c l _ _ h.is_in.in_powers
                (powers_power K A AL c l _ h.residue.in_powers (suc q));
            sum = cancel_u K A AL c l (power P.ring d q)
                (power_nonzero P d (l.modulus_nonzero d hd) q) _
                _ (ap (λ t. t * (γ * power A w (suc q))) power_d
                ∙ lifted w h.nums h.residue.rest h.residue.sum
                ∙ ap (λ t. t + power A γ (suc q) * power A h.residue.rest (suc q)) h.is_in.sum
                ∙ ring6 A AL (λ g m d r s z. (g ⊗ m ⊕ (d ⊗ g) ⊗ r) ⊕ (d ⊗ g) ⊗ s)
                (λ g m d r s z. g ⊗ (m ⊕ d ⊗ (r ⊕ s))) refl (power A γ q) (at_theta c h.is_in.next)
                γ
                h.is_in.rest (power A h.residue.rest (suc q)) γ
                ∙ ap (λ t. t * (at_theta c h.is_in.next + γ *
                (h.is_in.rest + power A h.residue.rest (suc q)))) (sym power_d));
          };
        },
      )
        where
          power_d : at_u c (power P.ring d q) ≡ power A γ q
          power_d = map-power P.ring A (at_u c) (at_u_map K A AL c l) d q

    -- integral_below: the integral elements are in every level
    module _ (q : ℕ) (more : 0 < q) (char : HasCharacteristic A (suc q))
        (charP : HasCharacteristic (polynomials K.ring) (suc q)) (roots : HasRoots K.ring (suc q))
        (free : IsFree K A AL c l q char roots) where
      pub integral_below : (i : ℕ) (s : A.carrier) → IsIntegral c s
          → InLevel c (different K A AL c l) q i s
      integral_below zero s h = powers_at K A AL c l
          (ap (λ t. different K A AL c l * t) (AL.mul_one s))
          (conductor K A AL c l q more char charP roots free s h 1)
      integral_below (suc i) s h = (
        integral_below i s h,
        integral_below i (power A s (suc q))
            (integral_power s h (suc q)),
      )
