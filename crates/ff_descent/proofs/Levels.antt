-- Each level of the descent is the lattice of a space of residues, and the spaces fall.
use Rattle.std.proofs.Common.{◌≡◌, ℕ, zero, suc, pred, [], ◌∷◌, refl, sym, ◌∙◌, ap, ap₂, subst}
use Rattle.std.proofs.Common.{arith}
use Rattle.ff_theory.specs.Ring.{RingOps, IsCommRing, power}
use Rattle.ff_theory.specs.Lawful.{Field}
use Rattle.ff_theory.specs.Poly.{Poly, poly}
use Rattle.ff_theory.specs.Division.{size}
use Rattle.ff_theory.specs.Planes.{planes, Plane}
use Rattle.ff_theory.specs.Map.{IsMap}
use Rattle.ff_theory.proofs.Solver.{◌⊕◌, ◌⊗◌, nil, ring2, ring3, ring6}
use Rattle.ff_theory.proofs.Powers.{power-mul}
use Rattle.ff_theory.proofs.Frobenius.{HasCharacteristic, frobenius-add, power-zero}
use Rattle.ff_theory.proofs.FrobeniusPoly.{map-power}
use Rattle.ff_theory.proofs.Evaluate.{eval-const}
use Rattle.ff_charts.specs.Chart.{Chart, at_u, at_theta, InPowers, IsIntegral, IsChart}
use Rattle.ff_charts.specs.Lattice.{HasShape, InLattice, IsClosed, IsSubspace}
use Rattle.ff_charts.proofs.Chart.{at_theta_map, powers_zero, powers_add, powers_mul}
use Rattle.ff_charts.proofs.Chart.{powers_at, powers_plane, powers_power, at_row}
use Rattle.ff_charts.proofs.Lattice.{lat_above, lat_integral, shape_zero}
use Rattle.ff_charts.proofs.Closure.{shape_plus, shape_scale}
use Rattle.ff_descent.specs.Descent.{InLevel, IsCarried, IsStepped, LevelSpace}
use Rattle.ff_descent.proofs.Descent.{start_into, start_back, step_into, step_back}
use Rattle.ff_descent.proofs.Start.{constant_plane}

module _ (K : Field) (A : RingOps) (AL : IsCommRing A) (c : Chart K.ring A) (l : IsChart K.ring A c)
    (q : ℕ) (char : HasCharacteristic A (suc q)) (b : A.carrier) (d : Poly K.ring) where
  infixl 60 ◌+◌
  infixl 70 ◌*◌
  open A use {add as ◌+◌, mul as ◌*◌, carrier as C}

  V : IsMap (planes K) A (at_theta c)
  V = at_theta_map K A AL c l

  -- the residues of a level are a space
  carried_zero : IsCarried c b d (planes K).zero
  carried_zero = record {
    rest = A.zero;
    in_powers = powers_zero K A AL c l;
    sum = ap (A.mul b) V.on_zero ∙ ring2 A AL (λ b d. b ⊗ nil) (λ b d. d ⊗ nil) refl b (at_u c d);
  }

  carried_add : (M N : Plane K) → IsCarried c b d M → IsCarried c b d N
      → IsCarried c b d ((planes K).add M N)
  carried_add M N h k = record {
    rest = h.rest + k.rest;
    in_powers = powers_add K A AL c l _ _ h.in_powers k.in_powers;
    sum = ap (A.mul b) (V.on_add M N) ∙ AL.mul_add b _ _ ∙ ap₂ A.add h.sum k.sum
        ∙ sym (AL.mul_add (at_u c d) h.rest k.rest);
  }

  carried_scale : (a : K.carrier) (N : Plane K) → IsCarried c b d N
      → IsCarried c b d ((planes K).mul (constant_plane K a) N)
  carried_scale a N h = record {
    rest = at_theta c (constant_plane K a) * h.rest;
    in_powers = powers_mul K A AL c l _ _ (powers_plane K A AL c l (constant_plane K a))
        h.in_powers;
    sum = ap (A.mul b) (V.on_mul (constant_plane K a) N)
        ∙ ring3 A AL (λ b k n. b ⊗ (k ⊗ n)) (λ b k n. k ⊗ (b ⊗ n)) refl b
        (at_theta c (constant_plane K a)) (at_theta c N)
        ∙ ap (A.mul (at_theta c (constant_plane K a))) h.sum
        ∙ ring3 A AL (λ k d r. k ⊗ (d ⊗ r)) (λ k d r. d ⊗ (k ⊗ r)) refl
        (at_theta c (constant_plane K a)) (at_u c d) h.rest;
  }

  constant_value : (a : K.carrier) → at_theta c (constant_plane K a) ≡ c.constant a
  constant_value a = at_row K A AL c l (poly K.ring (a ∷ []))
      ∙ eval-const K.ring A K.laws K.tests AL c.constant l.constants c.u a

  power_constant : (a : K.carrier) → power A (at_theta c (constant_plane K a)) (suc q)
      ≡ at_theta c (constant_plane K (power K.ring a (suc q)))
  power_constant a = ap (λ t. power A t (suc q)) (constant_value a)
      ∙ sym (map-power K.ring A c.constant l.constants a (suc q))
      ∙ sym (constant_value (power K.ring a (suc q)))

  module _ (T : Plane K → Type 0) (space : IsSubspace K.ring T) where
    stepped_zero : IsStepped c q d T (planes K).zero
    stepped_zero = record {
      is_in = space.on_zero;
      next = (planes K).zero;
      shape = shape_zero K c.degree (pred (size K.ring d));
      next_in = space.on_zero;
      rest = A.zero;
      in_powers = powers_zero K A AL c l;
      sum = ap (λ t. power A t (suc q)) V.on_zero ∙ power-zero A AL (suc q) (omega arith)
          ∙ sym (ap (λ t. power A (at_u c d) q * t + power A (at_u c d) (suc q) * A.zero) V.on_zero
          ∙ ring2 A AL (λ a b. a ⊗ nil ⊕ b ⊗ nil) (λ a b. nil) refl (power A (at_u c d) q)
          (power A (at_u c d) (suc q)));
    }

    stepped_add : (M N : Plane K) → IsStepped c q d T M → IsStepped c q d T N
        → IsStepped c q d T ((planes K).add M N)
    stepped_add M N h k = record {
      is_in = space.on_add M N h.is_in k.is_in;
      next = (planes K).add h.next k.next;
      shape = shape_plus K c.degree (pred (size K.ring d)) h.next k.next h.shape k.shape;
      next_in = space.on_add h.next k.next h.next_in k.next_in;
      rest = h.rest + k.rest;
      in_powers = powers_add K A AL c l _ _ h.in_powers k.in_powers;
      sum = ap (λ t. power A t (suc q)) (V.on_add M N)
          ∙ frobenius-add A AL (suc q) char (at_theta c M) (at_theta c N) ∙ ap₂ A.add h.sum k.sum
          ∙ ring6 A AL (λ g m e r n s. (g ⊗ m ⊕ e ⊗ r) ⊕ (g ⊗ n ⊕ e ⊗ s))
          (λ g m e r n s. g ⊗ (m ⊕ n) ⊕ e ⊗ (r ⊕ s)) refl (power A (at_u c d) q)
          (at_theta c h.next) (power A (at_u c d) (suc q)) h.rest (at_theta c k.next) k.rest
          ∙ ap (λ t. power A (at_u c d) q * t + power A (at_u c d) (suc q) * (h.rest + k.rest))
          (sym (V.on_add h.next k.next));
    }

    stepped_scale : (a : K.carrier) (N : Plane K) → IsStepped c q d T N
        → IsStepped c q d T ((planes K).mul (constant_plane K a) N)
    stepped_scale a N h = record {
      is_in = space.on_scale a N h.is_in;
      next = (planes K).mul (constant_plane K (power K.ring a (suc q))) h.next;
      shape = shape_scale K c.degree (pred (size K.ring d)) (power K.ring a (suc q)) h.next h.shape;
      next_in = space.on_scale (power K.ring a (suc q)) h.next h.next_in;
      rest = at_theta c (constant_plane K (power K.ring a (suc q))) * h.rest;
      in_powers = powers_mul K A AL c l _ _
          (powers_plane K A AL c l (constant_plane K (power K.ring a (suc q)))) h.in_powers;
      sum = ap (λ t. power A t (suc q)) (V.on_mul (constant_plane K a) N)
          ∙ power-mul A AL (at_theta c (constant_plane K a)) (at_theta c N) (suc q)
          ∙ ap₂ A.mul (power_constant a) h.sum
          ∙ ring6 A AL (λ k g m e r z. k ⊗ (g ⊗ m ⊕ e ⊗ r))
          (λ k g m e r z. g ⊗ (k ⊗ m) ⊕ e ⊗ (k ⊗ r))
          refl (at_theta c (constant_plane K (power K.ring a (suc q)))) (power A (at_u c d) q)
          (at_theta c h.next) (power A (at_u c d) (suc q)) h.rest h.rest
          ∙ ap (λ t. power A (at_u c d) q * t + power A (at_u c d) (suc q)
          * (at_theta c (constant_plane K (power K.ring a (suc q))) * h.rest))
          (sym (V.on_mul (constant_plane K (power K.ring a (suc q))) h.next));
    }

  pub level_subspace : (i : ℕ) → IsSubspace K.ring (LevelSpace c b q d i)
  level_subspace zero = record {
    on_zero = carried_zero;
    on_add = carried_add;
    on_scale = carried_scale;
  }
  level_subspace (suc i) = record {
    on_zero = stepped_zero (LevelSpace c b q d i) (level_subspace i);
    on_add = stepped_add (LevelSpace c b q d i) (level_subspace i);
    on_scale = stepped_scale (LevelSpace c b q d i) (level_subspace i);
  }

  -- the spaces fall
  pub space_falls : (i : ℕ) (N : Plane K) → LevelSpace c b q d (suc i) N → LevelSpace c b q d i N
  space_falls i N h = h.is_in

  -- elements of the power order carry a level into itself
  pub level_times : (i : ℕ) (a w : A.carrier) → InPowers c a → InLevel c b q i w
      → InLevel c b q i (A.mul a w)
  level_times zero a w h k = powers_at K A AL c l
      (ring3 A AL (λ a b w. a ⊗ (b ⊗ w)) (λ a b w. b ⊗ (a ⊗ w)) refl a b w)
      (powers_mul K A AL c l a (b * w) h k)
  level_times (suc i) a w h k = (
    level_times i a w h k.0,
    subst (InLevel c b q i) (sym (power-mul A AL a w (suc q)))
        (level_times i (power A a (suc q)) (power A w (suc q))
        (powers_power K A AL c l a h (suc q)) k.1),
  )

  -- d is B times the different b, for B and b in the power order
  module _ (B : A.carrier) (hd : c.IsModulus d) (hb : InPowers c b) (hB : InPowers c B)
      (product : A.mul B b ≡ at_u c d) where
    -- a level is the lattice of its space
    pub level_into : (i : ℕ) (w : A.carrier) → InLevel c b q i w
        → InLattice c d (LevelSpace c b q d i) w
    level_into zero w h = start_into K A AL c l q b B d hd hb hB product w h
    level_into (suc i) w h = step_into K A AL c l q char b d hd (LevelSpace c b q d i) w
        (level_into i w h.0) (level_into i (power A w (suc q)) h.1)

    pub level_back : (i : ℕ) (w : A.carrier) → InLattice c d (LevelSpace c b q d i) w
        → InLevel c b q i w
    level_back zero w h = start_back K A AL c l q b B d hd hb hB product w h
    level_back (suc i) w h = let parts = step_back K A AL c l q char b d hd (LevelSpace c b q d i) w
        h in (level_back i w parts.0, level_back i (power A w (suc q)) parts.1)

    -- where a space is the next one, so is the level
    pub level_stands : (i : ℕ) → ((N : Plane K) → HasShape K.ring c.degree (pred (size K.ring d)) N
        → LevelSpace c b q d i N → LevelSpace c b q d (suc i) N) → (w : A.carrier)
        → InLevel c b q i w → InLevel c b q (suc i) w
    level_stands i stands w h = level_back (suc i) w
        (lat_above K A AL c l d hd (LevelSpace c b q d i) (LevelSpace c b q d (suc i)) stands w
        (level_into i w h))

    -- a level that is closed under products consists of integral elements
    pub level_closed : (i : ℕ) → IsClosed c d (LevelSpace c b q d i) → (w : A.carrier)
        → InLevel c b q i w → IsIntegral c w
    level_closed i closed w h = lat_integral K A AL c l d hd (LevelSpace c b q d i)
        (level_subspace i).on_zero closed w (level_into i w h)
