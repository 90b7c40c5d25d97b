-- The lattice of planes over a polynomial d, when the planes are written over another one, D.
use Rattle.std.proofs.Common.{◌≡◌, ℕ, pred, ◌<◌, false, refl, sym, ◌∙◌, ap, subst}
use Rattle.ff_theory.specs.Ring.{RingOps, IsCommRing}
use Rattle.ff_theory.specs.Lawful.{Field}
use Rattle.ff_theory.specs.Sum.{sum_below}
use Rattle.ff_theory.specs.Poly.{coeff, Poly, polynomials}
use Rattle.ff_theory.specs.Division.{size}
use Rattle.ff_theory.specs.Divides.{Divides}
use Rattle.ff_theory.specs.Planes.{planes, Plane, row_of}
use Rattle.ff_theory.specs.Span.{InSpan}
use Rattle.ff_theory.proofs.Solver.{◌⊕◌, ◌⊗◌, nil, unit, ring2, ring3, ring4}
use Rattle.ff_theory.proofs.Sums.{sum-ext, sum-mul}
use Rattle.ff_theory.proofs.Span.{span-one, span-same}
use Rattle.ff_theory.proofs.Division.{const_mul_at}
use Rattle.ff_theory.proofs.PolyMap.{polynomial_domain}
use Rattle.ff_charts.specs.Chart.{Chart, at_u, at_theta, InPowers, IsChart}
use Rattle.ff_charts.specs.Lattice.{HasShape, flat, InLattice}
use Rattle.ff_charts.proofs.Chart.{cancel_u, row_times, powers_at, powers_add, powers_mul}
use Rattle.ff_charts.proofs.Chart.{powers_plane, powers_u, powers_zero}
use Rattle.ff_charts.proofs.Flat.{flat_one}
use Rattle.ff_charts.proofs.Lattice.{residue_one, lat_element}
use Rattle.ff_data.proofs.PlaneCombinations.{planes_combined, combined_shape, combined_flat}
use Rattle.ff_data.proofs.PlaneCombinations.{combined_value}
use Rattle.ff_basis.proofs.Divisors.{few_rows, rows_divisible}

module _ (K : Field) (A : RingOps) (AL : IsCommRing A) (c : Chart K.ring A) (l : IsChart K.ring A c)
    (d D : Poly K.ring) (hd : c.IsModulus d) (hD : c.IsModulus D) (r : ℕ) (b : ℕ → ℕ → K.carrier)
    (N M : ℕ → Plane K)
    (shape_N : (a : ℕ) → a < r → HasShape K.ring c.degree (pred (size K.ring d)) (N a))
    (flat_N : (a : ℕ) → a < r → (j : ℕ) → flat K.ring (pred (size K.ring d)) (N a) j ≡ b a j)
    (shape_M : (a : ℕ) → a < r → HasShape K.ring c.degree (pred (size K.ring D)) (M a))
    (cross : (a : ℕ) → a < r
    → A.mul (at_u c d) (at_theta c (M a)) ≡ A.mul (at_u c D) (at_theta c (N a)))
  where
    infixl 60 ◌+◌
    infixl 70 ◌*◌
    open A use {add as ◌+◌, mul as ◌*◌, carrier as C}

    -- the planes whose vectors are combinations of the first r vectors
    abbrev pub InVectors : Plane K → Type 0
    InVectors P = InSpan K.ring r b (flat K.ring (pred (size K.ring d)) P)

    abbrev pub InSet : A.carrier → Type 0
    InSet w = InLattice c d InVectors w

    nd : (polynomials K.ring).same d (polynomials K.ring).zero ≡ false
    nd = l.modulus_nonzero d hd

    nD : (polynomials K.ring).same D (polynomials K.ring).zero ≡ false
    nD = l.modulus_nonzero D hD

    abbrev ud : C
    ud = at_u c d

    abbrev uD : C
    uD = at_u c D

    abbrev over_d : (ℕ → K.carrier) → Plane K
    over_d x = planes_combined K x N r

    abbrev over_D : (ℕ → K.carrier) → Plane K
    over_D x = planes_combined K x M r

    shape_d : (x : ℕ → K.carrier) → HasShape K.ring c.degree (pred (size K.ring d)) (over_d x)
    shape_d x = combined_shape K c.degree (pred (size K.ring d)) x N r shape_N

    pub shape_D : (x : ℕ → K.carrier) → HasShape K.ring c.degree (pred (size K.ring D))
        (planes_combined K x M r)
    shape_D x = combined_shape K c.degree (pred (size K.ring D)) x M r shape_M

    -- the combinations over d and over D are the same elements
    combined_cross : (x : ℕ → K.carrier) → ud * at_theta c (over_D x) ≡ uD * at_theta c (over_d x)
    combined_cross x = ap (λ t. ud * t) (combined_value K A AL c l x M r)
        ∙ sym (sum-mul A AL r ud (λ a. c.constant (x a) * at_theta c (M a)))
        ∙ sum-ext A AL r _ (λ a. uD * (c.constant (x a) * at_theta c (N a))) (λ a q.
        ring3 A AL (λ d k m. d ⊗ (k ⊗ m)) (λ d k m. k ⊗ (d ⊗ m)) refl ud (c.constant (x a))
        (at_theta c (M a))
        ∙ ap (λ t. c.constant (x a) * t) (cross a q)
        ∙ ring3 A AL (λ d k m. k ⊗ (d ⊗ m)) (λ d k m. d ⊗ (k ⊗ m)) refl uD (c.constant (x a))
        (at_theta c (N a)))
        ∙ sum-mul A AL r uD (λ a. c.constant (x a) * at_theta c (N a))
        ∙ ap (λ t. uD * t) (sym (combined_value K A AL c l x N r))

    -- the vector of a combination is the combination of the vectors
    vectors_combined : (x : ℕ → K.carrier) (j : ℕ)
        → flat K.ring (pred (size K.ring d)) (over_d x) j
        ≡ sum_below K.ring r (λ a. K.mul (x a) (b a j))
    vectors_combined x j = combined_flat K (pred (size K.ring d)) x N r j
        ∙ sum-ext K.ring K.laws r _ _ (λ a q. ap (K.mul (x a)) (flat_N a q j))

    -- D times an element of the set is a combination over D, up to D times the power order
    record Numerators (w : A.carrier) : Type 0 where
      coefficients : ℕ → K.carrier
      rest : A.carrier
      in_powers : InPowers c rest
      sum : A.mul uD w ≡ A.add (at_theta c (over_D coefficients)) (A.mul uD rest)

    numerators : (w : A.carrier) → InSet w → Numerators w
    numerators w h = record {
      coefficients = x;
      rest = h.residue.rest;
      in_powers = h.residue.in_powers;
      sum = cancel_u K A AL c l d nd _ _
          (ring3 A AL (λ d e w. d ⊗ (e ⊗ w)) (λ d e w. e ⊗ (d ⊗ w)) refl ud uD w
          ∙ ap (λ t. uD * t) (h.residue.sum ∙ ap (λ P. at_theta c P + ud * h.residue.rest) same)
          ∙ ring4 A AL (λ e n d r. e ⊗ (n ⊕ d ⊗ r)) (λ e n d r. e ⊗ n ⊕ d ⊗ (e ⊗ r)) refl uD
          (at_theta c (over_d x)) ud h.residue.rest
          ∙ ap (λ t. t + ud * (uD * h.residue.rest)) (sym (combined_cross x))
          ∙ ring3 A AL (λ d m s. d ⊗ m ⊕ d ⊗ s) (λ d m s. d ⊗ (m ⊕ s)) refl ud
          (at_theta c (over_D x)) (uD * h.residue.rest));
    }
      where
        x : ℕ → K.carrier
        x = h.is_in.coefficients

        same : h.nums ≡ over_d x
        same = flat_one K (pred (size K.ring d)) c.degree h.nums (over_d x) h.residue.shape
            (shape_d x) (λ j. h.is_in.sum j ∙ sym (vectors_combined x j))

    -- D clears the set
    pub clears : (w : A.carrier) → InSet w → InPowers c (A.mul (at_u c D) w)
    clears w h = at (numerators w h)
      where
        at : Numerators w → InPowers c (uD * w)
        at p = powers_at K A AL c l (sym p.sum) (powers_add K A AL c l _ _
            (powers_plane K A AL c l (over_D p.coefficients))
            (powers_mul K A AL c l _ _ (powers_u K A AL c l D) p.in_powers))

    -- combinations over D are in the set
    pub fraction_in : (x : ℕ → K.carrier) (w : A.carrier)
        → A.mul (at_u c D) w ≡ at_theta c (planes_combined K x M r) → InSet w
    fraction_in x w e = record {
      nums = over_d x;
      is_in = record { coefficients = x; sum = vectors_combined x };
      residue = record {
        shape = shape_d x;
        rest = A.zero;
        in_powers = powers_zero K A AL c l;
        sum = cancel_u K A AL c l D nD _ _
            (ring3 A AL (λ e d w. e ⊗ (d ⊗ w)) (λ e d w. d ⊗ (e ⊗ w)) refl uD ud w
            ∙ ap (λ t. ud * t) e ∙ combined_cross x
            ∙ ring3 A AL (λ e n d. e ⊗ n) (λ e n d. e ⊗ (n ⊕ d ⊗ nil)) refl uD
            (at_theta c (over_d x)) ud);
      };
    }

    -- and what is in the set, with reduced numerators over D, is such a combination
    pub fraction_combined : (w : A.carrier) → InSet w → (P : Plane K)
        → HasShape K.ring c.degree (pred (size K.ring D)) P
        → A.mul (at_u c D) w ≡ at_theta c P
        → (x : ℕ → K.carrier) × (P ≡ planes_combined K x M r)
    fraction_combined w h P shape e = at (numerators w h)
      where
        at : Numerators w → (x : ℕ → K.carrier) × (P ≡ planes_combined K x M r)
        at p = (
          p.coefficients,
          residue_one K A AL c l D hD (uD * w) P (over_D p.coefficients)
              (record {
                shape = shape;
                rest = A.zero;
                in_powers = powers_zero K A AL c l;
                sum = e ∙ ring2 A AL (λ n d. n) (λ n d. n ⊕ d ⊗ nil) refl (at_theta c P) uD;
              })
              (record {
                shape = shape_D p.coefficients;
                rest = p.rest;
                in_powers = p.in_powers;
                sum = p.sum;
              }),
        )

    -- a polynomial that clears the set makes d divide its products with the rows
    pub clearing_divisible : (m : Poly K.ring)
        → ((w : A.carrier) → InSet w → InPowers c (A.mul (at_u c m) w))
        → (a : ℕ) → a < r → (i : ℕ) → Divides (polynomials K.ring) d
        ((polynomials K.ring).mul m (coeff (polynomials K.ring) (N a).coeffs i))
    clearing_divisible m h a q i = subst (Divides (polynomials K.ring) d)
        (const_mul_at (polynomials K.ring) (polynomial_domain K).laws (polynomial_domain K).tests m
        (N a) i)
        (rows_divisible K A AL c l d hd ((planes K).mul (row_of K.ring m) (N a))
        (few_rows K A AL c l m (N a) (shape_N a q).rows) (at_u c m * w) (h w inside)
        (row_times K A AL c l m (N a) ∙ value) i)
      where
        w : C
        w = l.inverse d * at_theta c (N a) + A.zero

        inside : InSet w
        inside = lat_element K A AL c l d hd InVectors (N a) (shape_N a q)
            (span-same K.ring K.laws r b (b a) _ (flat_N a q) (span-one K.ring K.laws r b a q))
            A.zero (powers_zero K A AL c l)

        value : at_u c m * at_theta c (N a) ≡ ud * (at_u c m * w)
        value = sym (ring4 A AL (λ d m i n. d ⊗ (m ⊗ (i ⊗ n ⊕ nil))) (λ d m i n. m ⊗ ((i ⊗ d) ⊗ n))
            refl ud (at_u c m) (l.inverse d) (at_theta c (N a))
            ∙ ap (λ t. at_u c m * (t * at_theta c (N a))) (l.inverts d nd)
            ∙ ring2 A AL (λ m n. m ⊗ (unit ⊗ n)) (λ m n. m ⊗ n) refl (at_u c m) (at_theta c (N a)))
