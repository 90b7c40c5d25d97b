-- The order of a chart of a field that has all integral elements is the ring of a chart; which
-- elements of it are regular at a point.
use Rattle.std.proofs.Common.{◌≡◌, ℕ}
use Rattle.std.proofs.Common.{false, List, [], ◌∷◌, refl, sym, ◌∙◌, ap, subst}
use Rattle.ff_theory.specs.Ring.{power}
use Rattle.ff_theory.specs.Lawful.{Domain, Field}
use Rattle.ff_theory.specs.Map.{IsMap}
use Rattle.ff_theory.specs.Eval.{eval_list, eval}
use Rattle.ff_theory.specs.Poly.{Poly, polynomials}
use Rattle.ff_theory.specs.Planes.{Plane}
use Rattle.ff_theory.proofs.Solver.{◌⊗◌, unit, ring1, ring3, ring6}
use Rattle.ff_theory.proofs.Solver.{mul_zero}
use Rattle.ff_theory.proofs.Evaluate.{eval-const}
use Rattle.ff_theory.proofs.PolyMap.{polynomial_domain}
use Rattle.ff_charts.specs.Chart.{Chart, IsChart, InPowers, IsIntegral, at_u, at_theta}
use Rattle.ff_charts.proofs.Chart.{at_u_map, powers_u, powers_at, powers_mul, powers_plane}
use Rattle.ff_charts.proofs.Closure.{lat_powers_in, lat_add}
use Rattle.ff_charts.proofs.Lattice.{lat_clears}
use Rattle.ff_conductor.proofs.Integral.{integral_by}
use Rattle.ff_local.specs.ChartOrder.{ChartOrder, InChartOrder}
use Rattle.ff_places.proofs.FieldSpaces.{FieldSpaces}
use Rattle.ff_places.proofs.Regular.{AtLeast, at_least_mul, at_least_add, constant_regular}
use Rattle.ff_places.proofs.Values.{powers_regular}
use Rattle.ff_places.proofs.ChartRings.{IsChartRing}

module _ (K field : Field) (c : Chart K.ring field.ring) (l : IsChart K.ring field.ring c) where
  infixl 60 ◌⊞◌
  infixl 70 ◌*◌
  open field use {add as ◌⊞◌, mul as ◌*◌, neg as minus, ring as A, laws as AL}

  abbrev P : Domain
  P = polynomial_domain K

  U : IsMap (polynomials K.ring) field.ring (at_u c)
  U = at_u_map K field.ring field.laws c l

  pub at_u_proper : (h : Poly K.ring)
      → (polynomials K.ring).same h (polynomials K.ring).zero ≡ false
      → ¬ (at_u c h ≡ field.zero)
  at_u_proper h nh e = field.is_field.one_not_zero (sym (l.inverts h nh)
      ∙ ap (λ t. l.inverse h * t) e ∙ mul_zero A AL (l.inverse h))

  module _ (o : ChartOrder c) (all : (w : field.carrier) → IsIntegral c w → InChartOrder c o w)
    where
      powers_in : (w : field.carrier) → InPowers c w → InChartOrder c o w
      powers_in = lat_powers_in K A AL c l o.modulus o.is_modulus o.space.In o.space.linear

      -- one polynomial at u that carries all powers of w into the power order
      closed : (w d : field.carrier) → ¬ (d ≡ field.zero)
          → ((i : ℕ) → InChartOrder c o (d * power A w i)) → InChartOrder c o w
      closed w d nd each = all w (integral_by K A AL c l
          (P.mul (l.cleared (field.inverse d)).den o.modulus)
          (P.no_divisors _ o.modulus (l.cleared (field.inverse d)).nonzero
          (l.modulus_nonzero o.modulus o.is_modulus)) w
          (λ j. powers_at K A AL c l (product j) (powers_mul K A AL c l _ _
          (powers_plane K A AL c l (l.cleared (field.inverse d)).nums)
          (lat_clears K A AL c l o.modulus o.is_modulus o.space.In _ (each j)))))
        where
          product : (j : ℕ) → at_theta c (l.cleared (field.inverse d)).nums
              * (at_u c o.modulus * (d * power A w j))
              ≡ at_u c (P.mul (l.cleared (field.inverse d)).den o.modulus) * power A w j
          product j = ap (λ t. t * (at_u c o.modulus * (d * power A w j)))
              (sym (l.cleared (field.inverse d)).clears)
              ∙ ring6 A AL (λ q i m d p z. (q ⊗ i) ⊗ (m ⊗ (d ⊗ p)))
              (λ q i m d p z. (d ⊗ i) ⊗ ((q ⊗ m) ⊗ p)) refl
              (at_u c (l.cleared (field.inverse d)).den) (field.inverse d) (at_u c o.modulus) d
              (power A w j) d
              ∙ ap (λ t. t * (at_u c (l.cleared (field.inverse d)).den * at_u c o.modulus
              * power A w j)) (field.is_field.mul_inverse d nd)
              ∙ ring1 A AL (λ p. unit ⊗ p) (λ p. p) refl _
              ∙ ap (λ t. t * power A w j) (sym (U.on_mul _ o.modulus))

      pub order_ring : IsChartRing K field c.constant (InChartOrder c o)
      order_ring = record {
        on_constant = λ s. powers_in _ (powers_at K A AL c l
            (eval-const K.ring A K.laws K.tests AL c.constant l.constants c.u s)
            (powers_u K A AL c l _));
        on_add = lat_add K A AL c l o.modulus o.is_modulus o.space.In o.space.linear;
        on_mul = o.closed;
        cleared = λ a. let q = l.cleared a in (
          at_u c q.den,
          powers_in _ (powers_u K A AL c l q.den),
          at_u_proper q.den q.nonzero,
          powers_in _ (powers_at K A AL c l (sym q.clears) (powers_plane K A AL c l q.nums)),
        );
        closed = closed;
      }

module _ {K : Field} (S : FieldSpaces K) where
  -- values of lists at a regular element
  pub list_regular : {B : Type 0} (h : B → S.carrier) → ((b : B) → AtLeast S 0 (h b))
      → (y : S.carrier) → AtLeast S 0 y → (p : List B) → AtLeast S 0 (eval_list S.ring h y p)
  list_regular h each y m [] = subst (AtLeast S 0) S.spaces.constants.on_zero
      (constant_regular S K.zero)
  list_regular h each y m (b ∷ p) = at_least_add S 0 _ _ (each b)
      (at_least_mul S 0 0 _ _ m (list_regular h each y m p))

module _ {K : Field} (S : FieldSpaces K) (c : Chart K.ring S.ring) (l : IsChart K.ring S.ring c)
    (same : c.constant ≡ S.constant) (at : AtLeast S 0 c.u) (root : AtLeast S 0 c.theta)
    (units : (s : Poly K.ring) → c.IsUnit s → AtLeast S 0 (S.inverse (at_u c s))) where
  infixl 60 ◌⊞◌
  infixl 70 ◌*◌
  open S use {add as ◌⊞◌, mul as ◌*◌, neg as minus}

  polynomial_regular : (h : Poly K.ring) → AtLeast S 0 (at_u c h)
  unfolding eval
  polynomial_regular h = list_regular S c.constant (λ s. subst
      (λ (g : K.carrier → S.carrier). AtLeast S 0 (g s)) (sym same) (constant_regular S s)) c.u at
      h.coeffs

  plane_regular : (N : Plane K) → AtLeast S 0 (at_theta c N)
  unfolding eval
  plane_regular N = list_regular S (at_u c) polynomial_regular c.theta root N.coeffs

  regular_mul : (a b : S.carrier) → AtLeast S 0 a → AtLeast S 0 b → AtLeast S 0 (a * b)
  regular_mul a b g h = at_least_mul S 0 0 a b g h

  powers_regular_in : (a : S.carrier) → InPowers c a → AtLeast S 0 a
  powers_regular_in a p = subst (AtLeast S 0) (ap (λ t. S.inverse (at_u c p.unit) * t) (sym
      p.clears) ∙ ring3 S.ring S.laws (λ i s a. i ⊗ (s ⊗ a)) (λ i s a. (s ⊗ i) ⊗ a) refl
      (S.inverse (at_u c p.unit)) (at_u c p.unit) a
      ∙ ap (λ t. t * a) (S.is_field.mul_inverse (at_u c p.unit)
      (at_u_proper K S.field c l p.unit (l.unit_nonzero p.unit p.is_unit)))
      ∙ ring1 S.ring S.laws (λ a. unit ⊗ a) (λ a. a) refl a)
      (regular_mul (S.inverse (at_u c p.unit)) (at_theta c p.nums) (units p.unit p.is_unit)
      (plane_regular p.nums))

  -- integral elements are regular
  pub integral_regular : (a : S.carrier) → IsIntegral c a → AtLeast S 0 a
  integral_regular a h = powers_regular S a (at_u c h.modulus)
      (at_u_proper K S.field c l h.modulus (l.modulus_nonzero h.modulus h.is_modulus))
      (λ j. powers_regular_in _ (h.powers j))
