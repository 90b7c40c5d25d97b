-- By the data of a point, the elements of the basis of the space have the values of the data.
use Rattle.std.proofs.Common.{◌≡◌, ℕ, pred, ◌*◌ as times_ℕ, ◌<◌, refl, sym, ◌∙◌, ap, ap₂}
use Rattle.ff_theory.specs.Ring.{RingOps, IsCommRing}
use Rattle.ff_theory.specs.Lawful.{Domain, Field}
use Rattle.ff_theory.specs.Map.{IsMap}
use Rattle.ff_theory.specs.Poly.{Poly}
use Rattle.ff_theory.specs.Division.{size}
use Rattle.ff_theory.specs.Eval.{plane_at}
use Rattle.ff_theory.specs.Planes.{planes}
use Rattle.ff_theory.specs.Span.{EndsAt, InSpan, IsEchelon, unit_at}
use Rattle.ff_theory.specs.Sum.{sum_below}
use Rattle.ff_theory.proofs.Evaluate.{plane_at_map}
use Rattle.ff_theory.proofs.PolyMap.{polynomial_domain}
use Rattle.ff_theory.proofs.Solver.{◌⊕◌, ◌⊗◌, nil, unit, ring1, ring2, zero_mul, mul_zero}
use Rattle.ff_theory.proofs.Span.{unit-same, unit-other}
use Rattle.ff_theory.proofs.Sums.{sum-single}
use Rattle.ff_charts.specs.Chart.{Chart, at_u, at_theta, InPowers, IsChart}
use Rattle.ff_charts.specs.Lattice.{IsClosed, flat}
use Rattle.ff_charts.proofs.Chart.{at_theta_map}
use Rattle.ff_charts.proofs.Flat.{plane_with_flat}
use Rattle.ff_local.specs.ChartOrder.{ChartOrder}
use Rattle.ff_local.specs.ChartValue.{HasValueBy}
use Rattle.ff_local.proofs.ChartData.{order_of}
use Rattle.ff_local.proofs.Quotients.{times_over}

module _ (K : Field) (A : RingOps) (AL : IsCommRing A) (c : Chart K.ring A) (l : IsChart K.ring A c)
    (m : Poly K.ring) (hm : c.IsModulus m) (i r : ℕ) (basis : ℕ → ℕ → K.carrier)
    (rows : i ≡ pred (size K.ring m)) (pivot : ℕ → ℕ)
    (echelon : IsEchelon K.ring r basis pivot)
    (ends : (j : ℕ) → j < r → EndsAt K.ring (times_ℕ c.degree i) (basis j))
    (closed : IsClosed c m (λ N. InSpan K.ring r basis (flat K.ring i N)))
    (a b : K.carrier) (values : ℕ → K.carrier) where
  abbrev D : Domain
  D = polynomial_domain K

  abbrev o : ChartOrder c
  o = order_of K A AL c l m hm i r basis rows pivot echelon ends closed

  identity : IsMap K.ring K.ring (λ s. s)
  identity = record {
    on_zero = refl;
    on_one = refl;
    on_add = λ s t. refl;
    on_neg = λ s. refl;
    on_mul = λ s t. refl;
  }

  G : IsMap (planes K) K.ring (plane_at K.ring K.ring (λ s. s) a b)
  G = plane_at_map K.ring K.ring K.laws K.tests K.laws (λ s. s) identity a b

  none : InPowers c A.zero
  none = record {
    unit = D.one;
    is_unit = l.one_unit;
    nums = (planes K).zero;
    clears = mul_zero A AL (at_u c D.one) ∙ sym (at_theta_map K A AL c l).on_zero;
  }

  pub basis_has_value : (j : ℕ) → j < r → HasValueBy K c a b m i r basis values
      (A.mul (l.inverse m) (at_theta c ((order_of K A AL c l m hm i r basis rows pivot echelon ends
      closed).space.basis j))) (values j)
  unfolding none
  basis_has_value j q = (
    record {
      nums = o.space.basis j;
      is_in = record {
        coefficients = unit_at K.ring j;
        sum = λ t. plane_with_flat K i c.degree (basis j) (ends j q) t
            ∙ sym (single (λ n. basis n t));
      };
      residue = record {
        shape = o.space.shape j q;
        rest = A.zero;
        in_powers = none;
        sum = times_over K A AL c l m (l.modulus_nonzero m hm) (o.space.basis j)
            ∙ ring2 A AL (λ n m. n) (λ n m. n ⊕ m ⊗ nil) refl (at_theta c (o.space.basis j))
            (at_u c m);
      };
    },
    sym (ap₂ K.add (single values) (ap (K.mul _) G.on_zero ∙ mul_zero K.ring K.laws _)
        ∙ K.laws.add_zero (values j)),
  )
    where
      single : (f : ℕ → K.carrier)
          → sum_below K.ring r (λ n. K.mul (unit_at K.ring j n) (f n)) ≡ f j
      single f = sum-single K.ring K.laws r j (λ n. K.mul (unit_at K.ring j n) (f n)) q
          (λ n s e. ap (λ t. K.mul t (f n)) (unit-other K.ring j n e)
          ∙ zero_mul K.ring K.laws (f n))
          ∙ ap (λ t. K.mul t (f j)) (unit-same K.ring j)
          ∙ ring1 K.ring K.laws (λ a. unit ⊗ a) (λ a. a) refl (f j)
