-- Data of an order of a chart and of a point, of which the values are in one another's sums and
-- products, make an order of the chart and a point of it.
use Rattle.std.proofs.Common.{◌≡◌, ℕ, pred, ◌*◌ as times_ℕ, ◌<◌, refl, sym, ◌∙◌}
use Rattle.ff_theory.specs.Ring.{RingOps, IsCommRing}
use Rattle.ff_theory.specs.Lawful.{Field}
use Rattle.ff_theory.specs.Poly.{Poly}
use Rattle.ff_theory.specs.Division.{size}
use Rattle.ff_theory.specs.Span.{EndsAt, InSpan, IsEchelon}
use Rattle.ff_charts.specs.Chart.{Chart, IsChart}
use Rattle.ff_charts.specs.Lattice.{IsClosed, flat}
use Rattle.ff_local.specs.ChartOrder.{ChartOrder, ChartPoint, root_at}
use Rattle.ff_local.specs.ChartValue.{IsRoot, value_by, HasValueBy}
use Rattle.ff_local.proofs.EchelonSpace.{echelon_space, space_at}
use Rattle.ff_local.proofs.ChartValue.{value_single, value_constant}

module _ (K : Field) (A : RingOps) (AL : IsCommRing A) (c : Chart K.ring A) (l : IsChart K.ring A c)
    (m : Poly K.ring) (hm : c.IsModulus m) (i r : ℕ) (basis : ℕ → ℕ → K.carrier) where
  module _ (rows : i ≡ pred (size K.ring m)) (pivot : ℕ → ℕ)
      (echelon : IsEchelon K.ring r basis pivot)
      (ends : (j : ℕ) → j < r → EndsAt K.ring (times_ℕ c.degree i) (basis j))
      (closed : IsClosed c m (λ N. InSpan K.ring r basis (flat K.ring i N))) where
    abbrev pub order_of : ChartOrder c
    order_of = record {
      modulus = m;
      is_modulus = hm;
      space = space_at K.ring c.degree i (pred (size K.ring m)) rows
          (echelon_space K c.degree i r basis pivot echelon ends);
      closed = closed;
    }

    module _ (a b : K.carrier) (values : ℕ → K.carrier) (modulus : c.IsModulus (root_at K.ring a))
        (root : IsRoot K c a b)
        (on_u : HasValueBy K c a b m i r basis values c.u a)
        (on_add : (v w : A.carrier) (s t : K.carrier) → HasValueBy K c a b m i r basis values v s
        → HasValueBy K c a b m i r basis values w t
        → HasValueBy K c a b m i r basis values (A.add v w) (K.add s t))
        (on_mul : (v w : A.carrier) (s t : K.carrier) → HasValueBy K c a b m i r basis values v s
        → HasValueBy K c a b m i r basis values w t
        → HasValueBy K c a b m i r basis values (A.mul v w) (K.mul s t)) where
      abbrev pub point_of : ChartPoint c order_of
      point_of = record {
        HasValue = HasValueBy K c a b m i r basis values;
        inside = λ w s h. h.0;
        total = λ w h. (value_by K c a b m i r basis values h, (h, refl));
        single = λ w s t h k. h.1 ∙ value_single K A AL c l a b modulus root m hm i r basis pivot
            echelon values w h.0 k.0 ∙ sym k.1;
        on_constant = value_constant K A AL c l a b modulus root m hm i r basis pivot echelon
            values;
        on_add = on_add;
        on_mul = on_mul;
        a = a;
        on_u = on_u;
        is_modulus = modulus;
      }
