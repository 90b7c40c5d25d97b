-- Functionals on a fibre of an order give points by data, and each point by data comes from one.
use Rattle.std.proofs.Common.{◌≡◌, ℕ, pred, ◌*◌ as times_ℕ, ◌<◌, sym, ◌∙◌}
use Rattle.ff_theory.specs.Ring.{RingOps, IsCommRing}
use Rattle.ff_theory.specs.Lawful.{Field}
use Rattle.ff_theory.specs.Poly.{Poly}
use Rattle.ff_theory.specs.Division.{size}
use Rattle.ff_theory.specs.Span.{EndsAt, InSpan, IsEchelon}
use Rattle.ff_charts.specs.Chart.{Chart, at_theta, IsChart}
use Rattle.ff_charts.specs.Lattice.{IsClosed, flat}
use Rattle.ff_local.specs.Point.{OrderIn}
use Rattle.ff_local.specs.Functional.{HasFunctionalValue, IsFunctional}
use Rattle.ff_local.specs.ChartOrder.{ChartOrder, ChartPoint, root_at}
use Rattle.ff_local.specs.ChartFibre.{ChartFibre}
use Rattle.ff_local.specs.ChartValue.{IsRoot, HasValueBy}
use Rattle.ff_local.proofs.ChartData.{order_of, point_of}
use Rattle.ff_local.proofs.ChartOrder.{order_in}
use Rattle.ff_local.proofs.ChartPoint.{order_at, value_is}
use Rattle.ff_local.proofs.ChartFibre.{fibre}
use Rattle.ff_local.proofs.ChartFunctional.{functional_point}
use Rattle.ff_local.proofs.Functional.{chi_at, value_functional, point_functional}
use Rattle.ff_values.proofs.PointValues.{point_root}
use Rattle.ff_values.proofs.DataValues.{value_into, value_back}

module _ (K : Field) (A : RingOps) (AL : IsCommRing A) (c : Chart K.ring A) (l : IsChart K.ring A c)
    (m : Poly K.ring) (hm : c.IsModulus m) (i r : ℕ) (basis : ℕ → ℕ → K.carrier)
    (rows : i ≡ pred (size K.ring m)) (pivot : ℕ → ℕ)
    (echelon : IsEchelon K.ring r basis pivot)
    (ends : (j : ℕ) → j < r → EndsAt K.ring (times_ℕ c.degree i) (basis j))
    (closed : IsClosed c m (λ N. InSpan K.ring r basis (flat K.ring i N)))
    (a : K.carrier) (modulus : c.IsModulus (root_at K.ring a))
    (F : ChartFibre c (order_of K A AL c l m hm i r basis rows pivot echelon ends closed) a) where
  infixl 60 ◌+◌
  infixl 70 ◌*◌
  open A use {add as ◌+◌, mul as ◌*◌, neg as minus, carrier as C}

  abbrev o : ChartOrder c
  o = order_of K A AL c l m hm i r basis rows pivot echelon ends closed

  abbrev O : OrderIn
  O = order_in K A AL c l o a modulus

  -- the data are those of a point: HasValueBy keeps sums and products, and fixes u and theta
  pub record IsDataPoint (b : K.carrier) (values : ℕ → K.carrier) : Type 0 where
    pub root : IsRoot K c a b
    pub sums : (v w : A.carrier) (s t : K.carrier) → HasValueBy K c a b m i r basis values v s
        → HasValueBy K c a b m i r basis values w t
        → HasValueBy K c a b m i r basis values (A.add v w) (K.add s t)
    pub products : (v w : A.carrier) (s t : K.carrier) → HasValueBy K c a b m i r basis values v s
        → HasValueBy K c a b m i r basis values w t
        → HasValueBy K c a b m i r basis values (A.mul v w) (K.mul s t)
    pub value_of_u : HasValueBy K c a b m i r basis values c.u a
    pub value_of_theta : HasValueBy K c a b m i r basis values c.theta b

  module _ (chi : ℕ → K.carrier)
      (f : IsFunctional (order_in K A AL c l (order_of K A AL c l m hm i r basis rows pivot echelon
      ends closed) a modulus) (fibre K A AL c l (order_of K A AL c l m hm i r basis rows pivot
      echelon ends closed) a modulus F) chi)
      (b : K.carrier) (values : ℕ → K.carrier) where
    abbrev p : ChartPoint c o
    p = functional_point K A AL c l o a modulus (fibre K A AL c l o a modulus F) chi f

    -- a functional whose values of theta and of the basis are the data
    pub functional_data : HasFunctionalValue
        (order_in K A AL c l (order_of K A AL c l m hm i r basis
        rows pivot echelon ends closed) a modulus) (fibre K A AL c l (order_of K A AL c l m hm i r
        basis rows pivot echelon ends closed) a modulus F) chi c.theta b
        → ((j : ℕ) → j < r → HasFunctionalValue (order_in K A AL c l (order_of K A AL c l m hm i r
        basis rows pivot echelon ends closed) a modulus) (fibre K A AL c l (order_of K A AL c l m hm
        i r basis rows pivot echelon ends closed) a modulus F) chi (A.mul (l.inverse m) (at_theta c
        ((order_of K A AL c l m hm i r basis rows pivot echelon ends closed).space.basis j)))
        (values j)) → IsDataPoint b values
    functional_data on_theta on_basis = record {
      root = point_root K A AL c l o p b on_theta;
      sums = λ v w s t h k. back _ _ (p.on_add v w s t (into v s h) (into w t k));
      products = λ v w s t h k. back _ _ (p.on_mul v w s t (into v s h) (into w t k));
      value_of_u = back _ _ p.on_u;
      value_of_theta = back _ _ on_theta;
    }
      where
        into : (w : A.carrier) (v : K.carrier) → HasValueBy K c a b m i r basis values w v
            → p.HasValue w v
        into = value_into K A AL c l m hm i r basis rows pivot echelon ends closed p b on_theta
            values on_basis

        back : (w : A.carrier) (v : K.carrier) → p.HasValue w v
            → HasValueBy K c a b m i r basis values w v
        back = value_back K A AL c l m hm i r basis rows pivot echelon ends closed p b on_theta
            values on_basis

  module _ (b : K.carrier) (values : ℕ → K.carrier) (q : IsDataPoint b values) where
    abbrev data_point : ChartPoint c o
    data_point = point_of K A AL c l m hm i r basis rows pivot echelon ends closed a b values
        modulus q.root q.value_of_u q.sums q.products

    -- the values of the basis of the fibre at a point by data
    abbrev pub point_chi : ℕ → K.carrier
    point_chi = chi_at (order_at K A AL c l o data_point) (fibre K A AL c l o a modulus F)

    -- they are a functional
    pub point_is_functional : IsFunctional (order_in K A AL c l (order_of K A AL c l m hm i r basis
        rows pivot echelon ends closed) a modulus) (fibre K A AL c l (order_of K A AL c l m hm i r
        basis rows pivot echelon ends closed) a modulus F) point_chi
    point_is_functional = point_functional (order_at K A AL c l o data_point)
        (fibre K A AL c l o a modulus F)

    -- whose values are those by the data
    pub point_chi_value : (w : A.carrier) (s t : K.carrier)
        → HasFunctionalValue (order_in K A AL c l
        (order_of K A AL c l m hm i r basis rows pivot echelon ends closed) a modulus) (fibre K A AL
        c l (order_of K A AL c l m hm i r basis rows pivot echelon ends closed) a modulus F)
        point_chi w s → HasValueBy K c a b m i r basis values w t → s ≡ t
    point_chi_value w s t h k = sym (value_functional (order_at K A AL c l o data_point)
        (fibre K A AL c l o a modulus F) w s h) ∙ value_is K A AL c l o data_point w t k
