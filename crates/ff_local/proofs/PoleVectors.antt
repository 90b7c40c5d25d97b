-- The pole planes of a shape are those whose vectors are combinations of the vectors of the basis
-- times (u-a)^j and of W_i times (u-a)^(j-i); multiples of u - a likewise.
use Rattle.std.proofs.Common.{◌≡◌, ℕ, suc, pred, ◌+◌ as plus_ℕ, ◌-◌, ◌<◌, sym, ◌∙◌}
use Rattle.std.proofs.Common.{ap, ap₂}
use Rattle.ff_theory.specs.Ring.{RingOps, IsCommRing}
use Rattle.ff_theory.specs.Lawful.{Domain, Field}
use Rattle.ff_theory.specs.Poly.{Poly, polynomials}
use Rattle.ff_theory.specs.Division.{size}
use Rattle.ff_theory.specs.Planes.{planes, Plane, row_of}
use Rattle.ff_theory.specs.Span.{combination, InSpan}
use Rattle.ff_theory.proofs.Sums.{sum-ext}
use Rattle.ff_theory.proofs.PolyMap.{polynomial_domain}
use Rattle.ff_charts.specs.Chart.{Chart, IsChart}
use Rattle.ff_charts.specs.Lattice.{HasShape, IsTimes, flat}
use Rattle.ff_charts.proofs.Flat.{flat_add, flat_one}
use Rattle.ff_charts.proofs.Lattice.{times_shape}
use Rattle.ff_charts.proofs.Closure.{shape_plus}
use Rattle.ff_local.specs.ChartOrder.{ChartOrder, ChartPoint, plane_sum}
use Rattle.ff_local.specs.ChartPole.{root_power, pole_modulus, IsPolePlane}
use Rattle.ff_local.proofs.Joined.{joined, sum-split, sum-joined, joined-below, joined-above}
use Rattle.ff_local.proofs.PlaneSums.{sum_vector, times_sum, sum_has_shape, sum_in}
use Rattle.ff_local.proofs.ChartPole.{raised_short}
use Rattle.ff_local.proofs.Quotients.{root_modulus}

module _ (K : Field) (A : RingOps) (AL : IsCommRing A) (c : Chart K.ring A) (l : IsChart K.ring A c)
    (o : ChartOrder c) where
  abbrev D : Domain
  D = polynomial_domain K

  -- the planes that are g times one of the space
  module _ (g : Poly K.ring) (hg : c.IsModulus g) where
    abbrev m : ℕ
    m = pred (size K.ring (D.mul g o.modulus))

    abbrev pub times_row : ℕ → Plane K
    times_row i = (planes K).mul (row_of K.ring g) (o.space.basis i)

    -- the plane of the coefficients
    abbrev part : (ℕ → K.carrier) → Plane K
    part e = plane_sum K.ring o.space.count e o.space.basis

    part_shape : (e : ℕ → K.carrier)
        → HasShape K.ring c.degree (pred (size K.ring o.modulus)) (part e)
    part_shape e = sum_has_shape K c.degree (pred (size K.ring o.modulus)) o.space.count e
        o.space.basis o.space.shape

    times_part_shape : (N : Plane K) → HasShape K.ring c.degree (pred (size K.ring o.modulus)) N
        → HasShape K.ring c.degree (pred (size K.ring (D.mul g o.modulus)))
        ((planes K).mul (row_of K.ring g) N)
    times_part_shape N s = times_shape K A AL c l o.modulus o.is_modulus g hg o.space.In N s

    pub times_vectors_into : (N : Plane K)
        → IsTimes K.ring c.degree (pred (size K.ring o.modulus)) g o.space.In N → (i : ℕ)
        → InSpan K.ring o.space.count (λ t. flat K.ring i (times_row t)) (flat K.ring i N)
    times_vectors_into N h i = go (o.space.spans h.part h.shape h.is_in)
      where
        go : (e : ℕ → K.carrier) × (h.part ≡ plane_sum K.ring o.space.count e o.space.basis)
            → InSpan K.ring o.space.count (λ t. flat K.ring i (times_row t)) (flat K.ring i N)
        go e = record {
          coefficients = e.0;
          sum = λ j. ap (λ M. flat K.ring i M j) (h.product
              ∙ ap ((planes K).mul (row_of K.ring g)) e.1
              ∙ times_sum K (row_of K.ring g) o.space.count e.0 o.space.basis)
              ∙ sum_vector K i o.space.count e.0 times_row j;
        }

    pub times_vectors_back : (N : Plane K)
        → HasShape K.ring c.degree (pred (size K.ring ((polynomials K.ring).mul g o.modulus))) N
        → InSpan K.ring o.space.count (λ t. flat K.ring
        (pred (size K.ring ((polynomials K.ring).mul g o.modulus))) (times_row t))
        (flat K.ring (pred (size K.ring ((polynomials K.ring).mul g o.modulus))) N)
        → IsTimes K.ring c.degree (pred (size K.ring o.modulus)) g o.space.In N
    times_vectors_back N s h = record {
      part = part h.coefficients;
      shape = part_shape h.coefficients;
      is_in = sum_in K c.degree (pred (size K.ring o.modulus)) o.space o.space.count h.coefficients
          o.space.basis o.space.is_in;
      product = flat_one K m c.degree N _ s (times_part_shape (part h.coefficients)
          (part_shape h.coefficients)) (λ j. h.sum j
          ∙ sym (ap (λ M. flat K.ring m M j)
          (times_sum K (row_of K.ring g) o.space.count h.coefficients o.space.basis)
          ∙ sum_vector K m o.space.count h.coefficients times_row j));
    }

  module _ (p : ChartPoint c o) (j : ℕ) (W : ℕ → Plane K) (shapes : (i : ℕ) → i < j
      → HasShape K.ring c.degree (pred (size K.ring (pole_modulus c o p.a (suc i)))) (W (suc i)))
    where
      abbrev n : ℕ
      n = pred (size K.ring (pole_modulus c o p.a j))

      abbrev first : ℕ → Plane K
      first i = (planes K).mul (row_of K.ring (root_power c o p.a j)) (o.space.basis i)

      abbrev second : ℕ → Plane K
      second i = (planes K).mul (row_of K.ring (root_power c o p.a (j - suc i))) (W (suc i))

      -- the vectors that span
      abbrev pub pole_row : ℕ → Plane K
      pole_row = joined o.space.count first second

      vectors : (d e : ℕ → K.carrier) (i t : ℕ) → flat K.ring i ((planes K).add
          ((planes K).mul (row_of K.ring (root_power c o p.a j))
          (plane_sum K.ring o.space.count d o.space.basis)) (plane_sum K.ring j e second)) t
          ≡ K.add (combination K.ring o.space.count d (λ s. flat K.ring i (first s)) t)
          (combination K.ring j e (λ s. flat K.ring i (second s)) t)
      vectors d e i t = flat_add K i _ (plane_sum K.ring j e second) t
          ∙ ap₂ K.add (ap (λ M. flat K.ring i M t) (times_sum K
          (row_of K.ring (root_power c o p.a j)) o.space.count d o.space.basis)
          ∙ sum_vector K i o.space.count d first t) (sum_vector K i j e second t)

      pub pole_vectors_into : (N : Plane K) → IsPolePlane c o p.a j W N → (i : ℕ)
          → InSpan K.ring (plus_ℕ o.space.count j) (λ t. flat K.ring i (pole_row t))
          (flat K.ring i N)
      pole_vectors_into N h i = go (o.space.spans h.part h.shape h.is_in)
        where
          go : (d : ℕ → K.carrier) × (h.part ≡ plane_sum K.ring o.space.count d o.space.basis)
              → InSpan K.ring (plus_ℕ o.space.count j) (λ t. flat K.ring i (pole_row t))
              (flat K.ring i N)
          go d = record {
            coefficients = joined o.space.count d.0 h.coefficients;
            sum = λ t. ap (λ M. flat K.ring i M t) (h.sum ∙ ap (λ M. (planes K).add
                ((planes K).mul (row_of K.ring (root_power c o p.a j)) M)
                (plane_sum K.ring j h.coefficients second)) d.1)
                ∙ vectors d.0 h.coefficients i t
                ∙ sym (sum-joined K.ring K.laws o.space.count j d.0 h.coefficients first second
                (λ a M. K.mul a (flat K.ring i M t)));
          }

      pub pole_vectors_back : (N : Plane K)
          → HasShape K.ring c.degree (pred (size K.ring (pole_modulus c o p.a j))) N
          → InSpan K.ring (plus_ℕ o.space.count j) (λ t. flat K.ring
          (pred (size K.ring (pole_modulus c o p.a j))) (pole_row t))
          (flat K.ring (pred (size K.ring (pole_modulus c o p.a j))) N)
          → IsPolePlane c o p.a j W N
      pole_vectors_back N s h = record {
        part = plane_sum K.ring o.space.count h.coefficients o.space.basis;
        shape = shape;
        is_in = sum_in K c.degree (pred (size K.ring o.modulus)) o.space o.space.count
            h.coefficients o.space.basis o.space.is_in;
        coefficients = e;
        sum = flat_one K n c.degree N _ s whole (λ t. h.sum t
            ∙ sum-split K.ring K.laws o.space.count j
            (λ i. K.mul (h.coefficients i) (flat K.ring n (pole_row i) t))
            ∙ ap₂ K.add (sum-ext K.ring K.laws o.space.count _ _ (λ i q.
            ap (λ M. K.mul (h.coefficients i) (flat K.ring n M t))
            (joined-below o.space.count first second i q)))
            (sum-ext K.ring K.laws j _ _ (λ i q.
            ap (λ M. K.mul (e i) (flat K.ring n M t))
            (joined-above o.space.count first second i)))
            ∙ sym (vectors h.coefficients e n t));
      }
        where
          e : ℕ → K.carrier
          e i = h.coefficients (plus_ℕ o.space.count i)

          shape : HasShape K.ring c.degree (pred (size K.ring o.modulus))
              (plane_sum K.ring o.space.count h.coefficients o.space.basis)
          shape = sum_has_shape K c.degree (pred (size K.ring o.modulus)) o.space.count
              h.coefficients o.space.basis o.space.shape

          whole : HasShape K.ring c.degree n ((planes K).add
              ((planes K).mul (row_of K.ring (root_power c o p.a j))
              (plane_sum K.ring o.space.count h.coefficients o.space.basis))
              (plane_sum K.ring j e second))
          whole = shape_plus K c.degree n _ _
              (times_shape K A AL c l o.modulus o.is_modulus (root_power c o p.a j)
              (root_modulus K A AL c l o p.a p.is_modulus j) o.space.In _ shape)
              (sum_has_shape K c.degree n j e second
              (λ i q. raised_short K A AL c l o p j W shapes i q))
