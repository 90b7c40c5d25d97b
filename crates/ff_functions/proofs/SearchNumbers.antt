-- The orders that a search finds dependent are the pole numbers, and a relation whose last
-- coefficient is 1 gives an element with a pole of that order at the point and no other, at a point
-- of either chart. For an equation f over a field whose laws are L.
use Rattle.std.proofs.Common.{◌≡◌, ℕ, suc, pred, ◌+◌, ◌-◌, ◌<◌, ◌≤◌, List, length}
use Rattle.std.proofs.Common.{sym, subst, arith}
use Rattle.ff_theory.specs.Ring.{RingOps, Elements, power}
use Rattle.ff_theory.specs.Lawful.{Lawful}
use Rattle.ff_theory.specs.Poly.{polynomials}
use Rattle.ff_theory.specs.Monomial.{variable}
use Rattle.ff_theory.specs.Values.{IsPlane}
use Rattle.ff_lin.specs.Space.{SpaceParts}
use Rattle.ff_elem.specs.Elem.{algebra_in}
use Rattle.ff_data.specs.declared.order.Chart.TheVariants.{Finite, Infinite}
use Rattle.ff_data.specs.declared.order.Order.{Order}
use Rattle.ff_data.specs.declared.point.Point.{Point}
use Rattle.ff_data.specs.Orders.{InOrder, IsOrder, IsMaximal}
use Rattle.ff_data.specs.Lattices.{IsLattice, InLatticeOf}
use Rattle.ff_data.specs.Poles.{HasPoleOf, IsPoleNumber}
use Rattle.ff_data.specs.Combinations.{combination_in}
use Rattle.ff_data.proofs.OrderLaws.{order-combination}
use Rattle.ff_data.proofs.NumeratorLemmas.{order_length}
use Rattle.ff_common.specs.Common.{IsTimesSpace}
use Rattle.ff_frac.specs.Places.{IsMaximalPlace, HasPoleOrder}
use Rattle.ff_functions.specs.declared.frame.Frame.{Frame}
use Rattle.ff_functions.specs.declared.search.Search.{Search}
use Rattle.ff_functions.specs.Rows.{IsImageBy}
use Rattle.ff_functions.specs.Images.{IsImageOf}
use Rattle.ff_functions.specs.Elements.{AreFrameElements}
use Rattle.ff_functions.specs.Searches.{IsDependentAt, HoldSearch}
use Rattle.ff_functions.proofs.ReachLemmas.{order_lattice}
use Rattle.ff_functions.proofs.PoleImages.{relation_order, order_dependent}
use Rattle.ff_functions.proofs.PoleNumbers.{combination_pole, rest_pole}
use Rattle.ff_functions.proofs.PlaceSearch.{HasSumIn, finite_number, infinite_number}
use Rattle.ff_functions.proofs.PowerElements.{element_at, power_pole, power_is_image, power_proper}

module _ (F : Elements ℕ) (L : Lawful F) (f : List (List ℕ)) (hf : IsPlane F f)
    (two : 1 < length f) (o : Order) (p : Point) (h : IsMaximalPlace L f o p) (other : Order)
    (mo : IsMaximal L f other) (s : Frame) (g : ℕ → (algebra_in L f).carrier) (H n m : ℕ)
    (t : SpaceParts) (first : ℕ → ℕ → F.carrier) (r : Search)
    (held : HoldSearch L f o p H (length s.numerators.items) n m t first r)
    (high : o.chart ≡ Infinite → pred (length o.d) + m ≤ H) where
  abbrev A : RingOps
  A = algebra_in L f

  abbrev c : ℕ
  c = length s.numerators.items

  abbrev u : ℕ → (algebra_in L f).carrier
  u = element_at F L f hf two o p h H c n m t first r held

  abbrev pub power_at : ℕ → (algebra_in L f).carrier
  power_at i = element_at F L f hf two o p h H (length s.numerators.items) n m t first r held
      (suc i)

  -- the sum of the elements of the frame and of the powers up to j + 1 by coefficients
  abbrev pub whole_sum : (ℕ → F.carrier) → ℕ → (algebra_in L f).carrier
  whole_sum d j = (algebra_in L f).add (combination_in L f (length s.numerators.items) d g)
      (combination_in L f (suc j) (λ i. d (length s.numerators.items + i)) power_at)

  poles : (j : ℕ) → j < m → (i : ℕ) → i < suc j → HasPoleOrder L f o p (suc i) (u (suc i))
  poles j q i l = power_pole F L f hf two o p h H c n m t first r held i (omega (arith, q, l))

  module _ (infinite : Order) (io : IsOrder L f infinite) (chart : infinite.chart ≡ Infinite)
      (positive : 0 < H) (room : pred (length infinite.d) ≤ H)
      (times : IsTimesSpace L f (power (polynomials F.ring) (variable F.ring)
      (H - pred (length infinite.d))) (pred (length infinite.d)) H infinite.space t)
      (given : (i : ℕ) → i < length s.numerators.items → IsImageOf L f H (g i) (first i)) where
    lattice : IsLattice L f Infinite infinite.d infinite.space
    lattice = order_lattice F L f hf two infinite io chart

    images_first : (i : ℕ) → i < c → IsImageOf L f H (g i) (held.images i)
    images_first i q = subst (IsImageOf L f H (g i)) (sym (held.before i q)) (given i q)

    images_powers : (j : ℕ) → j < m → (i : ℕ) → i < suc j
        → IsImageOf L f H (power_at i) (held.images (c + i))
    images_powers j q i l = power_is_image F L f hf two o p h H c n m t first r held i
        (omega (arith, q, l)) (order_length F L f hf two o h.maximal.order) high

    pub sum_inside : (j : ℕ) → j < m → (d : ℕ → F.carrier)
        → IsImageBy F t (length s.numerators.items + suc j) held.images d (λ i. F.zero)
        → InOrder L f infinite (whole_sum d j)
    sum_inside j q d k = subst (λ c. InLatticeOf L f c infinite.d infinite.space (whole_sum d j))
        (sym chart) (relation_order F L f hf two infinite.d infinite.space lattice H positive room t
        times c j g power_at held.images images_first (images_powers j q) d k)

    pub sum_dependent : (j : ℕ) → j < m → (b e : ℕ → F.carrier) → e j ≡ F.one
        → InOrder L f infinite ((algebra_in L f).add
        (combination_in L f (length s.numerators.items) b g)
        (combination_in L f (suc j) e power_at))
        → IsDependentAt F t (length s.numerators.items) held.images (suc j)
    sum_dependent j q b e one k = order_dependent F L f hf two infinite.d infinite.space lattice H
        positive room t times c j g power_at held.images images_first (images_powers j q) b e one
        (subst (λ x. InLatticeOf L f x infinite.d infinite.space (A.add (combination_in L f c b g)
        (combination_in L f (suc j) e power_at))) chart k)

  -- each pole number up to m is dependent, and each relation gives an element with its pole
  pub record DecideNumbers (value : (ℕ → F.carrier) → ℕ → (algebra_in L f).carrier) : Type 0 where
    pub spans : (j : ℕ) → j < m → IsPoleNumber L f o p other (suc j)
        → IsDependentAt F t (length s.numerators.items) held.images (suc j)
    pub pole : (j : ℕ) → j < m → (d : ℕ → F.carrier)
        → IsImageBy F t (length s.numerators.items + suc j) held.images d (λ i. F.zero)
        → d (length s.numerators.items + j) ≡ F.one
        → HasPoleOf L f o p other (suc j) (value d j)

  pub finite_decide : o.chart ≡ Finite → other.chart ≡ Infinite → (reach : ℕ)
      → pred (length other.d) ≤ reach → 0 < H → pred (length other.d) ≤ H
      → IsTimesSpace L f (power (polynomials F.ring) (variable F.ring)
      (H - pred (length other.d))) (pred (length other.d)) H other.space t
      → ((i : ℕ) → i < length s.numerators.items → IsImageOf L f H (g i) (first i))
      → AreFrameElements L f s o reach g → DecideNumbers whole_sum
  finite_decide finite chart reach far positive room times given frame = record {
    spans = λ j q number. let b : HasSumIn F L f hf two o p h other mo s g j u (poles j q) other
        = finite_number F L f hf two o p h other mo s g j u (poles j q) chart reach far frame
        (λ i l. power_proper F L f hf two o p h H c n m t first r held i (omega (arith, q, l))
        finite) number in
        sum_dependent other mo.order chart positive room times given j q b.first b.second b.last
        b.inside;
    pole = λ j q d k one. combination_pole F L f hf two o p h other mo j u (poles j q) c d
        (λ i. d (c + i)) g frame.inside one
        (sum_inside other mo.order chart positive room times given j q d k);
  }

  pub infinite_decide : o.chart ≡ Infinite → (reach : ℕ) → pred (length o.d) + m ≤ reach → 0 < H
      → IsTimesSpace L f (power (polynomials F.ring) (variable F.ring)
      (H - pred (length o.d))) (pred (length o.d)) H o.space t
      → ((i : ℕ) → i < length s.numerators.items → IsImageOf L f H (g i) (first i))
      → AreFrameElements L f s other reach g
      → DecideNumbers (λ d j. combination_in L f (length s.numerators.items) d g)
  infinite_decide chart reach far positive times given frame = let room : pred (length o.d) ≤ H
      = (let z = high chart in omega (arith, z)) in record {
        spans = λ j q number. let b : HasSumIn F L f hf two o p h other mo s g j u (poles j q) o
            = infinite_number F L f hf two o p h other mo s g j u (poles j q) chart reach
            (omega (arith, far, q)) frame number in
            sum_dependent o h.maximal.order chart positive room times given j q b.first b.second
            b.last
            b.inside;
        pole = λ j q d k one. rest_pole F L f hf two o p h other mo j u (poles j q) (λ i. d (c + i))
            (combination_in L f c d g) one
            (sum_inside o h.maximal.order chart positive room times given j q d k)
            (order-combination F L f hf two other mo.order c d g frame.inside);
      }
