-- The planes of the u^j * theta^i, and the rows of their p-th powers, each from one before it.
use Rattle.std.proofs.Common.{◌≡◌, ℕ, zero, suc, pred, ◌+◌ as plus_ℕ, ◌*◌ as times_ℕ, ◌-◌, ◌/◌, ◌%◌}
use Rattle.std.proofs.Common.{◌<◌, ◌≤◌, ◌⊎◌, inl, inr, List, length, refl, sym, ◌∙◌, ap, ap₂, subst}
use Rattle.std.proofs.Common.{arith}
use Rattle.std.proofs.lemmas.Bool.{cases_lt}
use Rattle.std.proofs.lemmas.Nat.{div-mul-add, mod-mul-add, mul-add-lt, mod_below, div-add-mod'}
use Rattle.ff_theory.specs.Ring.{RingOps, IsCommRing, Elements, power}
use Rattle.ff_theory.specs.Lawful.{Lawful, lawful_field, Field, Domain}
use Rattle.ff_theory.specs.Sum.{sum_below}
use Rattle.ff_theory.specs.Poly.{Poly, polynomials}
use Rattle.ff_theory.specs.Planes.{Plane}
use Rattle.ff_theory.specs.Map.{IsMap}
use Rattle.ff_theory.specs.Span.{unit_at, EndsAt}
use Rattle.ff_theory.specs.Values.{poly_of, plane_of, IsPoly, IsPlane}
use Rattle.ff_theory.proofs.Solver.{◌⊕◌, ◌⊗◌, nil, unit, ring1, ring2, ring3}
use Rattle.ff_theory.proofs.Sums.{sum-ext, sum-mul, sum-single}
use Rattle.ff_theory.proofs.Powers.{power-mul, power-one}
use Rattle.ff_theory.proofs.PolyMap.{polynomial_domain}
use Rattle.ff_theory.proofs.Span.{unit-same, unit-other}
use Rattle.ff_charts.specs.Chart.{Chart as ChartOf, at_u, at_theta, IsChart}
use Rattle.ff_charts.specs.Lattice.{HasShape, flat, IsResidue}
use Rattle.ff_charts.proofs.Chart.{at_u_map, powers_zero}
use Rattle.ff_charts.proofs.Rows.{polynomial_of, value_of_listed}
use Rattle.ff_charts.proofs.Flat.{flat_one, plane_with, plane_with_shape, plane_with_flat}
use Rattle.ff_conductor.proofs.Trace.{sum-blocks}
use Rattle.ff_conductor.proofs.Integral.{times-mono}
use Rattle.ff_elem.specs.Elem.{algebra_in}
use Rattle.ff_data.specs.declared.order.Chart.{Chart}
use Rattle.ff_data.specs.Orders.{chart_of, y_degree}
use Rattle.ff_order.specs.Steps.{row_len, HasResidueShape, IsResidueRow, KeepsRows, IsPowerRow}
use Rattle.ff_order.specs.Steps.{times_power}
use Rattle.ff_data.proofs.ChartLaws.{algebra_laws, chart_laws, chart_degree}
use Rattle.ff_order.proofs.FirstSpace.{row_len_is}
use Rattle.ff_order.proofs.Lengths.{len_is}

module _ (K : Field) (A : RingOps) (AL : IsCommRing A) (c : ChartOf K.ring A)
    (l : IsChart K.ring A c) (δ : ℕ) where
  infixl 60 ◌+◌
  infixl 70 ◌*◌
  open A use {add as ◌+◌, mul as ◌*◌, carrier as C}

  abbrev n : ℕ
  n = c.degree

  -- the plane of a vector is the sum of its entries times the u^j * theta^i
  monomials_sum : (k : ℕ → K.carrier) → sum_below A (times_ℕ c.degree δ)
      (λ s. A.mul (c.constant (k s)) (A.mul (power A c.u (s % δ)) (power A c.theta (s / δ))))
      ≡ at_theta c (plane_with K δ c.degree k)
  monomials_sum k = sum-blocks A AL n δ _ ∙ sum-ext A AL n _ _ (λ i q. block i q)
      ∙ sym (value_of_listed (polynomials K.ring) P.laws P.tests A AL (at_u c) U.on_zero c.theta n
      row)
    where
      P : Domain
      P = polynomial_domain K

      U : IsMap (polynomials K.ring) A (at_u c)
      U = at_u_map K A AL c l

      row : ℕ → Poly K.ring
      row i = polynomial_of K.ring K.laws K.tests δ (λ j. k (plus_ℕ (times_ℕ i δ) j))

      block : (i : ℕ) → i < n → sum_below A δ (λ j. c.constant (k (plus_ℕ (times_ℕ i δ) j)) *
          (power A c.u (plus_ℕ (times_ℕ i δ) j % δ) * power A c.theta
          (plus_ℕ (times_ℕ i δ) j / δ))) ≡ at_u c (row i) * power A c.theta i
      block i q = sum-ext A AL δ _ _
          (λ j t. ap₂ (λ a b. c.constant (k (plus_ℕ (times_ℕ i δ) j)) *
          (power A c.u a * power A c.theta b)) (mod-mul-add i δ j t) (div-mul-add i δ j t)
          ∙ ring3 A AL (λ k u t. k ⊗ (u ⊗ t)) (λ k u t. t ⊗ (k ⊗ u)) refl
          (c.constant (k (plus_ℕ (times_ℕ i δ) j))) (power A c.u j) (power A c.theta i))
          ∙ sum-mul A AL δ (power A c.theta i) _ ∙ AL.mul_comm _ _
          ∙ ap (λ t. t * power A c.theta i)
          (sym (value_of_listed K.ring K.laws K.tests A AL c.constant l.constants.on_zero c.u
          δ (λ j. k (plus_ℕ (times_ℕ i δ) j))))

  unit_ends : (s : ℕ) → s < times_ℕ c.degree δ
      → EndsAt K.ring (times_ℕ c.degree δ) (unit_at K.ring s)
  unit_ends s b k q = unit-other K.ring s k (λ e. absurd (omega (arith, e, b, q)))

  unit_value : (s : ℕ) → s < times_ℕ c.degree δ
      → at_theta c (plane_with K δ c.degree (unit_at K.ring s))
      ≡ A.mul (power A c.u (s % δ)) (power A c.theta (s / δ))
  unit_value s b = sym (monomials_sum (unit_at K.ring s))
      ∙ sum-single A AL (times_ℕ n δ) s (λ t. c.constant (unit_at K.ring s t)
      * (power A c.u (t % δ) * power A c.theta (t / δ))) b
      (λ t q e. ap (λ x. x * (power A c.u (t % δ) * power A c.theta (t / δ)))
      (ap c.constant (unit-other K.ring s t e) ∙ l.constants.on_zero)
      ∙ ring1 A AL (λ x. nil ⊗ x) (λ x. nil) refl
      (power A c.u (t % δ) * power A c.theta (t / δ)))
      ∙ ap (λ x. x * (power A c.u (s % δ) * power A c.theta (s / δ)))
      (ap c.constant (unit-same K.ring s) ∙ l.constants.on_one)
      ∙ ring1 A AL (λ x. unit ⊗ x) (λ x. x) refl
      (power A c.u (s % δ) * power A c.theta (s / δ))

  module _ (i j s : ℕ) (at : s ≡ plus_ℕ (times_ℕ i δ) j) (row : i < c.degree) (column : j < δ) where
    pub index_below : s < times_ℕ c.degree δ
    index_below = let h : plus_ℕ (times_ℕ i δ) j < times_ℕ δ n = mul-add-lt i δ j n row column in
        let e : times_ℕ δ n ≡ times_ℕ n δ = omega arith in omega (arith, h, e, at)

    pub unit_flat : (k : ℕ) → flat K.ring δ (plane_with K δ c.degree (unit_at K.ring s)) k
        ≡ unit_at K.ring s k
    unit_flat = plane_with_flat K δ n (unit_at K.ring s) (unit_ends s index_below)

    -- the plane with one entry is u^j * theta^i
    pub monomial_value : (N : Plane K) → HasShape K.ring c.degree δ N
        → ((k : ℕ) → flat K.ring δ N k ≡ unit_at K.ring s k)
        → at_theta c N ≡ A.mul (power A c.u j) (power A c.theta i)
    monomial_value N shape h = ap (at_theta c) (flat_one K δ n N
        (plane_with K δ n (unit_at K.ring s)) shape (plane_with_shape K δ n (unit_at K.ring s))
        (λ k. h k ∙ sym (unit_flat k))) ∙ unit_value s index_below
        ∙ ap₂ (λ a b. A.mul (power A c.u a) (power A c.theta b))
        (ap (λ s. s % δ) at ∙ mod-mul-add i δ j column)
        (ap (λ s. s / δ) at ∙ div-mul-add i δ j column)

-- a list that begins with i blocks of l
pub index_whole : (s l : ℕ) → plus_ℕ (times_ℕ (s / l) l) (s % l) ≡ s
index_whole s l = div-add-mod' s l

pub row_below : (s l n : ℕ) → s < times_ℕ n l → s / l < n
row_below s l n b = go (cases_lt (s / l) n)
  where
    go : (s / l < n) ⊎ (n ≤ s / l) → s / l < n
    go (inl q) = q
    go (inr q) = absurd (
        let m : times_ℕ l n ≤ times_ℕ l (s / l) = times-mono l n (s / l) q in
        let x : times_ℕ l n ≡ times_ℕ n l = omega arith in
        let y : times_ℕ l (s / l) ≡ times_ℕ (s / l) l = omega arith in
        let w = index_whole s l in omega (arith, m, x, y, w, b))

module _ (F : Elements ℕ) (L : Lawful F) (f : List (List ℕ)) (hf : IsPlane F f) (two : 1 < length f)
    (chart : Chart) (d top : List ℕ) where
  abbrev K : Field
  K = lawful_field L

  abbrev A : RingOps
  A = algebra_in L f

  abbrev AL : IsCommRing (algebra_in L f)
  AL = algebra_laws F L f hf two

  abbrev c : ChartOf F.ring (algebra_in L f)
  c = chart_of L f chart

  abbrev l : IsChart F.ring (algebra_in L f) (chart_of L f chart)
  l = chart_laws F L f hf two chart

  abbrev δ : ℕ
  δ = row_len L f chart d

  abbrev δ' : ℕ
  δ' = row_len L f chart top

  abbrev monomial : ℕ → ℕ → (algebra_in L f).carrier
  monomial j i = (algebra_in L f).mul (power (algebra_in L f) (chart_of L f chart).u j)
      (power (algebra_in L f) (chart_of L f chart).theta i)

  -- a plane of the shape is its own residue
  pub self_residue : (N : Plane (lawful_field L)) → HasResidueShape L f chart top N
      → IsResidue (chart_of L f chart) (poly_of F top) (at_theta (chart_of L f chart) N) N
  self_residue N shape = record {
    shape = shape;
    rest = A.zero;
    in_powers = powers_zero K A AL c l;
    sum = ring2 A AL (λ n m. n) (λ n m. n ⊕ m ⊗ nil) refl (at_theta c N) (at_u c (poly_of F top));
  }

  module _ (i j s : ℕ) (at : s ≡ plus_ℕ (times_ℕ i (row_len L f chart d)) j)
      (below : i < (chart_of L f chart).degree) (column : j < row_len L f chart d)
      (row : ℕ → F.carrier) where
    power_row_of : IsResidueRow L f chart top (power (algebra_in L f)
        (monomial j i) F.characteristic) row → IsPowerRow L f chart d top s row
    power_row_of r = (
      plane_with K δ c.degree (unit_at F.ring s),
      (
        plane_with_shape K δ c.degree (unit_at F.ring s),
        (
          unit_flat K A AL c l δ i j s at below column,
          subst (λ w. IsResidueRow L f chart top (power A w F.characteristic) row)
              (sym (monomial_value K A AL c l δ i j s at below column
              (plane_with K δ c.degree (unit_at F.ring s))
              (plane_with_shape K δ c.degree (unit_at F.ring s))
              (unit_flat K A AL c l δ i j s at below column))) r,
        ),
      ),
    )

    of_power_row : IsPowerRow L f chart d top s row → IsResidueRow L f chart top
        (power (algebra_in L f) (monomial j i) F.characteristic) row
    of_power_row x = subst (λ w. IsResidueRow L f chart top (power A w F.characteristic) row)
        (monomial_value K A AL c l δ i j s at below column x.0 x.1.0 x.1.1.0) x.1.1.1

  -- the p-th power of 1
  pub first_power : 0 < (chart_of L f chart).degree → 0 < row_len L f chart d
      → 0 < row_len L f chart top → (row : ℕ → F.carrier)
      → ((k : ℕ) → row k ≡ unit_at F.ring zero k) → IsPowerRow L f chart d top zero row
  first_power some long more row h = power_row_of zero zero zero (omega arith) some long row (
    R,
    (
      subst (λ w. IsResidue c (poly_of F top) w R)
          (value ∙ one ∙ sym (power-one A AL F.characteristic)
          ∙ ap (λ w. power A w F.characteristic) (sym one))
          (self_residue R (plane_with_shape K δ' c.degree (unit_at F.ring zero))),
      λ k. h k ∙ sym (unit_flat K A AL c l δ' zero zero zero (omega arith) some more k),
    ),
  )
    where
      R : Plane (lawful_field L)
      R = plane_with K δ' c.degree (unit_at F.ring zero)

      one : monomial zero zero ≡ (algebra_in L f).one
      one = AL.mul_one A.one

      value : at_theta (chart_of L f chart) R ≡ monomial zero zero
      value = monomial_value K A AL c l δ' zero zero zero (omega arith) some more R
          (plane_with_shape K δ' c.degree (unit_at F.ring zero))
          (unit_flat K A AL c l δ' zero zero zero (omega arith) some more)

  module _ (by : List (List ℕ)) (prev row : ℕ → F.carrier)
      (keeps : KeepsRows L f chart top prev row (times_power L f chart by F.characteristic)) where
    -- one power of u more
    pub next_in_row : at_theta (chart_of L f chart) (plane_of F by) ≡ (chart_of L f chart).u
        → (i j s t : ℕ) → t ≡ plus_ℕ (times_ℕ i (row_len L f chart d)) j
        → s ≡ plus_ℕ (times_ℕ i (row_len L f chart d)) (suc j) → i < (chart_of L f chart).degree
        → suc j < row_len L f chart d → IsPowerRow L f chart d top t prev
        → IsPowerRow L f chart d top s row
    next_in_row is i j s t et es below column x = power_row_of i (suc j) s es below column row
        (subst (λ w. IsResidueRow L f chart top w row)
        (ap (λ b. A.mul (power A (monomial j i) F.characteristic) (power A b F.characteristic)) is
        ∙ sym (power-mul A AL (monomial j i) c.u F.characteristic)
        ∙ ap (λ w. power A w F.characteristic) (ring3 A AL (λ a t u. (a ⊗ t) ⊗ u)
        (λ a t u. (u ⊗ a) ⊗ t) refl (power A c.u j) (power A c.theta i) c.u))
        (keeps (power A (monomial j i) F.characteristic)
        (of_power_row i j t et below (omega (arith, column)) prev x)))

    -- one power of theta more
    pub next_row : at_theta (chart_of L f chart) (plane_of F by) ≡ (chart_of L f chart).theta
        → (i s t : ℕ) → t ≡ plus_ℕ (times_ℕ i (row_len L f chart d)) zero
        → s ≡ plus_ℕ (times_ℕ (suc i) (row_len L f chart d)) zero
        → suc i < (chart_of L f chart).degree
        → 0 < row_len L f chart d → IsPowerRow L f chart d top t prev
        → IsPowerRow L f chart d top s row
    next_row is i s t et es below long x = power_row_of (suc i) zero s es below long row
        (subst (λ w. IsResidueRow L f chart top w row)
        (ap (λ b. A.mul (power A (monomial zero i) F.characteristic) (power A b F.characteristic))
        is
        ∙ sym (power-mul A AL (monomial zero i) c.theta F.characteristic)
        ∙ ap (λ w. power A w F.characteristic) (ring2 A AL (λ t u. (unit ⊗ t) ⊗ u)
        (λ t u. unit ⊗ (u ⊗ t)) refl (power A c.theta i) c.theta))
        (keeps (power A (monomial zero i) F.characteristic)
        (of_power_row i zero t et (omega (arith, below)) long prev x)))

  -- the row that follows s others
  module _ (hd : IsPoly F d) (e : List ℕ) (se : e ≡ d) (s : ℕ)
      (b : s < times_ℕ (y_degree L f) (pred (length d))) where
    len : length e - 1 ≡ row_len L f chart d
    len = len_is F L f hf two chart d e se hd

    in_all : s < times_ℕ (chart_of L f chart).degree (length e - 1)
    in_all = let h : times_ℕ (chart_of L f chart).degree (length e - 1)
        ≡ times_ℕ (y_degree L f) (pred (length d)) = ap₂ times_ℕ (chart_degree F L f hf two chart)
        (len ∙ row_len_is F L f hf two chart d hd) in omega (arith, h, b)

    pub long : 0 < length e - 1
    long = go (cases_lt 0 (length e - 1))
      where
        go : (0 < length e - 1) ⊎ (length e - 1 ≤ 0) → 0 < length e - 1
        go (inl q) = q
        go (inr z) = absurd (
            let m : times_ℕ (chart_of L f chart).degree (length e - 1)
            ≤ times_ℕ (chart_of L f chart).degree 0 =
            times-mono (chart_of L f chart).degree (length e - 1) 0 z in
            let w : times_ℕ (chart_of L f chart).degree 0 ≡ 0 = omega arith in
            omega (arith, m, w, in_all))

    pub row_long : 0 < row_len L f chart d
    row_long = subst (λ l. 0 < l) len long

    pub some : 0 < (chart_of L f chart).degree
    some = let h : s / (length e - 1) < (chart_of L f chart).degree = row_below s (length e - 1)
        (chart_of L f chart).degree in_all in omega (arith, h)

    -- s begins a block
    record Block (l : ℕ) : Type 0 where
      at : ℕ
      is : s ≡ plus_ℕ (times_ℕ (suc at) l) zero
      before : s - l ≡ plus_ℕ (times_ℕ at l) zero
      within : suc at ≡ s / l

    block : (l : ℕ) → s % l ≡ 0 → 0 < s → Block l
    block l z p = go (s / l) refl
      where
        go : (i : ℕ) → i ≡ s / l → Block l
        go zero h = absurd (let w = index_whole s l in
            let x : times_ℕ (s / l) l ≡ times_ℕ 0 l = ap (λ i. times_ℕ i l) (sym h) in
            let y : times_ℕ 0 l ≡ 0 = omega arith in omega (arith, w, x, y, z, p))
        go (suc i) h = let w = index_whole s l in
            let x : times_ℕ (s / l) l ≡ times_ℕ (suc i) l = ap (λ i. times_ℕ i l) (sym h) in
            let y : times_ℕ (suc i) l ≡ plus_ℕ (times_ℕ i l) l = omega arith in
            record {
              at = i;
              is = omega (arith, w, x, z);
              before = omega (arith, w, x, y, z);
              within = h;
            }

    pub block_begins : s % (length e - 1) ≡ 0 → 0 < s → length e - 1 ≤ s
    block_begins z p = let k = block (length e - 1) z p in
        let x = k.is in
        let y : times_ℕ (suc k.at) (length e - 1) ≡ plus_ℕ (times_ℕ k.at (length e - 1))
        (length e - 1) = omega arith in omega (arith, x, y)

    pub after_row : (by : List (List ℕ)) (prev row : ℕ → F.carrier)
        → KeepsRows L f chart top prev row (times_power L f chart by F.characteristic)
        → at_theta (chart_of L f chart) (plane_of F by) ≡ (chart_of L f chart).u
        → ¬ (s % (length e - 1) ≡ 0) → IsPowerRow L f chart d top (s - 1) prev
        → IsPowerRow L f chart d top s row
    after_row by prev row keeps is z x =
        let l = length e - 1 in
        let i = s / l in
        let j = pred (s % l) in
        let w : plus_ℕ (times_ℕ i l) (s % l) ≡ s = index_whole s l in
        let p : 0 < s % l = omega (arith, z) in
        let q : s % l < l = mod_below s l long in
        next_in_row by prev row keeps is i j s (s - 1)
        (subst (λ l. s - 1 ≡ plus_ℕ (times_ℕ i l) j) len (omega (arith, w, p)))
        (subst (λ l. s ≡ plus_ℕ (times_ℕ i l) (suc j)) len (omega (arith, w, p)))
        (row_below s l (chart_of L f chart).degree in_all)
        (subst (λ l. suc j < l) len (omega (arith, q, p))) x

    pub after_block : (by : List (List ℕ)) (prev row : ℕ → F.carrier)
        → KeepsRows L f chart top prev row (times_power L f chart by F.characteristic)
        → at_theta (chart_of L f chart) (plane_of F by) ≡ (chart_of L f chart).theta
        → s % (length e - 1) ≡ 0 → 0 < s → IsPowerRow L f chart d top (s - (length e - 1)) prev
        → IsPowerRow L f chart d top s row
    after_block by prev row keeps is z p x = next_row by prev row keeps is k.at s
        (s - (length e - 1))
        (subst (λ l. s - (length e - 1) ≡ plus_ℕ (times_ℕ k.at l) zero) len k.before)
        (subst (λ l. s ≡ plus_ℕ (times_ℕ (suc k.at) l) zero) len k.is)
        (subst (λ i. i < (chart_of L f chart).degree) (sym k.within)
        (row_below s (length e - 1) (chart_of L f chart).degree in_all)) row_long x
      where
        k : Block (length e - 1)
        k = block (length e - 1) z p
