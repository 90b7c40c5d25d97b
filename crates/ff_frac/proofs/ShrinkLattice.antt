-- The lattice of a modulus by * m and of the products with `by` of planes is that of m and of the
-- planes: an order over a smaller denominator.
use Rattle.std.proofs.Common.{◌≡◌, ℕ, suc, pred, ◌+◌, ◌<◌, ◌≤◌, ◌⊎◌, inl, inr, ◌↔◌, List, []}
use Rattle.std.proofs.Common.{length, get_or, refl, sym, ◌∙◌, ap, subst, arith}
use Rattle.std.proofs.lemmas.Bool.{cases_lt}
use Rattle.std.proofs.lemmas.List.{length-map}
use Rattle.std.specs.Global.{Vec}
use Rattle.ff_theory.specs.Ring.{RingOps, IsCommRing, Elements}
use Rattle.ff_theory.specs.Lawful.{Domain, Lawful, lawful_field}
use Rattle.ff_theory.specs.Divides.{Divides}
use Rattle.ff_theory.specs.Poly.{polynomials}
use Rattle.ff_theory.specs.Division.{size}
use Rattle.ff_theory.specs.Planes.{planes as planes_ring, Plane, row_of}
use Rattle.ff_theory.specs.Span.{SameSpan}
use Rattle.ff_theory.specs.Values.{poly_of, plane_of, IsPoly, IsPlane}
use Rattle.ff_theory.specs.Vector.{vectors_of}
use Rattle.ff_theory.proofs.Divides.{divides_trans}
use Rattle.ff_theory.proofs.Division.{size-mul}
use Rattle.ff_theory.proofs.PolyMap.{polynomial_domain, nonzero_size}
use Rattle.ff_theory.proofs.Span.{span-one}
use Rattle.ff_charts.specs.Chart.{Chart as ChartOf, IsChart}
use Rattle.ff_charts.specs.Lattice.{HasShape, InLattice, IsTimes, flat}
use Rattle.ff_charts.proofs.Lattice.{lat_above, rescale_into, rescale_back}
use Rattle.ff_lin.specs.Space.{SpaceParts, rows_of}
use Rattle.ff_poly.proofs.LongDivision.{poly-size}
use Rattle.ff_elem.specs.Elem.{algebra_in}
use Rattle.ff_data.specs.declared.order.Order.{Order}
use Rattle.ff_data.specs.Orders.{chart_of, y_degree, IsOrder, InOrder, InResidues}
use Rattle.ff_data.specs.Lattices.{InLatticeOf}
use Rattle.ff_data.proofs.ChartLaws.{algebra_laws, chart_laws, chart_degree}
use Rattle.ff_data.proofs.LocalOrder.{order_rows}
use Rattle.ff_common.proofs.TimesSpaces.{times_exact, times_shape}
use Rattle.ff_frac.specs.Places.{IsOrderLattice}
use Rattle.ff_frac.specs.Shrinking.{DividesPlanes, AreBasisPlanes, HaveMultiples}
use Rattle.ff_frac.specs.Shrinking.{IsQuotientSpace}
use Rattle.ff_frac.proofs.NumeratorLemmas.{same_lattice}

module _ (F : Elements ℕ) (L : Lawful F) (f : List (List ℕ)) (hf : IsPlane F f)
    (two : 1 < length f) (o : Order) (h : IsOrder L f o) (by m : List ℕ) (hb : IsPoly F by)
    (hm : IsPoly F m) (by_modulus : (chart_of L f o.chart).IsModulus (poly_of F by))
    (modulus : (chart_of L f o.chart).IsModulus (poly_of F m))
    (product : poly_of F o.d ≡ (polynomials F.ring).mul (poly_of F by) (poly_of F m))
    (planes : List (List (List ℕ))) (basis : AreBasisPlanes F (y_degree L f) (pred (length o.d))
    o.space.basis planes) where
  abbrev A : RingOps
  A = algebra_in L f

  AL : IsCommRing (algebra_in L f)
  AL = algebra_laws F L f hf two

  abbrev c : ChartOf F.ring (algebra_in L f)
  c = chart_of L f o.chart

  l : IsChart F.ring (algebra_in L f) (chart_of L f o.chart)
  l = chart_laws F L f hf two o.chart

  degree : y_degree L f ≡ c.degree
  degree = sym (chart_degree F L f hf two o.chart)

  by_size : size F.ring (poly_of F by) ≡ length by
  by_size = poly-size F.ring L.laws L.tests F.value by hb.canonical

  lengths : pred (length o.d) ≡ pred (length by) + pred (length m)
  lengths = let s : size F.ring (poly_of F o.d) ≡ length o.d =
      poly-size F.ring L.laws L.tests F.value o.d h.d.canonical in
      let t : size F.ring (poly_of F m) ≡ length m =
      poly-size F.ring L.laws L.tests F.value m hm.canonical in
      let b = nonzero_size (lawful_field L) (poly_of F by)
      (l.modulus_nonzero (poly_of F by) by_modulus) in
      let n = nonzero_size (lawful_field L) (poly_of F m)
      (l.modulus_nonzero (poly_of F m) modulus) in
      let u : size F.ring ((polynomials F.ring).mul (poly_of F by) (poly_of F m)) ≡ suc (b.0 + n.0)
      = size-mul (lawful_field L)
      (poly_of F by) (poly_of F m) b.0 n.0 b.1 n.1 in
      let v = ap (size F.ring) product in let w = by_size in
      let x = b.1 in let y = n.1 in omega (arith, s, t, u, v, w, x, y)

  by_positive : 0 < length by
  by_positive = let b = nonzero_size (lawful_field L) (poly_of F by)
      (l.modulus_nonzero (poly_of F by) by_modulus) in let w = by_size in
      let x = b.1 in omega (arith, w, x)

  -- a divisor of a divisor of all rows divides them
  pub have_multiples : (common : List ℕ)
      → Divides (polynomials F.ring) (poly_of F by) (poly_of F common)
      → DividesPlanes F (poly_of F common) planes → HaveMultiples F (y_degree L f) by m planes
  have_multiples common d k i q = record {
    divides = λ t r. divides_trans D.ring D.laws (poly_of F by) (poly_of F common) _ d (k i q t r);
    shape = subst (λ n. HasShape F.ring (y_degree L f) n (plane_of F (get_or planes i []))) lengths
        (basis.value i (let e = basis.count in omega (arith, q, e))).shape;
  }
    where
      D : Domain
      D = polynomial_domain (lawful_field L)

  module _ (space : SpaceParts)
      (quotients : IsQuotientSpace F (y_degree L f) by m planes space) where
    -- the new rows as the parts of a space
    abbrev parts : SpaceParts
    parts = record { len = o.space.len; basis = rows_of quotients.rows; pivots = [] }

    abbrev sm : ℕ
    sm = pred (length m)

    abbrev sd : ℕ
    sd = pred (length o.d)

    count : length (rows_of quotients.rows) ≡ length planes
    count = length-map quotients.rows (λ (r : Vec ℕ). r.items) ∙ quotients.len

    pick : (i : ℕ) → (i < length planes) ⊎ (length planes ≤ i) → Plane (lawful_field L)
    pick i (inl q) = (quotients.value i q).part
    pick i (inr q) = (planes_ring (lawful_field L)).zero

    known : (i : ℕ) → i < length planes → (b : (i < length planes) ⊎ (length planes ≤ i))
        → HasShape F.ring c.degree sm (pick i b)
        × (((j : ℕ) → flat F.ring sm (pick i b) j ≡ vectors_of F (rows_of quotients.rows) i j)
        × ((j : ℕ) → vectors_of F o.space.basis i j ≡ flat F.ring sd
        ((planes_ring (lawful_field L)).mul (row_of F.ring (poly_of F by)) (pick i b)) j))
    unfolding pick
    known i l (inl q) = (
      subst (λ n. HasShape F.ring n sm (quotients.value i q).part) degree
          (quotients.value i q).shape,
      (
        λ j. sym ((quotients.value i q).vector j),
        λ j. sym ((basis.value i (let e = basis.count in omega (arith, q, e))).value j)
            ∙ ap (λ N. flat F.ring sd N j) (quotients.value i q).product,
      ),
    )
    known i l (inr q) = absurd (omega (arith, l, q))

    abbrev part : ℕ → Plane (lawful_field L)
    part i = pick i (cases_lt i (length planes))

    facts : (i : ℕ) → i < length (rows_of quotients.rows)
        → HasShape F.ring c.degree sm (part i)
        × (((j : ℕ) → flat F.ring sm (part i) j ≡ vectors_of F (rows_of quotients.rows) i j)
        × ((j : ℕ) → vectors_of F o.space.basis i j ≡ flat F.ring sd
        ((planes_ring (lawful_field L)).mul (row_of F.ring (poly_of F by)) (part i)) j))
    facts i q = known i (let e = count in omega (arith, q, e)) (cases_lt i (length planes))

    own : SameSpan F.ring (length o.space.basis) (vectors_of F o.space.basis)
        (length (rows_of quotients.rows)) (vectors_of F o.space.basis)
    own = subst (λ n. SameSpan F.ring (length o.space.basis) (vectors_of F o.space.basis) n
        (vectors_of F o.space.basis)) (sym (count ∙ basis.count)) (record {
          into = span-one F.ring L.laws (length o.space.basis) (vectors_of F o.space.basis);
          back = span-one F.ring L.laws (length o.space.basis) (vectors_of F o.space.basis);
        })

    abbrev Old : Plane (lawful_field L) → Type 0
    Old = InResidues F (pred (length o.d)) o.space

    abbrev New : Plane (lawful_field L) → Type 0
    New = InResidues F (pred (length m)) parts

    exact : (N : Plane (lawful_field L)) → HasShape F.ring c.degree (pred (length o.d)) N
        → Old N ↔ IsTimes F.ring c.degree (pred (length m)) (poly_of F by) New N
    exact = times_exact F L c.degree sm sd (poly_of F by)
        (times_shape (lawful_field L) c.degree sm sd (poly_of F by)
        (let e = lengths in let s = by_size in let b = by_positive in omega (arith, e, s, b)))
        parts o.space (vectors_of F o.space.basis) part (λ i q. (facts i q).0)
        (λ i q. (facts i q).1.0) (λ i q. (facts i q).1.1) own

    short_is : pred (length m) ≡ pred (size F.ring (poly_of F m))
    short_is = ap pred (sym (poly-size F.ring L.laws L.tests F.value m hm.canonical))

    abbrev Times : Plane (lawful_field L) → Type 0
    Times = IsTimes F.ring (chart_of L f o.chart).degree (pred (size F.ring (poly_of F m)))
        (poly_of F by) New

    same : (N : Plane (lawful_field L)) → HasShape F.ring c.degree
        (pred (size F.ring (poly_of F o.d))) N → Old N ↔ Times N
    same N s = (
      λ k. subst (λ t. IsTimes F.ring c.degree t (poly_of F by) New N) short_is
          ((exact N shape).0 k),
      λ k. (exact N shape).1 (subst (λ t. IsTimes F.ring c.degree t (poly_of F by) New N)
          (sym short_is) k),
    )
      where
        shape : HasShape F.ring c.degree (pred (length o.d)) N
        shape = subst (λ t. HasShape F.ring c.degree t N) (sym (order_rows F L f hf two o h)) s

    into : (w : A.carrier) → InOrder L f o w → InLattice c (poly_of F m) New w
    into w k = rescale_back (lawful_field L) A AL c l (poly_of F m) modulus (poly_of F by)
        by_modulus New w (subst (λ t. InLattice c t Times w) product
        (lat_above (lawful_field L) A AL c l (poly_of F o.d) h.modulus Old Times
        (λ N s. (same N s).0) w k))

    back : (w : A.carrier) → InLattice c (poly_of F m) New w → InOrder L f o w
    back w k = lat_above (lawful_field L) A AL c l (poly_of F o.d) h.modulus Times Old
        (λ N s. (same N s).1) w (subst (λ t. InLattice c t Times w) (sym product)
        (rescale_into (lawful_field L) A AL c l (poly_of F m) modulus (poly_of F by) by_modulus
        New w k))

    -- the order over the smaller denominator
    pub smaller_order : IsOrderLattice L f o m space
    smaller_order w = (λ q. back w (lattice.0 q), λ q. lattice.1 (into w q))
      where
        lattice : InLatticeOf L f o.chart m space w ↔ InLattice c (poly_of F m) New w
        lattice = same_lattice F L f o.chart m m (rows_of quotients.rows) space refl
            quotients.same w
