-- The image of a power is that of its element, for an equation f over a field whose laws are L.
use Rattle.std.proofs.Common.{◌≡◌, ℕ, suc, pred, ◌+◌ as plus_ℕ, ◌-◌, ◌<◌, ◌≤◌, List, length}
use Rattle.std.proofs.Common.{refl, sym, ◌∙◌, ap, subst, arith}
use Rattle.ff_theory.specs.Ring.{RingOps, IsCommRing, Elements, power}
use Rattle.ff_theory.specs.Lawful.{Domain, Field, Lawful, lawful_field}
use Rattle.ff_theory.specs.Map.{IsMap}
use Rattle.ff_theory.specs.Poly.{Poly, polynomials}
use Rattle.ff_theory.specs.Division.{size}
use Rattle.ff_theory.specs.Monomial.{variable}
use Rattle.ff_theory.specs.Planes.{planes, Plane, row_of}
use Rattle.ff_theory.specs.Values.{poly_of, plane_of, IsPoly, IsPlane}
use Rattle.ff_theory.proofs.Solver.{◌⊕◌, ◌⊗◌, nil, ring2}
use Rattle.ff_theory.proofs.PolyMap.{polynomial_domain}
use Rattle.ff_theory.proofs.Powers.{power-add}
use Rattle.ff_charts.specs.Chart.{Chart as ChartOf, at_u, at_theta, IsChart}
use Rattle.ff_charts.specs.Lattice.{HasShape, flat}
use Rattle.ff_charts.proofs.Chart.{at_u_map, row_times, powers_zero}
use Rattle.ff_charts.proofs.Flat.{flat_one}
use Rattle.ff_charts.proofs.Lattice.{times_shape}
use Rattle.ff_quotients.proofs.QuotientResidues.{variable_power_size}
use Rattle.ff_poly.proofs.LongDivision.{poly-size}
use Rattle.ff_elem.specs.Elem.{algebra_in}
use Rattle.ff_data.specs.declared.order.Chart.{Chart}
use Rattle.ff_data.specs.declared.order.Chart.TheVariants.{Finite, Infinite}
use Rattle.ff_data.specs.declared.order.Order.{Order}
use Rattle.ff_data.specs.declared.point.Point.{Point}
use Rattle.ff_data.specs.Orders.{chart_of, y_degree}
use Rattle.ff_data.proofs.ChartLaws.{algebra_laws, chart_laws, chart_degree}
use Rattle.ff_common.specs.Common.{IsImage, IsOver, IsTimesVector}
use Rattle.ff_frac.specs.Places.{IsOverModulus}
use Rattle.ff_frac.specs.Powers.{IsFraction}
use Rattle.ff_functions.specs.Images.{IsImageOf}
use Rattle.ff_functions.specs.Searches.{IsPowerImage}
use Rattle.ff_functions.proofs.ElementImages.{image_element}

module _ (F : Elements ℕ) (L : Lawful F) (f : List (List ℕ)) (hf : IsPlane F f)
    (two : 1 < length f) where
  abbrev K : Field
  K = lawful_field L

  abbrev D : Domain
  D = polynomial_domain (lawful_field L)

  abbrev A : RingOps
  A = algebra_in L f

  AL : IsCommRing (algebra_in L f)
  AL = algebra_laws F L f hf two

  abbrev B : ChartOf F.ring (algebra_in L f)
  B = chart_of L f Infinite

  BL : IsChart F.ring (algebra_in L f) (chart_of L f Infinite)
  BL = chart_laws F L f hf two Infinite

  U : IsMap (polynomials F.ring) (algebra_in L f) (at_u (chart_of L f Infinite))
  U = at_u_map K A AL B BL

  abbrev X_to : ℕ → Poly F.ring
  X_to m = power (polynomials F.ring) (variable F.ring) m

  -- a modulus of the infinite chart
  modulus_is : (d : List ℕ) → IsPoly F d → (chart_of L f Infinite).IsModulus (poly_of F d)
      → poly_of F d ≡ X_to (pred (length d))
  modulus_is d poly m = m.1 ∙ ap X_to (sym
      (let s : size F.ring (poly_of F d) ≡ length d = poly-size F.ring L.laws L.tests F.value d
      poly.canonical in
      let v = ap (size F.ring) m.1 in
      let z : size F.ring (X_to m.0) ≡ suc m.0 = variable_power_size K m.0 in
      let r : pred (length d) ≡ m.0 = omega (arith, s, v, z) in r))

  -- at the finite chart
  finite_image : (d : List ℕ) (N : List (List ℕ)) (h : ℕ) (v : ℕ → F.carrier)
      (w : (algebra_in L f).carrier)
      → HasShape F.ring (y_degree L f) (pred (length d)) (plane_of F N)
      → IsOver L f d (plane_of F N) w
      → IsImage L f d (pred (length d)) h (flat F.ring (pred (length d)) (plane_of F N)) v
      → IsImageOf L f h w v
  finite_image d N h v w shape over image = image_element F L f hf two d (pred (length d)) h
      (flat F.ring (pred (length d)) (plane_of F N)) v w image (
        plane_of F N,
        (
          subst (λ n. HasShape F.ring n (pred (length d)) (plane_of F N))
              (sym (chart_degree F L f hf two Finite)) shape,
          ((λ j. refl), over),
        ),
      )

  -- at the infinite chart
  infinite_image : (l h : ℕ) → l ≤ h → (N : Plane (lawful_field L)) (v : ℕ → F.carrier)
      (w : (algebra_in L f).carrier) → HasShape F.ring (chart_of L f Infinite).degree l N
      → A.mul (at_u (chart_of L f Infinite) (X_to l)) w ≡ at_theta (chart_of L f Infinite) N
      → ((j : ℕ) → v j ≡ flat F.ring h ((planes (lawful_field L)).mul
      (row_of F.ring (X_to (h - l))) N) j) → IsImageOf L f h w v
  infinite_image l h q N v w shape over image = record {
    residue = (planes (lawful_field L)).mul (row_of F.ring (X_to (h - l))) N;
    is_residue = record {
      shape = subst (λ m. HasShape F.ring B.degree (pred (size F.ring m))
          ((planes (lawful_field L)).mul (row_of F.ring (X_to (h - l))) N)) whole
          (times_shape K A AL B BL (X_to l) (l, refl) (X_to (h - l)) (h - l, refl) (λ N. Unit {0})
          N (subst (λ n. HasShape F.ring B.degree n N) (sym length_is) shape));
      rest = A.zero;
      in_powers = powers_zero K A AL B BL;
      sum = ap (λ t. A.mul (at_u B t) w) (sym whole)
          ∙ ap (λ t. A.mul t w) (U.on_mul (X_to (h - l)) (X_to l))
          ∙ AL.mul_assoc _ _ _ ∙ ap (A.mul (at_u B (X_to (h - l)))) over
          ∙ sym (row_times K A AL B BL (X_to (h - l)) N)
          ∙ ring2 A AL (λ a b. a) (λ a b. a ⊕ b ⊗ nil) refl _ (at_u B (X_to h));
    };
    image_is = image;
  }
    where
      whole : D.mul (X_to (h - l)) (X_to l) ≡ X_to h
      whole = sym (power-add D.ring D.laws (variable F.ring) (h - l) l)
          ∙ (let e : plus_ℕ (h - l) l ≡ h = omega (arith, q) in ap X_to e)

      length_is : pred (size F.ring (X_to l)) ≡ l
      length_is = let z : size F.ring (X_to l) ≡ suc l = variable_power_size K l in
          let p : pred (size F.ring (X_to l)) ≡ l = omega (arith, z) in p

  -- the image of a power
  pub power_image : (o : Order) (p : Point) (h i : ℕ) (N : List (List ℕ)) (v : ℕ → F.carrier)
      (k : IsPowerImage L f o p h i N v)
      → (o.chart ≡ Infinite → pred (length k.powers.modulus) ≤ h)
      → (w : (algebra_in L f).carrier)
      → IsOverModulus L f o (poly_of F k.powers.modulus) k.powers.power w → IsImageOf L f h w v
  power_image o p h i N v k room w over = go o.chart refl
    where
      fraction : IsFraction L f o k.powers.modulus k.powers.power
      fraction = k.form.power

      go : (c : Chart) → o.chart ≡ c → IsImageOf L f h w v
      go Finite e = finite_image k.powers.modulus k.powers.power h v w fraction.shape
          (subst (λ c. A.mul (at_u (chart_of L f c) (poly_of F k.powers.modulus)) w
          ≡ at_theta (chart_of L f c) (plane_of F k.powers.power)) e over)
          (subst (λ N. IsImage L f k.powers.modulus (pred (length k.powers.modulus)) h
          (flat F.ring (pred (length k.powers.modulus)) (plane_of F N)) v) (sym k.numerator)
          (k.finite e))
      go Infinite e = infinite_image l h (room e) t.0 v w (subst (λ n. HasShape F.ring n l t.0)
          (degree Finite ∙ sym (degree Infinite)) t.1.0)
          (ap (λ m. A.mul (at_u B m) w) (sym modulus)
          ∙ subst (λ c. A.mul (at_u (chart_of L f c) (poly_of F k.powers.modulus)) w
          ≡ at_theta (chart_of L f c) (plane_of F k.powers.power)) e over
          ∙ ap (λ N. at_theta B (plane_of F N)) k.numerator ∙ ap (at_theta B) (sym same))
          t.1.1.1
        where
          l : ℕ
          l = pred (length k.powers.modulus)

          degree : (c : Chart) → (chart_of L f c).degree ≡ y_degree L f
          degree = chart_degree F L f hf two

          t : IsTimesVector L f (power (polynomials F.ring) (variable F.ring)
              (h - pred (length k.powers.modulus))) (pred (length k.powers.modulus)) h
              (flat F.ring (pred (length k.powers.modulus)) (plane_of F N)) v
          t = k.infinite e

          modulus : poly_of F k.powers.modulus ≡ X_to (pred (length k.powers.modulus))
          modulus = modulus_is k.powers.modulus fraction.poly
              (subst (λ c. (chart_of L f c).IsModulus (poly_of F k.powers.modulus)) e
              fraction.modulus)

          same : t.0 ≡ plane_of F N
          same = flat_one K l (y_degree L f) t.0 (plane_of F N)
              (subst (λ n. HasShape F.ring n l t.0) (degree Finite) t.1.0)
              (subst (λ N. HasShape F.ring (y_degree L f) l (plane_of F N)) k.numerator
              fraction.shape) t.1.1.0
