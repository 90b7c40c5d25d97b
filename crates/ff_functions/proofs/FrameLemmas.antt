-- The elements of the numerators of a frame: those of multiples of the denominator, and those of
-- basis vectors. For an equation f over a field whose laws are L.
use Rattle.std.proofs.Common.{◌≡◌, ℕ, zero, suc, ◌+◌ as plus_ℕ, ◌*◌ as times_ℕ, ◌/◌, ◌%◌}
use Rattle.std.proofs.Common.{◌<◌, ◌≤◌, ◌⊎◌, inl, inr, List, [], ◌∷◌, map, length, refl, sym, ◌∙◌}
use Rattle.std.proofs.Common.{ap, ap₂, subst, arith}
use Rattle.std.proofs.lemmas.Bool.{cases_lt}
use Rattle.std.proofs.lemmas.Nat.{mod_below, div-add-mod'}
use Rattle.std.proofs.lemmas.List.{length-map}
use Rattle.std.proofs.Math.Nat.{mul-le-mul_right}
use Rattle.ff_theory.specs.Ring.{RingOps, IsCommRing, Elements, power}
use Rattle.ff_theory.specs.Lawful.{Domain, Field, Lawful, lawful_field}
use Rattle.ff_theory.specs.Map.{IsMap}
use Rattle.ff_theory.specs.Poly.{coeff, Poly, poly, polynomials, list_scale}
use Rattle.ff_theory.specs.Division.{size}
use Rattle.ff_theory.specs.Eval.{eval_list, eval}
use Rattle.ff_theory.specs.Monomial.{raised, monomial}
use Rattle.ff_theory.specs.Planes.{Plane}
use Rattle.ff_theory.specs.Values.{poly_of, IsPoly, IsPlane}
use Rattle.ff_theory.specs.Vector.{vector_of}
use Rattle.ff_theory.proofs.Solver.{◌⊕◌, ◌⊗◌, nil, unit, ring1, ring2, ring3}
use Rattle.ff_theory.proofs.Poly.{trim-coeff, scale-coeff}
use Rattle.ff_theory.proofs.Division.{size_le, zero_from, add_at}
use Rattle.ff_theory.proofs.PolyMap.{polynomial_domain, zero_size}
use Rattle.ff_theory.proofs.Monomial.{raised-below, raised-at, raised-past, monomial-mul}
use Rattle.ff_theory.proofs.Evaluate.{at_trim}
use Rattle.ff_charts.specs.Chart.{Chart as ChartOf, at_u, IsChart}
use Rattle.ff_charts.specs.Lattice.{HasShape, flat}
use Rattle.ff_charts.proofs.Chart.{at_u_map}
use Rattle.ff_fibre.proofs.PowerPlanes.{monomial_shape, monomial_theta}
use Rattle.ff_elem.specs.Elem.{algebra_in}
use Rattle.ff_data.specs.declared.order.Chart.TheVariants.{Finite}
use Rattle.ff_data.specs.Orders.{chart_of, y_degree}
use Rattle.ff_data.proofs.ChartLaws.{algebra_laws, chart_laws, chart_degree}
use Rattle.ff_common.specs.Common.{IsOver, HasVectorOver}
use Rattle.ff_functions.specs.Elements.{IsMultiple}

-- entries of lists with zeros before them
pub raised_more : (R : RingOps) (m n : ℕ) (p : List R.carrier) (i : ℕ)
    → coeff R (raised R (plus_ℕ m n) p) (plus_ℕ m i) ≡ coeff R (raised R n p) i
raised_more R zero n p i = let a : plus_ℕ zero n ≡ n = omega arith in
    let b : plus_ℕ zero i ≡ i = omega arith in
    ap₂ (λ n i. coeff R (raised R n p) i) a b
raised_more R (suc m) n p i = let a : plus_ℕ (suc m) n ≡ suc (plus_ℕ m n) = omega arith in
    let b : plus_ℕ (suc m) i ≡ suc (plus_ℕ m i) = omega arith in
    ap₂ (λ n i. coeff R (raised R n p) i) a b ∙ raised_more R m n p i

raised_scaled : (R : RingOps) (laws : IsCommRing R) (n : ℕ) (p : List R.carrier) (i : ℕ)
    → ((k : ℕ) → coeff R (list_scale R R.one p) k ≡ coeff R p k)
    → coeff R (raised R n (list_scale R R.one p)) i ≡ coeff R (raised R n p) i
raised_scaled R laws zero p i h = h i
raised_scaled R laws (suc n) p zero h = refl
raised_scaled R laws (suc n) p (suc i) h = raised_scaled R laws n p i h

module _ (F : Elements ℕ) (L : Lawful F) where
  abbrev one_scaled : (p : List F.carrier) (k : ℕ)
      → coeff F.ring (list_scale F.ring F.one p) k ≡ coeff F.ring p k
  one_scaled p k = scale-coeff F.ring L.laws L.tests F.one p k
      ∙ ring1 F.ring L.laws (λ a. unit ⊗ a) (λ a. a) refl (coeff F.ring p k)

  -- the coefficients of x^b * d
  pub times_coeff : (d : List ℕ) (b j : ℕ) → coeff F.ring ((polynomials F.ring).mul
      (monomial F.ring F.one b) (poly_of F d)).coeffs j
      ≡ coeff F.ring (raised F.ring b (map F.value d)) j
  unfolding poly
  times_coeff d b j = ap (λ (p : Poly F.ring). coeff F.ring p.coeffs j)
      (monomial-mul F.ring L.laws L.tests b F.one (map F.value d))
      ∙ trim-coeff F.ring L.laws L.tests (raised F.ring b (list_scale F.ring F.one (map F.value d)))
      j ∙ raised_scaled F.ring L.laws b (map F.value d) j (one_scaled (map F.value d))

  -- the plane with x^b * d in row i
  abbrev pub multiple_plane : (d : List ℕ) (i b : ℕ) → Plane (lawful_field L)
  multiple_plane d i b = monomial (polynomials F.ring) ((polynomials F.ring).mul
      (monomial F.ring F.one b) (poly_of F d)) i

  module _ (d : List ℕ) (l i b : ℕ) (room : plus_ℕ b (length d) ≤ l) (positive : 0 < l) where
    row : (k : ℕ) → coeff (polynomials F.ring) (multiple_plane d i b).coeffs k
        ≡ coeff (polynomials F.ring) (raised (polynomials F.ring) i ((polynomials F.ring).mul
        (monomial F.ring F.one b) (poly_of F d) ∷ [])) k
    unfolding poly
    row k = trim-coeff (polynomials F.ring) (polynomial_domain (lawful_field L)).laws
        (polynomial_domain (lawful_field L)).tests _ k

    none : (c : ℕ) → coeff F.ring (polynomials F.ring).zero.coeffs c ≡ F.zero
    none c = zero_from F.ring L.laws L.tests (polynomials F.ring).zero c
        (let z : size F.ring (polynomials F.ring).zero ≡ 0 = zero_size (lawful_field L) in
        omega (arith, z))

    -- entry c of row k
    entry : (k c : ℕ) → c < l → (k < i) ⊎ (i ≤ k) → (i < k) ⊎ (k ≤ i)
        → coeff F.ring (coeff (polynomials F.ring) (multiple_plane d i b).coeffs k).coeffs c
        ≡ coeff F.ring (raised F.ring (plus_ℕ (times_ℕ i l) b) (map F.value d))
        (plus_ℕ (times_ℕ k l) c)
    entry k c q (inl below) r = ap (λ (p : Poly F.ring). coeff F.ring p.coeffs c)
        (row k ∙ raised-below (polynomials F.ring) i _ k below) ∙ none c ∙ sym (raised-below F.ring
        (plus_ℕ (times_ℕ i l) b) (map F.value d) (plus_ℕ (times_ℕ k l) c)
        (let s : suc k ≤ i = omega (arith, below) in
        let t : times_ℕ (suc k) l ≤ times_ℕ i l = mul-le-mul_right l s in
        let e : times_ℕ (suc k) l ≡ plus_ℕ l (times_ℕ k l) = omega arith in
        omega (arith, t, e, q)))
    entry k c q (inr above) (inl past) = ap (λ (p : Poly F.ring). coeff F.ring p.coeffs c)
        (row k ∙ raised-past (polynomials F.ring) i _ k
        (let e : plus_ℕ i 1 ≤ k = omega (arith, past)
        in e)) ∙ none c ∙ sym (raised-past F.ring (plus_ℕ (times_ℕ i l) b) (map F.value d)
        (plus_ℕ (times_ℕ k l) c)
        (let s : suc i ≤ k = omega (arith, past) in
        let t : times_ℕ (suc i) l ≤ times_ℕ k l = mul-le-mul_right l s in
        let e : times_ℕ (suc i) l ≡ plus_ℕ l (times_ℕ i l) = omega arith in
        omega (arith, t, e, room, length-map d F.value)))
    entry k c q (inr above) (inr same) = let e : k ≡ i = omega (arith, above, same) in
        ap (λ (p : Poly F.ring). coeff F.ring p.coeffs c) (row k
        ∙ raised-at (polynomials F.ring) i _ 0 k (let z : k ≡ plus_ℕ i 0 = omega (arith, e) in z))
        ∙ times_coeff d b c ∙ sym (raised_more F.ring (times_ℕ i l) b (map F.value d) c)
        ∙ ap (λ k. coeff F.ring (raised F.ring (plus_ℕ (times_ℕ i l) b) (map F.value d))
        (plus_ℕ (times_ℕ k l) c)) (sym e)

    -- the other rows, and the own one
    pub other_row : (k : ℕ) → ¬ (k ≡ i)
        → coeff (polynomials F.ring) (multiple_plane d i b).coeffs k ≡ (polynomials F.ring).zero
    other_row k n = go (cases_lt k i) (cases_lt i k)
      where
        go : (k < i) ⊎ (i ≤ k) → (i < k) ⊎ (k ≤ i)
            → coeff (polynomials F.ring) (multiple_plane d i b).coeffs k
            ≡ (polynomials F.ring).zero
        go (inl below) r = row k ∙ raised-below (polynomials F.ring) i _ k below
        go (inr above) (inl past) = row k ∙ raised-past (polynomials F.ring) i _ k
            (let e : plus_ℕ i 1 ≤ k = omega (arith, past) in e)
        go (inr above) (inr same) = absurd (n (let e : k ≡ i = omega (arith, above, same) in e))

    pub own_size : size F.ring ((polynomials F.ring).mul (monomial F.ring F.one b) (poly_of F d))
        ≤ plus_ℕ b (length d)
    own_size = size_le F.ring L.laws L.tests ((polynomials F.ring).mul
        (monomial F.ring F.one b) (poly_of F d)) (plus_ℕ b (length d))
        (λ j q. times_coeff d b j ∙ raised-past F.ring b (map F.value d) j
        (omega (arith, q, length-map d F.value)))

    pub own_row : coeff (polynomials F.ring) (multiple_plane d i b).coeffs i
        ≡ (polynomials F.ring).mul (monomial F.ring F.one b) (poly_of F d)
    own_row = row i ∙ raised-at (polynomials F.ring) i _ 0 i
        (let z : i ≡ plus_ℕ i 0 = omega arith in z)

    pub multiple_flat : (v : ℕ → F.carrier) → IsMultiple F d (plus_ℕ (times_ℕ i l) b) v → (j : ℕ)
        → flat F.ring l (multiple_plane d i b) j ≡ v j
    multiple_flat v h j = entry (j / l) (j % l) (mod_below j l positive) (cases_lt (j / l) i)
        (cases_lt i (j / l))
        ∙ ap (coeff F.ring (raised F.ring (plus_ℕ (times_ℕ i l) b) (map F.value d)))
        (div-add-mod' j l) ∙ sym (h j)

-- a list of zeros to which the multiple was added
pub shifted_is : (F : Elements ℕ) (L : Lawful F) (d new old b : List ℕ) (at one : ℕ)
    → poly_of F new ≡ (polynomials F.ring).add (poly_of F old) ((polynomials F.ring).mul
    (monomial F.ring (F.value one) at) (poly_of F b))
    → ((i : ℕ) → vector_of F old i ≡ F.zero) → F.value one ≡ F.one → b ≡ d
    → IsMultiple F d at (vector_of F new)
unfolding poly
shifted_is F L d new old b at one e none is same j =
    sym (trim-coeff F.ring L.laws L.tests (map F.value new) j)
    ∙ ap (λ (p : Poly F.ring). coeff F.ring p.coeffs j) (e
    ∙ ap₂ (λ c b. (polynomials F.ring).add (poly_of F old) ((polynomials F.ring).mul
    (monomial F.ring c at) (poly_of F b))) is same)
    ∙ add_at F.ring L.laws L.tests (poly_of F old) _ j
    ∙ ap₂ F.add (trim-coeff F.ring L.laws L.tests (map F.value old) j ∙ none j)
    (times_coeff F L d at j)
    ∙ ring1 F.ring L.laws (λ a. nil ⊕ a) (λ a. a) refl _

-- elements by multiples
module _ (F : Elements ℕ) (L : Lawful F) (f : List (List ℕ)) (hf : IsPlane F f)
    (two : 1 < length f) where
  abbrev K : Field
  K = lawful_field L

  abbrev D : Domain
  D = polynomial_domain (lawful_field L)

  abbrev A : RingOps
  A = algebra_in L f

  AL : IsCommRing (algebra_in L f)
  AL = algebra_laws F L f hf two

  abbrev C : ChartOf F.ring (algebra_in L f)
  C = chart_of L f Finite

  CL : IsChart F.ring (algebra_in L f) (chart_of L f Finite)
  CL = chart_laws F L f hf two Finite

  U : IsMap (polynomials F.ring) (algebra_in L f) (at_u (chart_of L f Finite))
  U = at_u_map K A AL C CL

  -- x^b times power i of y'
  abbrev pub term : ℕ → ℕ → (algebra_in L f).carrier
  term i b = (algebra_in L f).mul (power (algebra_in L f) (chart_of L f Finite).u b)
      (power (algebra_in L f) (chart_of L f Finite).theta i)

  -- the value of a power of x
  raised_value : (b : ℕ) → eval_list A C.constant C.u (raised F.ring b (F.one ∷ []))
      ≡ power A C.u b
  raised_value zero = ap (λ t. A.add t (A.mul C.u A.zero)) CL.constants.on_one
      ∙ ring1 A AL (λ u. unit ⊕ u ⊗ nil) (λ u. unit) refl C.u
  raised_value (suc b) = ap₂ (λ s t. A.add s (A.mul C.u t)) CL.constants.on_zero (raised_value b)
      ∙ ring2 A AL (λ u t. nil ⊕ u ⊗ t) (λ u t. u ⊗ t) refl C.u (power A C.u b)

  pub x_value : (b : ℕ) → at_u C (monomial F.ring F.one b) ≡ power A C.u b
  unfolding poly eval
  x_value b = at_trim F.ring A L.laws L.tests AL C.constant CL.constants C.u
      (raised F.ring b (F.one ∷ [])) ∙ raised_value b

  term_over : (d : List ℕ) (i b : ℕ) → IsOver L f d (multiple_plane F L d i b) (term i b)
  term_over d i b = ap (λ t. A.mul (at_u C (poly_of F d)) (A.mul t (power A C.theta i)))
      (sym (x_value b))
      ∙ ring3 A AL (λ d x y. d ⊗ (x ⊗ y)) (λ d x y. (x ⊗ d) ⊗ y) refl
      (at_u C (poly_of F d)) (at_u C (monomial F.ring F.one b)) (power A C.theta i)
      ∙ ap (λ t. A.mul t (power A C.theta i))
      (sym (U.on_mul (monomial F.ring F.one b) (poly_of F d)))
      ∙ sym (monomial_theta K A AL C CL (D.mul (monomial F.ring F.one b) (poly_of F d)) i)

  pub multiple_parts : (d : List ℕ) → IsPoly F d → (l i b : ℕ) → plus_ℕ b (length d) ≤ l → 0 < l
      → i < y_degree L f → (v : ℕ → F.carrier) → IsMultiple F d (plus_ℕ (times_ℕ i l) b) v
      → HasShape F.ring (chart_of L f Finite).degree l (multiple_plane F L d i b)
      × (((j : ℕ) → flat F.ring l (multiple_plane F L d i b) j ≡ v j)
      × IsOver L f d (multiple_plane F L d i b) (term i b))
  multiple_parts d hd l i b room positive below v h = (
    monomial_shape K C.degree l i (D.mul (monomial F.ring F.one b) (poly_of F d))
        (subst (λ n. i < n) (sym (chart_degree F L f hf two Finite)) below)
        (let s = own_size F L d l i b room positive in omega (arith, s, room)),
    (multiple_flat F L d l i b room positive v h, term_over d i b),
  )

  abbrev pub multiple_over : (d : List ℕ) → IsPoly F d → (l i b : ℕ) → plus_ℕ b (length d) ≤ l
      → 0 < l → i < y_degree L f → (v : ℕ → F.carrier)
      → IsMultiple F d (plus_ℕ (times_ℕ i l) b) v → HasVectorOver L f d l v (term i b)
  multiple_over d hd l i b room positive below v h = (
    multiple_plane F L d i b,
    multiple_parts d hd l i b room positive below v h,
  )
