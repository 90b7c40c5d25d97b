-- The functions that a relation says, step by step, for an equation f over a field whose laws are
-- L.
use Rattle.std.proofs.Common.{◌≡◌, ℕ, suc, ◌+◌ as plus_ℕ, ◌<◌, ◌≤◌, ◌⊎◌, inl, inr, List, []}
use Rattle.std.proofs.Common.{◌∷◌, ◌-◌, length, take, drop, get_or, false, refl, sym}
use Rattle.std.proofs.Common.{◌∙◌, ap, ap₂, subst, arith}
use Rattle.std.proofs.Common.{Vec, Global}
use Rattle.std.proofs.lemmas.Bool.{cases_lt}
use Rattle.std.proofs.lemmas.List.{length-map}
use Rattle.ff_theory.specs.Ring.{RingOps, IsCommRing, Elements, power}
use Rattle.ff_theory.specs.Lawful.{Domain, Field, Lawful, lawful_field}
use Rattle.ff_theory.specs.Map.{IsMap}
use Rattle.ff_theory.specs.Poly.{Poly, poly, polynomials}
use Rattle.ff_theory.specs.Planes.{planes, Plane, row_of}
use Rattle.ff_theory.specs.Monomial.{monomial}
use Rattle.ff_theory.specs.Values.{poly_of, plane_of, IsPoly, IsPlane}
use Rattle.ff_theory.specs.Span.{combination}
use Rattle.ff_theory.specs.Vector.{vector_of, vectors_of}
use Rattle.ff_theory.proofs.Evaluate.{eval-const}
use Rattle.ff_theory.proofs.Solver.{◌⊕◌, ◌⊗◌, unit, ring2, ring3, ring6}
use Rattle.ff_theory.proofs.PolyMap.{polynomial_domain}
use Rattle.ff_theory.proofs.Sums.{sum-ext, sum-mul}
use Rattle.ff_charts.specs.Chart.{Chart as ChartOf, at_u, at_theta, IsChart}
use Rattle.ff_charts.specs.Lattice.{HasShape, flat}
use Rattle.ff_charts.proofs.Chart.{at_u_map, at_theta_map, row_times, cancel_u}
use Rattle.ff_charts.proofs.Flat.{flat_one}
use Rattle.ff_lin.specs.Space.{rows_of}
use Rattle.ff_elem.specs.Elem.{algebra_in}
use Rattle.ff_elem.proofs.PolyLemmas.{poly-nonzero}
use Rattle.ff_data.specs.declared.order.Chart.TheVariants.{Finite}
use Rattle.ff_data.specs.Orders.{chart_of, y_degree}
use Rattle.ff_data.specs.Combinations.{combination_in, constant_in}
use Rattle.ff_data.proofs.ChartLaws.{algebra_laws, chart_laws, chart_degree}
use Rattle.ff_data.proofs.PlaneCombinations.{planes_combined, combined_shape, combined_flat}
use Rattle.ff_data.proofs.PlaneCombinations.{combined_value}
use Rattle.ff_common.specs.Common.{HasVectorOver, IsOver}
use Rattle.ff_functions.proofs.VectorLemmas.{head_at, tail_at, tail_count}
use Rattle.ff_functions.specs.declared.frame.Frame.{Frame}
use Rattle.ff_functions.specs.Combined.{IsBaseVector, IsPlaneSum, HaveNumerators, power_modulus}
use Rattle.ff_functions.specs.Combined.{IsOverPoly, HavePowers, IsBasePlane, IsWithPowers}

module _ (F : Elements ℕ) (L : Lawful F) (f : List (List ℕ)) (hf : IsPlane F f)
    (two : 1 < length f) where
  abbrev K : Field
  K = lawful_field L

  abbrev D : Domain
  D = polynomial_domain (lawful_field L)

  abbrev A : RingOps
  A = algebra_in L f

  AL : IsCommRing (algebra_in L f)
  AL = algebra_laws F L f hf two

  abbrev C : ChartOf F.ring (algebra_in L f)
  C = chart_of L f Finite

  CL : IsChart F.ring (algebra_in L f) (chart_of L f Finite)
  CL = chart_laws F L f hf two Finite

  U : IsMap (polynomials F.ring) (algebra_in L f) (at_u (chart_of L f Finite))
  U = at_u_map K A AL C CL

  V : IsMap (planes (lawful_field L)) (algebra_in L f) (at_theta (chart_of L f Finite))
  V = at_theta_map K A AL C CL

  -- a plane whose vector is the combination of numerators over d
  module _ (s : Frame) (c v : ℕ → F.carrier) (h : IsBaseVector L f s c v)
      (M : Plane (lawful_field L)) (shape : HasShape F.ring (y_degree L f) s.l M)
      (value : (j : ℕ) → flat F.ring s.l M j ≡ v j) (d : List ℕ)
      (g : ℕ → (algebra_in L f).carrier) (are : HaveNumerators L f d s g) where
    abbrev n : ℕ
    n = length s.numerators.items

    count : length (rows_of s.numerators.items) ≡ length s.numerators.items
    count = length-map s.numerators.items (λ (v : Vec ℕ Global). v.items)

    abbrev pick : (l : ℕ) → (l < length s.numerators.items) ⊎ (length s.numerators.items ≤ l)
        → Plane (lawful_field L)
    pick l (inl q) = (are l q).0
    pick l (inr q) = (planes (lawful_field L)).zero

    N : ℕ → Plane (lawful_field L)
    N l = pick l (cases_lt l (length s.numerators.items))

    record Known (l : ℕ) (P : Plane (lawful_field L)) : Type 0 where
      pub small : HasShape F.ring C.degree s.l P
      pub vector : (j : ℕ) → flat F.ring s.l P j
          ≡ vectors_of F (rows_of s.numerators.items) l j
      pub over : IsOver L f d P (g l)

    known : (l : ℕ) → l < length s.numerators.items → Known l (N l)
    unfolding N
    known l q = go (cases_lt l (length s.numerators.items))
      where
        go : (e : (l < length s.numerators.items) ⊎ (length s.numerators.items ≤ l))
            → Known l (pick l e)
        go (inl k) = record {
          small = (are l k).1.0;
          vector = (are l k).1.1.0;
          over = (are l k).1.1.1;
        }
        go (inr k) = absurd (omega (arith, q, k))

    same : planes_combined (lawful_field L) c N (length s.numerators.items) ≡ M
    same = flat_one K s.l C.degree _ M (combined_shape K C.degree s.l c N n
        (λ l q. (known l q).small))
        (subst (λ n. HasShape F.ring n s.l M) (sym (chart_degree F L f hf two Finite)) shape)
        (λ j. combined_flat K s.l c N n j
        ∙ sum-ext F.ring L.laws n _ _ (λ l q. ap (F.mul (c l)) ((known l q).vector j))
        ∙ sym (value j ∙ h j ∙ ap (λ n. combination F.ring n c
        (vectors_of F (rows_of s.numerators.items)) j) count))

    pub base_over : IsOver L f d M (combination_in L f (length s.numerators.items) c g)
    base_over = sym (sum-mul A AL n (at_u C (poly_of F d)) (λ l. A.mul (constant_in L f (c l))
        (g l)))
        ∙ sum-ext A AL n _ _ (λ l q. ring3 A AL (λ d c g. d ⊗ (c ⊗ g)) (λ d c g. c ⊗ (d ⊗ g)) refl
        (at_u C (poly_of F d)) (constant_in L f (c l)) (g l)
        ∙ ap (A.mul (constant_in L f (c l))) (known l q).over)
        ∙ sym (combined_value K A AL C CL c N n) ∙ ap (at_theta C) same

  -- the value of a sum of planes
  pub plane_sum_is : (g t : Poly F.ring) (a b : Plane (lawful_field L)) (c : F.carrier)
      (r : List (List ℕ)) → t ≡ poly F.ring (c ∷ []) → plane_of F r
      ≡ (planes (lawful_field L)).add ((planes (lawful_field L)).mul (row_of F.ring g) a)
      ((planes (lawful_field L)).mul (monomial (polynomials F.ring) t 0) b)
      → IsPlaneSum L f g a c b r
  plane_sum_is g t a b c r is e = ap (at_theta C) e ∙ V.on_add _ _
      ∙ ap₂ A.add (row_times K A AL C CL g a) (row_times K A AL C CL t b
      ∙ ap (λ x. A.mul x (at_theta C b)) (ap (at_u C) is
      ∙ eval-const F.ring A L.laws L.tests AL C.constant CL.constants C.u c))

  -- one power more
  module _ (root : List ℕ) (base : List (List ℕ)) (powers : List (List (List ℕ)))
      (c : ℕ → F.carrier) where
    pub no_powers : IsWithPowers L f root base powers 0 c base
    no_powers d g w over are = ap₂ A.mul (U.on_mul _ (poly_of F d)
        ∙ ap (λ t. A.mul t (at_u C (poly_of F d))) U.on_one) (AL.add_zero g)
        ∙ ring2 A AL (λ d g. unit ⊗ d ⊗ g) (λ d g. d ⊗ g) refl (at_u C (poly_of F d)) g ∙ over

    pub one_power : (n : ℕ) (old new : List (List ℕ)) → n < length powers
        → IsPlaneSum L f (poly_of F root) (plane_of F old) (c n)
        (plane_of F (get_or powers n [])) new → IsWithPowers L f root base powers n c old
        → IsWithPowers L f root base powers (plus_ℕ n 1) c new
    one_power n old new q sum before d g w over are = let e : plus_ℕ n 1 ≡ suc n = omega arith in
        subst (λ n. IsOverPoly L f (power_modulus L f d root n) new
        (A.add g (combination_in L f n c w))) (sym e)
        (ap (λ t. A.mul t (A.add g (A.add rest term))) (U.on_mul _ (poly_of F d)
        ∙ ap (λ t. A.mul t (at_u C (poly_of F d))) (U.on_mul (poly_of F root)
        (power D.ring (poly_of F root) n)))
        ∙ ring6 A AL (λ r p d g s t. r ⊗ p ⊗ d ⊗ (g ⊕ (s ⊕ t)))
        (λ r p d g s t. r ⊗ (p ⊗ d ⊗ (g ⊕ s)) ⊕ r ⊗ p ⊗ d ⊗ t) refl (at_u C (poly_of F root))
        (at_u C (power D.ring (poly_of F root) n)) (at_u C (poly_of F d)) g rest term
        ∙ ap₂ A.add (ap (A.mul (at_u C (poly_of F root))) (ap (λ t. A.mul t (A.add g rest))
        (sym (U.on_mul _ (poly_of F d))) ∙ before d g w over are))
        (ap (λ t. A.mul t term) (ap (λ t. A.mul t (at_u C (poly_of F d)))
        (sym (U.on_mul (poly_of F root) (power D.ring (poly_of F root) n)))
        ∙ sym (U.on_mul _ (poly_of F d)))
        ∙ ring3 A AL (λ m c w. m ⊗ (c ⊗ w)) (λ m c w. c ⊗ (m ⊗ w)) refl
        (at_u C (power_modulus L f d root (suc n))) (constant_in L f (c n)) (w n)
        ∙ ap (A.mul (constant_in L f (c n))) (subst (λ n'. IsOverPoly L f
        (power_modulus L f d root n') (get_or powers n []) (w n)) e (are n q)))
        ∙ sym sum)
      where
        rest : A.carrier
        rest = combination_in L f n c w

        term : A.carrier
        term = A.mul (constant_in L f (c n)) (w n)

  -- the element with the plane over d * root^n
  pub over_power : (d root : List ℕ) (n : ℕ) (den : Poly F.ring) → den
      ≡ (polynomials F.ring).mul (poly_of F d) (power (polynomials F.ring) (poly_of F root) n)
      → (polynomials F.ring).same den (polynomials F.ring).zero ≡ false → (r : List (List ℕ))
      → (v w : (algebra_in L f).carrier) → IsOverPoly L f den r v
      → IsOverPoly L f (power_modulus L f d root n) r w → v ≡ w
  over_power d root n den is nonzero r v w a b = cancel_u K A AL C CL den nonzero v w
      (a ∙ sym b ∙ ap (λ m. A.mul (at_u C m) w) (D.laws.mul_comm _ _ ∙ sym is))

  -- equal coefficients
  pub same_combination : (n : ℕ) (b c : ℕ → F.carrier) (w : ℕ → (algebra_in L f).carrier)
      → ((i : ℕ) → i < n → b i ≡ c i) → combination_in L f n b w ≡ combination_in L f n c w
  same_combination n b c w h = sum-ext A AL n _ _
      (λ i q. ap (λ x. A.mul (constant_in L f x) (w i)) (h i q))

  -- a slice of a relation
  module _ (s : Frame) (v w : List ℕ) (c j : ℕ) (same : w ≡ v)
      (count : c ≡ length s.numerators.items) (len : length v ≡ plus_ℕ c j)
      (d : List ℕ) (hd : IsPoly F d) (some : 0 < length d) where
    abbrev b : ℕ
    b = length s.numerators.items

    few : c ≤ length v
    few = omega (arith, len)

    head_sum : (g : ℕ → A.carrier) → combination_in L f b (vector_of F (take c w)) g
        ≡ combination_in L f b (vector_of F v) g
    head_sum g = same_combination b _ _ g
        (λ i q. head_at F v w c same i few (omega (arith, q, count)))

    pub infinite_value : (x : ℕ → F.carrier) → IsBaseVector L f s (vector_of F (take c w)) x
        → (r : (algebra_in L f).carrier) → HasVectorOver L f d s.l x r
        → (g : ℕ → (algebra_in L f).carrier) → HaveNumerators L f d s g
        → r ≡ combination_in L f (length s.numerators.items) (vector_of F v) g
    infinite_value x base r h g are = cancel_u K A AL C CL (poly_of F d)
        (poly-nonzero F L d hd some) _ _ (h.1.1.1 ∙ sym (base_over s (vector_of F (take c w)) x base
        h.0 (subst (λ n. HasShape F.ring n s.l h.0) (chart_degree F L f hf two Finite) h.1.0)
        h.1.1.0 d g are)) ∙ head_sum g

    abbrev tail : List ℕ
    tail = take (length w - c) (drop c w)

    pub finite_value : (root den : List ℕ) → IsPoly F den → 0 < length den
        → poly_of F den ≡ (polynomials F.ring).mul (poly_of F d)
        (power (polynomials F.ring) (poly_of F root) j) → (base new : List (List ℕ))
        (powers : List (List (List ℕ))) (r : (algebra_in L f).carrier)
        → IsBasePlane L f s (vector_of F (take c w)) base
        → IsWithPowers L f root base powers (length (take (length w - c) (drop c w)))
        (vector_of F (take (length w - c) (drop c w))) new
        → IsOverPoly L f (poly_of F den) new r
        → (g u : ℕ → (algebra_in L f).carrier) → HaveNumerators L f d s g
        → HavePowers L f d root powers u → r ≡ (algebra_in L f).add
        (combination_in L f (length s.numerators.items) (vector_of F v) g)
        (combination_in L f j (λ i. vector_of F v (plus_ℕ (length s.numerators.items) i)) u)
    finite_value root den hden more is base new powers r b1 b2 h g u are ps =
        over_power d root j (poly_of F den) is (poly-nonzero F L den hden more) new r _ h
        (subst (λ n. IsOverPoly L f (power_modulus L f d root n) new
        (A.add (combination_in L f b (vector_of F (take c w)) g)
        (combination_in L f n (vector_of F tail) u))) (tail_count F v w c same j len)
        (b2 d _ u (b1 d g are) ps))
        ∙ ap₂ A.add (head_sum g) (same_combination j _ _ u (λ i q. tail_at F v w c same i j len q
        ∙ ap (λ k. vector_of F v (plus_ℕ k i)) count))
