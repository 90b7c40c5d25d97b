-- The derivative of an equation as an element: its factors, and when it has an inverse.
use Rattle.std.proofs.Common.{◌≡◌, ℕ, suc, ◌-◌, ◌<◌, ◌≤◌, List, length, refl, sym, ◌∙◌, ap, ap₂}
use Rattle.std.proofs.Common.{arith, false}
use Rattle.ff_theory.specs.Ring.{RingOps, IsCommRing, Elements}
use Rattle.ff_theory.specs.Lawful.{Lawful, lawful_field, Domain, Field}
use Rattle.ff_theory.specs.Poly.{Poly, polynomials}
use Rattle.ff_theory.specs.Division.{size}
use Rattle.ff_theory.specs.Map.{IsMap}
use Rattle.ff_theory.specs.Planes.{planes, Plane, IsDivisorOver, row_of}
use Rattle.ff_theory.specs.Algebra.{value_of, degree}
use Rattle.ff_theory.specs.Values.{poly_of, polys_of, plane_of, planes_over, IsPlane}
use Rattle.ff_theory.proofs.Solver.{◌⊕◌, ◌⊗◌, neg, nil, ring1, ring2, ring3}
use Rattle.ff_theory.proofs.Poly.{polynomial_laws}
use Rattle.ff_theory.proofs.PolyMap.{polynomial_domain}
use Rattle.ff_theory.proofs.Evaluate.{const_map}
use Rattle.ff_theory.proofs.Algebra.{rational, embed, embed_map}
use Rattle.ff_theory.proofs.Element.{algebra_is_ring, value_map, element_clear, low_value}
use Rattle.ff_theory.proofs.ElementEuclid.{zero_plane_size}
use Rattle.ff_factors.proofs.NormalForm.{divisor_over, over_divisor, divisor_trans}
use Rattle.ff_factors.proofs.NormalForm.{factored_divides}
use Rattle.ff_factors.proofs.ZeroDivisors.{divides_if_value, coprime_if_inverse}
use Rattle.ff_charts.proofs.FiniteChart.{degree_is}
use Rattle.ff_conductor.proofs.Separable.{derivative_size}
use Rattle.ff_elem.specs.declared.elem.Elem.{Elem}
use Rattle.ff_elem.specs.Elem.{algebra_in, elem_of, ElemIs}
use Rattle.ff_elem.specs.Factors.{AreFactors}
use Rattle.ff_elem.proofs.Reduction.{plane-size}
use Rattle.ff_elem.proofs.Quotients.{not-empty, element-nonzero}
use Rattle.ff_data.specs.Orders.{y_derivative, IsSeparable, AreSquareFactors}

module _ (F : Elements ℕ) (L : Lawful F) (f : List (List ℕ)) (hf : IsPlane F f) (two : 1 < length f)
  where
    abbrev K : Field
    K = lawful_field L

    abbrev D : Domain
    D = polynomial_domain (lawful_field L)

    abbrev P : RingOps
    P = planes (lawful_field L)

    PL : IsCommRing (planes (lawful_field L))
    PL = polynomial_laws D.ring D.laws D.tests

    abbrev Q : RingOps
    Q = polynomials (rational (lawful_field L)).ring

    QL : IsCommRing (polynomials (rational (lawful_field L)).ring)
    QL = let R : Field = rational (lawful_field L) in polynomial_laws R.ring R.laws R.tests

    row_map : IsMap (polynomials F.ring) (planes (lawful_field L)) (row_of (lawful_field L).ring)
    row_map = const_map D.ring D.laws D.tests

    abbrev A : RingOps
    A = algebra_in L f

    AL : IsCommRing (algebra_in L f)
    AL = algebra_is_ring (lawful_field L) (plane_of F f)

    V : IsMap (planes (lawful_field L)) (algebra_in L f) (value_of (lawful_field L) (plane_of F f))
    V = value_map (lawful_field L) (plane_of F f)

    some : ¬ (size (polynomials F.ring) (plane_of F f) ≡ 0)
    some = not-empty F L f (length f - 1) hf
        (let e : length f ≡ suc (length f - 1) = omega (arith, two) in e)

    -- planes with one value have the same divisors among those of f
    same-divisors : (g p q : Plane (lawful_field L)) → IsDivisorOver F.ring g (plane_of F f)
        → value_of (lawful_field L) (plane_of F f) p ≡ value_of (lawful_field L) (plane_of F f) q
        → IsDivisorOver F.ring g p → IsDivisorOver F.ring g q
    same-divisors g p q dg e dp = divisor_over K g q (Q.add s.0 (Q.neg t.0))
        (ap (embed K) (ring2 P PL (λ p q. q) (λ p q. p ⊕ neg (p ⊕ neg q)) refl p q)
        ∙ (embed_map K).on_add p (P.neg (P.add p (P.neg q)))
        ∙ ap₂ Q.add s.1 ((embed_map K).on_neg (P.add p (P.neg q)) ∙ ap Q.neg t.1)
        ∙ ring3 Q QL (λ s t g. s ⊗ g ⊕ neg (t ⊗ g)) (λ s t g. (s ⊕ neg t) ⊗ g) refl s.0 t.0
        (embed K g))
      where
        s : (u : Poly (rational (lawful_field L)).ring) × (embed K p ≡ Q.mul u (embed K g))
        s = over_divisor K g p dp

        zero : value_of (lawful_field L) (plane_of F f) (P.add p (P.neg q)) ≡ A.zero
        zero = V.on_add p (P.neg q) ∙ ap₂ A.add e (V.on_neg q)
            ∙ ring1 A AL (λ v. v ⊕ neg v) (λ v. nil) refl (value_of K (plane_of F f) q)

        t : (u : Poly (rational (lawful_field L)).ring)
            × (embed K (P.add p (P.neg q)) ≡ Q.mul u (embed K g))
        t = over_divisor K g (P.add p (P.neg q)) (divisor_trans K g (plane_of F f)
            (P.add p (P.neg q)) dg (divides_if_value K (plane_of F f) (P.add p (P.neg q)) some
            zero))

    -- a list with entries stands for no zero
    pub derivative-some : (d : List (List ℕ)) → IsPlane F d → plane_of F d ≡ y_derivative L f
        → 0 < length d → ¬ (y_derivative L f ≡ (planes_over F).zero)
    derivative-some d hd is long z = let e : size (polynomials F.ring) (plane_of F d)
        ≡ length d = plane-size F L d hd in let n : size (polynomials F.ring) (plane_of F d)
        ≡ 0 = ap (size (polynomials F.ring)) (is ∙ z) ∙ zero_plane_size K in absurd
        (omega (arith, e, n, long))

    -- what divides a multiple by a polynomial in x that is not 0
    row-divisor : (g N : Plane (lawful_field L)) (c : Poly F.ring)
        → (polynomials F.ring).same c (polynomials F.ring).zero ≡ false
        → IsDivisorOver F.ring g ((planes (lawful_field L)).mul (row_of F.ring c) N)
        → IsDivisorOver F.ring g N
    row-divisor g N c nc d = record {
      scalar = D.mul d.scalar c;
      nonzero = D.no_divisors d.scalar c d.nonzero nc;
      quotient = d.quotient;
      product = ap (λ r. P.mul r N) (row_map.on_mul d.scalar c)
          ∙ PL.mul_assoc (row_of F.ring d.scalar) (row_of F.ring c) N ∙ d.product;
    }

    module _ (a : Elem)
        (is : ElemIs L f (value_of (lawful_field L) (plane_of F f) (y_derivative L f)) a) where
      abbrev N : Plane (lawful_field L)
      N = y_derivative L f

      -- the derivative has fewer rows than f: it is not the element 0
      pub derivative-nonzero : ¬ (y_derivative L f ≡ (planes_over F).zero)
          → ¬ (elem_of L f a ≡ (algebra_in L f).zero)
      derivative-nonzero nonzero e = low_value K (plane_of F f) N small nonzero (sym is.value ∙ e)
        where
          has : size (polynomials F.ring) (plane_of F f) ≡ suc (length f - 1)
          has = let e : size (polynomials F.ring) (plane_of F f) ≡ length f = plane-size F L f hf in
              omega (arith, e, two)

          small : size (polynomials F.ring) N ≤ degree K (plane_of F f)
          small = let e : degree K (plane_of F f) ≡ length f - 1 = degree_is K (plane_of F f)
              (length f - 1) has in omega
              (arith, e, derivative_size K (plane_of F f) (length f - 1) has)

      numerators : value_of (lawful_field L) (plane_of F f) (plane_of F a.num)
          ≡ value_of (lawful_field L) (plane_of F f) (P.mul (row_of F.ring (poly_of F a.den)) N)
      numerators = sym (element_clear K (plane_of F f) (poly_of F a.den) (polys_of F a.num)
          (element-nonzero F L f a is.element))
          ∙ ap (A.mul (value_of K (plane_of F f) (row_of F.ring (poly_of F a.den)))) is.value
          ∙ sym (V.on_mul (row_of F.ring (poly_of F a.den)) N)

      pub square-factors : (g h : List (List ℕ)) → AreFactors F f a.num g h
          → AreSquareFactors L f g h
      square-factors g h s = record {
        first = s.first;
        second = s.second;
        factored = s.factored;
        divides = row-divisor (plane_of F g) N (poly_of F a.den)
            (element-nonzero F L f a is.element)
            (same-divisors (plane_of F g) (plane_of F a.num)
            (P.mul (row_of F.ring (poly_of F a.den)) N)
            (factored_divides K (plane_of F f) (plane_of F g) (plane_of F h) s.factored) numerators
            s.divides);
      }

      pub inverse-of-derivative : (w : Elem)
          → (algebra_in L f).mul (elem_of L f w) (elem_of L f a) ≡ (algebra_in L f).one
          → (algebra_in L f).mul (elem_of L f w)
          (value_of (lawful_field L) (plane_of F f) (y_derivative L f)) ≡ (algebra_in L f).one
      inverse-of-derivative w e = ap (A.mul (elem_of L f w)) (sym is.value) ∙ e

      pub separable-if-inverse : (w : Elem)
          → (algebra_in L f).mul (elem_of L f w) (elem_of L f a) ≡ (algebra_in L f).one
          → IsSeparable L f
      separable-if-inverse w e = coprime_if_inverse K (plane_of F f) N some (elem_of L f w)
          (inverse-of-derivative w e)
