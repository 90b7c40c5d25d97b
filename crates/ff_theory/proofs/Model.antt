-- The algebra k(x)[y]/f as classes of polynomials over k(x), with elements as a denominator and
-- numerators.
use Rattle.std.proofs.Common.{◌≡◌, ℕ, ◌<◌, ◌≤◌, false, List, refl, sym, ◌∙◌, ap, ap₂}
use Rattle.ff_theory.specs.Ring.{RingOps, IsCommRing, IsTested}
use Rattle.ff_theory.specs.Lawful.{Field}
use Rattle.ff_theory.specs.Poly.{coeff, Poly, poly, polynomials}
use Rattle.ff_theory.specs.Division.{size}
use Rattle.ff_theory.specs.Planes.{planes, Plane, row_of}
use Rattle.ff_theory.specs.LowestTerms.{IsLowest}
use Rattle.ff_theory.specs.Algebra.{proper, degree}
use Rattle.ff_theory.proofs.Solver.{◌⊕◌, ◌⊗◌, unit, ring1, ring3, ring4}
use Rattle.ff_theory.specs.Map.{IsMap}
use Rattle.ff_theory.proofs.PolyMap.{polynomial_domain}
use Rattle.ff_theory.proofs.Evaluate.{const_map}
use Rattle.ff_theory.proofs.Quotient.{Class}
use Rattle.ff_theory.proofs.Algebra.{rational, fraction_of, fconst, algebra, algebra_class}
use Rattle.ff_theory.proofs.Algebra.{algebra_laws, algebra_tests, plane_value, plane_value_map}
use Rattle.ff_theory.proofs.LowestTerms.{Reduced, den_nonzero}
use Rattle.ff_theory.proofs.ReducedForms.{reduced_class, reduced_one, reduced_of}
use Rattle.ff_theory.proofs.AlgebraParts.{reduced_clear, row_unit, row_cancel, from_parts_value}
use Rattle.ff_theory.proofs.Proper.{proper_size}

module _ (K : Field) where
  -- classes of polynomials over k(x) modulo f; modulo 1 in place of f = 0
  unfoldable pub model : Plane K → RingOps
  model f = algebra K (proper K f) (degree K f) (proper_size K f)

  module _ (f : Plane K) where
    -- the value of a polynomial in x and y
    unfoldable pub model_value : Plane K → (model f).carrier
    unfolding model
    model_value N = plane_value K (proper K f) (degree K f) (proper_size K f) N

    -- the inverse of a polynomial in x
    unfoldable pub model_inverse : Poly K.ring → (model f).carrier
    unfolding model
    model_inverse d = algebra_class K (proper K f) (degree K f) (proper_size K f)
        (fconst K ((rational K).inverse (fraction_of K d)))

    -- a polynomial in x and y over a polynomial in x
    abbrev pub model_over : Plane K → Poly K.ring → (model f).carrier
    model_over N d = (model f).mul (model_inverse d) (model_value N)

    -- the sum of numerators times the powers of y, over a denominator
    unfoldable pub model_element : Poly K.ring → List (Poly K.ring) → (model f).carrier
    model_element den nums = (model f).mul (model_inverse den)
        (model_value (poly (polynomials K.ring) nums))

    -- the element a in lowest terms
    pub record ModelForm (a : (model f).carrier) : Type 0 where
      pub den : Poly K.ring
      pub nums : List (Poly K.ring)
      pub lowest : IsLowest K (degree K f) den nums
      pub stands : model_element den nums ≡ a

module _ (K : Field) where
  kept : (n : ℕ) (den : Poly K.ring) (nums : List (Poly K.ring)) → IsLowest K n den nums
      → Reduced K n
  kept n den nums h = record { den = den; nums = nums; lowest = h }

  module _ (f : Plane K) where
    abbrev A : RingOps
    A = model K f

    pub algebra_is_ring : IsCommRing (model K f)
    unfolding model
    algebra_is_ring = algebra_laws K (proper K f) (degree K f) (proper_size K f)

    pub element_clear : (den : Poly K.ring) (nums : List (Poly K.ring))
        → (polynomials K.ring).same den (polynomials K.ring).zero ≡ false
        → (model K f).mul (model_value K f (row_of K.ring den)) (model_element K f den nums)
        ≡ model_value K f (poly (polynomials K.ring) nums)
    unfolding model_element model model_value model_inverse
    element_clear den nums nd = ring3 A algebra_is_ring (λ d i v. d ⊗ (i ⊗ v))
        (λ d i v. (i ⊗ d) ⊗ v) refl (model_value K f (row_of K.ring den)) (model_inverse K f den)
        (model_value K f (poly (polynomials K.ring) nums))
        ∙ ap (λ t. A.mul t (model_value K f (poly (polynomials K.ring) nums)))
        (row_unit K (proper K f) (degree K f) (proper_size K f) den nd)
        ∙ ring1 A algebra_is_ring (λ v. unit ⊗ v) (λ v. v) refl
        (model_value K f (poly (polynomials K.ring) nums))

    -- a class as an element
    unfoldable pub to_carrier : Class (rational K).ring (degree K f) → (model K f).carrier
    unfolding model
    to_carrier a = a

    unfoldable pub from_carrier : (model K f).carrier → Class (rational K).ring (degree K f)
    unfolding model
    from_carrier a = a

    element_kept : (t : Reduced K (degree K f)) → model_element K f t.den t.nums
        ≡ to_carrier (reduced_class K (degree K f) t)
    unfolding model model_value to_carrier
    element_kept t = row_cancel K (proper K f) (degree K f) (proper_size K f) t.den
        (den_nonzero K (degree K f) t) _ _
        (element_clear t.den t.nums (den_nonzero K (degree K f) t)
        ∙ sym (reduced_clear K (proper K f) (degree K f) (proper_size K f) t))

    -- an element has one denominator and one list of numerators in lowest terms
    pub lowest_terms_unique : (d e : Poly K.ring) (M N : List (Poly K.ring))
        → IsLowest K (degree K f) d M → IsLowest K (degree K f) e N → model_element K f d M
        ≡ model_element K f e N → (d ≡ e) × (M ≡ N)
    unfolding kept to_carrier
    lowest_terms_unique d e M N h k same =
        let p : kept (degree K f) d M h ≡ kept (degree K f) e N k = reduced_one K (degree K f)
        (kept (degree K f) d M h) (kept (degree K f) e N k)
        (sym (element_kept (kept (degree K f) d M h)) ∙ same
        ∙ element_kept (kept (degree K f) e N k)) in (
          ap (λ (t : Reduced K (degree K f)). t.den) p,
          ap (λ (t : Reduced K (degree K f)). t.nums)
              p,
        )

    pub form : (a : (model K f).carrier) → ModelForm K f a
    unfolding from_carrier to_carrier
    form a = go (reduced_of K (degree K f) (from_carrier a))
      where
        go : (t : Reduced K (degree K f)) × (reduced_class K (degree K f) t ≡ from_carrier a)
            → ModelForm K f a
        go t = record {
          den = t.0.den;
          nums = t.0.nums;
          lowest = t.0.lowest;
          stands = element_kept t.0
              ∙ t.1;
        }

    pub algebra_is_tested : IsTested (model K f)
    unfolding model
    algebra_is_tested = algebra_tests K (proper K f) (degree K f) (proper_size K f)

    pub value_map : IsMap (planes K) (model K f) (model_value K f)
    unfolding model model_value
    value_map = plane_value_map K (proper K f) (degree K f) (proper_size K f)

    pub over_clear : (N : Plane K) (d : Poly K.ring)
        → (polynomials K.ring).same d (polynomials K.ring).zero ≡ false
        → (model K f).mul (model_value K f (row_of K.ring d)) (model_over K f N d)
        ≡ model_value K f N
    unfolding model model_value model_inverse
    over_clear N d nd = ring3 A algebra_is_ring (λ d i v. d ⊗ (i ⊗ v)) (λ d i v. (i ⊗ d) ⊗ v) refl
        (model_value K f (row_of K.ring d)) (model_inverse K f d) (model_value K f N)
        ∙ ap (λ t. A.mul t (model_value K f N)) (row_unit K (proper K f) (degree K f)
        (proper_size K f) d nd) ∙ ring1 A algebra_is_ring (λ v. unit ⊗ v) (λ v. v) refl
        (model_value K f N)

    pub cancel_row : (d : Poly K.ring) → (polynomials K.ring).same d (polynomials K.ring).zero
        ≡ false → (a b : (model K f).carrier) → (model K f).mul (model_value K f (row_of K.ring d))
        a ≡ (model K f).mul (model_value K f (row_of K.ring d)) b → a ≡ b
    unfolding model model_value
    cancel_row d nd a b e = row_cancel K (proper K f) (degree K f) (proper_size K f) d nd a b e

    -- division by a polynomial in x is unique
    pub over_one : (N : Plane K) (d : Poly K.ring) (a : (model K f).carrier)
        → (polynomials K.ring).same d (polynomials K.ring).zero ≡ false
        → (model K f).mul (model_value K f (row_of K.ring d)) a ≡ model_value K f N → a
        ≡ model_over K f N d
    unfolding model model_value
    over_one N d a nd e = row_cancel K (proper K f) (degree K f) (proper_size K f) d nd a
        (model_over K f N d) (e ∙ sym (over_clear N d nd))

    pub lowest_nonzero : (n : ℕ) (d : Poly K.ring) (M : List (Poly K.ring)) → IsLowest K n d M
        → (polynomials K.ring).same d (polynomials K.ring).zero ≡ false
    unfolding kept
    lowest_nonzero n d M h = den_nonzero K n (kept n d M h)

    row_product : (d e : Poly K.ring)
        → model_value K f (row_of K.ring ((polynomials K.ring).mul d e))
        ≡ A.mul (model_value K f (row_of K.ring d)) (model_value K f (row_of K.ring e))
    row_product d e = ap (model_value K f)
        ((const_map (polynomials K.ring) (polynomial_domain K).laws
        (polynomial_domain K).tests).on_mul d e)
        ∙ value_map.on_mul (row_of K.ring d) (row_of K.ring e)

    -- the product and the sum of two elements, as a plane over a polynomial in x
    pub mul_exact : (d e : Poly K.ring) (M N : List (Poly K.ring))
        → (polynomials K.ring).same d (polynomials K.ring).zero ≡ false
        → (polynomials K.ring).same e (polynomials K.ring).zero ≡ false
        → (model K f).mul (model_element K f d M) (model_element K f e N)
        ≡ model_over K f ((planes K).mul (poly (polynomials K.ring) M)
        (poly (polynomials K.ring) N)) ((polynomials K.ring).mul d e)
    mul_exact d e M N nd ne = over_one _ _ _ ((polynomial_domain K).no_divisors d e nd ne)
        (ap (λ t. A.mul t (A.mul (model_element K f d M) (model_element K f e N))) (row_product d e)
        ∙ ring4 A algebra_is_ring (λ d e s t. (d ⊗ e) ⊗ (s ⊗ t)) (λ d e s t. (d ⊗ s) ⊗ (e ⊗ t)) refl
        (model_value K f (row_of K.ring d)) (model_value K f (row_of K.ring e))
        (model_element K f d M) (model_element K f e N)
        ∙ ap₂ A.mul (element_clear d M nd) (element_clear e N ne)
        ∙ sym (value_map.on_mul (poly (polynomials K.ring) M) (poly (polynomials K.ring) N)))

    pub add_exact : (d e : Poly K.ring) (M N : List (Poly K.ring))
        → (polynomials K.ring).same d (polynomials K.ring).zero ≡ false
        → (polynomials K.ring).same e (polynomials K.ring).zero ≡ false
        → (model K f).add (model_element K f d M) (model_element K f e N)
        ≡ model_over K f ((planes K).add
        ((planes K).mul (row_of K.ring e) (poly (polynomials K.ring) M))
        ((planes K).mul (row_of K.ring d) (poly (polynomials K.ring) N)))
        ((polynomials K.ring).mul d e)
    add_exact d e M N nd ne = over_one _ _ _ ((polynomial_domain K).no_divisors d e nd ne)
        (ap (λ t. A.mul t (A.add (model_element K f d M) (model_element K f e N))) (row_product d e)
        ∙ ring4 A algebra_is_ring (λ d e s t. (d ⊗ e) ⊗ (s ⊕ t))
        (λ d e s t. e ⊗ (d ⊗ s) ⊕ d ⊗ (e ⊗ t)) refl (model_value K f (row_of K.ring d))
        (model_value K f (row_of K.ring e)) (model_element K f d M) (model_element K f e N)
        ∙ ap₂ (λ s t. A.add (A.mul (model_value K f (row_of K.ring e)) s)
        (A.mul (model_value K f (row_of K.ring d)) t)) (element_clear d M nd) (element_clear e N ne)
        ∙ sym (value_map.on_add _ _
        ∙ ap₂ A.add (value_map.on_mul (row_of K.ring e) (poly (polynomials K.ring) M))
        (value_map.on_mul (row_of K.ring d) (poly (polynomials K.ring) N))))

    -- a remainder of u * N in lowest terms
    pub model_parts : (N : Plane K) (h c : Poly K.ring) (r : Plane K) (d : Poly K.ring)
        (M : List (Poly K.ring))
        → (polynomials K.ring).same h (polynomials K.ring).zero ≡ false
        → (polynomials K.ring).same c (polynomials K.ring).zero ≡ false
        → model_value K f r ≡ (model K f).mul (model_value K f (row_of K.ring c))
        (model_value K f N) → size (polynomials K.ring) r ≤ degree K f
        → IsLowest K (degree K f) d M
        → ((i : ℕ) → i < degree K f → (polynomials K.ring).mul (coeff (polynomials K.ring) M i)
        ((polynomials K.ring).mul c h)
        ≡ (polynomials K.ring).mul (coeff (polynomials K.ring) r.coeffs i) d)
        → model_element K f d M ≡ model_over K f N h
    unfolding model model_value kept to_carrier
    model_parts N h c r d M nh nc division small low cross = over_one N h (model_element K f d M) nh
        (ap (A.mul (model_value K f (row_of K.ring h))) (element_kept (kept (degree K f) d M low))
        ∙ from_parts_value K (proper K f) (degree K f) (proper_size K f) N h c r
        (kept (degree K f) d M low) nh nc division small cross)
