-- The elements of E(f) as a denominator and numerators in lowest terms, and what the code of each
-- operation owes.
use Rattle.std.proofs.Common.{◌≡◌, ℕ, suc, ◌<◌, ◌≤◌, false, List, refl, sym, ◌∙◌, ap, ap₂, arith}
use mathlib.Core.Path.{fun_ext}
use Rattle.ff_theory.specs.Ring.{RingOps, IsCommRing, IsTested}
use Rattle.ff_theory.specs.Lawful.{Domain, Field}
use Rattle.ff_theory.specs.Poly.{coeff, Poly, poly, polynomials}
use Rattle.ff_theory.specs.Division.{size}
use Rattle.ff_theory.specs.Eval.{eval, plane_at}
use Rattle.ff_theory.specs.Planes.{planes, Plane, row_of, IsDivisorOver}
use Rattle.ff_theory.specs.LowestTerms.{IsLowest}
use Rattle.ff_theory.specs.Algebra.{proper, degree, algebra_of, value_of, inverse_of, over_of}
use Rattle.ff_theory.specs.Algebra.{element, Form, constant, x_of, y_of}
use Rattle.ff_theory.proofs.Solver.{◌⊕◌, ◌⊗◌, neg, nil, unit, ring1, ring2, ring3, ring4, ring6}
use Rattle.ff_theory.specs.Map.{IsMap}
use Rattle.ff_theory.proofs.PolyMap.{compose, polynomial_domain}
use Rattle.ff_theory.proofs.Evaluate.{is_eval, const_map}
use Rattle.ff_theory.proofs.Proper.{proper_size, proper_is}
use Rattle.ff_theory.proofs.Algebra.{zero_if_divides}
use Rattle.ff_theory.proofs.AlgebraParts.{low_nonzero}
use Rattle.ff_theory.proofs.Irreducible.{divides_over}
use Rattle.ff_theory.proofs.Model.{model, model_value, model_inverse, model_over, model_element}
use Rattle.ff_theory.proofs.Model.{ModelForm, model_parts, algebra_is_ring as model_laws}
use Rattle.ff_theory.proofs.Model.{value_map as model_map, form as model_form}
use Rattle.ff_theory.proofs.Model.{lowest_terms_unique as model_unique}
use Rattle.ff_theory.proofs.Model.{lowest_nonzero as model_nonzero, over_clear as model_clear}
use Rattle.ff_theory.proofs.NormalForms.{to_model, to_model_one, to_model_value, to_model_inverse}
use Rattle.ff_theory.proofs.NormalForms.{to_model_map, algebra_ring, algebra_tested}

module _ (K : Field) where
  module _ (f : Plane K) where
    abbrev A : RingOps
    A = algebra_of K f

    abbrev M : RingOps
    M = model K f

    ML : IsCommRing (model K f)
    ML = model_laws K f

    pub algebra_is_ring : IsCommRing (algebra_of K f)
    algebra_is_ring = algebra_ring K f

    pub algebra_is_tested : IsTested (algebra_of K f)
    algebra_is_tested = algebra_tested K f

    pub value_map : IsMap (planes K) (algebra_of K f) (value_of K f)
    value_map = record {
      on_zero = by_model (to_model_value K f (planes K).zero ∙ V.on_zero ∙ sym T.on_zero);
      on_one = by_model (to_model_value K f (planes K).one ∙ V.on_one ∙ sym T.on_one);
      on_add = λ a b. by_model (to_model_value K f _ ∙ V.on_add a b
          ∙ sym (T.on_add _ _ ∙ ap₂ M.add (to_model_value K f a) (to_model_value K f b)));
      on_neg = λ a. by_model (to_model_value K f _ ∙ V.on_neg a
          ∙ sym (T.on_neg _ ∙ ap M.neg (to_model_value K f a)));
      on_mul = λ a b. by_model (to_model_value K f _ ∙ V.on_mul a b
          ∙ sym (T.on_mul _ _ ∙ ap₂ M.mul (to_model_value K f a) (to_model_value K f b)));
    }
      where
        V : IsMap (planes K) M (model_value K f)
        V = model_map K f

        T : IsMap A M (to_model K f)
        T = to_model_map K f

        by_model : {a b : A.carrier} → to_model K f a ≡ to_model K f b → a ≡ b
        by_model {a} {b} e = to_model_one K f a b e

    -- a polynomial in x that is not 0 has an inverse
    pub row_inverse : (d : Poly K.ring) → (polynomials K.ring).same d (polynomials K.ring).zero
        ≡ false → (algebra_of K f).mul (inverse_of K f d) (value_of K f (row_of K.ring d))
        ≡ (algebra_of K f).one
    row_inverse d nd = to_model_one K f _ _ ((to_model_map K f).on_mul _ _
        ∙ ap₂ M.mul (to_model_inverse K f d nd) (to_model_value K f (row_of K.ring d))
        ∙ ML.mul_comm _ _ ∙ ap (M.mul (model_value K f (row_of K.ring d))) (sym (ML.mul_one _)
        ∙ ap (M.mul (model_inverse K f d)) (sym (model_map K f).on_one))
        ∙ model_clear K f (planes K).one d nd ∙ (model_map K f).on_one
        ∙ sym (to_model_map K f).on_one)

    -- the same elements in the model
    element_model : (den : Poly K.ring) (nums : List (Poly K.ring))
        → (polynomials K.ring).same den (polynomials K.ring).zero ≡ false
        → to_model K f (element K f den nums) ≡ model_element K f den nums
    unfolding element model_element
    element_model den nums nd = (to_model_map K f).on_mul _ _
        ∙ ap₂ M.mul (to_model_inverse K f den nd)
        (to_model_value K f (poly (polynomials K.ring) nums))

    over_model : (N : Plane K) (d : Poly K.ring)
        → (polynomials K.ring).same d (polynomials K.ring).zero ≡ false
        → to_model K f (over_of K f N d) ≡ model_over K f N d
    over_model N d nd = (to_model_map K f).on_mul _ _
        ∙ ap₂ M.mul (to_model_inverse K f d nd) (to_model_value K f N)

    pub element_clear : (den : Poly K.ring) (nums : List (Poly K.ring))
        → (polynomials K.ring).same den (polynomials K.ring).zero ≡ false
        → (algebra_of K f).mul (value_of K f (row_of K.ring den)) (element K f den nums)
        ≡ value_of K f (poly (polynomials K.ring) nums)
    unfolding element
    element_clear den nums nd = ring3 A algebra_is_ring (λ d i v. d ⊗ (i ⊗ v))
        (λ d i v. (i ⊗ d) ⊗ v) refl (value_of K f (row_of K.ring den)) (inverse_of K f den)
        (value_of K f (poly (polynomials K.ring) nums))
        ∙ ap (λ t. A.mul t (value_of K f (poly (polynomials K.ring) nums))) (row_inverse den nd)
        ∙ ring1 A algebra_is_ring (λ v. unit ⊗ v) (λ v. v) refl
        (value_of K f (poly (polynomials K.ring) nums))

    pub lowest_nonzero : (n : ℕ) (d : Poly K.ring) (N : List (Poly K.ring)) → IsLowest K n d N
        → (polynomials K.ring).same d (polynomials K.ring).zero ≡ false
    lowest_nonzero n d N h = model_nonzero K f n d N h

    -- an element has one denominator and one list of numerators in lowest terms
    pub lowest_terms_unique : (d e : Poly K.ring) (N O : List (Poly K.ring))
        → IsLowest K (degree K f) d N → IsLowest K (degree K f) e O → element K f d N
        ≡ element K f e O → (d ≡ e) × (N ≡ O)
    lowest_terms_unique d e N O h k same = model_unique K f d e N O h k
        (sym (element_model d N (lowest_nonzero (degree K f) d N h)) ∙ ap (to_model K f) same
        ∙ element_model e O (lowest_nonzero (degree K f) e O k))

    pub form : (a : (algebra_of K f).carrier) → Form K f a
    form a = go (model_form K f (to_model K f a))
      where
        go : ModelForm K f (to_model K f a) → Form K f a
        go g = record {
          den = g.den;
          nums = g.nums;
          lowest = g.lowest;
          stands = to_model_one K f _ _
              (element_model g.den g.nums (lowest_nonzero (degree K f) g.den g.nums g.lowest)
              ∙ g.stands);
        }

    -- the value of a plane is its value at x and y
    pub value_at_xy : (N : Plane K) → value_of K f N
        ≡ plane_at K.ring (algebra_of K f) (constant K f) (x_of K f) (y_of K f) N
    unfolding eval constant x_of y_of
    value_at_xy N = is_eval (polynomials K.ring) A D.laws D.tests (value_of K f) VM N
        ∙ ap (λ (h : Poly K.ring → A.carrier). eval (polynomials K.ring) A h (y_of K f) N)
        (fun_ext (λ c. is_eval K.ring A K.laws K.tests (λ c. value_of K f (row_of K.ring c))
        (compose D.ring (planes K) A (row_of K.ring) (value_of K f)
        (const_map D.ring D.laws D.tests) VM) c))
      where
        D : Domain
        D = polynomial_domain K

        VM : IsMap (planes K) A (value_of K f)
        VM = value_map

    pub over_clear : (N : Plane K) (d : Poly K.ring)
        → (polynomials K.ring).same d (polynomials K.ring).zero ≡ false
        → (algebra_of K f).mul (value_of K f (row_of K.ring d)) (over_of K f N d) ≡ value_of K f N
    over_clear N d nd = ring3 A algebra_is_ring (λ d i v. d ⊗ (i ⊗ v)) (λ d i v. (i ⊗ d) ⊗ v) refl
        (value_of K f (row_of K.ring d)) (inverse_of K f d) (value_of K f N)
        ∙ ap (λ t. A.mul t (value_of K f N)) (row_inverse d nd)
        ∙ ring1 A algebra_is_ring (λ v. unit ⊗ v) (λ v. v) refl (value_of K f N)

    pub cancel_row : (d : Poly K.ring) → (polynomials K.ring).same d (polynomials K.ring).zero
        ≡ false → (a b : (algebra_of K f).carrier)
        → (algebra_of K f).mul (value_of K f (row_of K.ring d)) a
        ≡ (algebra_of K f).mul (value_of K f (row_of K.ring d)) b → a ≡ b
    cancel_row d nd a b e = sym (back a) ∙ ap (A.mul (inverse_of K f d)) e ∙ back b
      where
        back : (a : A.carrier) → A.mul (inverse_of K f d) (A.mul (value_of K f (row_of K.ring d)) a)
            ≡ a
        back a = sym (algebra_is_ring.mul_assoc _ _ a) ∙ ap (λ t. A.mul t a) (row_inverse d nd)
            ∙ ring1 A algebra_is_ring (λ a. unit ⊗ a) (λ a. a) refl a

    -- division by a polynomial in x is unique
    pub over_one : (N : Plane K) (d : Poly K.ring) (a : (algebra_of K f).carrier)
        → (polynomials K.ring).same d (polynomials K.ring).zero ≡ false
        → (algebra_of K f).mul (value_of K f (row_of K.ring d)) a ≡ value_of K f N → a
        ≡ over_of K f N d
    over_one N d a nd e = cancel_row d nd a (over_of K f N d) (e ∙ sym (over_clear N d nd))

    row_product : (d e : Poly K.ring) → value_of K f (row_of K.ring ((polynomials K.ring).mul d e))
        ≡ A.mul (value_of K f (row_of K.ring d)) (value_of K f (row_of K.ring e))
    row_product d e = ap (value_of K f)
        ((const_map (polynomials K.ring) (polynomial_domain K).laws
        (polynomial_domain K).tests).on_mul d e)
        ∙ value_map.on_mul (row_of K.ring d) (row_of K.ring e)

    -- the product and the sum of two elements, as a plane over a polynomial in x
    pub mul_exact : (d e : Poly K.ring) (M N : List (Poly K.ring))
        → (polynomials K.ring).same d (polynomials K.ring).zero ≡ false
        → (polynomials K.ring).same e (polynomials K.ring).zero ≡ false
        → (algebra_of K f).mul (element K f d M) (element K f e N)
        ≡ over_of K f ((planes K).mul (poly (polynomials K.ring) M) (poly (polynomials K.ring) N))
        ((polynomials K.ring).mul d e)
    mul_exact d e M N nd ne = over_one _ _ _ ((polynomial_domain K).no_divisors d e nd ne)
        (ap (λ t. A.mul t (A.mul (element K f d M) (element K f e N))) (row_product d e)
        ∙ ring4 A algebra_is_ring (λ d e s t. (d ⊗ e) ⊗ (s ⊗ t)) (λ d e s t. (d ⊗ s) ⊗ (e ⊗ t)) refl
        (value_of K f (row_of K.ring d)) (value_of K f (row_of K.ring e)) (element K f d M)
        (element K f e N)
        ∙ ap₂ A.mul (element_clear d M nd) (element_clear e N ne)
        ∙ sym (value_map.on_mul (poly (polynomials K.ring) M) (poly (polynomials K.ring) N)))

    pub add_exact : (d e : Poly K.ring) (M N : List (Poly K.ring))
        → (polynomials K.ring).same d (polynomials K.ring).zero ≡ false
        → (polynomials K.ring).same e (polynomials K.ring).zero ≡ false
        → (algebra_of K f).add (element K f d M) (element K f e N)
        ≡ over_of K f ((planes K).add
        ((planes K).mul (row_of K.ring e) (poly (polynomials K.ring) M))
        ((planes K).mul (row_of K.ring d) (poly (polynomials K.ring) N)))
        ((polynomials K.ring).mul d e)
    add_exact d e M N nd ne = over_one _ _ _ ((polynomial_domain K).no_divisors d e nd ne)
        (ap (λ t. A.mul t (A.add (element K f d M) (element K f e N))) (row_product d e)
        ∙ ring4 A algebra_is_ring (λ d e s t. (d ⊗ e) ⊗ (s ⊕ t))
        (λ d e s t. e ⊗ (d ⊗ s) ⊕ d ⊗ (e ⊗ t)) refl (value_of K f (row_of K.ring d))
        (value_of K f (row_of K.ring e)) (element K f d M) (element K f e N)
        ∙ ap₂ (λ s t. A.add (A.mul (value_of K f (row_of K.ring e)) s)
        (A.mul (value_of K f (row_of K.ring d)) t)) (element_clear d M nd) (element_clear e N ne)
        ∙ sym (value_map.on_add _ _
        ∙ ap₂ A.add (value_map.on_mul (row_of K.ring e) (poly (polynomials K.ring) M))
        (value_map.on_mul (row_of K.ring d) (poly (polynomials K.ring) N))))

    -- what from_parts owes: a pseudo-remainder in lowest terms
    pub from_parts_exact : (N : Plane K) (h c : Poly K.ring) (r : Plane K) (d : Poly K.ring)
        (M : List (Poly K.ring)) → ¬ (size (polynomials K.ring) f ≡ 0)
        → (polynomials K.ring).same h (polynomials K.ring).zero ≡ false
        → (polynomials K.ring).same c (polynomials K.ring).zero ≡ false
        → value_of K f r ≡ (algebra_of K f).mul (value_of K f (row_of K.ring c)) (value_of K f N)
        → size (polynomials K.ring) r < size (polynomials K.ring) f
        → IsLowest K (degree K f) d M
        → ((i : ℕ) → i < degree K f → (polynomials K.ring).mul (coeff (polynomials K.ring) M i)
        ((polynomials K.ring).mul c h)
        ≡ (polynomials K.ring).mul (coeff (polynomials K.ring) r.coeffs i) d)
        → element K f d M ≡ over_of K f N h
    from_parts_exact N h c r d L nf nh nc division small low cross = to_model_one K f _ _
        (element_model d L (lowest_nonzero (degree K f) d L low)
        ∙ model_parts K f N h c r d L nh nc (sym (to_model_value K f r) ∙ ap (to_model K f) division
        ∙ (to_model_map K f).on_mul _ _ ∙ ap₂ M.mul (to_model_value K f (row_of K.ring c))
        (to_model_value K f N))
        (let e : size (polynomials K.ring) (proper K f)
        ≡ size (polynomials K.ring) f = ap (size (polynomials K.ring)) (proper_is K f nf) in
        let k : size (polynomials K.ring) (proper K f) ≡ suc (degree K f) = proper_size K f in omega
        (arith, e, k, small)) low cross
        ∙ sym (over_model N h nh))

    -- a plane of low degree that is not 0 has a value that is not 0
    pub low_value : (N : Plane K) → size (polynomials K.ring) N ≤ degree K f
        → ¬ (N ≡ (planes K).zero) → ¬ (value_of K f N ≡ (algebra_of K f).zero)
    unfolding model model_value
    low_value N small some e = low_nonzero K (proper K f) (degree K f) (proper_size K f) N small
        some (sym (to_model_value K f N) ∙ ap (to_model K f) e ∙ (to_model_map K f).on_zero)

    -- f divides N over k(x) : the value of N is 0
    pub zero_exact : (N : Plane K) → IsDivisorOver K.ring (proper K f) N → value_of K f N
        ≡ (algebra_of K f).zero
    unfolding model model_value
    zero_exact N d = to_model_one K f _ _ (to_model_value K f N
        ∙ zero_if_divides K (proper K f) (degree K f) (proper_size K f) N d
        ∙ sym (to_model_map K f).on_zero)

    -- and nowhere else
    pub divides_exact : (N : Plane K) → value_of K f N ≡ (algebra_of K f).zero
        → IsDivisorOver K.ring (proper K f) N
    unfolding model model_value
    divides_exact N e = divides_over K (proper K f) (degree K f) (proper_size K f) N
        (sym (to_model_value K f N) ∙ ap (to_model K f) e ∙ (to_model_map K f).on_zero)

    -- the inverse, from u and c such that f divides u * num - c over k(x)
    pub inverse_exact : (d : Poly K.ring) (M : List (Poly K.ring)) (u : Plane K) (c : Poly K.ring)
        → (polynomials K.ring).same d (polynomials K.ring).zero ≡ false
        → (polynomials K.ring).same c (polynomials K.ring).zero ≡ false
        → value_of K f ((planes K).mul u (poly (polynomials K.ring) M))
        ≡ value_of K f (row_of K.ring c)
        → (algebra_of K f).mul (over_of K f ((planes K).mul (row_of K.ring d) u) c)
        (element K f d M) ≡ (algebra_of K f).one
    inverse_exact d M u c nd nc e = cancel_row c nc _ _
        (ring3 A algebra_is_ring (λ c o a. c ⊗ (o ⊗ a)) (λ c o a. (c ⊗ o) ⊗ a) refl
        (value_of K f (row_of K.ring c)) (over_of K f ((planes K).mul (row_of K.ring d) u) c)
        (element K f d M)
        ∙ ap (λ t. A.mul t (element K f d M)) (over_clear ((planes K).mul (row_of K.ring d) u) c nc
        ∙ value_map.on_mul (row_of K.ring d) u) ∙ ring3 A algebra_is_ring (λ d u a. (d ⊗ u) ⊗ a)
        (λ d u a. u ⊗ (d ⊗ a)) refl (value_of K f (row_of K.ring d)) (value_of K f u)
        (element K f d M)
        ∙ ap (A.mul (value_of K f u)) (element_clear d M nd)
        ∙ sym (value_map.on_mul u (poly (polynomials K.ring) M)) ∙ e
        ∙ sym (algebra_is_ring.mul_one (value_of K f (row_of K.ring c))))

    pub equation : ¬ (size (polynomials K.ring) f ≡ 0) → value_of K f f ≡ (algebra_of K f).zero
    equation nf = ap (value_of K f) (sym (proper_is K f nf)) ∙ zero_exact (proper K f) (record {
      scalar = (polynomials K.ring).one;
      nonzero = (polynomial_domain K).proper;
      quotient = (planes K).one;
      product = refl;
    })

    -- loop invariants: a step of pseudo-division by f
    pub reduce_step : (N r q s : Plane K) (c e : Poly K.ring) → ¬ (size (polynomials K.ring) f ≡ 0)
        → value_of K f r ≡ (algebra_of K f).mul (value_of K f (row_of K.ring c)) (value_of K f N)
        → (planes K).mul (row_of K.ring e) r ≡ (planes K).add ((planes K).mul q f) s
        → value_of K f s ≡ (algebra_of K f).mul
        (value_of K f (row_of K.ring ((polynomials K.ring).mul e c))) (value_of K f N)
    reduce_step N r q s c e nf h k = sym (ap (λ t. A.mul t (value_of K f N)) (row_product e c)
        ∙ algebra_is_ring.mul_assoc (value_of K f (row_of K.ring e))
        (value_of K f (row_of K.ring c)) (value_of K f N)
        ∙ ap (A.mul (value_of K f (row_of K.ring e))) (sym h)
        ∙ sym (value_map.on_mul (row_of K.ring e) r) ∙ ap (value_of K f) k
        ∙ value_map.on_add ((planes K).mul q f) s
        ∙ ap (λ t. A.add t (value_of K f s)) (value_map.on_mul q f
        ∙ ap (A.mul (value_of K f q)) (equation nf)) ∙ ring2 A algebra_is_ring (λ q s. q ⊗ nil ⊕ s)
        (λ q s. s) refl (value_of K f q) (value_of K f s))

    -- and a step of Euclid's loop: s * a is r for both pairs
    pub euclid_step : (a : (algebra_of K f).carrier) (r0 r1 r2 s0 s1 q : Plane K) (c : Poly K.ring)
        → (algebra_of K f).mul (value_of K f s0) a ≡ value_of K f r0
        → (algebra_of K f).mul (value_of K f s1) a ≡ value_of K f r1
        → (planes K).mul (row_of K.ring c) r0 ≡ (planes K).add ((planes K).mul q r1) r2
        → (algebra_of K f).mul (value_of K f ((planes K).add ((planes K).mul (row_of K.ring c) s0)
        ((planes K).neg ((planes K).mul q s1)))) a ≡ value_of K f r2
    euclid_step a r0 r1 r2 s0 s1 q c h k e =
        ap (λ t. A.mul t a) (value_map.on_add _ _
        ∙ ap₂ A.add (value_map.on_mul (row_of K.ring c) s0)
        (value_map.on_neg ((planes K).mul q s1) ∙ ap A.neg (value_map.on_mul q s1)))
        ∙ ring6 A algebra_is_ring (λ c s q t a z. (c ⊗ s ⊕ neg (q ⊗ t)) ⊗ a)
        (λ c s q t a z. c ⊗ (s ⊗ a) ⊕ neg (q ⊗ (t ⊗ a))) refl (value_of K f (row_of K.ring c))
        (value_of K f s0) (value_of K f q) (value_of K f s1) a a
        ∙ ap₂ (λ x y. A.add (A.mul (value_of K f (row_of K.ring c)) x)
        (A.neg (A.mul (value_of K f q) y))) h k
        ∙ ap (λ t. A.add t (A.neg (A.mul (value_of K f q) (value_of K f r1))))
        (sym (value_map.on_mul (row_of K.ring c) r0) ∙ ap (value_of K f) e ∙ value_map.on_add _ _
        ∙ ap (λ t. A.add t (value_of K f r2)) (value_map.on_mul q r1))
        ∙ ring3 A algebra_is_ring (λ q r s. (q ⊗ r ⊕ s) ⊕ neg (q ⊗ r)) (λ q r s. s) refl
        (value_of K f q) (value_of K f r1) (value_of K f r2)

    -- and the removal of a common factor of all rows
    pub content_step : (a : (algebra_of K f).carrier) (r s r' s' : Plane K) (g : Poly K.ring)
        → (polynomials K.ring).same g (polynomials K.ring).zero ≡ false
        → (planes K).mul (row_of K.ring g) r' ≡ r → (planes K).mul (row_of K.ring g) s' ≡ s
        → (algebra_of K f).mul (value_of K f s) a ≡ value_of K f r
        → (algebra_of K f).mul (value_of K f s') a ≡ value_of K f r'
    content_step a r s r' s' g ng hr hs e = cancel_row g ng _ _
        (sym (algebra_is_ring.mul_assoc (value_of K f (row_of K.ring g)) (value_of K f s') a)
        ∙ ap (λ t. A.mul t a) (sym (value_map.on_mul (row_of K.ring g) s') ∙ ap (value_of K f) hs)
        ∙ e ∙ ap (value_of K f) (sym hr) ∙ value_map.on_mul (row_of K.ring g) r')
