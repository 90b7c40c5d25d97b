-- The elements of E(f), fractions N / d in lowest terms, are the classes of polynomials over k(x)
-- modulo f.
use Rattle.std.proofs.Common.{◌≡◌, ℕ, zero, suc, ◌<◌, ◌≤◌, ◌⊎◌, inl, inr, Bool, true, false, cond}
use Rattle.std.proofs.Common.{◌&&◌, List, [], ◌∷◌, refl, sym, ◌∙◌, ap, ap₂, subst, arith}
use Rattle.std.proofs.lemmas.Bool.{cases_lt}
use mathlib.Core.HLevel.{is_prop→PathP}
use mathlib.Core.Logic.{∥∥₁_prop}
use Rattle.ff_theory.specs.Ring.{RingOps, IsCommRing, IsTested}
use Rattle.ff_theory.specs.Lawful.{Domain, Field}
use Rattle.ff_theory.specs.Poly.{coeff, Poly, poly, polynomials}
use Rattle.ff_theory.specs.Division.{size, leading_coeff}
use Rattle.ff_theory.specs.Monomial.{variable}
use Rattle.ff_theory.specs.Planes.{planes, Plane, row_of}
use Rattle.ff_theory.specs.LowestTerms.{IsLowest}
use Rattle.ff_theory.specs.Algebra.{proper, degree, multiplier, lowered, rest, over_nonzero}
use Rattle.ff_theory.specs.Algebra.{numerator, den_of, nums_of, Reduces, Fraction, fraction, sum_of}
use Rattle.ff_theory.specs.Algebra.{algebra_of, value_of, inverse_of}
use Rattle.ff_theory.proofs.Solver.{◌⊕◌, ◌⊗◌, neg, nil, unit, ring1, ring2, ring3, ring6, mul_zero}
use Rattle.ff_theory.specs.Map.{IsMap}
use Rattle.ff_theory.proofs.Transfer.{ring_by_onto}
use Rattle.ff_theory.proofs.Booleans.{both}
use Rattle.ff_theory.proofs.Poly.{Poly_path, trim-coeff, trim_same, polynomial_laws}
use Rattle.ff_theory.proofs.Poly.{polynomial_tests}
use Rattle.ff_theory.proofs.Division.{add_at, neg_at, const_mul_at, x_mul_suc, zero_from}
use Rattle.ff_theory.proofs.Division.{top_nonzero, size_le, cons}
use Rattle.ff_theory.proofs.PolyMap.{polynomial_domain, same_false}
use Rattle.ff_theory.proofs.Evaluate.{const_map}
use Rattle.ff_theory.proofs.LowestTerms.{lowest_prop, lowest_is_lowest, lowest_cross}
use Rattle.ff_theory.proofs.Proper.{proper_size}
use Rattle.ff_theory.proofs.Algebra.{equation_zero}
use Rattle.ff_theory.proofs.Model.{model, model_value, model_inverse, model_over, model_element}
use Rattle.ff_theory.proofs.Model.{ModelForm, algebra_is_ring, value_map, form, lowest_terms_unique}
use Rattle.ff_theory.proofs.Model.{lowest_nonzero, over_one, mul_exact, add_exact, model_parts}

module _ (K : Field) (f : Plane K) where
  abbrev D : Domain
  D = polynomial_domain K

  abbrev P : RingOps
  P = planes K

  PL : IsCommRing (planes K)
  PL = polynomial_laws D.ring D.laws D.tests

  abbrev M : RingOps
  M = model K f

  ML : IsCommRing (model K f)
  ML = algebra_is_ring K f

  V : IsMap (planes K) (model K f) (model_value K f)
  V = value_map K f

  abbrev v : Plane K → M.carrier
  v N = model_value K f N

  abbrev n : ℕ
  n = degree K f

  abbrev leading_row : Poly K.ring
  leading_row = leading_coeff (polynomials K.ring) (proper K f)

  has : size (polynomials K.ring) (proper K f) ≡ suc (degree K f)
  has = proper_size K f

  equation : model_value K f (proper K f) ≡ (model K f).zero
  unfolding model model_value
  equation = equation_zero K (proper K f) (degree K f) (proper_size K f)

  lead_nonzero : (polynomials K.ring).same (leading_row) (polynomials K.ring).zero ≡ false
  lead_nonzero = same_false D.ring D.tests (leading_row) D.zero (top_nonzero D.ring D.laws D.tests
      (proper K f) (degree K f) has)

  multiplier_nonzero : (N : List (Poly K.ring)) → (polynomials K.ring).same (multiplier K f N)
      (polynomials K.ring).zero ≡ false
  multiplier_nonzero [] = D.proper
  multiplier_nonzero (c ∷ N) = D.no_divisors (leading_row) (multiplier K f N) lead_nonzero
      (multiplier_nonzero N)

  row_product : (d e : Poly K.ring) → v (row_of K.ring (D.mul d e))
      ≡ M.mul (v (row_of K.ring d)) (v (row_of K.ring e))
  row_product d e = ap v ((const_map D.ring D.laws D.tests).on_mul d e)
      ∙ V.on_mul (row_of K.ring d) (row_of K.ring e)

  -- the next dividend, and its remainder
  abbrev next : List (Poly K.ring) → Poly K.ring → Plane K
  next N c = P.add (row_of K.ring (D.mul (multiplier K f N) c))
      (P.mul (variable D.ring) (rest K f N))

  lowered_value : (s : Plane K) → v (lowered K f s) ≡ M.mul (v (row_of K.ring (leading_row))) (v s)
  lowered_value s = V.on_add _ _ ∙ ap₂ M.add (V.on_mul (row_of K.ring (leading_row)) s) (V.on_neg _
      ∙ ap M.neg (V.on_mul _ (proper K f) ∙ ap (M.mul _) equation))
      ∙ ring3 M ML (λ l s t. l ⊗ s ⊕ neg (t ⊗ nil)) (λ l s t. l ⊗ s) refl
      (v (row_of K.ring (leading_row))) (v s) (v (row_of K.ring (coeff D.ring s.coeffs n)))

  rest_value : (N : List (Poly K.ring)) → v (rest K f N)
      ≡ M.mul (v (row_of K.ring (multiplier K f N))) (v (poly D.ring N))
  rest_value [] = V.on_zero ∙ sym (ap (M.mul _) V.on_zero ∙ mul_zero M ML _)
  rest_value (c ∷ N) = lowered_value (next N c)
      ∙ ap (M.mul (v (row_of K.ring (leading_row)))) (V.on_add _ _
      ∙ ap₂ M.add (row_product (multiplier K f N) c) (V.on_mul (variable D.ring) (rest K f N)
      ∙ ap (M.mul (v (variable D.ring))) (rest_value N)))
      ∙ ring6 M ML (λ l m c y p t. l ⊗ (m ⊗ c ⊕ y ⊗ (m ⊗ p))) (λ l m c y p t. (l ⊗ m) ⊗ (c ⊕ y ⊗ p))
      refl (v (row_of K.ring (leading_row))) (v (row_of K.ring (multiplier K f N)))
      (v (row_of K.ring c)) (v (variable D.ring)) (v (poly D.ring N)) (v (variable D.ring))
      ∙ ap₂ M.mul (sym (row_product (leading_row) (multiplier K f N)))
      (sym (ap v (cons D.ring D.laws D.tests c N)
      ∙ V.on_add (row_of K.ring c) (P.mul (variable D.ring) (poly D.ring N))
      ∙ ap (M.add (v (row_of K.ring c))) (V.on_mul (variable D.ring) (poly D.ring N))))

  next_past : (N : List (Poly K.ring)) (c : Poly K.ring) → size D.ring (rest K f N) ≤ n → (i : ℕ)
      → suc n ≤ i → coeff D.ring (next N c).coeffs i ≡ D.zero
  unfolding poly
  next_past N c h zero l = absurd (omega arith)
  next_past N c h (suc i) l = add_at D.ring D.laws D.tests
      (row_of K.ring (D.mul (multiplier K f N) c)) (P.mul (variable D.ring) (rest K f N)) (suc i)
      ∙ ap (λ t. D.add t (coeff D.ring (P.mul (variable D.ring) (rest K f N)).coeffs (suc i)))
      (trim-coeff D.ring D.laws D.tests (D.mul (multiplier K f N) c ∷ []) (suc i))
      ∙ ap (D.add D.zero) (x_mul_suc D.ring D.laws D.tests (rest K f N) i
      ∙ zero_from D.ring D.laws D.tests (rest K f N) i (omega arith)) ∙ D.laws.add_zero D.zero

  lowered_at : (s : Plane K) (i : ℕ) → coeff D.ring (lowered K f s).coeffs i
      ≡ D.add (D.mul (leading_row) (coeff D.ring s.coeffs i))
      (D.neg (D.mul (coeff D.ring s.coeffs n) (coeff D.ring (proper K f).coeffs i)))
  lowered_at s i = add_at D.ring D.laws D.tests (P.mul (row_of K.ring (leading_row)) s)
      (P.neg (P.mul (row_of K.ring (coeff D.ring s.coeffs n)) (proper K f))) i
      ∙ ap₂ D.add (const_mul_at D.ring D.laws D.tests (leading_row) s i)
      (neg_at D.ring D.laws D.tests (P.mul (row_of K.ring (coeff D.ring s.coeffs n)) (proper K f)) i
      ∙ ap D.neg (const_mul_at D.ring D.laws D.tests (coeff D.ring s.coeffs n) (proper K f) i))

  lowered_small : (s : Plane K) → ((i : ℕ) → suc n ≤ i → coeff D.ring s.coeffs i ≡ D.zero)
      → size D.ring (lowered K f s) ≤ n
  lowered_small s past = size_le D.ring D.laws D.tests (lowered K f s) n (λ i l. lowered_at s i
      ∙ go i (cases_lt n i) l)
    where
      go : (i : ℕ) → (n < i) ⊎ (i ≤ n) → n ≤ i
          → D.add (D.mul (leading_row) (coeff D.ring s.coeffs i))
          (D.neg (D.mul (coeff D.ring s.coeffs n) (coeff D.ring (proper K f).coeffs i))) ≡ D.zero
      go i (inl k) l = ap₂ (λ a b. D.add (D.mul (leading_row) a)
          (D.neg (D.mul (coeff D.ring s.coeffs n) b))) (past i (omega arith))
          (zero_from D.ring D.laws D.tests (proper K f) i (omega (arith, has)))
          ∙ ring2 D.ring D.laws (λ a b. a ⊗ nil ⊕ neg (b ⊗ nil)) (λ a b. nil) refl (leading_row)
          (coeff D.ring s.coeffs n)
      go i (inr k) l = let e : i ≡ n = omega arith in ap
          (λ j. D.add (D.mul (leading_row) (coeff D.ring s.coeffs j))
          (D.neg (D.mul (coeff D.ring s.coeffs n) (coeff D.ring (proper K f).coeffs j)))) e
          ∙ ring2 D.ring D.laws (λ a b. a ⊗ b ⊕ neg (b ⊗ a)) (λ a b. nil) refl (leading_row)
          (coeff D.ring s.coeffs n)

  rest_small : (N : List (Poly K.ring)) → size D.ring (rest K f N) ≤ n
  unfolding poly
  rest_small [] = omega arith
  rest_small (c ∷ N) = lowered_small (next N c) (next_past N c (rest_small N))

  -- N / d in lowest terms
  over_nonzero-nonzero : (d : Poly K.ring) → (polynomials K.ring).same (over_nonzero K f d)
      (polynomials K.ring).zero ≡ false
  over_nonzero-nonzero d = go (D.same d D.zero) refl
    where
      go : (b : Bool) → D.same d D.zero ≡ b → D.same (cond b D.one d) D.zero ≡ false
      go true e = D.proper
      go false e = e

  abbrev scale : Plane K → Poly K.ring → Poly K.ring
  scale N d = D.mul (multiplier K f (numerator K f N d).coeffs) (over_nonzero K f d)

  scale_nonzero : (N : Plane K) (d : Poly K.ring) → D.same (scale N d) D.zero ≡ false
  scale_nonzero N d = D.no_divisors _ _ (multiplier_nonzero (numerator K f N d).coeffs)
      (over_nonzero-nonzero d)

  reduced_lowest : (N : Plane K) (d : Poly K.ring) → IsLowest K (degree K f) (den_of K f N d)
      (nums_of K f N d)
  unfolding den_of nums_of
  reduced_lowest N d = lowest_is_lowest K n (scale N d)
      (coeff D.ring (rest K f (numerator K f N d).coeffs).coeffs) (scale_nonzero N d)

  reduced_value : (N : Plane K) (d : Poly K.ring)
      → model_element K f (den_of K f N d) (nums_of K f N d)
      ≡ model_over K f (numerator K f N d) (over_nonzero K f d)
  unfolding den_of nums_of poly
  reduced_value N d = model_parts K f (numerator K f N d) (over_nonzero K f d)
      (multiplier K f (numerator K f N d).coeffs) (rest K f (numerator K f N d).coeffs) _ _
      (over_nonzero-nonzero d) (multiplier_nonzero (numerator K f N d).coeffs)
      (rest_value (numerator K f N d).coeffs
      ∙ ap (λ t. M.mul (v (row_of K.ring (multiplier K f (numerator K f N d).coeffs))) (v t))
      (back (numerator K f N d)))
      (rest_small (numerator K f N d).coeffs) (reduced_lowest N d)
      (lowest_cross K n (scale N d) (coeff D.ring (rest K f (numerator K f N d).coeffs).coeffs)
      (scale_nonzero N d))
    where
      back : (N : Plane K) → poly D.ring N.coeffs ≡ N
      back N = Poly_path D.ring _ N (trim_same D.ring D.laws D.tests N.coeffs N.canonical)

  -- the class of an element
  abbrev pub class_value : Fraction K f → (model K f).carrier
  class_value a = model_element K f a.den a.nums

  fraction_value : (N : Plane K) (d : Poly K.ring)
      → (polynomials K.ring).same d (polynomials K.ring).zero ≡ false
      → class_value (fraction K f N d) ≡ model_over K f N d
  fraction_value N d nd = reduced_value N d
      ∙ ap (λ b. model_over K f (cond b P.zero N) (cond b D.one d)) nd

  lowest_of : (a : Fraction K f) → IsLowest K (degree K f) a.den a.nums
  lowest_of a = ∥∥₁_rec (lowest_prop K n a.den a.nums) (λ r. subst (λ N. IsLowest K n a.den N)
      (sym r.nums_is) (subst (λ d. IsLowest K n d (nums_of K f r.numerators r.denominator))
      (sym r.den_is) (reduced_lowest r.numerators r.denominator))) a.reduces

  den_nonzero : (a : Fraction K f) → (polynomials K.ring).same a.den (polynomials K.ring).zero
      ≡ false
  den_nonzero a = lowest_nonzero K f n a.den a.nums (lowest_of a)

  Fraction_path : (a b : Fraction K f) → a.den ≡ b.den → a.nums ≡ b.nums → a ≡ b
  Fraction_path a b e h = λ i. record {
    den = e i;
    nums = h i;
    reduces = is_prop→PathP
        (λ i. ∥ Reduces K f (e i) (h i) ∥₁) (λ i. ∥∥₁_prop) a.reduces b.reduces i;
  }

  value_one : (a b : Fraction K f) → class_value a ≡ class_value b → a ≡ b
  value_one a b e = let same = lowest_terms_unique K f a.den b.den a.nums b.nums (lowest_of a)
      (lowest_of b) e in Fraction_path a b same.0 same.1

  inverse_one : model_inverse K f (polynomials K.ring).one ≡ (model K f).one
  inverse_one = sym (ML.mul_one _) ∙ ap (M.mul (model_inverse K f D.one)) (sym V.on_one)
      ∙ sym (over_one K f P.one D.one M.one D.proper (ML.mul_one _))

  over_whole : (N : Plane K) → model_over K f N (polynomials K.ring).one ≡ model_value K f N
  over_whole N = ap (λ t. M.mul t (v N)) inverse_one ∙ ring1 M ML (λ a. unit ⊗ a) (λ a. a) refl
      (v N)

  -- E(f) and the classes
  pub to_model : (algebra_of K f).carrier → (model K f).carrier
  unfolding algebra_of
  to_model a = class_value a

  pub to_model_one : (a b : (algebra_of K f).carrier) → to_model a ≡ to_model b → a ≡ b
  unfolding algebra_of to_model
  to_model_one a b e = value_one a b e

  pub to_model_value : (N : Plane K) → to_model (value_of K f N) ≡ model_value K f N
  unfolding algebra_of to_model value_of
  to_model_value N = fraction_value N D.one D.proper ∙ over_whole N

  pub to_model_inverse : (d : Poly K.ring) → (polynomials K.ring).same d (polynomials K.ring).zero
      ≡ false → to_model (inverse_of K f d) ≡ model_inverse K f d
  unfolding algebra_of to_model inverse_of
  to_model_inverse d nd = fraction_value P.one d nd ∙ ap (M.mul (model_inverse K f d)) V.on_one
      ∙ ML.mul_one _

  pub to_model_map : IsMap (algebra_of K f) (model K f) to_model
  unfolding algebra_of to_model model_element
  to_model_map = record {
    on_zero = fraction_value P.zero D.one D.proper ∙ over_whole P.zero ∙ V.on_zero;
    on_one = fraction_value P.one D.one D.proper ∙ over_whole P.one ∙ V.on_one;
    on_add = λ a b. fraction_value _ _ (D.no_divisors _ _ (den_nonzero a) (den_nonzero b))
        ∙ sym (add_exact K f a.den b.den a.nums b.nums (den_nonzero a) (den_nonzero b));
    on_neg = λ a. fraction_value _ _ (den_nonzero a)
        ∙ ap (M.mul (model_inverse K f a.den)) (V.on_neg (sum_of K f a))
        ∙ ring2 M ML (λ i s. i ⊗ neg s) (λ i s. neg (i ⊗ s)) refl (model_inverse K f a.den)
        (v (sum_of K f a));
    on_mul = λ a b. fraction_value _ _ (D.no_divisors _ _ (den_nonzero a) (den_nonzero b))
        ∙ sym (mul_exact K f a.den b.den a.nums b.nums (den_nonzero a) (den_nonzero b));
  }

  from_form : (m : (model K f).carrier) → ModelForm K f m → Fraction K f
  from_form m g = fraction K f (poly D.ring g.nums) g.den

  pub of_model : (model K f).carrier → (algebra_of K f).carrier
  unfolding algebra_of
  of_model m = from_form m (form K f m)

  pub to_of_model : (m : (model K f).carrier) → to_model (of_model m) ≡ m
  unfolding algebra_of to_model of_model from_form model_element
  to_of_model m = fraction_value _ _ (lowest_nonzero K f n _ _ (form K f m).lowest)
      ∙ stands (form K f m)
    where
      stands : (g : ModelForm K f m) → model_over K f (poly D.ring g.nums) g.den ≡ m
      stands g = g.stands

  pub of_to_model : (a : (algebra_of K f).carrier) → of_model (to_model a) ≡ a
  of_to_model a = to_model_one _ _ (to_of_model (to_model a))

  pub of_model_map : IsMap (model K f) (algebra_of K f) of_model
  of_model_map = record {
    on_zero = to_model_one _ _ (to_of_model M.zero ∙ sym to_model_map.on_zero);
    on_one = to_model_one _ _ (to_of_model M.one ∙ sym to_model_map.on_one);
    on_add = λ a b. to_model_one _ _ (to_of_model _
        ∙ sym (to_model_map.on_add _ _ ∙ ap₂ M.add (to_of_model a) (to_of_model b)));
    on_neg = λ a. to_model_one _ _ (to_of_model _
        ∙ sym (to_model_map.on_neg _ ∙ ap M.neg (to_of_model a)));
    on_mul = λ a b. to_model_one _ _ (to_of_model _
        ∙ sym (to_model_map.on_mul _ _ ∙ ap₂ M.mul (to_of_model a) (to_of_model b)));
  }

  pub of_model_value : (N : Plane K) → of_model (model_value K f N) ≡ value_of K f N
  of_model_value N = to_model_one _ _ (to_of_model _ ∙ sym (to_model_value N))

  pub algebra_ring : IsCommRing (algebra_of K f)
  algebra_ring = ring_by_onto (model K f) (algebra_of K f) of_model to_model of_to_model
      of_model_map ML

  pub algebra_tested : IsTested (algebra_of K f)
  unfolding algebra_of model_element
  algebra_tested = record {
    same_true = λ a b e. value_one a b (go a b (both _ _ e));
    same_refl = λ a. ap₂ (λ s t. s && t) (D.tests.same_refl a.den) (PT.same_refl (sum_of K f a));
  }
    where
      PT : IsTested (planes K)
      PT = polynomial_tests D.ring D.laws D.tests

      go : (a b : Fraction K f) → (D.same a.den b.den ≡ true)
          × (P.same (sum_of K f a) (sum_of K f b) ≡ true) → class_value a ≡ class_value b
      go a b s = ap₂ (λ d N. M.mul (model_inverse K f d) (v N)) (D.tests.same_true _ _ s.0)
          (PT.same_true _ _ s.1)
