-- Sums of products of the rows of a plane with polynomials, and their remainders modulo d: what the
-- linear test asks of a combination of planes is a relation of vectors.
use Rattle.std.proofs.Common.{◌≡◌, ℕ, zero, suc, ◌<◌, ◌≤◌, [], ◌∷◌, refl, sym, ◌∙◌, ap, ap₂, arith}
use Rattle.ff_theory.specs.Lawful.{Domain, Field}
use Rattle.ff_theory.specs.Sum.{sum_below}
use Rattle.ff_theory.specs.Span.{combination}
use Rattle.ff_theory.specs.Poly.{coeff, Poly, poly, polynomials}
use Rattle.ff_theory.specs.Division.{size, IsDivision}
use Rattle.ff_theory.specs.Divides.{Divides}
use Rattle.ff_theory.specs.Planes.{planes, Plane}
use Rattle.ff_theory.proofs.Solver.{◌⊕◌, ◌⊗◌, nil, ring1, ring2, ring3, ring6}
use Rattle.ff_theory.proofs.Sums.{sum-ext, sum-zero, sum-add, sum-mul}
use Rattle.ff_theory.proofs.Poly.{Poly_ext}
use Rattle.ff_theory.proofs.Division.{add_at, const_mul_at, size_le, zero_from, one_division}
use Rattle.ff_theory.proofs.PolyMap.{polynomial_domain}
use Rattle.ff_descent.proofs.Start.{constant_plane, plane_combination}

-- k 0 * p 0 + k 1 * p 1 + .. , r polynomials
abbrev pub poly_combination : (K : Field) → ℕ → (ℕ → K.carrier) → (ℕ → Poly K.ring) → Poly K.ring
poly_combination K r k p = sum_below (polynomials K.ring) r
    (λ i. (polynomials K.ring).mul (poly K.ring (k i ∷ [])) (p i))

-- N_0 * m_0 + N_1 * m_1 + .. for the rows N_i of a plane, n rows
abbrev pub row_product : (K : Field) → ℕ → (ℕ → Poly K.ring) → Plane K → Poly K.ring
row_product K n m N = sum_below (polynomials K.ring) n
    (λ i. (polynomials K.ring).mul (coeff (polynomials K.ring) N.coeffs i) (m i))

module _ (K : Field) where
  abbrev D : Domain
  D = polynomial_domain K

  abbrev c_at : K.carrier → Poly K.ring
  c_at a = poly K.ring (a ∷ [])

  -- the coefficients of a combination
  pub combination_at : (r : ℕ) (k : ℕ → K.carrier) (p : ℕ → Poly K.ring) (j : ℕ)
      → coeff K.ring (poly_combination K r k p).coeffs j
      ≡ combination K.ring r k (λ i. coeff K.ring (p i).coeffs) j
  unfolding poly
  combination_at zero k p j = refl
  combination_at (suc r) k p j = add_at K.ring K.laws K.tests (poly_combination K r k p)
      (D.mul (c_at (k r)) (p r)) j
      ∙ ap₂ K.add (combination_at r k p j) (const_mul_at K.ring K.laws K.tests (k r) (p r) j)

  -- the sum of products of a combination of planes
  module _ (n : ℕ) (m : ℕ → Poly K.ring) where
    product_add : (M N : Plane K) → row_product K n m ((planes K).add M N)
        ≡ D.add (row_product K n m M) (row_product K n m N)
    product_add M N = sum-ext D.ring D.laws n _ _ (λ i l.
        ap (λ t. D.mul t (m i)) (add_at D.ring D.laws D.tests M N i)
        ∙ ring3 D.ring D.laws (λ a b m. (a ⊕ b) ⊗ m) (λ a b m. a ⊗ m ⊕ b ⊗ m) refl
        (coeff D.ring M.coeffs i) (coeff D.ring N.coeffs i) (m i))
        ∙ sum-add D.ring D.laws n _ _

    product_scale : (a : K.carrier) (N : Plane K)
        → row_product K n m ((planes K).mul (constant_plane K a) N)
        ≡ D.mul (c_at a) (row_product K n m N)
    product_scale a N = sum-ext D.ring D.laws n _ _ (λ i l.
        ap (λ t. D.mul t (m i)) (const_mul_at D.ring D.laws D.tests (c_at a) N i)
        ∙ D.laws.mul_assoc (c_at a) (coeff D.ring N.coeffs i) (m i))
        ∙ sum-mul D.ring D.laws n (c_at a) _

    product_zero : row_product K n m (planes K).zero ≡ D.zero
    unfolding poly
    product_zero = sum-ext D.ring D.laws n _ (λ i. D.zero)
        (λ i l. ring1 D.ring D.laws (λ m. nil ⊗ m) (λ m. nil) refl (m i)) ∙ sum-zero D.ring D.laws n

    pub product_combination : (r : ℕ) (k : ℕ → K.carrier) (N : ℕ → Plane K)
        → row_product K n m (plane_combination K r k N)
        ≡ poly_combination K r k (λ i. row_product K n m (N i))
    product_combination zero k N = product_zero
    product_combination (suc r) k N = product_add (plane_combination K r k N)
        ((planes K).mul (constant_plane K (k r)) (N r))
        ∙ ap₂ D.add (product_combination r k N) (product_scale (k r) (N r))

  -- division of a combination by d
  module _ (d : Poly K.ring) (δ : ℕ) (hd : size K.ring d ≡ suc δ) (p q s : ℕ → Poly K.ring) where
    sum_division : (r : ℕ) (k : ℕ → K.carrier)
        → ((i : ℕ) → i < r → IsDivision K.ring (p i) d (q i) (s i))
        → poly_combination K r k p
        ≡ D.add (D.mul (poly_combination K r k q) d) (poly_combination K r k s)
    sum_division zero k h = ring1 D.ring D.laws (λ d. nil) (λ d. nil ⊗ d ⊕ nil) refl d
    sum_division (suc r) k h = ap₂ D.add (sum_division r k (λ i l. h i (omega arith)))
        (ap (D.mul (c_at (k r))) (h r (omega arith)).sum)
        ∙ ring6 D.ring D.laws (λ a d b k q s. (a ⊗ d ⊕ b) ⊕ k ⊗ (q ⊗ d ⊕ s))
        (λ a d b k q s. (a ⊕ k ⊗ q) ⊗ d ⊕ (b ⊕ k ⊗ s)) refl (poly_combination K r k q) d
        (poly_combination K r k s) (c_at (k r)) (q r) (s r)

    small_sum : (r : ℕ) (k : ℕ → K.carrier)
        → ((i : ℕ) → i < r → IsDivision K.ring (p i) d (q i) (s i))
        → size K.ring (poly_combination K r k s) ≤ δ
    small_sum r k h = size_le K.ring K.laws K.tests (poly_combination K r k s) δ
        (λ j l. combination_at r k s j ∙ sum-ext K.ring K.laws r _ (λ i. K.zero) (λ i b.
        ap (K.mul (k i)) (zero_from K.ring K.laws K.tests (s i) j (let small : size K.ring (s i)
        < size K.ring d = (h i b).smaller in omega (arith, small, hd, l)))
        ∙ ring1 K.ring K.laws (λ k. k ⊗ nil) (λ k. nil) refl (k i)) ∙ sum-zero K.ring K.laws r)

    pub combination_division : (r : ℕ) (k : ℕ → K.carrier)
        → ((i : ℕ) → i < r → IsDivision K.ring (p i) d (q i) (s i))
        → IsDivision K.ring (poly_combination K r k p) d (poly_combination K r k q)
        (poly_combination K r k s)
    combination_division r k h = record {
      sum = sum_division r k h;
      smaller = let small : size K.ring (poly_combination K r k s) ≤ δ = small_sum r k h in
          omega (arith, small, hd);
    }

    -- d divides a combination exactly where the combination of the remainders is zero
    pub relation_if_divides : (r : ℕ) (k : ℕ → K.carrier)
        → ((i : ℕ) → i < r → IsDivision K.ring (p i) d (q i) (s i))
        → Divides (polynomials K.ring) d (poly_combination K r k p) → (j : ℕ)
        → combination K.ring r k (λ i. coeff K.ring (s i).coeffs) j ≡ K.zero
    unfolding poly
    relation_if_divides r k h w j = sym (combination_at r k s j)
        ∙ ap (λ (t : Poly K.ring). coeff K.ring t.coeffs j)
        (one_division K d δ hd (poly_combination K r k p)
        (poly_combination K r k q) (poly_combination K r k s) w.0 D.zero
        (combination_division r k h) (record {
          sum = w.1 ∙ ring2 D.ring D.laws (λ w d. w ⊗ d) (λ w d. w ⊗ d ⊕ nil) refl w.0 d;
          smaller = omega (arith, hd);
        })).1

    pub divides_if_relation : (r : ℕ) (k : ℕ → K.carrier)
        → ((i : ℕ) → i < r → IsDivision K.ring (p i) d (q i) (s i))
        → ((j : ℕ) → combination K.ring r k (λ i. coeff K.ring (s i).coeffs) j ≡ K.zero)
        → Divides (polynomials K.ring) d (poly_combination K r k p)
    unfolding poly
    divides_if_relation r k h zero_at = (
      poly_combination K r k q,
      sum_division r k h ∙ ap (D.add (D.mul (poly_combination K r k q) d)) none
          ∙ ring2 D.ring D.laws (λ q d. q ⊗ d ⊕ nil) (λ q d. q ⊗ d) refl (poly_combination K r k q)
          d,
    )
      where
        none : poly_combination K r k s ≡ D.zero
        none = Poly_ext K.ring K.laws K.tests (poly_combination K r k s) D.zero
            (λ j. combination_at r k s j ∙ zero_at j)
