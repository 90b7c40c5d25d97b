-- Products of vectors and rows, matrices of a table, and lists that grow by one vector.
use Rattle.std.proofs.Common.{◌≡◌, ℕ, zero, suc, ◌+◌, ◌<◌, ◌≤◌, ◌⊎◌, inl, inr, List, [], ◌∷◌}
use Rattle.std.proofs.Common.{◌++◌, length, get_or, set, refl, sym, ◌∙◌, ap, ap₂, subst, arith}
use Rattle.std.proofs.Common.{◌↔◌, below_more}
use Rattle.std.proofs.lemmas.List.{length_push, length-map}
use Rattle.std.specs.Global.{Vec}
use Rattle.std.proofs.lemmas.Bool.{cases_lt}
use Rattle.ff_theory.specs.Ring.{Elements, IsCommRing, IsField, IsTested, IsFiniteField}
use Rattle.ff_theory.specs.Span.{combination, product, unit_at, EndsAt}
use Rattle.ff_theory.specs.Vector.{vector_of, vectors_of, IsVector}
use Rattle.ff_theory.proofs.Solver.{◌⊕◌, ◌⊗◌, neg, nil, unit, ring1, ring2, ring3, add_cancel}
use Rattle.ff_theory.proofs.Solver.{mul_zero}
use Rattle.ff_theory.proofs.Sums.{sum-ext, sum-zero, sum-add, sum-mul}
use Rattle.ff_theory.proofs.Span.{span-same, span-one}
use Rattle.ff_theory.proofs.Coeffs.{coeff-past}
use Rattle.ff_lin.specs.Space.{rows_of, SpaceParts, IsSpaceOf, InSpace}
use Rattle.ff_lin.specs.Space.{HasExactly, IsOrthogonal, pivot}
use Rattle.ff_lin.proofs.Kernel.{product-unit}
use Rattle.ff_lin.proofs.Steps.{combined-past}
use Rattle.ff_characters.specs.Characters.{tables_of, IsMatrix, IsTable, IsEigenvector, IsScaled}
use Rattle.ff_characters.specs.Characters.{AreScaled, IsSettled, IsCharacter, HasVector}
use Rattle.ff_characters.specs.Characters.{AreCharacters}

-- a loop that pushes one row after another
pub pushed-row : (P : ℕ → List ℕ → Type 0) (xs : List (Vec ℕ)) (x : Vec ℕ) (ys : List (Vec ℕ))
    (i : ℕ) → ys ≡ xs ++ x ∷ [] → length xs ≡ i
    → ((j : ℕ) → j < i → P j (get_or (rows_of xs) j [])) → P i x.items
    → (j : ℕ) → j < i + 1 → P j (get_or (rows_of ys) j [])
pushed-row P xs x ys i e n h k j l = subst (λ t. P j (get_or (rows_of t) j [])) (sym e)
    (go P xs i n h k j l)
  where
    go : (P : ℕ → List ℕ → Type 0) (xs : List (Vec ℕ)) (i : ℕ) → length xs ≡ i
        → ((j : ℕ) → j < i → P j (get_or (rows_of xs) j [])) → P i x.items
        → (j : ℕ) → j < i + 1 → P j (get_or (rows_of (xs ++ x ∷ [])) j [])
    go P [] i e h k zero l = subst (λ t. P t x.items) (sym e) k
    go P [] i e h k (suc j) l = absurd (omega (arith, e, l))
    go P (y ∷ xs) zero e h k j l = absurd (omega (arith, e))
    go P (y ∷ xs) (suc i) e h k zero l = h zero (omega arith)
    go P (y ∷ xs) (suc i) e h k (suc j) l = go (λ n. P (suc n)) xs i (omega (arith, e))
        (λ m r. h (suc m) (omega (arith, r))) k j (omega (arith, l))

-- a row of a list of rows, as the code reads it
pub row-read : (rows : List (Vec ℕ)) (i : ℕ) (row d : Vec ℕ) → i < length rows
    → row ≡ get_or rows i d → get_or (rows_of rows) i [] ≡ row.items
row-read [] i row d l e = absurd (omega (arith, l))
row-read (x ∷ rows) zero row d l e = ap (λ (t : Vec ℕ). t.items) (sym e)
row-read (x ∷ rows) (suc i) row d l e = row-read rows i row d (omega (arith, l)) e

-- a matrix of a table
pub matrix-read : (table : List (Vec (Vec ℕ))) (i : ℕ) (m d : Vec (Vec ℕ)) → i < length table
    → m ≡ get_or table i d → get_or (tables_of table) i [] ≡ rows_of m.items
matrix-read [] i m d l e = absurd (omega (arith, l))
matrix-read (x ∷ table) zero m d l e = ap (λ (t : Vec (Vec ℕ)). rows_of t.items) (sym e)
matrix-read (x ∷ table) (suc i) m d l e = matrix-read table i m d (omega (arith, l)) e

-- one more vector in a list
pub has-pushed : (F : Elements ℕ) (xs ys : List (Vec ℕ)) (x : Vec ℕ) → ys ≡ xs ++ x ∷ []
    → (v : ℕ → F.carrier) → HasVector F xs v → HasVector F ys v
has-pushed F xs ys x e v h = subst (λ t. HasVector F t v) (sym e) (go xs h)
  where
    go : (xs : List (Vec ℕ)) → HasVector F xs v → HasVector F (xs ++ x ∷ []) v
    go [] h = absurd (omega (arith, h.1.0))
    go (y ∷ xs) (zero, k) = (zero, (omega arith, k.1))
    go (y ∷ xs) (suc i, k) =
        let r : HasVector F (xs ++ x ∷ []) v = go xs (i, (omega (arith, k.0), k.1)) in
        (suc r.0, (omega (arith, r.1.0), r.1.1))

pub has-last : (F : Elements ℕ) (xs ys : List (Vec ℕ)) (x : Vec ℕ) → ys ≡ xs ++ x ∷ []
    → (v : ℕ → F.carrier) → ((j : ℕ) → vector_of F x.items j ≡ v j) → HasVector F ys v
has-last F xs ys x e v h = subst (λ t. HasVector F t v) (sym e) (go xs)
  where
    go : (xs : List (Vec ℕ)) → HasVector F (xs ++ x ∷ []) v
    go [] = (zero, (omega arith, h))
    go (y ∷ xs) = let r : HasVector F (xs ++ x ∷ []) v = go xs in
        (suc r.0, (omega (arith, r.1.0), r.1.1))

-- a loop that pushes one number after another
pub pushed-entry : (F : Elements ℕ) (P : ℕ → F.carrier → Type 0) (xs : List ℕ) (y : ℕ)
    (ys : List ℕ) (i : ℕ) → ys ≡ xs ++ y ∷ [] → length xs ≡ i
    → ((j : ℕ) → j < i → P j (vector_of F xs j)) → P i (F.value y)
    → (j : ℕ) → j < i + 1 → P j (vector_of F ys j)
pushed-entry F P xs y ys i e n h k j l = subst (λ t. P j (vector_of F t j)) (sym e)
    (go P xs i n h k j l)
  where
    go : (P : ℕ → F.carrier → Type 0) (xs : List ℕ) (i : ℕ) → length xs ≡ i
        → ((j : ℕ) → j < i → P j (vector_of F xs j)) → P i (F.value y)
        → (j : ℕ) → j < i + 1 → P j (vector_of F (xs ++ y ∷ []) j)
    go P [] i e h k zero l = subst (λ t. P t (F.value y)) (sym e) k
    go P [] i e h k (suc j) l = absurd (omega (arith, e, l))
    go P (x ∷ xs) zero e h k j l = absurd (omega (arith, e))
    go P (x ∷ xs) (suc i) e h k zero l = h zero (omega arith)
    go P (x ∷ xs) (suc i) e h k (suc j) l = go (λ n. P (suc n)) xs i (omega (arith, e))
        (λ m r. h (suc m) (omega (arith, r))) k j (omega (arith, l))

module _ (F : Elements ℕ) (laws : IsCommRing F.ring) (tests : IsTested F.ring) where
  -- an entry of a list of which one is written
  set-entry : (row : List ℕ) (i y j : ℕ) → i < length row
      → vector_of F (set row i y) j ≡ F.add (vector_of F row j) (F.mul (F.add (F.value y)
      (F.neg (F.value (get_or row i 0)))) (unit_at F.ring i j))
  set-entry [] i y j l = absurd (omega (arith, l))
  set-entry (x ∷ row) zero y zero l = ring2 F.ring laws (λ x y. y)
      (λ x y. x ⊕ (y ⊕ neg x) ⊗ unit) refl (F.value x) (F.value y)
  set-entry (x ∷ row) zero y (suc j) l = ring2 F.ring laws (λ x y. x)
      (λ x y. x ⊕ y ⊗ nil) refl (vector_of F row j) (F.add (F.value y) (F.neg (F.value x)))
  set-entry (x ∷ row) (suc i) y zero l = ring2 F.ring laws (λ x y. x)
      (λ x y. x ⊕ y ⊗ nil) refl (F.value x)
      (F.add (F.value y) (F.neg (F.value (get_or row i 0))))
  set-entry (x ∷ row) (suc i) y (suc j) l = set-entry row i y j (omega (arith, l))

  -- the product with a row less c at one entry
  pub shifted-product : (row : List ℕ) (i y : ℕ) (c : F.carrier) (v : ℕ → F.carrier)
      → i < length row → F.value y ≡ F.add (F.value (get_or row i 0)) (F.neg c)
      → product F.ring (length row) v (vector_of F (set row i y))
      ≡ F.add (product F.ring (length row) (vector_of F row) v) (F.neg (F.mul c (v i)))
  shifted-product row i y c v l e =
      sum-ext F.ring laws n _ _ (λ j q. ap (F.mul (v j)) (set-entry row i y j l)
      ∙ ring3 F.ring laws (λ v r u. v ⊗ (r ⊕ u)) (λ v r u. r ⊗ v ⊕ u ⊗ v) refl (v j)
      (vector_of F row j) (F.mul d (unit_at F.ring i j))
      ∙ ap (F.add (F.mul (vector_of F row j) (v j)))
      (laws.mul_assoc d (unit_at F.ring i j) (v j)))
      ∙ sum-add F.ring laws n _ _
      ∙ ap (F.add (product F.ring n (vector_of F row) v))
      (sum-mul F.ring laws n d (λ j. F.mul (unit_at F.ring i j) (v j))
      ∙ ap (F.mul d) (product-unit F.ring laws n i v l)
      ∙ ap (λ t. F.mul t (v i)) (ap (λ t. F.add t (F.neg (F.value (get_or row i 0)))) e
      ∙ ring2 F.ring laws (λ r c. (r ⊕ neg c) ⊕ neg r) (λ r c. neg c) refl
      (F.value (get_or row i 0)) c)
      ∙ ring2 F.ring laws (λ c v. neg c ⊗ v) (λ c v. neg (c ⊗ v)) refl c (v i))
    where
      n : ℕ
      n = length row

      d : F.carrier
      d = F.add (F.value y) (F.neg (F.value (get_or row i 0)))

  -- a difference that is 0
  pub equal-of-zero : (a b : F.carrier) → F.add a (F.neg b) ≡ F.zero → a ≡ b
  equal-of-zero a b h = add_cancel F.ring laws a b (F.neg b) (h ∙ sym (laws.add_neg b))

  pub space-ends : (n : ℕ) (s : SpaceParts) → IsSpaceOf F n s → (v : ℕ → F.carrier)
      → InSpace F s v → EndsAt F.ring n v
  space-ends n s h v k j q = k.sum j
      ∙ combined-past F laws tests s k.coefficients j h.space (omega (arith, q, h.len))

  -- the vectors that a matrix less c carries to 0
  pub eigen-exact : (n : ℕ) (space whole s : SpaceParts) (rows eqs : List (List ℕ))
      (c : F.carrier) → IsSpaceOf F n space → IsSpaceOf F n whole → length eqs ≡ n
      → ((v : ℕ → F.carrier) (i : ℕ) → i < n → product F.ring n v (vectors_of F eqs i)
      ≡ F.add (product F.ring n (vectors_of F rows i) v) (F.neg (F.mul c (v i))))
      → HasExactly F whole (IsOrthogonal F n eqs)
      → ((v : ℕ → F.carrier) → InSpace F s v ↔ (InSpace F space v × InSpace F whole v))
      → (v : ℕ → F.carrier) → InSpace F s v ↔ (InSpace F space v × IsEigenvector F n rows c v)
  eigen-exact n space whole s rows eqs c hs hw len value kernel meet v = (
    λ h. (
      ((meet v).0 h).0,
      λ i l. equal-of-zero _ _ (sym (value v i l)
          ∙ ((kernel v).0 (((meet v).0 h).1)).1 i (omega (arith, l, len))),
    ),
    λ h. (meet v).1 (
      h.0,
      (kernel v).1 (
        subst (λ m. EndsAt F.ring m v) (sym hw.len) (space-ends n space hs v h.0),
        λ i l. value v i (omega (arith, l, len))
            ∙ ap (λ t. F.add t (F.neg (F.mul c (v i)))) (h.1 i (omega (arith, l, len)))
            ∙ laws.add_neg (F.mul c (v i)),
      ),
    ),
  )

  -- a common factor of a vector comes out of products with it
  pub product-scale : (n : ℕ) (a : F.carrier) (w v : ℕ → F.carrier)
      → product F.ring n w (λ j. F.mul a (v j)) ≡ F.mul a (product F.ring n w v)
  product-scale n a w v = sum-ext F.ring laws n _ _ (λ j q. ring3 F.ring laws
      (λ a w v. w ⊗ (a ⊗ v)) (λ a w v. a ⊗ (w ⊗ v)) refl a (w j) (v j))
      ∙ sum-mul F.ring laws n a (λ j. F.mul (w j) (v j))

  pub product-same : (n : ℕ) (w u v : ℕ → F.carrier) → ((j : ℕ) → u j ≡ v j)
      → product F.ring n w u ≡ product F.ring n w v
  product-same n w u v h = sum-ext F.ring laws n _ _ (λ j q. ap (F.mul (w j)) (h j))

  module _ (field : IsField F.ring F.inverse) (n : ℕ) (table : List (List (List ℕ)))
      (one : List ℕ) where
    -- a matrix carries a character to one multiple alone
    eigenvalue-one : (chi : ℕ → F.carrier) → IsCharacter F n table one chi → (i : ℕ) → i < n
        → (c : F.carrier) → IsEigenvector F n (get_or table i []) c chi → chi i ≡ c
    eigenvalue-one chi h i l c e = sym (laws.mul_one (chi i)) ∙ ap (F.mul (chi i)) (sym h.unit)
        ∙ sym (product-scale n (chi i) (vector_of F one) chi)
        ∙ sum-ext F.ring laws n _ _ (λ j q. ap (F.mul (vector_of F one j))
        (sym (h.products i l j q) ∙ e j q))
        ∙ product-scale n c (vector_of F one) chi ∙ ap (F.mul c) h.unit ∙ laws.mul_one c

    -- a vector of a settled space has the values of a character of it as its multiples
    pub settled-values : (s : SpaceParts) → IsSettled F n table s → 0 < length s.basis
        → (chi : ℕ → F.carrier) → InSpace F s chi → IsCharacter F n table one chi
        → (v : ℕ → F.carrier) → ((j : ℕ) → vectors_of F s.basis 0 j ≡ v j) → InSpace F s v
        → (i : ℕ) → i < n → IsEigenvector F n (get_or table i []) (chi i) v
    settled-values s (inr h) some chi k c v is inside i l = subst
        (λ t. IsEigenvector F n (get_or table i []) t v)
        (sym (eigenvalue-one chi c i l (h i l).0 ((h i l).1 chi k))) ((h i l).1 v inside)
    settled-values s (inl h) some chi k c v is inside i l = λ j q.
        product-same n (vectors_of F (get_or table i []) j) v (λ m. F.mul b (chi m)) back
        ∙ product-scale n b (vectors_of F (get_or table i []) j) chi
        ∙ ap (F.mul b) (c.products i l j q)
        ∙ ring3 F.ring laws (λ b a x. b ⊗ (a ⊗ x)) (λ b a x. a ⊗ (b ⊗ x)) refl b (chi i) (chi j)
        ∙ ap (F.mul (chi i)) (sym (back j))
      where
        a : F.carrier
        a = k.coefficients 0

        line : (j : ℕ) → chi j ≡ F.mul a (v j)
        line j = k.sum j ∙ ap (λ r. product-of r j) h
            ∙ ring2 F.ring laws (λ a x. nil ⊕ a ⊗ x) (λ a x. a ⊗ x) refl a
            (vectors_of F s.basis 0 j) ∙ ap (F.mul a) (is j)
          where
            product-of : ℕ → ℕ → F.carrier
            product-of r j = combination F.ring r k.coefficients (vectors_of F s.basis) j

        b : F.carrier
        b = product F.ring n (vector_of F one) v

        inverse : F.mul a b ≡ F.one
        inverse = sym (product-scale n a (vector_of F one) v)
            ∙ sym (product-same n (vector_of F one) chi (λ j. F.mul a (v j)) line) ∙ c.unit

        back : (j : ℕ) → v j ≡ F.mul b (chi j)
        back j = ring1 F.ring laws (λ v. v) (λ v. unit ⊗ v) refl (v j)
            ∙ ap (λ t. F.mul t (v j)) (sym inverse)
            ∙ ring3 F.ring laws (λ a b v. a ⊗ b ⊗ v) (λ a b v. b ⊗ (a ⊗ v)) refl a b (v j)
            ∙ ap (F.mul b) (sym (line j))

-- a matrix of a table, as the code reads it, and its eigenvectors
pub eigen-read : (F : Elements ℕ) (n : ℕ) (table : List (Vec (Vec ℕ))) → IsTable F n table
    → (i : ℕ) (m : Vec (Vec ℕ)) (rows : List (Vec ℕ)) (a b : F.carrier) (v : ℕ → F.carrier)
    → i < n → m ≡ get_or table i m → rows ≡ m.items → b ≡ a
    → (IsEigenvector F (length rows) (rows_of rows) a v
    → IsEigenvector F n (get_or (tables_of table) i []) b v)
    × (IsEigenvector F n (get_or (tables_of table) i []) b v
    → IsEigenvector F (length rows) (rows_of rows) a v)
eigen-read F n table h i m rows a b v l e r s = (
  λ k. subst (λ t. IsEigenvector F n t b v) (sym same) (subst (λ t. IsEigenvector F n
      (rows_of rows) t v) (sym s) (subst (λ t. IsEigenvector F t (rows_of rows) a v) long k)),
  λ k. subst (λ t. IsEigenvector F t (rows_of rows) a v) (sym long) (subst (λ t. IsEigenvector F n
      (rows_of rows) t v) s (subst (λ t. IsEigenvector F n t b v) same k)),
)
  where
    below : i < length table
    below = omega (arith, l, h.count)

    same : get_or (tables_of table) i [] ≡ rows_of rows
    same = matrix-read table i m m below e ∙ ap rows_of (sym r)

    long : length rows ≡ n
    long = ap length r ∙ (subst (IsMatrix F n) (sym e) (h.each i m below)).count

-- the row of an eigenvector at an index, and the multiple that its entry gives
pub eigenvalue-read : (F : Elements ℕ) (laws : IsCommRing F.ring) → IsField F.ring F.inverse
    → (v : List ℕ) (table : List (Vec (Vec ℕ))) → IsTable F (length v) table → (i p : ℕ)
    (m : Vec (Vec ℕ)) (row : Vec ℕ) (cells : List ℕ) (x y z w : ℕ) → i < length v → p < length v
    → m ≡ get_or table i m → row ≡ get_or m.items p row → cells ≡ row.items
    → F.value y ≡ F.inverse (F.value x) → ¬ (vector_of F v p ≡ F.zero)
    → vector_of F v p ≡ F.value x
    → F.value z ≡ product F.ring (length cells) (vector_of F cells) (vector_of F v)
    → F.value w ≡ F.mul (F.value y) (F.value z) → (c : F.carrier)
    → IsEigenvector F (length v) (get_or (tables_of table) i []) c (vector_of F v)
    → F.value w ≡ c
eigenvalue-read F laws field v table h i p m row cells x y z w li lp hm hr hc hy nonzero hx hz hw
    c e = hw ∙ ap₂ F.mul (hy ∙ ap F.inverse (sym hx)) (hz
    ∙ ap₂ (λ n r. product F.ring n (vector_of F r) (vector_of F v)) long (sym read) ∙ e p lp)
    ∙ ring3 F.ring laws (λ i c v. i ⊗ (c ⊗ v)) (λ i c v. v ⊗ i ⊗ c) refl
    (F.inverse (vector_of F v p)) c (vector_of F v p)
    ∙ ap (λ t. F.mul t c) (field.mul_inverse (vector_of F v p) nonzero)
    ∙ ring1 F.ring laws (λ c. unit ⊗ c) (λ c. c) refl c
  where
    below : i < length table
    below = omega (arith, li, h.count)

    matrix : IsMatrix F (length v) m
    matrix = subst (IsMatrix F (length v)) (sym hm) (h.each i m below)

    in-rows : p < length m.items
    in-rows = omega (arith, lp, matrix.count)

    read : get_or (get_or (tables_of table) i []) p [] ≡ cells
    read = ap (λ t. get_or t p []) (matrix-read table i m m below hm)
        ∙ row-read m.items p row row in-rows hr ∙ sym hc

    long : length cells ≡ length v
    long = ap length hc ∙ (subst (λ (r : Vec ℕ). IsVector F (length v) r.items) (sym hr)
        (matrix.rows p row in-rows)).len

module _ (F : Elements ℕ) (laws : IsCommRing F.ring) (tests : IsTested F.ring)
    (field : IsField F.ring F.inverse) (n : ℕ) where
  -- the first entry of a basis vector that is not 0 is within its length
  pub leading-below : (s : SpaceParts) → IsSpaceOf F n s → 0 < length s.basis → (v : List ℕ)
      → get_or s.basis 0 [] ≡ v → (p : ℕ) → ((j : ℕ) → j < p → vector_of F v j ≡ F.zero) → p < n
  leading-below s h some v e p zeros = go (cases_lt p n)
    where
      go : (p < n) ⊎ (n ≤ p) → p < n
      go (inl l) = l
      go (inr l) = absurd (field.one_not_zero (sym (h.space.echelon.one_at 0 some)
          ∙ ap (λ t. vector_of F t (pivot s 0)) e ∙ zeros (pivot s 0)
          (let inside : pivot s 0 < s.len = h.space.inside 0 0 (omega (arith, h.space.count, some))
          in omega (arith, inside, h.len, l))))

  -- the multiples of a basis vector are the values of the character
  pub found-character : (table : List (List (List ℕ))) (one : List ℕ) (s : SpaceParts)
      → IsSpaceOf F n s → 0 < length s.basis → IsSettled F n table s → (v values : List ℕ)
      → get_or s.basis 0 [] ≡ v → IsVector F n values
      → ((i : ℕ) (c : F.carrier) → i < n → IsEigenvector F n (get_or table i []) c (vector_of F v)
      → vector_of F values i ≡ c)
      → (chi : ℕ → F.carrier) → InSpace F s chi → IsCharacter F n table one chi → (j : ℕ)
      → vector_of F values j ≡ chi j
  found-character table one s h some settled v values e hv value chi k c j = go (cases_lt j n)
    where
      is : (j : ℕ) → vectors_of F s.basis 0 j ≡ vector_of F v j
      is j = ap (λ t. vector_of F t j) e

      inside : InSpace F s (vector_of F v)
      inside = span-same F.ring laws (length s.basis) (vectors_of F s.basis)
          (vectors_of F s.basis 0) (vector_of F v) (λ j. sym (is j))
          (span-one F.ring laws (length s.basis) (vectors_of F s.basis) 0 some)

      go : (j < n) ⊎ (n ≤ j) → vector_of F values j ≡ chi j
      go (inl l) = value j (chi j) l (settled-values F laws tests field n table one s settled some
          chi k c (vector_of F v) is inside j l)
      go (inr l) = coeff-past F.ring F.value values j (omega (arith, hv.len, l))
          ∙ sym (space-ends F laws tests n s h chi k j l)

  -- a space without basis has no character
  pub no-character : (table : List (List (List ℕ))) (one : List ℕ) (s : SpaceParts)
      → length s.basis ≡ 0 → (chi : ℕ → F.carrier) → InSpace F s chi
      → ¬ (IsCharacter F n table one chi)
  no-character table one s e chi k c = field.one_not_zero (sym c.unit
      ∙ sum-ext F.ring laws n _ (λ j. F.zero) (λ j q. ap (F.mul (vector_of F one j))
      (k.sum j ∙ ap (λ r. combination F.ring r k.coefficients (vectors_of F s.basis) j) e)
      ∙ mul_zero F.ring laws (vector_of F one j))
      ∙ sum-zero F.ring laws n)

-- a list of characters with one more
pub more-characters : (F : Elements ℕ) (n : ℕ) (table : List (List (List ℕ))) (one : List ℕ)
    (xs ys : List (Vec ℕ)) (x : Vec ℕ) → ys ≡ xs ++ x ∷ [] → AreCharacters F n table one xs
    → IsVector F n x.items → IsCharacter F n table one (vector_of F x.items)
    → AreCharacters F n table one ys
more-characters F n table one xs ys x e h v c i l = pushed-row (λ i r. IsVector F n r
    × IsCharacter F n table one (vector_of F r)) xs x ys (length xs) e refl h (v, c) i
    (omega (arith, l, ap length e, length_push xs x))

module _ (F : Elements ℕ) (n : ℕ) (table : List (Vec (Vec ℕ))) (h : IsTable F n table) (i : ℕ)
    (m : Vec (Vec ℕ)) (rows : List (Vec ℕ)) (a : F.carrier) (l : i < n) (e : m ≡ get_or table i m)
    (r : rows ≡ m.items) (space part : SpaceParts)
    (exact : (v : ℕ → F.carrier) → InSpace F part v
    ↔ (InSpace F space v × IsEigenvector F (length rows) (rows_of rows) a v)) where
  -- one more matrix scales an eigenspace
  pub part-scaled : AreScaled F n (tables_of table) i space
      → AreScaled F n (tables_of table) (i + 1) part
  part-scaled s = below_more (λ t. IsScaled F n part (get_or (tables_of table) t [])) i
      (λ t q. ((s t q).0, λ v k. (s t q).1 v ((exact v).0 k).0))
      (a, λ v k. (eigen-read F n table h i m rows a a v l e r refl).0 ((exact v).0 k).1)

  -- a character of the space is in its eigenspace
  pub part-character : (one : List ℕ) (chi : ℕ → F.carrier) → InSpace F space chi
      → IsCharacter F n (tables_of table) one chi → chi i ≡ a → InSpace F part chi
  part-character one chi k c s = (exact chi).1 (
    k,
    (eigen-read F n table h i m rows a (chi i) chi l e r s).1 (c.products i l),
  )

-- the first vector of a basis, as the code reads it
pub first-row : (F : Elements ℕ) (n : ℕ) (s : SpaceParts) → IsSpaceOf F n s → 0 < length s.basis
    → (basis : List (Vec ℕ)) (v : Vec ℕ) → rows_of basis ≡ s.basis → v ≡ get_or basis 0 v
    → (get_or s.basis 0 [] ≡ v.items) × IsVector F n v.items
first-row F n s h some basis v e is = (
  same,
  subst (λ m. IsVector F m v.items) h.len
      (subst (IsVector F s.len) same (h.space.rows 0 [] some)),
)
  where
    same : get_or s.basis 0 [] ≡ v.items
    same = ap (λ t. get_or t 0 []) (sym e) ∙ row-read basis 0 v v
        (omega (arith, some, ap length e, length-map basis (λ (r : Vec ℕ). r.items))) is

-- an element whose index is at most j: below j, or the element at j
pub by-index : (F : Elements ℕ) → IsFiniteField F.field → (P : Type 0) (a : F.carrier) (j : ℕ)
    (b : F.carrier) → b ≡ F.element_at j → F.index a < j + 1 → (F.index a < j → P) → (a ≡ b → P)
    → P
by-index F finite P a j b e l f g = go (cases_lt (F.index a) j)
  where
    go : (F.index a < j) ⊎ (j ≤ F.index a) → P
    go (inl q) = f q
    go (inr q) = let same : F.index a ≡ j = omega (arith, q, l) in
        g (sym (finite.at_index a) ∙ ap F.element_at same ∙ sym e)
