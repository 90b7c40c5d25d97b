-- Kernels, relations and preimages are exact.
use Rattle.std.proofs.Common.{◌≡◌, ℕ, ◌<◌, ◌≤◌, ◌⊎◌, inl, inr, ◌↔◌, List, [], length, map, get_or}
use Rattle.std.proofs.Common.{sym, ◌∙◌, ap, arith, subst, All}
use Rattle.std.proofs.lemmas.Bool.{cases_lt}
use Rattle.std.proofs.lemmas.List.{length-map}
use Rattle.std.proofs.lemmas.List.Elements.{All-map, All-from_get_or}
use Rattle.ff_theory.specs.Ring.{IsCommRing, Elements, IsFiniteField, power}
use Rattle.ff_theory.proofs.Sums.{sum-ext, sum-zero}
use Rattle.ff_theory.proofs.Solver.{mul_zero}
use Rattle.ff_theory.specs.Span.{combination, product, InSpan, SameSpan, IsEchelon}
use Rattle.ff_theory.specs.Vector.{vectors_of, IsVector, combination_of}
use Rattle.ff_lin.specs.Space.{SpaceParts, IsSpace, InSpace, HasExactly, IsOrthogonal, IsRelation}
use Rattle.ff_lin.specs.Space.{AreRoots, remainder_of, frobenius, pivot}
use Rattle.ff_lin.specs.Kernel.{mirror, mirrored, mirrored_rows, mirrored_columns, null_of}
use Rattle.ff_lin.specs.Kernel.{IsSolvedBy}
use Rattle.ff_theory.proofs.Span.{span-same, span-inside}
use Rattle.ff_lin.proofs.Kernel.{kernel-in, kernel-ends, kernel-product, product-span}
use Rattle.ff_lin.proofs.Mirror.{mirror-mirror, mirror-inside}
use Rattle.ff_lin.proofs.Echelon.{reduced-combination, reduced-inside, inside-reduced}
use Rattle.ff_lin.proofs.Steps.{past}
use Rattle.ff_lin.proofs.Frobenius.{power-in, power-out}
use Rattle.ff_theory.proofs.Powers.{power-one}
use Rattle.ff_theory.proofs.Frobenius.{power-zero}

module _ (K : Elements ℕ) (laws : IsCommRing K.ring) where
  module _ (s : SpaceParts) (space : IsSpace K s) where
    -- the mirrored pivot
    abbrev mirror_pivot : ℕ → ℕ
    mirror_pivot i = mirror s.len (pivot s i)

    one_at : (i : ℕ) → i < length s.basis → mirrored K s i (mirror_pivot i) ≡ K.one
    one_at i l = ap (vectors_of K s.basis i) (mirror-mirror s.len (pivot s i))
        ∙ space.echelon.one_at i l

    zero_at : (i l : ℕ) → i < length s.basis → l < length s.basis → ¬ (l ≡ i)
        → mirrored K s l (mirror_pivot i) ≡ K.zero
    zero_at i l k m n = ap (vectors_of K s.basis l) (mirror-mirror s.len (pivot s i))
        ∙ space.echelon.zero_at i l k m n

    inside_at : (i : ℕ) → i < length s.basis → mirror_pivot i < s.len
    inside_at i l = mirror-inside s.len (pivot s i)
        (space.inside i 0 (omega (arith, l, space.count)))

    -- the null vectors span what is orthogonal to the mirrored basis
    pub solutions-exact : (t : SpaceParts) → t.len ≡ s.len
        → SameSpan K.ring (length t.basis) (vectors_of K t.basis) s.len (null_of K s)
        → IsSolvedBy K s t
    solutions-exact t len same v = (
      λ h. let k : InSpan K.ring s.len (null_of K s) v = span-inside K.ring laws (length t.basis)
          (vectors_of K t.basis) s.len (null_of K s) v same.into h in (
            (λ j l. kernel-ends K.ring laws s.len (length s.basis) (mirrored K s) mirror_pivot
                one_at
                zero_at inside_at v k j (omega (arith, l, len))),
            kernel-product K.ring laws s.len
                (length s.basis) (mirrored K s) mirror_pivot one_at zero_at inside_at v k,
          ),
      λ h. span-inside K.ring laws s.len (null_of K s) (length t.basis) (vectors_of K t.basis) v
          same.back
          (kernel-in K.ring laws s.len (length s.basis) (mirrored K s) mirror_pivot one_at zero_at
          inside_at v (λ j l. h.0 j (omega (arith, l, len))) h.1),
    )

  -- equations are given by any vectors with the same mirrored span
  pub equations-exact : (s t : SpaceParts) (n c : ℕ) (w : ℕ → ℕ → K.carrier) → s.len ≡ n
      → SameSpan K.ring (length s.basis) (vectors_of K s.basis) c (λ i j. w i (mirror n j))
      → IsSolvedBy K s t
      → HasExactly K t (λ v. (i : ℕ) → i < c → product K.ring n v (w i) ≡ K.zero)
  equations-exact s t n c w len same exact
      v = (λ h. (((exact v).0 h).0, into (((exact v).0 h).1)), λ h. (exact v).1 (h.0, back h.1))
    where
      turned : {m : ℕ} {u : ℕ → ℕ → K.carrier} {x : ℕ → K.carrier} → InSpan K.ring m u x
          → InSpan K.ring m (λ i j. u i (mirror n j)) (λ j. x (mirror n j))
      turned h = record { coefficients = h.coefficients; sum = λ j. h.sum (mirror n j) }

      into : ((i : ℕ) → i < length s.basis → product K.ring s.len v (mirrored K s i) ≡ K.zero)
          → (i : ℕ) → i < c → product K.ring n v (w i) ≡ K.zero
      into h i l = product-span K.ring laws n (length s.basis)
          (λ i j. vectors_of K s.basis i (mirror n j)) v (w i)
          (λ i q. ap (λ m. product K.ring m v (λ j. vectors_of K s.basis i (mirror m j))) (sym len)
          ∙ h i q)
          (span-same K.ring laws (length s.basis) (λ i j. vectors_of K s.basis i (mirror n j))
          (λ j. w i (mirror n (mirror n j))) (w i) (λ j. ap (w i) (sym (mirror-mirror n j)))
          (turned (same.back i l)))

      back : ((i : ℕ) → i < c → product K.ring n v (w i) ≡ K.zero) → (i : ℕ) → i < length s.basis
          → product K.ring s.len v (mirrored K s i) ≡ K.zero
      back h i l = ap (λ m. product K.ring m v (λ j. vectors_of K s.basis i (mirror m j))) len
          ∙ product-span K.ring laws n c (λ i j. w i (mirror n (mirror n j))) v
          (λ j. vectors_of K s.basis i (mirror n j))
          (λ i q. sum-ext K.ring laws n (λ j. K.mul (v j) (w i (mirror n (mirror n j))))
          (λ j. K.mul (v j) (w i j)) (λ j m. ap (λ t. K.mul (v j) (w i t)) (mirror-mirror n j))
          ∙ h i q)
          (turned (same.into i l))

  -- as the code has it
  pub kernel_code : (s : SpaceParts) (n c : ℕ) (rows : List (List ℕ)) → s.len ≡ n → length rows ≡ c
      → SameSpan K.ring (length s.basis) (vectors_of K s.basis) c (mirrored_rows K n rows)
      → (t : SpaceParts) → IsSolvedBy K s t → HasExactly K t (IsOrthogonal K n rows)
  kernel_code s n c rows len count same t h =
      equations-exact s t n (length rows) (vectors_of K rows) len
      (subst (λ c. SameSpan K.ring (length s.basis) (vectors_of K s.basis) c
      (mirrored_rows K n rows)) (sym count) same) h

  -- the products with the columns are the entries of the combination
  pub relations-exact : (t : SpaceParts) (images : List (List ℕ)) (m : ℕ)
      → ((i j : ℕ) → i < length images → m ≤ j → vectors_of K images i j ≡ K.zero)
      → HasExactly K t (λ v. (j : ℕ) → j < m
      → product K.ring (length images) v (λ i. vectors_of K images i j) ≡ K.zero)
      → HasExactly K t (IsRelation K images)
  relations-exact t images m ends exact
      v = (
        λ h. let k = (exact v).0 h in (k.0, λ j. all k.1 j (cases_lt j m)),
        λ h. (exact v).1
            (h.0, λ j l. h.1 j),
      )
    where
      all : ((j : ℕ) → j < m → product K.ring (length images) v (λ i. vectors_of K images i j)
          ≡ K.zero) → (j : ℕ) → (j < m) ⊎ (m ≤ j) → combination_of K images v j ≡ K.zero
      all h j (inl l) = h j l
      all h j (inr l) = sum-ext K.ring laws (length images)
          (λ i. K.mul (v i) (vectors_of K images i j)) (λ i. K.zero)
          (λ i q. ap (K.mul (v i)) (ends i j q l) ∙ mul_zero K.ring laws (v i))
          ∙ sum-zero K.ring laws (length images)

  pub relations_code : {V : Type 0} (items : V → List ℕ) (s : SpaceParts) (m : ℕ) (images : List V)
      → s.len ≡ length images → All (λ v. IsVector K m (items v)) images
      → SameSpan K.ring (length s.basis) (vectors_of K s.basis) m
      (mirrored_columns K (map items images)) → (t : SpaceParts) → IsSolvedBy K s t
      → HasExactly K t (IsRelation K (map items images))
  relations_code items s m images len vectors same t h =
      relations-exact t (map items images) m
      (λ i j l q. past K m (get_or (map items images) i []) j
      (All-map (IsVector K m) items images vectors i [] l) q)
      (equations-exact s t (length (map items images)) m
      (λ j i. vectors_of K (map items images) i j) (len ∙ sym (length-map images items)) same h)

  -- relations of the rests are what the space takes in
  pub preimage-exact : (s t : SpaceParts) (images rests : List (List ℕ)) → IsSpace K s
      → length rests ≡ length images
      → ((i j : ℕ) → i < length images → vectors_of K rests i j
      ≡ remainder_of K s (vectors_of K images i) j)
      → HasExactly K t (IsRelation K rests)
      → HasExactly K t (λ v. InSpace K s (combination_of K images v))
  preimage-exact s t images rests space count value exact
      v = (
        λ h. (((exact v).0 h).0, inside (((exact v).0 h).1)),
        λ h. (exact v).1
            (h.0, outside h.1),
      )
    where
      same : (j : ℕ) → combination_of K rests v j ≡ remainder_of K s (combination_of K images v) j
      same j = ap (λ n. combination K.ring n v (vectors_of K rests) j) count
          ∙ sum-ext K.ring laws (length images) (λ i. K.mul (v i) (vectors_of K rests i j))
          (λ i. K.mul (v i) (remainder_of K s (vectors_of K images i) j))
          (λ i l. ap (K.mul (v i)) (value i j l))
          ∙ sym (reduced-combination K.ring laws (length s.basis) (vectors_of K s.basis) (pivot s)
          (length images) v (vectors_of K images) j)

      inside : IsRelation K rests v → InSpace K s (combination_of K images v)
      inside h = reduced-inside K.ring laws (length s.basis) (vectors_of K s.basis) (pivot s)
          (combination_of K images v) (λ j. sym (same j) ∙ h j)

      outside : InSpace K s (combination_of K images v) → IsRelation K rests v
      outside h j = same j ∙ inside-reduced K.ring laws (length s.basis) (vectors_of K s.basis)
          (pivot s) space.echelon (combination_of K images v) h j

  pub preimage_code : {V : Type 0} (items : V → List ℕ) (s : SpaceParts)
      (images rests given : List V) → IsSpace K s → length rests ≡ length images
      → ((i j : ℕ) → i < length images → vectors_of K (map items rests) i j
      ≡ remainder_of K s (vectors_of K (map items images) i) j) → given ≡ rests
      → (t : SpaceParts) → HasExactly K t (IsRelation K (map items given))
      → HasExactly K t (λ v. InSpace K s (combination_of K (map items images) v))
  preimage_code items s images rests given space count value e t h =
      preimage-exact s t (map items images) (map items rests) space
      (length-map rests items ∙ count ∙ sym (length-map images items))
      (λ i j l. value i j (omega (arith, l, length-map images items)))
      (subst (λ r. HasExactly K t (IsRelation K (map items r))) e h)

  -- t has the roots of the basis of s
  module _ (finite : IsFiniteField K.field) (s t : SpaceParts) (space : IsSpace K s)
      (len : t.len ≡ s.len) (count : length t.basis ≡ length s.basis) (pivots : t.pivots ≡ s.pivots)
      (roots : AreRoots K s.basis (length s.basis) t.basis) where
    root-is : (i j : ℕ) (c : K.carrier) → i < length s.basis → vectors_of K s.basis i j
        ≡ power K.ring c K.characteristic → vectors_of K t.basis i j ≡ c
    root-is i j c l h = finite.one_root (vectors_of K t.basis i j) c (roots.powers i j l ∙ h)

    zero-root : (i j : ℕ) → i < length s.basis → vectors_of K s.basis i j ≡ K.zero
        → vectors_of K t.basis i j ≡ K.zero
    zero-root i j l h = root-is i j K.zero l
        (h ∙ sym (power-zero K.ring laws K.characteristic finite.least.positive))

    pub roots-space : IsSpace K t
    roots-space = record {
      rows = All-from_get_or (IsVector K t.len) t.basis []
          (λ i l. let q : i < length s.basis = omega (arith, l, count) in subst
          (λ n. IsVector K n (get_or t.basis i [])) ((space.rows i [] q).len ∙ sym len)
          (roots.vectors i q));
      count = ap length pivots ∙ space.count ∙ sym count;
      inside = subst (All (λ p. p < t.len)) (sym pivots)
          (subst (λ n. All (λ p. p < n) s.pivots) (sym len) space.inside);
      echelon = subst (λ (q : List ℕ). IsEchelon K.ring (length t.basis) (vectors_of K t.basis)
          (λ i. get_or q i 0)) (sym pivots)
          (subst (λ n. IsEchelon K.ring n (vectors_of K t.basis) (pivot s)) (sym count) (record {
            one_at = λ i l. root-is i (pivot s i) K.one l
                (space.echelon.one_at i l ∙ sym (power-one K.ring laws K.characteristic));
            zero_at = λ i l k m n. zero-root l (pivot s i) m (space.echelon.zero_at i l k m n);
            begins = λ i j l h. zero-root i j l (space.echelon.begins i j l h);
            rises = space.echelon.rises;
          }));
    }

    pub roots-exact : (v : ℕ → K.carrier) → InSpace K t v ↔ InSpace K s (frobenius K v)
    roots-exact v = (
      λ h. power-in K.field laws finite (length s.basis) (vectors_of K t.basis)
          (vectors_of K s.basis) (pivot s) space.echelon roots.powers v
          (subst (λ n. InSpan K.ring n (vectors_of K t.basis) v) count h),
      λ h. subst (λ n. InSpan K.ring n (vectors_of K t.basis) v) (sym count)
          (power-out K.field laws finite (length s.basis) (vectors_of K t.basis)
          (vectors_of K s.basis) (pivot s) space.echelon roots.powers v h),
    )

  -- the roots of a space of vectors with a property
  pub semi-exact : IsFiniteField K.field → (s t : SpaceParts) (P : (ℕ → K.carrier) → Type 0) → t.len
      ≡ s.len → HasExactly K s P → ((v : ℕ → K.carrier) → InSpace K t v ↔ InSpace K s (frobenius K
      v)) → HasExactly K t (λ v. P (frobenius K v))
  semi-exact finite s t P len exact roots v = (
    λ h. let k = (exact (frobenius K v)).0 ((roots v).0 h) in (
      (λ j l. finite.one_root (v j) K.zero
          (k.0 j (omega (arith, l, len))
          ∙ sym (power-zero K.ring laws K.characteristic finite.least.positive))),
      k.1,
    ),
    λ h. (roots v).1 ((exact (frobenius K v)).1 (
      (λ j l. ap (λ t. power K.ring t K.characteristic) (h.0 j (omega (arith, l, len)))
          ∙ power-zero K.ring laws K.characteristic finite.least.positive),
      h.1,
    )),
  )

  pub roots_code : IsFiniteField K.field
      → {V : Type 0} (items : V → List ℕ) (s t : SpaceParts) (old given roots : List V)
      → IsSpace K s → t.len ≡ s.len → t.basis ≡ map items roots → t.pivots ≡ s.pivots
      → map items old ≡ s.basis → given ≡ old
      → length roots ≡ length given → AreRoots K (map items given) (length given) (map items roots)
      → IsSpace K t × ((v : ℕ → K.carrier) → InSpace K t v ↔ InSpace K s (frobenius K v))
  roots_code finite items s t old given roots space len basis pivots hold hgiven count h = (
    roots-space finite s t space len many pivots are,
    roots-exact finite s t space len many
        pivots are,
  )
    where
      basis_is : map items given ≡ s.basis
      basis_is = ap (map items) hgiven ∙ hold

      length_is : length given ≡ length s.basis
      length_is = sym (length-map given items) ∙ ap length basis_is

      many : length t.basis ≡ length s.basis
      many = ap length basis ∙ length-map roots items ∙ count ∙ length_is

      are : AreRoots K s.basis (length s.basis) t.basis
      are = subst (AreRoots K s.basis (length s.basis)) (sym basis)
          (subst (λ n. AreRoots K s.basis n (map items roots)) length_is
          (subst (λ b. AreRoots K b (length given) (map items roots)) basis_is h))
