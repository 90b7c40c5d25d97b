-- A vector put into the lists of a space.
use Rattle.std.proofs.Common.{◌≡◌, ℕ, zero, suc, ◌<◌, ◌≤◌, List, [], ◌∷◌, length, map, get_or, refl}
use Rattle.std.proofs.Common.{sym, ◌∙◌, ap, arith, subst, All}
use Rattle.std.specs.List.{insert}
use Rattle.std.proofs.lemmas.List.{length-map}
use Rattle.ff_theory.specs.Ring.{RingOps, IsCommRing, Elements}
use Rattle.ff_theory.proofs.Sums.{sum-ext}
use Rattle.ff_theory.specs.Span.{combination, InSpan, SameSpan, IsEchelon}
use Rattle.ff_theory.specs.Vector.{vector_of, vectors_of, IsVector}
use Rattle.ff_lin.specs.Space.{IsSpace, SpaceParts, SameSpace}
use Rattle.ff_theory.proofs.Insert.{insert_at, insert-skip, insert-at}
use Rattle.ff_theory.proofs.Span.{span-same, span-more, span-one, span-inside, span-combination}
use Rattle.ff_lin.proofs.Insertion.{Slot, here, there, slot, clear, insert-echelon, after-w}
use Rattle.ff_lin.proofs.Insertion.{after-old, after-in}

pub get-insert : {A : Type 0} (xs : List A) (q : ℕ) (x d : A) (i : ℕ) → q ≤ length xs
    → get_or (insert xs q x) i d ≡ insert_at q x (λ l. get_or xs l d) i
get-insert [] zero x d zero l = refl
get-insert [] zero x d (suc i) l = refl
get-insert [] (suc q) x d i l = absurd (omega arith)
get-insert (y ∷ ys) zero x d zero l = refl
get-insert (y ∷ ys) zero x d (suc i) l = refl
get-insert (y ∷ ys) (suc q) x d zero l = refl
get-insert (y ∷ ys) (suc q) x d (suc i) l = get-insert ys q x d i (omega arith)

pub length-insert : {A : Type 0} (xs : List A) (q : ℕ) (x : A) → length (insert xs q x)
    ≡ suc (length xs)
length-insert [] zero x = refl
length-insert [] (suc q) x = refl
length-insert (y ∷ ys) zero x = refl
length-insert (y ∷ ys) (suc q) x = ap suc (length-insert ys q x)

pub map-insert : {A B : Type 0} (f : A → B) (xs : List A) (q : ℕ) (x : A) → map f (insert xs q x)
    ≡ insert (map f xs) q (f x)
map-insert f [] zero x = refl
map-insert f [] (suc q) x = refl
map-insert f (y ∷ ys) zero x = refl
map-insert f (y ∷ ys) (suc q) x = ap (λ t. f y ∷ t) (map-insert f ys q x)

pub all-insert : {A : Type 0} (P : A → Type 0) (xs : List A) (q : ℕ) (x : A) → q ≤ length xs → P x
    → All P xs → All P (insert xs q x)
all-insert {A = A} P xs q x l hx h k d m = subst P (sym (get-insert xs q x d k l))
    (go k (slot q (length xs) k l (omega (arith, m, length-insert xs q x))))
  where
    go : (k : ℕ) → Slot q (length xs) k → P (insert_at q x (λ l. get_or xs l d) k)
    go _ here = subst P (sym (insert-at q x (λ l. get_or xs l d))) hx
    go _ (there i o) = subst P (sym (insert-skip q i x (λ l. get_or xs l d))) (h i d o)

module _ (R : RingOps) (laws : IsCommRing R) where
  infixl 60 ◌⊞◌
  infixl 70 ◌*◌
  open R use {add as ◌⊞◌, mul as ◌*◌, neg as minus, carrier as C}

  pub span-family : (r : ℕ) (w u : ℕ → ℕ → C) (v : ℕ → C) → ((i j : ℕ) → i < r → u i j ≡ w i j)
      → InSpan R r w v → InSpan R r u v
  span-family r w u v e h = record {
    coefficients = h.coefficients;
    sum = λ j. h.sum j
        ∙ sum-ext R laws r (λ i. h.coefficients i * w i j) (λ i. h.coefficients i * u i j)
        (λ i l. ap (λ t. h.coefficients i * t) (sym (e i j l)));
  }

  pub echelon-same : (r : ℕ) (b c : ℕ → ℕ → C) (pivot pivots : ℕ → ℕ)
      → ((i j : ℕ) → i < r → c i j ≡ b i j) → ((i : ℕ) → i < r → pivots i ≡ pivot i)
      → IsEchelon R r b pivot → IsEchelon R r c pivots
  echelon-same r b c pivot pivots hb hp echelon = record {
    one_at = λ i l. hb i (pivots i) l ∙ ap (b i) (hp i l) ∙ echelon.one_at i l;
    zero_at = λ i k l m n. hb k (pivots i) m ∙ ap (b k) (hp i l) ∙ echelon.zero_at i k l m n;
    begins = λ i j l h. hb i j l ∙ echelon.begins i j l (omega (arith, h, hp i l));
    rises = λ i k l m. omega (arith, echelon.rises i k l m, hp i (omega arith), hp k m);
  }

  pub same-trans : (r : ℕ) (w : ℕ → ℕ → C) (s : ℕ) (u : ℕ → ℕ → C) (t : ℕ) (z : ℕ → ℕ → C)
      → SameSpan R r w s u → SameSpan R s u t z → SameSpan R r w t z
  same-trans r w s u t z h k = record {
    into = λ i l. span-inside R laws s u t z (w i) k.into (h.into i l);
    back = λ i l. span-inside R laws s u r w (z i) h.back (k.back i l);
  }

module _ (K : Elements ℕ) (laws : IsCommRing K.ring) where
  -- w is put in at index q, after the rows were cleared at its pivot p
  module _ (s t : SpaceParts) (mid : List (List ℕ)) (w : List ℕ) (q p : ℕ) (space : IsSpace K s)
      (vec : IsVector K s.len w) (within : q ≤ length s.pivots) (bound : p < s.len)
      (one : vector_of K w p ≡ K.one) (begins : (j : ℕ) → j < p → vector_of K w j ≡ K.zero)
      (zeros : (i : ℕ) → i < length s.basis → vector_of K w (get_or s.pivots i 0) ≡ K.zero)
      (lower : (i : ℕ) → i < q → get_or s.pivots i 0 < p)
      (upper : (i : ℕ) → q ≤ i → i < length s.pivots → p < get_or s.pivots i 0)
      (count : length mid ≡ length s.basis) (rows : All (IsVector K s.len) mid)
      (value : (i j : ℕ) → i < length s.basis → vectors_of K mid i j
      ≡ K.add (vectors_of K s.basis i j)
      (K.neg (K.mul (vectors_of K s.basis i p) (vector_of K w j))))
      (len_is : t.len ≡ s.len) (basis_is : t.basis ≡ insert mid q w)
      (pivots_is : t.pivots ≡ insert s.pivots q p) where
    r : ℕ
    r = length s.basis

    abbrev b : ℕ → ℕ → K.carrier
    b = vectors_of K s.basis

    abbrev fresh : ℕ → ℕ → K.carrier
    fresh = insert_at q (vector_of K w) (λ i. clear K.ring laws p (vector_of K w) (b i))

    in_rows : q ≤ length s.basis
    in_rows = omega (arith, within, space.count)

    fresh-is : (i j : ℕ) → i < suc (length s.basis) → vectors_of K t.basis i j ≡ fresh i j
    fresh-is i j l = ap (λ t. vectors_of K t i j) basis_is
        ∙ ap (λ t. vector_of K t j) (get-insert mid q w [] i (omega (arith, in_rows, count)))
        ∙ go i (slot q (length s.basis) i in_rows l)
      where
        go : (i : ℕ) → Slot q (length s.basis) i
            → vector_of K (insert_at q w (λ l. get_or mid l []) i) j ≡ fresh i j
        go _ here = ap (λ t. vector_of K t j) (insert-at q w (λ l. get_or mid l []))
            ∙ sym (ap (λ (f : ℕ → K.carrier). f j)
            (insert-at q (vector_of K w) (λ i. clear K.ring laws p (vector_of K w) (b i))))
        go _ (there i m) = ap (λ t. vector_of K t j) (insert-skip q i w (λ l. get_or mid l []))
            ∙ value i j m ∙ sym (ap (λ (f : ℕ → K.carrier). f j)
            (insert-skip q i (vector_of K w) (λ i. clear K.ring laws p (vector_of K w) (b i))))

    basis_count : length t.basis ≡ suc (length s.basis)
    basis_count = ap length basis_is ∙ length-insert mid q w ∙ ap suc count

    pub inserted-space : IsSpace K t
    inserted-space = record {
      rows = subst (All (IsVector K t.len)) (sym basis_is)
          (subst (λ n. All (IsVector K n) (insert mid q w)) (sym len_is)
          (all-insert (IsVector K s.len) mid q w (omega (arith, in_rows, count)) vec rows));
      count = ap length pivots_is ∙ length-insert s.pivots q p ∙ ap suc space.count
          ∙ sym basis_count;
      inside = subst (All (λ p. p < t.len)) (sym pivots_is)
          (subst (λ n. All (λ p. p < n) (insert s.pivots q p)) (sym len_is)
          (all-insert (λ p. p < s.len) s.pivots q p within bound space.inside));
      echelon = subst (λ n. IsEchelon K.ring n (vectors_of K t.basis) (λ i. get_or t.pivots i 0))
          (sym basis_count)
          (echelon-same K.ring laws (suc (length s.basis)) fresh (vectors_of K t.basis)
          (insert_at q p (λ l. get_or s.pivots l 0)) (λ i. get_or t.pivots i 0) fresh-is
          (λ i l. ap (λ t. get_or t i 0) pivots_is ∙ get-insert s.pivots q p 0 i within)
          (insert-echelon K.ring laws (length s.basis) q p b (λ l. get_or s.pivots l 0)
          (vector_of K w) space.echelon one begins zeros (λ i l m. lower i l)
          (λ i l m. upper i l (omega (arith, m, space.count))) in_rows));
    }

    pub inserted-same : SameSpace K t.basis (w ∷ s.basis)
    inserted-same = subst (λ n. SameSpan K.ring n (vectors_of K t.basis) (suc (length s.basis))
        (vectors_of K (w ∷ s.basis))) (sym basis_count) (record {
          into = λ i l. span-same K.ring laws (suc (length s.basis)) (vectors_of K (w ∷ s.basis))
              (fresh i) (vectors_of K t.basis i) (λ j. fresh-is i j l)
              (after-in K.ring laws (length s.basis) q b p (vector_of K w) (vector_of K w)
              (suc (length s.basis)) (vectors_of K (w ∷ s.basis))
              (span-one K.ring laws (suc (length s.basis)) (vectors_of K (w ∷ s.basis)) 0
              (omega arith))
              (λ i m. span-one K.ring laws (suc (length s.basis)) (vectors_of K (w ∷ s.basis))
              (suc i) (omega arith)) in_rows i l);
          back = λ i l. span-family K.ring laws (suc (length s.basis)) fresh (vectors_of K t.basis)
              (vectors_of K (w ∷ s.basis) i) fresh-is (go i l);
        })
      where
        go : (i : ℕ) → i < suc (length s.basis)
            → InSpan K.ring (suc (length s.basis)) fresh (vectors_of K (w ∷ s.basis) i)
        go zero l = after-w K.ring laws (length s.basis) q b p (vector_of K w) (vector_of K w) 0 b
            in_rows
        go (suc i) l = after-old K.ring laws (length s.basis) q b p (vector_of K w) (vector_of K w)
            0 b in_rows i (omega arith)

  -- v and w, each a multiple of the other and a combination of the basis, give one space
  pub same-head : (basis : List (List ℕ)) (v w : List ℕ) (c d : K.carrier) (f g : ℕ → K.carrier)
      → ((j : ℕ) → vector_of K w j ≡ K.add (K.mul c (vector_of K v j)) (combination K.ring (length
      basis) f (vectors_of K basis) j))
      → ((j : ℕ) → vector_of K v j ≡ K.add (K.mul d (vector_of K w j)) (combination K.ring (length
      basis) g (vectors_of K basis) j))
      → SameSpace K (w ∷ basis) (v ∷ basis)
  same-head basis v w c d f g hw hv = record { into = one v w c f hw; back = one w v d g hv }
    where
      one : (v w : List ℕ) (c : K.carrier) (f : ℕ → K.carrier)
          → ((j : ℕ) → vector_of K w j ≡ K.add (K.mul c (vector_of K v j)) (combination K.ring
          (length basis) f (vectors_of K basis) j))
          → (i : ℕ) → i < suc (length basis)
          → InSpan K.ring (suc (length basis)) (vectors_of K (v ∷ basis))
          (vectors_of K (w ∷ basis) i)
      one v w c f h (suc i) l = span-one K.ring laws (suc (length basis)) (vectors_of K (v ∷ basis))
          (suc i) l
      one v w c f h zero l = span-same K.ring laws (suc (length basis)) (vectors_of K (v ∷ basis))
          (λ j. K.add (K.mul c (vector_of K v j))
          (combination K.ring (length basis) f (vectors_of K basis) j)) (vector_of K w) h
          (span-more K.ring laws (suc (length basis)) (vectors_of K (v ∷ basis)) c (vector_of K v)
          (combination K.ring (length basis) f (vectors_of K basis))
          (span-one K.ring laws (suc (length basis)) (vectors_of K (v ∷ basis)) 0 (omega arith))
          (span-combination K.ring laws (length basis) (vectors_of K basis) (suc (length basis))
          (vectors_of K (v ∷ basis)) f (λ i m. span-one K.ring laws (suc (length basis))
          (vectors_of K (v ∷ basis)) (suc i) (omega arith))))

pub all-map : {V A : Type 0} (P : A → Type 0) (items : V → A) (xs : List V)
    → All (λ v. P (items v)) xs → All P (map items xs)
all-map P items [] h k d l = absurd (omega arith)
all-map P items (x ∷ xs) h zero d l = h zero x (omega arith)
all-map P items (x ∷ xs) h (suc k) d l = all-map P items xs (λ k d l. h (suc k) d (omega arith)) k d
    (omega arith)

pub all-unmap : {V A : Type 0} (P : A → Type 0) (items : V → A) (xs : List V) → All P (map items xs)
    → All (λ v. P (items v)) xs
all-unmap P items [] h k d l = absurd (omega arith)
all-unmap P items (x ∷ xs) h zero d l = h zero (items x) (omega arith)
all-unmap P items (x ∷ xs) h (suc k) d l = all-unmap P items xs (λ k d l. h (suc k) d (omega arith))
    k d (omega arith)

module _ {V : Type 0} (K : Elements ℕ) (items : V → List ℕ) where
  pub rows_vectors : (rows old : List V) (basis : List (List ℕ)) (w v : List ℕ) (n : ℕ) → rows ≡ old
      → map items old ≡ basis → w ≡ v → IsVector K n v → All (IsVector K n) basis
      → All (λ v. IsVector K (length w) (items v)) rows
  rows_vectors rows old basis w v n hr hb hw vec h =
      subst (λ n. All (λ v. IsVector K n (items v)) rows) (sym (ap length hw ∙ vec.len))
      (all-unmap (IsVector K n) items rows
      (subst (All (IsVector K n)) (sym (ap (map items) hr ∙ hb)) h))

  pub basis_vectors : (rows old : List V) (s : SpaceParts) (n : ℕ) → rows ≡ old → map items old
      ≡ s.basis → n ≡ s.len → IsSpace K s → All (λ v. IsVector K n (items v)) rows
  basis_vectors rows old s n hr hb hn space = subst (λ n. All (λ v. IsVector K n (items v)) rows)
      (sym hn) (all-unmap (IsVector K s.len) items rows
      (subst (All (IsVector K s.len)) (sym (ap (map items) hr ∙ hb)) space.rows))

  pub insert_code : (laws : IsCommRing K.ring) (s t : SpaceParts) (old new : List V)
      (indices : List ℕ) (w : V) (wl : List ℕ) (q p : ℕ)
      → IsSpace K s → IsVector K s.len (items w) → p < s.len → vector_of K (items w) p ≡ K.one
      → ((j : ℕ) → j < p → vector_of K (items w) j ≡ K.zero)
      → ((i : ℕ) → i < length s.basis → vector_of K (items w) (get_or s.pivots i 0) ≡ K.zero)
      → map items old ≡ s.basis → indices ≡ s.pivots → q ≤ length indices
      → ((i : ℕ) → i < q → get_or indices i 0 < p)
      → ((i : ℕ) → q ≤ i → i < length indices → p < get_or indices i 0)
      → wl ≡ items w → length new ≡ length old → All (λ v. IsVector K (length wl) (items v)) new
      → ((i j : ℕ) → i < length old → vectors_of K (map items new) i j
      ≡ K.add (vectors_of K (map items old) i j)
      (K.neg (K.mul (vectors_of K (map items old) i p) (vector_of K wl j))))
      → t.len ≡ s.len → t.basis ≡ insert (map items new) q (items w) → t.pivots
      ≡ insert s.pivots q p
      → IsSpace K t × SameSpace K t.basis (items w ∷ s.basis)
  insert_code laws s t old new indices w wl q p space vec bound one begins zeros hold hplaces within
      lower upper hw count rows value hlen hbasis hpivots = (
        inserted-space K laws s t (map items new) (items w) q p space vec inside bound one begins
            zeros
            low up cnt rws val hlen hbasis hpivots,
        inserted-same K laws s t (map items new) (items w) q p space vec inside bound one begins
            zeros
            low up cnt rws val hlen hbasis hpivots,
      )
    where
      inside : q ≤ length s.pivots
      inside = omega (arith, within, ap length hplaces)

      low : (i : ℕ) → i < q → get_or s.pivots i 0 < p
      low i l = subst (λ t. get_or t i 0 < p) hplaces (lower i l)

      up : (i : ℕ) → q ≤ i → i < length s.pivots → p < get_or s.pivots i 0
      up i l m = subst (λ t. p < get_or t i 0) hplaces
          (upper i l (omega (arith, m, ap length hplaces)))

      cnt : length (map items new) ≡ length s.basis
      cnt = length-map new items ∙ count ∙ sym (length-map old items) ∙ ap length hold

      rws : All (IsVector K s.len) (map items new)
      rws = subst (λ n. All (IsVector K n) (map items new)) (ap length hw ∙ vec.len)
          (all-map (IsVector K (length wl)) items new rows)

      val : (i j : ℕ) → i < length s.basis → vectors_of K (map items new) i j
          ≡ K.add (vectors_of K s.basis i j)
          (K.neg (K.mul (vectors_of K s.basis i p) (vector_of K (items w) j)))
      val i j l = value i j (omega (arith, l, length-map old items, ap length hold))
          ∙ ap (λ t. K.add (vectors_of K t i j)
          (K.neg (K.mul (vectors_of K t i p) (vector_of K wl j)))) hold
          ∙ ap (λ t. K.add (vectors_of K s.basis i j)
          (K.neg (K.mul (vectors_of K s.basis i p) (vector_of K t j)))) hw
