-- Expressions over monic polynomials by relations, for an equation f over a field whose laws are L.
use Rattle.std.proofs.Common.{◌≡◌, ℕ, zero, suc, ◌+◌, ◌-◌, ◌*◌, ◌<◌, ◌≤◌, ◌⊎◌, inl, inr, List, []}
use Rattle.std.proofs.Common.{length, map, get_or, refl, sym, ◌∙◌, ap, subst, arith}
use Rattle.std.proofs.lemmas.Bool.{cases_lt, cond_above}
use Rattle.std.proofs.Math.Dec.{ltb}
use Rattle.std.proofs.Math.Bool.{cond}
use Rattle.ff_theory.specs.Ring.{RingOps, IsCommRing, Elements}
use Rattle.ff_theory.specs.Lawful.{Lawful}
use Rattle.ff_theory.specs.Span.{combination, EndsAt}
use Rattle.ff_theory.specs.Values.{leading, IsPoly}
use Rattle.ff_theory.specs.Vector.{vector_of, vectors_of}
use Rattle.ff_theory.proofs.Coeffs.{coeff-past}
use Rattle.ff_theory.proofs.Sums.{sum-ext, sum-zero}
use Rattle.ff_theory.proofs.Solver.{◌⊕◌, neg, nil, ring1, mul_zero}
use Rattle.ff_poly.proofs.Scaling.{lead-nonzero}
use Rattle.ff_lin.specs.Space.{SpaceParts, InSpace, HasExactly}
use Rattle.ff_elem.specs.declared.elem.Elem.{Elem}
use Rattle.ff_elem.specs.Elem.{elem_of}
use Rattle.ff_data.specs.declared.system.Coords.{Coords}
use Rattle.ff_data.specs.Combinations.{IsRelationOf}
use Rattle.ff_data.specs.Systems.{IsExpression, IsWithinWeight}
use Rattle.ff_systems.specs.Places.{frame}
use Rattle.ff_describe.specs.Levels.{offset, HasLevels, AreCounts, AreDescending}
use Rattle.ff_describe.specs.Readings.{AreCut, IsLed, IsWrittenBy, IsWrittenIn, AreZero, AreLight}
use Rattle.ff_describe.proofs.LevelSums.{spread}
use Rattle.ff_describe.proofs.WrittenLemmas.{falling-writes, relation_for, writes-relation}
use Rattle.ff_describe.proofs.WrittenLemmas.{relation-head}

module _ (K : Elements ℕ) (L : Lawful K) where
  -- the polynomial of a row that begins with one
  pub led-monic : (n : ℕ) (v : ℕ → K.carrier) (q : List ℕ) → IsLed K n v → IsPoly K q
      → length q ≤ n → ((a : ℕ) → a < n → vector_of K q a ≡ v (n - 1 - a))
      → leading K q ≡ K.one
  led-monic n v q led hq short h = go (cases_lt (length q) (suc top)) (cases_lt top (length q - 1))
    where
      top : ℕ
      top = n - 1 - led.index

      at_top : vector_of K q top ≡ K.one
      at_top = let t : n - 1 - top ≡ led.index = omega (arith, led.below) in
          h top (omega (arith, led.below)) ∙ ap v t ∙ led.one

      go : (length q < suc top) ⊎ (suc top ≤ length q) → (top < length q - 1) ⊎ (length q - 1 ≤ top)
          → leading K q ≡ K.one
      go (inl s) k = absurd (L.finite.field.one_not_zero (sym at_top
          ∙ coeff-past K.ring K.value q top (omega (arith, s))))
      go (inr s) (inl k) = absurd (lead-nonzero K L q hq (omega (arith, k))
          (h (length q - 1) (omega (arith, k, short)) ∙ led.zeros (n - 1 - (length q - 1))
          (omega (arith, k, short, led.below))))
      go (inr s) (inr k) = let t : length q - 1 ≡ top = omega (arith, s, k) in
          ap (vector_of K q) t ∙ at_top

  -- a combination of vectors that are zero at an index
  zero-at : (r : ℕ) (c : ℕ → K.carrier) (w : ℕ → ℕ → K.carrier) (j : ℕ)
      → ((i : ℕ) → i < r → w i j ≡ K.zero) → combination K.ring r c w j ≡ K.zero
  zero-at r c w j h = sum-ext K.ring L.laws r (λ i. K.mul (c i) (w i j)) (λ i. K.zero)
      (λ i l. ap (K.mul (c i)) (h i l) ∙ mul_zero K.ring L.laws (c i))
      ∙ sum-zero K.ring L.laws r

  -- past the last block
  spread-past : (counts : List ℕ) (c : List (List ℕ)) (m j : ℕ)
      → ((l : ℕ) → l < m → length (get_or c l []) ≤ get_or counts l 0) → offset counts m ≤ j
      → spread K.zero counts (λ l. vector_of K (get_or c l [])) m j ≡ K.zero
  spread-past counts c zero j h k = refl
  spread-past counts c (suc m) j h k = let s : length (get_or c m []) ≤ get_or counts m 0
      = h m (omega arith) in
      sym (cond_above j (offset counts m)
      (spread K.zero counts (λ l. vector_of K (get_or c l [])) m j)
      (vector_of K (get_or c m []) (j - offset counts m))
      (vector_of K (get_or c m []) (j - offset counts m)) (omega (arith, k)) refl)
      ∙ coeff-past K.ring K.value (get_or c m []) (j - offset counts m) (omega (arith, k, s))

-- coordinates within the counts are within the weight
pub short-light : (e bound : ℕ) (weights counts : List ℕ) (c : List (List ℕ))
    → AreCounts e bound weights counts → length c ≡ length counts
    → ((l : ℕ) → l < length counts → length (get_or c l []) ≤ get_or counts l 0)
    → AreLight e weights bound c
short-light e bound weights counts c h len short l below some =
    let s : length (get_or c l []) ≤ get_or counts l 0 = short l (omega (arith, below, len)) in
    ((h.each l (omega (arith, below, len, h.count))) (length (get_or c l []) - 1)).0
    (omega (arith, s, some))

-- and coordinates within the weight are within the counts
pub light-short : (e bound : ℕ) (weights counts : List ℕ) (c : List (List ℕ))
    → AreCounts e bound weights counts → length c ≡ length counts
    → AreLight e weights bound c
    → (l : ℕ) → l < length counts → length (get_or c l []) ≤ get_or counts l 0
light-short e bound weights counts c h len light l below = go (cases_lt 0 (length (get_or c l [])))
  where
    go : (0 < length (get_or c l [])) ⊎ (length (get_or c l []) ≤ 0)
        → length (get_or c l []) ≤ get_or counts l 0
    go (inr s) = omega (arith, s)
    go (inl s) = let t : length (get_or c l []) - 1 < get_or counts l 0
        = ((h.each l (omega (arith, below, h.count))) (length (get_or c l []) - 1)).1
        (light l (omega (arith, below, len)) s) in omega (arith, s, t)

module _ (K : Elements ℕ) (L : Lawful K) (f : List (List ℕ)) (e bound : ℕ) (z : Elem)
    (b : List Elem) (weights counts : List ℕ) (heads ws : List Elem) (w : Elem) (m : ℕ)
    (count : length weights ≡ e) (limits : AreCounts e bound weights counts)
    (levels : HasLevels L f heads z b counts (length counts) ws)
    (falling : AreDescending L f z w m heads)
    (s : SpaceParts) (exact : HasExactly K s (IsRelationOf L f ws)) where
  -- what a vector of the space writes
  pub written-expression : (c : Coords) → IsWrittenIn K (length heads) counts s c
      → ((i : ℕ) → i < length s.basis → InSpace K s (vectors_of K s.basis i))
      → IsExpression L f (frame e z b weights) (elem_of L f w) m bound c
  written-expression c h inside =
      let v : ℕ → K.carrier = vectors_of K s.basis h.index in
      let r : IsRelationOf L f ws (vectors_of K s.basis h.index)
      = ((exact (vectors_of K s.basis h.index)).0 (inside h.index h.below)).1 in
      let q = h.written in
      record {
        form = record {
          q = q.q;
          monic = led-monic K L (length heads) (vectors_of K s.basis h.index) c.q h.led q.q q.short
              q.value;
          coords = record {
            each = q.cut.each;
            count = q.cut.count ∙ limits.count ∙ count;
          };
        };
        degree = omega (arith, q.short, falling.len);
        weight = short-light e bound weights counts c.c limits q.cut.count q.cut.short;
        writes = falling-writes K L f e z b weights counts heads ws levels w m falling
            (vectors_of K s.basis h.index) c r q;
      }

  -- where all vectors of the space begin with zeros there is none
  pub no-expression : s.len ≡ length heads + offset counts (length counts)
      → ((i : ℕ) → i < length s.basis → AreZero K (length heads) (vectors_of K s.basis i))
      → (c : Coords) → ¬ IsExpression L f (frame e z b weights) (elem_of L f w) m bound c
  no-expression len zeros c h =
      let short = light-short e bound weights counts c.c limits
      (h.form.coords.count ∙ sym count ∙ sym limits.count) h.weight in
      let v : ℕ → K.carrier = relation_for K L f e z b weights counts heads ws levels w m falling
      c.q c.c in
      let few : length c.q ≤ length heads = omega (arith, h.degree, falling.len) in
      let r : IsRelationOf L f ws v = writes-relation K L f e z b weights counts heads ws levels w m
      falling c.q c.c few (h.form.coords.count ∙ sym count ∙ sym limits.count) short h.writes in
      go v few (relation-head K L f e z b weights counts heads ws levels w m falling c.q c.c)
      ((exact v).1 ((λ j l. past j (omega (arith, l, len)) short), r))
    where
      past : (j : ℕ) → length heads + offset counts (length counts) ≤ j
          → ((l : ℕ) → l < length counts → length (get_or c.c l []) ≤ get_or counts l 0)
          → relation_for K L f e z b weights counts heads ws levels w m falling c.q c.c j ≡ K.zero
      past j l short = sym (cond_above j (length heads)
          (vector_of K c.q (length heads - 1 - j))
          (K.neg (spread K.zero counts (λ l. vector_of K (get_or c.c l [])) (length counts)
          (j - length heads)))
          (K.neg (spread K.zero counts (λ l. vector_of K (get_or c.c l [])) (length counts)
          (j - length heads))) (omega (arith, l)) refl)
          ∙ ap K.neg (spread-past K L counts c.c (length counts) (j - length heads) short
          (omega (arith, l)))
          ∙ ring1 K.ring L.laws (λ x. neg nil) (λ x. nil) refl K.zero

      go : (v : ℕ → K.carrier) → length c.q ≤ length heads
          → ((i j : ℕ) → i + j + 1 ≡ length heads → v i ≡ vector_of K c.q j)
          → InSpace K s v → ⊥
      go v few head inside = some (cases_lt 0 (length c.q))
        where
          some : (0 < length c.q) ⊎ (length c.q ≤ 0) → ⊥
          some (inr l) = L.finite.field.one_not_zero (sym h.form.monic
              ∙ coeff-past K.ring K.value c.q (length c.q - 1) (omega (arith, l)))
          some (inl l) = L.finite.field.one_not_zero (sym h.form.monic
              ∙ sym (head (length heads - length c.q) (length c.q - 1) (omega (arith, l, few)))
              ∙ inside.sum (length heads - length c.q)
              ∙ zero-at K L (length s.basis) inside.coefficients (vectors_of K s.basis)
              (length heads - length c.q)
              (λ i q. zeros i q (length heads - length c.q) (omega (arith, l, few))))
