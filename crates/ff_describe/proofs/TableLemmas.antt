-- The table of the products of a basis, for an equation f over a field whose laws are L.
use Rattle.std.proofs.Common.{◌≡◌, ℕ, zero, suc, ◌+◌, ◌-◌, ◌*◌, ◌<◌, ◌≤◌, ◌⊎◌, inl, inr, List, []}
use Rattle.std.proofs.Common.{length, map, get_or, refl, sym, ◌∙◌, ap, subst, arith, All}
use Rattle.std.proofs.lemmas.Bool.{cases_lt}
use Rattle.std.proofs.lemmas.List.{get_or_default}
use Rattle.ff_theory.specs.Ring.{RingOps, IsCommRing, Elements}
use Rattle.ff_theory.specs.Lawful.{Lawful, lawful_field}
use Rattle.ff_theory.specs.Values.{plane_of}
use Rattle.ff_theory.specs.Vector.{vectors_of}
use Rattle.ff_theory.proofs.Element.{algebra_is_ring}
use Rattle.ff_theory.proofs.Span.{span-one}
use Rattle.ff_lin.specs.Space.{SpaceParts, InSpace, HasExactly}
use Rattle.ff_elem.specs.declared.elem.Elem.{Elem}
use Rattle.ff_elem.specs.Elem.{algebra_in}
use Rattle.ff_data.specs.declared.system.System.{System}
use Rattle.ff_data.specs.Combinations.{elems_of, IsRelationOf}
use Rattle.ff_data.specs.Systems.{AreCoords, IsWithinWeight, weight_at}
use Rattle.ff_systems.specs.Places.{frame}
use Rattle.ff_describe.specs.Levels.{offset, triangle, product_of, HasLevels, AreCounts}
use Rattle.ff_describe.specs.Levels.{AreProducts}
use Rattle.ff_describe.specs.Readings.{IsReading, IsTriangleRow, IsTriangle, IsSide, AreSides}
use Rattle.ff_forms.specs.declared.functions.Functions.{Functions}
use Rattle.ff_describe.specs.Described.{frame_of, IsProductEntry, IsTriangleOf, IsTableOf}
use Rattle.ff_describe.proofs.ElemLemmas.{triangle-next}
use Rattle.ff_describe.proofs.WrittenLemmas.{unit-writes}

module _ (K : Elements ℕ) (L : Lawful K) (f : List (List ℕ)) where
  abbrev A : RingOps
  A = algebra_in L f

  AL : IsCommRing (algebra_in L f)
  AL = algebra_is_ring (lawful_field L) (plane_of K f)

  -- a vector of the basis is in the space
  pub in-space : (s : SpaceParts) (i : ℕ) → i < length s.basis
      → InSpace K s (vectors_of K s.basis i)
  in-space s i l = span-one K.ring L.laws (length s.basis) (vectors_of K s.basis) i l

  -- what the rows of the relations write of the products
  pub triangle-written : (e bound : ℕ) (z : Elem) (b : List Elem) (weights counts : List ℕ)
      (heads ws : List Elem) (s : SpaceParts) (rows : List (List ℕ))
      (lists : List (List (List (List ℕ)))) → length b ≡ e → length weights ≡ e
      → AreCounts e bound weights counts → AreProducts L f b (length b) heads
      → HasLevels L f heads z b counts (length counts) ws
      → HasExactly K s (IsRelationOf L f ws) → rows ≡ s.basis → length heads ≤ length rows
      → IsTriangle K e weights counts (vectors_of K rows) (length heads) (length weights) lists
      → IsTriangleOf L f (frame e z b weights) lists
  triangle-written e bound z b weights counts heads ws s rows lists hb hw limits products levels
      exact same all h = record {
        count = h.count ∙ hw;
        shape = λ j l. (h.row j (omega (arith, l, h.count))).count;
        entry = entry;
      }
    where
      entry : (i j : ℕ) → i ≤ j → j < e
          → IsProductEntry L f (frame e z b weights) i j (get_or (get_or lists j []) i [])
      entry i j le below =
          let row = h.row j (omega (arith, below, hw)) in
          let read : IsReading K e weights counts (vectors_of K rows) (length heads)
          (triangle j + i)
          (get_or weights i 0 + get_or weights j 0) (get_or (get_or lists j []) i [])
          = row.reading i (omega (arith, le)) in
          let t : triangle j + suc j ≤ triangle (length b) = triangle-next (length b) j
          (omega (arith, below, hb)) in
          let r : triangle j + i < length heads = omega (arith, t, le, products.len) in
          let inside : InSpace K s (vectors_of K rows (triangle j + i))
          = subst (λ m. InSpace K s (vectors_of K m (triangle j + i))) (sym same)
          (in-space s (triangle j + i) (omega (arith, r, all, ap length same))) in
          record {
            coords = record {
              each = read.cut.each;
              count = read.cut.count ∙ limits.count ∙ hw;
            };
            value = unit-writes K L f e z b weights counts heads ws levels
                (vectors_of K rows (triangle j + i)) (get_or (get_or lists j []) i [])
                (triangle j + i) r ((exact (vectors_of K rows (triangle j + i))).0 inside).1
                read.unit read.cut
                ∙ products.value i j le (omega (arith, below, hb));
            weight = read.light;
          }

  -- and the same of parts that are read in the code
  pub triangle-read : (functions : Functions) (e bound : ℕ) (z : Elem) (b : List Elem)
      (weights counts first last : List ℕ) (heads ws list : List Elem) (s : SpaceParts)
      (rows : List (List ℕ)) (n : ℕ) (lists : List (List (List (List ℕ))))
      → frame e z b weights ≡ frame_of functions → length b ≡ e → length weights ≡ e
      → AreCounts e bound weights counts → AreProducts L f b (length b) heads
      → first ≡ counts → HasLevels L f heads z b first (length first) ws
      → list ≡ ws → HasExactly K s (IsRelationOf L f list) → rows ≡ s.basis
      → n ≡ length heads → n ≤ length rows → last ≡ counts
      → IsTriangle K e weights last (vectors_of K rows) n (length weights) lists
      → IsTriangleOf L f (frame_of functions) lists
  triangle-read functions e bound z b weights counts first last heads ws list s rows n lists same hb
      hw limits products hf levels hl exact he hn all hd h =
      subst (λ r. IsTriangleOf L f r lists) same
      (triangle-written e bound z b weights counts heads ws s rows lists hb hw limits products
      (subst (λ c. HasLevels L f heads z b c (length c) ws) hf levels)
      (subst (λ t. HasExactly K s (IsRelationOf L f t)) hl exact) he (omega (arith, all, hn))
      (subst (λ c. IsTriangle K e weights c (vectors_of K rows) (length heads) (length weights)
      lists) hd (subst (λ m. IsTriangle K e weights last (vectors_of K rows) m (length weights)
      lists) hn h)))

  -- the entry for two elements in the other order
  swapped : (s : System) (i k : ℕ) (c : List (List ℕ)) → IsProductEntry L f s i k c
      → IsProductEntry L f s k i c
  swapped s i k c h = record {
    coords = h.coords;
    value = h.value ∙ AL.mul_comm (elems_of L f s.b i) (elems_of L f s.b k);
    weight = λ l p q. let t = h.weight l p q in omega (arith, t);
  }

  -- both sides of a triangle make the table
  pub sides-table : (s : System) (lists table : List (List (List (List ℕ))))
      → IsTriangleOf L f s lists → AreSides lists (length lists) table → IsTableOf L f s table
  sides-table s lists table h k = record {
    rows = k.count ∙ h.count;
    row = λ i d l. ap length (get_or_default table i d [] l) ∙ (side i l).count ∙ h.count;
    each = λ i d l j c q.
        let t : get_or table i d ≡ get_or table i [] = get_or_default table i d [] l in
        let n : j < length (get_or table i []) = subst (λ r. j < length r) t q in
        subst (AreCoords K s) (sym (ap (λ r. get_or r j c) t
        ∙ get_or_default (get_or table i []) j c [] n))
        (entry i j (omega (arith, l, k.count, h.count))
        (omega (arith, n, (side i l).count, h.count))).coords;
    product = λ i j l q. (entry i j l q).value;
    weight = λ i j l q. (entry i j l q).weight;
  }
    where
      side : (i : ℕ) → i < length table → IsSide lists i (length lists) (get_or table i [])
      side i l = k.side i (omega (arith, l, k.count))

      entry : (i j : ℕ) → i < s.e → j < s.e
          → IsProductEntry L f s i j (get_or (get_or table i []) j [])
      entry i j l q = go (cases_lt j i)
        where
          go : (j < i) ⊎ (i ≤ j) → IsProductEntry L f s i j (get_or (get_or table i []) j [])
          go (inl r) = subst (IsProductEntry L f s i j)
              (sym ((k.side i (omega (arith, l, h.count))).upper j (omega (arith, q, h.count))
              (omega (arith, r))))
              (swapped s j i _ (h.entry j i (omega (arith, r)) l))
          go (inr r) = subst (IsProductEntry L f s i j)
              (sym ((k.side i (omega (arith, l, h.count))).lower j (omega (arith, q, h.count)) r))
              (h.entry i j r q)
