-- The rows of the relations, as they are read in the code, where the functions write their
-- products. For an equation f over a field whose laws are L.
use Rattle.std.proofs.Common.{◌≡◌, ℕ, ◌+◌, ◌*◌, ◌<◌, ◌≤◌, List, length, get_or, sym, ◌∙◌, ap}
use Rattle.std.proofs.Common.{subst, arith, All}
use Rattle.ff_theory.specs.Ring.{Elements}
use Rattle.ff_theory.specs.Lawful.{Lawful}
use Rattle.ff_theory.specs.Vector.{vectors_of}
use Rattle.ff_lin.specs.Space.{SpaceParts, IsSpace, HasExactly}
use Rattle.ff_elem.specs.declared.elem.Elem.{Elem}
use Rattle.ff_data.specs.Combinations.{IsRelationOf}
use Rattle.ff_forms.specs.declared.functions.Functions.{Functions}
use Rattle.ff_systems.specs.Places.{frame, WritesProducts}
use Rattle.ff_describe.specs.Levels.{offset, triangle, HasLevels, AreCounts, AreProducts}
use Rattle.ff_describe.specs.Readings.{AreReadable}
use Rattle.ff_describe.specs.Described.{frame_of}
use Rattle.ff_describe.proofs.ElemLemmas.{triangle-next}
use Rattle.ff_describe.proofs.ProductRows.{enough, unit-begins, light-rows}

module _ (K : Elements ℕ) (L : Lawful K) (f : List (List ℕ)) (functions : Functions)
    (e most : ℕ) (z : Elem) (b : List Elem) (weights counts first : List ℕ)
    (heads ws list : List Elem) (s : SpaceParts) (rows : List (List ℕ)) (n : ℕ)
    (same : frame e z b weights ≡ frame_of functions) (many : length b ≡ e)
    (count : length weights ≡ e) (limits : AreCounts e (2 * most) weights counts)
    (products : AreProducts L f b (length b) heads) (hf : first ≡ counts)
    (levels : HasLevels L f heads z b first (length first) ws) (hl : list ≡ ws)
    (space : IsSpace K s) (len : s.len ≡ length list)
    (exact : HasExactly K s (IsRelationOf L f list)) (he : rows ≡ s.basis) (hn : n ≡ length heads)
    (above : All (λ m. m ≤ most) weights)
    (writes : WritesProducts L f (frame_of functions)) where
  levels-of : HasLevels L f heads z b counts (length counts) ws
  levels-of = subst (λ c. HasLevels L f heads z b c (length c) ws) hf levels

  long : s.len ≡ length heads + offset counts (length counts)
  long = len ∙ ap length hl ∙ levels-of.len

  small : (i k : ℕ) → i < e → k < e → get_or weights i 0 + get_or weights k 0 ≤ 2 * most
  small i k l q = let x : get_or weights i 0 ≤ most = above i 0 (omega (arith, l, count)) in
      let y : get_or weights k 0 ≤ most = above k 0 (omega (arith, q, count)) in
      omega (arith, x, y)

  exact-of : HasExactly K s (IsRelationOf L f ws)
  exact-of = subst (λ t. HasExactly K s (IsRelationOf L f t)) hl exact

  writes-of : WritesProducts L f (frame e z b weights)
  writes-of = subst (WritesProducts L f) (sym same) writes

  pub enough-rows : n ≤ length rows
  enough-rows = let x : length heads ≤ length s.basis = enough K L f e (2 * most) z b weights
      counts heads ws many count limits products levels-of writes-of s space long exact-of small in
      omega (arith, x, hn, ap length he)

  pub readable-rows : (last : List ℕ) → last ≡ counts
      → AreReadable K e weights last (vectors_of K rows) n
  readable-rows last hd = subst (λ c. AreReadable K e weights c (vectors_of K rows) n) (sym hd)
      (subst (λ m. AreReadable K e weights counts (vectors_of K rows) m) (sym hn)
      (subst (λ r. AreReadable K e weights counts (vectors_of K r) (length heads)) (sym he)
      (λ j q i l. record {
        unit = unit-begins K L f e (2 * most) z b weights counts heads ws many count limits
            products levels-of writes-of s space long exact-of small (triangle j + i)
            (let a = triangle-next (length b) j (omega (arith, q, many, count)) in
            omega (arith, a, l, products.len));
        light = λ c cut. light-rows K L f e (2 * most) z b weights counts heads ws many count
            limits products levels-of writes-of s space long exact-of small i j (omega (arith, l))
            (omega (arith, q, count)) c cut;
      })))
