-- Rows of a triangle that grow, and its sides.
use Rattle.std.proofs.Common.{◌≡◌, ℕ, ◌+◌, ◌<◌, ◌≤◌, List, [], ◌∷◌, ◌++◌, length, get_or, sym, ◌∙◌}
use Rattle.std.proofs.Common.{subst, arith, ap}
use Rattle.std.proofs.lemmas.List.{length_push}
use Rattle.ff_theory.specs.Ring.{Elements}
use Rattle.ff_describe.specs.Levels.{triangle}
use Rattle.ff_describe.specs.Readings.{IsReading, IsTriangleRow, IsTriangle, IsSide, AreSides}
use Rattle.ff_data.proofs.ListLemmas.{pushed-at}

module _ (F : Elements ℕ) (e : ℕ) (weights counts : List ℕ) (rows : ℕ → ℕ → F.carrier) (n : ℕ)
  where
    -- one reading more in a row
    pub row-more : (j i : ℕ) (lists : List (List (List ℕ))) (c : List (List ℕ))
        (longer : List (List (List ℕ)))
        → IsTriangleRow F e weights counts rows n j i lists
        → IsReading F e weights counts rows n (triangle j + i)
        (get_or weights i 0 + get_or weights j 0) c → longer ≡ lists ++ c ∷ []
        → IsTriangleRow F e weights counts rows n j (i + 1) longer
    row-more j i lists c longer h k s = record {
      count = let t : length (lists ++ c ∷ []) ≡ length lists + 1 = length_push lists c in
          omega (arith, t, h.count, ap length s);
      reading = pushed-at (λ i q. IsReading F e weights counts rows n (triangle j + i)
          (get_or weights i 0 + get_or weights j 0) q) [] lists c longer i s h.count h.reading k;
    }

    -- one row more
    pub rows-more : (j : ℕ) (lists : List (List (List (List ℕ)))) (r : List (List (List ℕ)))
        (longer : List (List (List (List ℕ))))
        → IsTriangle F e weights counts rows n j lists
        → IsTriangleRow F e weights counts rows n j (j + 1) r → longer ≡ lists ++ r ∷ []
        → IsTriangle F e weights counts rows n (j + 1) longer
    rows-more j lists r longer h k s = record {
      count = let t : length (lists ++ r ∷ []) ≡ length lists + 1 = length_push lists r in
          omega (arith, t, h.count, ap length s);
      row = pushed-at (λ j q. IsTriangleRow F e weights counts rows n j (j + 1) q) [] lists r longer
          j
          s h.count h.row k;
    }

-- an entry of the diagonal is on both sides
pub on-diagonal : (lists : List (List (List (List ℕ)))) (i j : ℕ) (c : List (List ℕ))
    → c ≡ get_or (get_or lists j []) i [] → i ≤ j → j ≤ i → c ≡ get_or (get_or lists i []) j []
on-diagonal lists i j c h a b = let e : i ≡ j = omega (arith, a, b) in
    h ∙ ap (λ k. get_or (get_or lists k []) i []) (sym e)
    ∙ ap (λ k. get_or (get_or lists i []) k []) e

-- one entry more on a side
pub side-more : (lists : List (List (List (List ℕ)))) (i j : ℕ) (r longer : List (List (List ℕ)))
    (c : List (List ℕ)) → IsSide lists i j r
    → (i ≤ j → c ≡ get_or (get_or lists j []) i []) → (j ≤ i → c ≡ get_or (get_or lists i []) j [])
    → longer ≡ r ++ c ∷ [] → IsSide lists i (j + 1) longer
side-more lists i j r longer c h low up s = record {
  count = let t : length (r ++ c ∷ []) ≡ length r + 1 = length_push r c in
      omega (arith, t, h.count, ap length s);
  lower = pushed-at (λ j q. i ≤ j → q ≡ get_or (get_or lists j []) i []) [] r c longer j s h.count
      h.lower low;
  upper = pushed-at (λ j q. j ≤ i → q ≡ get_or (get_or lists i []) j []) [] r c longer j s h.count
      h.upper up;
}

-- one side more
pub sides-more : (lists table longer : List (List (List (List ℕ)))) (i : ℕ)
    (r : List (List (List ℕ))) → AreSides lists i table → IsSide lists i (length lists) r
    → longer ≡ table ++ r ∷ [] → AreSides lists (i + 1) longer
sides-more lists table longer i r h k s = record {
  count = let t : length (table ++ r ∷ []) ≡ length table + 1 = length_push table r in
      omega (arith, t, h.count, ap length s);
  side = pushed-at (λ i q. IsSide lists i (length lists) q) [] table r longer i s h.count h.side k;
}
