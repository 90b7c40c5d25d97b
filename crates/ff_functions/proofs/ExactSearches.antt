-- A search at a point of either chart decides which orders are pole numbers, and the function of a
-- relation has its pole. For an equation f over a field whose laws are L.
use Rattle.std.proofs.Common.{◌≡◌, ℕ, zero, suc, pred, ◌+◌, ◌<◌, ◌≤◌, List, length}
use Rattle.std.proofs.Common.{refl, sym, ◌∙◌, ap, subst, arith}
use Rattle.ff_theory.specs.Ring.{Elements}
use Rattle.ff_theory.specs.Lawful.{Lawful}
use Rattle.ff_theory.specs.Values.{IsPlane}
use Rattle.ff_theory.specs.Vector.{vector_of, vectors_of}
use Rattle.ff_lin.specs.Space.{SpaceParts, rows_of}
use Rattle.ff_elem.specs.declared.elem.Elem.{Elem}
use Rattle.ff_elem.specs.Elem.{algebra_in, elem_of}
use Rattle.ff_data.specs.declared.order.Chart.TheVariants.{Finite, Infinite}
use Rattle.ff_data.specs.declared.order.Order.{Order}
use Rattle.ff_data.specs.declared.point.Point.{Point}
use Rattle.ff_data.specs.Orders.{IsMaximal}
use Rattle.ff_data.specs.Poles.{HasPoleOf, IsPoleNumber}
use Rattle.ff_data.specs.Combinations.{combination_in}
use Rattle.ff_frac.specs.Places.{IsMaximalPlace}
use Rattle.ff_functions.specs.declared.echelon.Row.{Row}
use Rattle.ff_functions.specs.declared.frame.Frame.{Frame}
use Rattle.ff_functions.specs.declared.numbers.PoleNumber.{PoleNumber}
use Rattle.ff_functions.specs.declared.search.Search.{Search}
use Rattle.ff_functions.specs.Rows.{IsImageBy}
use Rattle.ff_functions.specs.Images.{IsImageOf}
use Rattle.ff_functions.specs.Elements.{AreFrameElements}
use Rattle.ff_functions.specs.Searches.{IsDependentAt, IsRelationAt, HoldSearch, HoldNumerators}
use Rattle.ff_functions.specs.Combined.{IsFunctionOf}
use Rattle.ff_functions.proofs.ElementImages.{image_element}
use Rattle.ff_functions.proofs.PoleImages.{spanned_relation}
use Rattle.ff_functions.proofs.PowerElements.{elements_powers}
use Rattle.ff_functions.proofs.SearchNumbers.{DecideNumbers, finite_decide, infinite_decide}
use Rattle.ff_functions.proofs.SearchNumbers.{whole_sum, power_at}

module _ (F : Elements ℕ) (L : Lawful F) (f : List (List ℕ)) (hf : IsPlane F f)
    (two : 1 < length f) (o : Order) (p : Point) (h : IsMaximalPlace L f o p) (other : Order)
    (mo : IsMaximal L f other) (s : Frame) where
  abbrev c : ℕ
  c = length s.numerators.items

  pub record IsExactSearch (d : List ℕ) (t : SpaceParts) (images : ℕ → ℕ → F.carrier) (m : ℕ)
      (r : Search) : Type 0 where
    pub spans : (j : ℕ) → j < m → IsPoleNumber L f o p other (suc j)
        → IsDependentAt F t (length s.numerators.items) images (suc j)
    pub numbers_at : (j : ℕ) → j < m
        → IsDependentAt F t (length s.numerators.items) images (suc j)
        → IsPoleNumber L f o p other (suc j)
    pub function : (q : PoleNumber) → 0 < q.j → q.j ≤ m
        → IsRelationAt F t (length s.numerators.items) images q.j q.relation.items → (w : Elem)
        → IsFunctionOf L f o.chart d s r.trail q w → HasPoleOf L f o p other q.j (elem_of L f w)

  module _ (g : ℕ → (algebra_in L f).carrier) (finite infinite : Order) (reach : ℕ)
      (frame : AreFrameElements L f s finite reach g) (rows : List Row)
      (begun : HoldNumerators L f s finite.d infinite (length s.numerators.items) rows) where
    pub frame_images : (i : ℕ) → i < length s.numerators.items
        → IsImageOf L f s.h (g i) (begun.images i)
    frame_images i q = image_element F L f hf two finite.d s.l s.h
        (vectors_of F (rows_of s.numerators.items) i) (begun.images i) (g i)
        (begun.each i q (frame.short i q)) (frame.over i q)

  module _ (g : ℕ → (algebra_in L f).carrier) (d : List ℕ) (n m : ℕ) (t : SpaceParts)
      (first : ℕ → ℕ → F.carrier) (r : Search)
      (held : HoldSearch L f o p s.h (length s.numerators.items) n m t first r)
      (high : o.chart ≡ Infinite → pred (length o.d) + m ≤ s.h)
      (value : (ℕ → F.carrier) → ℕ → (algebra_in L f).carrier)
      (decide : DecideNumbers F L f hf two o p h other mo s g s.h n m t first r held high value)
      (value_is : (q : PoleNumber) (w : Elem) (j : ℕ) → q.j ≡ suc j
      → IsFunctionOf L f o.chart d s r.trail q w
      → value (vector_of F q.relation.items) j ≡ elem_of L f w) where
    next : (j : ℕ) → suc (c + j) ≡ c + suc j
    next j = omega arith

    function : (q : PoleNumber) (k : ℕ) → q.j ≡ k → 0 < k → k ≤ m
        → IsRelationAt F t c held.images k q.relation.items → (w : Elem)
        → IsFunctionOf L f o.chart d s r.trail q w → HasPoleOf L f o p other k (elem_of L f w)
    function q zero e a b relation w k = absurd (omega (arith, a))
    function q (suc j) e a b relation w k = subst (HasPoleOf L f o p other (suc j))
        (value_is q w j e k) (decide.pole j (omega (arith, b)) (vector_of F q.relation.items)
        relation.none relation.last)

    exact : IsExactSearch d t held.images m r
    exact = record {
      spans = decide.spans;
      numbers_at = λ j q k. let d = spanned_relation F L t (c + j) held.images k in (
        value d.0 j,
        decide.pole j q d.0 (subst (λ n. IsImageBy F t n held.images d.0 (λ i. F.zero)) (next j)
            d.1.0) d.1.1,
      );
      function = λ q a b relation w k. function q q.j refl a b relation w k;
    }

  module _ (g : ℕ → (algebra_in L f).carrier) (reach : ℕ) (rows : List Row) (n m : ℕ)
      (r : Search) (high : o.chart ≡ Infinite → pred (length o.d) + m ≤ s.h)
      (positive : 0 < s.h) where
    -- at a point of the finite chart
    pub finite_exact : (begun : HoldNumerators L f s o.d other (length s.numerators.items) rows)
        (held : HoldSearch L f o p s.h (length s.numerators.items) n m begun.target begun.images r)
        → AreFrameElements L f s o reach g → o.chart ≡ Finite → other.chart ≡ Infinite
        → pred (length other.d) ≤ reach → pred (length other.d) ≤ s.h
        → IsExactSearch o.d begun.target held.images m r
    finite_exact begun held frame chart infinity far room = exact g o.d n m begun.target
        begun.images r held high (whole_sum F L f hf two o p h other mo s g s.h n m begun.target
        begun.images r
        held high)
        (finite_decide F L f hf two o p h other mo s g s.h n m begun.target begun.images r held
        high chart infinity reach far positive room begun.times
        (frame_images g o other reach frame rows begun) frame) value_is
      where
        value_is : (q : PoleNumber) (w : Elem) (j : ℕ) → q.j ≡ suc j
            → IsFunctionOf L f o.chart o.d s r.trail q w
            → whole_sum F L f hf two o p h other mo s g s.h n m begun.target begun.images r held
            high (vector_of F q.relation.items) j ≡ elem_of L f w
        value_is q w j e k = sym (subst (λ x. IsFunctionOf L f x o.d s r.trail q w) chart k g
            (power_at F L f hf two o p h other mo s g s.h n m begun.target begun.images r held high)
            frame.over (elements_powers F L f hf two o p h s.h c n m begun.target begun.images r
            held chart)
            ∙ ap (λ k. (algebra_in L f).add
            (combination_in L f c (vector_of F q.relation.items) g)
            (combination_in L f k (λ i. vector_of F q.relation.items (c + i))
            (power_at F L f hf two o p h other mo s g s.h n m begun.target begun.images r held
            high))) e)

    -- at a point of the infinite chart
    pub infinite_exact : (begun : HoldNumerators L f s other.d o (length s.numerators.items) rows)
        (held : HoldSearch L f o p s.h (length s.numerators.items) n m begun.target begun.images r)
        → AreFrameElements L f s other reach g → o.chart ≡ Infinite
        → pred (length o.d) + m ≤ reach → IsExactSearch other.d begun.target held.images m r
    infinite_exact begun held frame chart far = exact g other.d n m begun.target begun.images r
        held high (λ d j. combination_in L f c d g)
        (infinite_decide F L f hf two o p h other mo s g s.h n m begun.target begun.images r held
        high chart reach far positive begun.times
        (frame_images g other o reach frame rows begun) frame)
        (λ q w j e k. sym (subst (λ x. IsFunctionOf L f x other.d s r.trail q w) chart k g
        frame.over))
