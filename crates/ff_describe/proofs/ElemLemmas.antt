-- Lists of elements that grow, for an equation f over a field whose laws are L.
use Rattle.std.proofs.Common.{◌≡◌, ℕ, zero, suc, ◌+◌, ◌-◌, ◌<◌, ◌≤◌, ◌⊎◌, inl, inr}
use Rattle.std.proofs.Common.{List, [], ◌∷◌, ◌++◌}
use Rattle.std.proofs.Common.{length, map, get_or, refl, sym, ◌∙◌, ap, ap₂, subst, arith, All}
use Rattle.std.proofs.lemmas.Bool.{cases_lt}
use Rattle.std.proofs.lemmas.List.{get_or_append_left, get_or_push, length_push}
use Rattle.std.proofs.lemmas.List.Elements.{All-push}
use Rattle.ff_theory.specs.Ring.{RingOps, IsCommRing, Elements, power}
use Rattle.ff_theory.specs.Lawful.{Lawful, lawful_field}
use Rattle.ff_theory.specs.Values.{plane_of}
use Rattle.ff_theory.proofs.Coeffs.{coeff-map}
use Rattle.ff_theory.proofs.Element.{algebra_is_ring}
use Rattle.ff_theory.proofs.Solver.{◌⊗◌, unit, ring1}
use Rattle.ff_elem.specs.declared.elem.Elem.{Elem}
use Rattle.ff_elem.specs.Elem.{algebra_in, elem_of, IsElem, ElemIs}
use Rattle.ff_data.specs.Combinations.{AreElems, elems_of}
use Rattle.ff_describe.specs.Levels.{offset, triangle, raised, product_of, Extends, HasLevels}
use Rattle.ff_describe.specs.Levels.{AreProducts, AreDescending}
use Rattle.ff_describe.proofs.LevelSums.{offset-below}

-- a row of a triangle ends before the next one
pub triangle-next : (m j : ℕ) → j < m → triangle j + suc j ≤ triangle m
triangle-next zero j h = absurd (omega (arith, h))
triangle-next (suc m) j h = go (cases_lt j m) (λ q. triangle-next m j q)
  where
    go : (j < m) ⊎ (m ≤ j) → ((j < m) → triangle j + suc j ≤ triangle m)
        → triangle j + suc j ≤ triangle m + suc m
    go (inl q) r = let t : triangle j + suc j ≤ triangle m = r q in omega (arith, t)
    go (inr q) r = let e : j ≡ m = omega (arith, q, h) in
        let s : triangle j ≡ triangle m = ap triangle e in omega (arith, s, e)

module _ (K : Elements ℕ) (L : Lawful K) (f : List (List ℕ)) where
  abbrev A : RingOps
  A = algebra_in L f

  AL : IsCommRing (algebra_in L f)
  AL = algebra_is_ring (lawful_field L) (plane_of K f)

  -- an element of a list
  pub elem-at : (ws : List Elem) (i : ℕ) (d : Elem) → i < length ws
      → elems_of L f ws i ≡ elem_of L f (get_or ws i d)
  elem-at ws i d l = coeff-map A (elem_of L f) ws i d l

  elem-before : (xs : List Elem) (x : Elem) (i : ℕ) → i < length xs
      → elems_of L f (xs ++ x ∷ []) i ≡ elems_of L f xs i
  elem-before xs x i l = let t : length (xs ++ x ∷ []) ≡ length xs + 1 = length_push xs x in
      elem-at (xs ++ x ∷ []) i x (omega (arith, l, t))
      ∙ ap (elem_of L f) (get_or_append_left xs (x ∷ []) x i (omega (arith, l)))
      ∙ sym (elem-at xs i x l)

  elem-last : (xs : List Elem) (x : Elem) (i : ℕ) → i ≡ length xs
      → elems_of L f (xs ++ x ∷ []) i ≡ elem_of L f x
  elem-last xs x i e = let t : length (xs ++ x ∷ []) ≡ length xs + 1 = length_push xs x in
      elem-at (xs ++ x ∷ []) i x (omega (arith, e, t))
      ∙ ap (elem_of L f) (get_or_push xs x x i (sym e))

  -- w, z*w, ..
  pub raised-none : (z w : Elem) → raised L f z w 0 ≡ elem_of L f w
  raised-none z w = ring1 A AL (λ w. unit ⊗ w) (λ w. w) refl (elem_of L f w)

  pub raised-more : (z w : Elem) (a b : ℕ) → b ≡ suc a
      → (algebra_in L f).mul (elem_of L f z) (raised L f z w a) ≡ raised L f z w b
  raised-more z w a b e = sym (AL.mul_assoc (elem_of L f z) (power A (elem_of L f z) a)
      (elem_of L f w)) ∙ ap (raised L f z w) (sym e)

  -- nothing more, and one element more
  pub extends-none : (old : List Elem) (v : ℕ → (algebra_in L f).carrier) → AreElems L f old
      → Extends L f old 0 v old
  extends-none old v h = record {
    elems = h;
    len = omega arith;
    before = λ i l. refl;
    value = λ a l. absurd (omega (arith, l));
  }

  pub extends-push : (old new longer : List Elem) (n : ℕ) (v : ℕ → (algebra_in L f).carrier)
      (x : Elem) → Extends L f old n v new → ElemIs L f (v n) x → longer ≡ new ++ x ∷ []
      → Extends L f old (n + 1) v longer
  extends-push old new longer n v x h k e = subst (Extends L f old (n + 1) v) (sym e) (record {
    elems = All-push (IsElem L f) new x h.elems k.element;
    len = let t : length (new ++ x ∷ []) ≡ length new + 1 = length_push new x in
        omega (arith, t, h.len);
    before = λ i l. elem-before new x i (omega (arith, l, h.len)) ∙ h.before i l;
    value = λ a l. go a l (cases_lt a n);
  })
    where
      go : (a : ℕ) → a < n + 1 → (a < n) ⊎ (n ≤ a)
          → elems_of L f (new ++ x ∷ []) (length old + a) ≡ v a
      go a l (inl q) = elem-before new x (length old + a) (omega (arith, q, h.len)) ∙ h.value a q
      go a l (inr q) = let s : n ≡ a = omega (arith, l, q) in
          elem-last new x (length old + a) (omega (arith, s, h.len)) ∙ k.value ∙ ap v s

  -- the last element so far
  pub extends-last : (old new : List Elem) (n : ℕ) (v : ℕ → (algebra_in L f).carrier)
      → Extends L f old n v new → 0 < n → elems_of L f new (length new - 1) ≡ v (n - 1)
  extends-last old new n v h pos =
      let e : length new - 1 ≡ length old + (n - 1) = omega (arith, pos, h.len) in
      ap (elems_of L f new) e ∙ h.value (n - 1) (omega (arith, pos))

  -- no levels, and those of one class more
  pub levels-none : (old : List Elem) (z : Elem) (b : List Elem) (counts : List ℕ)
      → AreElems L f old → HasLevels L f old z b counts 0 old
  levels-none old z b counts h = record {
    elems = h;
    len = omega arith;
    before = λ i l. refl;
    value = λ l a k. absurd (omega (arith, k));
  }

  pub levels-more : (old mid new : List Elem) (z w : Elem) (b : List Elem) (counts : List ℕ)
      (m : ℕ) → HasLevels L f old z b counts m mid
      → Extends L f mid (get_or counts m 0) (raised L f z w) new
      → elem_of L f w ≡ elems_of L f b m → HasLevels L f old z b counts (m + 1) new
  levels-more old mid new z w b counts m h k e =
      let s : suc m ≡ m + 1 = omega arith in
      subst (λ m. HasLevels L f old z b counts m new) s (record {
        elems = k.elems;
        len = omega (arith, k.len, h.len);
        before = λ i l. k.before i (omega (arith, l, h.len)) ∙ h.before i l;
        value = λ l a p q. go l a p q (cases_lt l m);
      })
    where
      go : (l a : ℕ) → l < suc m → a < get_or counts l 0 → (l < m) ⊎ (m ≤ l)
          → elems_of L f new (length old + (offset counts l + a))
          ≡ (algebra_in L f).mul (power (algebra_in L f) (elem_of L f z) a) (elems_of L f b l)
      go l a p q (inl r) =
          let t : offset counts l + a < offset counts m = offset-below counts m l a r q in
          k.before (length old + (offset counts l + a)) (omega (arith, t, h.len)) ∙ h.value l a r q
      go l a p q (inr r) = let t : m ≡ l = omega (arith, p, r) in
          let u : offset counts m ≡ offset counts l = ap (offset counts) t in
          let n : length mid + a ≡ length old + (offset counts l + a) = omega (arith, u, h.len) in
          ap (elems_of L f new) (sym n)
          ∙ k.value a (subst (λ l. a < get_or counts l 0) (sym t) q)
          ∙ ap (A.mul (power A (elem_of L f z) a)) (e ∙ ap (elems_of L f b) t)

  -- no products, and those of one row more
  pub products-none : (b list : List Elem) → list ≡ [] → AreProducts L f b 0 list
  products-none b list e = record {
    elems = λ i d l. absurd (omega (arith, l, ap length e));
    len = ap length e;
    value = λ i j l k. absurd (omega (arith, k));
  }

  pub products-more : (b mid new : List Elem) (m : ℕ) → AreProducts L f b m mid
      → Extends L f mid (m + 1) (λ i. product_of L f b i m) new
      → AreProducts L f b (m + 1) new
  products-more b mid new m h k =
      let s : suc m ≡ m + 1 = omega arith in
      subst (λ m. AreProducts L f b m new) s (record {
        elems = k.elems;
        len = omega (arith, k.len, h.len);
        value = λ i j l p. go i j l p (cases_lt j m);
      })
    where
      go : (i j : ℕ) → i ≤ j → j < suc m → (j < m) ⊎ (m ≤ j)
          → elems_of L f new (triangle j + i) ≡ product_of L f b i j
      go i j l p (inl r) = let t : triangle j + suc j ≤ triangle m = triangle-next m j r in
          k.before (triangle j + i) (omega (arith, t, l, h.len)) ∙ h.value i j l r
      go i j l p (inr r) = let t : j ≡ m = omega (arith, p, r) in
          let u : triangle j ≡ triangle m = ap triangle t in
          let n : triangle j + i ≡ length mid + i = omega (arith, u, h.len) in
          ap (elems_of L f new) n ∙ k.value i (omega (arith, l, t))
          ∙ ap (product_of L f b i) (sym t)

  -- w alone, and one power more in front
  pub descending-none : (z w : Elem) (list : List Elem) → IsElem L f w → list ≡ w ∷ []
      → AreDescending L f z w 0 list
  descending-none z w list h e = subst (AreDescending L f z w 0) (sym e) (record {
    elems = λ i d l. let t : i ≡ 0 = omega (arith, l) in
        subst (λ i. IsElem L f (get_or (w ∷ []) i d)) (sym t) h;
    len = refl;
    value = λ i j s. let t : i ≡ 0 = omega (arith, s) in let u : j ≡ 0 = omega (arith, s) in
        ap (elems_of L f (w ∷ [])) t ∙ sym (raised-none z w) ∙ ap (raised L f z w) (sym u);
  })

  pub descending-more : (z w x : Elem) (list longer : List Elem) (m : ℕ)
      → AreDescending L f z w m list → IsElem L f x
      → elem_of L f x ≡ (algebra_in L f).mul (elem_of L f z) (elems_of L f list 0)
      → longer ≡ x ∷ list → AreDescending L f z w (m + 1) longer
  descending-more z w x list longer m h k v e =
      subst (AreDescending L f z w (m + 1)) (sym e) (record {
        elems = each;
        len = omega (arith, h.len);
        value = go;
      })
    where
      each : AreElems L f (x ∷ list)
      each zero d l = k
      each (suc i) d l = h.elems i d (omega (arith, l))

      go : (i j : ℕ) → i + j ≡ m + 1 → elems_of L f (x ∷ list) i ≡ raised L f z w j
      go zero j s = v ∙ ap (A.mul (elem_of L f z)) (h.value 0 m (omega arith))
          ∙ raised-more z w m j (omega (arith, s))
      go (suc i) j s = h.value i j (omega (arith, s))
