-- The order of the keys of points.
use Rattle.std.proofs.Common.{◌≡◌, ℕ, zero, suc, ◌+◌, ◌<◌, ◌≤◌, true, false, List, [], ◌∷◌, length}
use Rattle.std.proofs.Common.{drop, get_or, refl, sym, ◌∙◌, ap, ap₂, arith, All}
use Rattle.std.proofs.lemmas.Cmp.{nat_list_cmp_total}
use Rattle.std.proofs.lemmas.List.{drop_all}
use Rattle.std.proofs.Math.Seq.{drop-cons}
use Rattle.std.specs.declared.cmp.Ordering.{Ordering}
use Rattle.std.specs.declared.cmp.Ordering.TheVariants.{Less, Equal, Greater}
use Rattle.std.specs.Ordering.{nat_cmp, ordering_then, ordering_reverse, is_ne}
use Rattle.ff_theory.specs.Ring.{Elements, IsElement}
use Rattle.ff_elem.specs.Key.{key_cmp}
use Rattle.ff_data.specs.declared.point.Point.{Point}
use Rattle.ff_points.specs.PointLists.{HasElements, indices_of, point_key, HasKeyOf, IsOneOf}

-- the greater one comes after
pub greater-less : (v w : List ℕ) → key_cmp v w ≡ Greater → key_cmp w v ≡ Less
greater-less v w e = nat_list_cmp_total.antisymm w v ∙ ap ordering_reverse e

-- the first entries decide, or do not
pub then-differ : (o p : Ordering) → is_ne o ≡ true → o ≡ ordering_then o p
then-differ Less p h = refl
then-differ Equal p h = absurd cc
then-differ Greater p h = refl

pub then-agree : (o p : Ordering) → is_ne o ≡ false → p ≡ ordering_then o p
then-agree Less p h = absurd cc
then-agree Equal p h = refl
then-agree Greater p h = absurd cc

module _ (F : Elements ℕ) where
  index_at : ℕ → ℕ
  index_at x = F.index (F.value x)

  cons : (v : List ℕ) (i : ℕ) → i < length v → indices_of F (drop i v)
      ≡ F.index (F.value (get_or v i 0)) ∷ indices_of F (drop (i + 1) v)
  cons v i l = let next : suc i ≡ i + 1 = omega arith in
      ap (indices_of F) (drop-cons v i 0 l)
      ∙ ap (λ n. F.index (F.value (get_or v i 0)) ∷ indices_of F (drop n v)) next

  -- two lists that agree below i
  pub values-differ : (v w : List ℕ) (i : ℕ) (o : Ordering) → i < length v → i < length w
      → o ≡ nat_cmp (F.index (F.value (get_or v i 0))) (F.index (F.value (get_or w i 0)))
      → is_ne o ≡ true
      → key_cmp (indices_of F (drop i v)) (indices_of F (drop i w))
      ≡ key_cmp (indices_of F v) (indices_of F w)
      → o ≡ key_cmp (indices_of F v) (indices_of F w)
  values-differ v w i o lv lw e ne h = then-differ o
      (key_cmp (indices_of F (drop (i + 1) v)) (indices_of F (drop (i + 1) w))) ne
      ∙ ap (λ t. ordering_then t (key_cmp (indices_of F (drop (i + 1) v))
      (indices_of F (drop (i + 1) w)))) e ∙ sym (ap₂ key_cmp (cons v i lv) (cons w i lw)) ∙ h

  pub values-agree : (v w : List ℕ) (i : ℕ) (o : Ordering) → i < length v → i < length w
      → o ≡ nat_cmp (F.index (F.value (get_or v i 0))) (F.index (F.value (get_or w i 0)))
      → is_ne o ≡ false
      → key_cmp (indices_of F (drop i v)) (indices_of F (drop i w))
      ≡ key_cmp (indices_of F v) (indices_of F w)
      → key_cmp (indices_of F (drop (i + 1) v)) (indices_of F (drop (i + 1) w))
      ≡ key_cmp (indices_of F v) (indices_of F w)
  values-agree v w i o lv lw e eq h = then-agree o
      (key_cmp (indices_of F (drop (i + 1) v)) (indices_of F (drop (i + 1) w))) eq
      ∙ ap (λ t. ordering_then t (key_cmp (indices_of F (drop (i + 1) v))
      (indices_of F (drop (i + 1) w)))) e ∙ sym (ap₂ key_cmp (cons v i lv) (cons w i lw)) ∙ h

  pub values-end : (v w : List ℕ) (i : ℕ) → length v ≤ i → length w ≤ i
      → key_cmp (indices_of F (drop i v)) (indices_of F (drop i w))
      ≡ key_cmp (indices_of F v) (indices_of F w)
      → Equal ≡ key_cmp (indices_of F v) (indices_of F w)
  values-end v w i lv lw h = sym (ap₂ (λ s t. key_cmp (indices_of F s) (indices_of F t))
      (drop_all i v lv) (drop_all i w lw)) ∙ h

-- points of one chart with the same key are the same
module _ (F : Elements ℕ) (at_index : (x : F.carrier) → F.element_at (F.index x) ≡ x)
    (one_value : (x y : ℕ) → IsElement F x → IsElement F y → F.value x ≡ F.value y → x ≡ y) where
  one_index : (x y : ℕ) → IsElement F x → IsElement F y
      → F.index (F.value x) ≡ F.index (F.value y) → x ≡ y
  one_index x y hx hy e = one_value x y hx hy (sym (at_index (F.value x)) ∙ ap F.element_at e
      ∙ at_index (F.value y))

  indices-one : (v w : List ℕ) → All (IsElement F) v → All (IsElement F) w
      → indices_of F v ≡ indices_of F w → v ≡ w
  indices-one [] [] hv hw e = refl
  indices-one [] (y ∷ w) hv hw e = absurd cc
  indices-one (x ∷ v) [] hv hw e = absurd cc
  indices-one (x ∷ v) (y ∷ w) hv hw e =
      let h : F.index (F.value x) ≡ F.index (F.value y) = cc in
      let t : indices_of F v ≡ indices_of F w = cc in
      ap₂ (λ a r. a ∷ r) (one_index x y (hv zero x (omega arith)) (hw zero y (omega arith)) h)
      (indices-one v w (λ k d l. hv (suc k) d (omega (arith, l)))
      (λ k d l. hw (suc k) d (omega (arith, l))) t)

  keys-one : (n : ℕ) (p q : Point) → HasElements F n p → HasElements F n q
      → p.chart ≡ q.chart → point_key F p ≡ point_key F q → p ≡ q
  keys-one n p q hp hq c e =
      let a : F.index (F.value p.a) ≡ F.index (F.value q.a) = cc in
      let t : F.index (F.value p.theta) ≡ F.index (F.value q.theta) = cc in
      let v : indices_of F p.values ≡ indices_of F q.values = cc in
      path p q c (one_index p.a q.a hp.a hq.a a)
      (one_index p.theta q.theta hp.theta hq.theta t)
      (indices-one p.values q.values hp.values.each hq.values.each v)
    where
      path : (p q : Point) → p.chart ≡ q.chart → p.a ≡ q.a → p.theta ≡ q.theta
          → p.values ≡ q.values → p ≡ q
      path p q c a t v = λ i. record { chart = c i; a = a i; theta = t i; values = v i }

  -- a list of one chart that has the key has the point
  pub has_key : (n : ℕ) (list : List Point) (p : Point) → HasElements F n p
      → All (HasElements F n) list → All (λ (q : Point). q.chart ≡ p.chart) list
      → HasKeyOf F list p → IsOneOf list p
  has_key n list p hp hs charts k = (
    k.0,
    (
      k.1.0,
      sym (keys-one n (get_or list k.0 p) p (hs k.0 p k.1.0) hp (charts k.0 p k.1.0) k.1.1),
    ),
  )
