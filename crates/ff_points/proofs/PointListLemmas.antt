-- Lists of points into which points are put, and the points that characters give.
use Rattle.std.proofs.Common.{◌≡◌, ℕ, zero, suc, ◌+◌, ◌-◌, ◌<◌, ◌≤◌, ◌⊎◌, inl, inr, List, [], ◌∷◌}
use Rattle.std.proofs.Common.{length}
use Rattle.std.proofs.Common.{get_or, refl, sym, ◌∙◌, ap, ap₂, subst, arith, All}
use Rattle.std.specs.List.{insert}
use Rattle.std.specs.declared.cmp.Ordering.TheVariants.{Less}
use Rattle.std.proofs.lemmas.Bool.{cases_lt}
use Rattle.std.proofs.lemmas.List.{get_or_default}
use Rattle.std.proofs.lemmas.List.Elements.{All-cons}
use Rattle.std.proofs.lemmas.List.Edits.{length-insert, get_or-insert_below, get_or-insert_at}
use Rattle.std.proofs.lemmas.List.Edits.{get_or-insert_above}
use Rattle.ff_theory.specs.Ring.{Elements}
use Rattle.ff_theory.specs.Lawful.{Lawful}
use Rattle.ff_theory.specs.Eval.{plane_at}
use Rattle.ff_theory.specs.Values.{plane_of}
use Rattle.ff_elem.specs.Key.{key_cmp}
use Rattle.ff_data.specs.declared.order.Chart.TheVariants.{Infinite}
use Rattle.ff_data.specs.declared.order.Order.{Order}
use Rattle.ff_data.specs.declared.point.Point.{Point}
use Rattle.ff_data.specs.Orders.{chart_of}
use Rattle.ff_forms.specs.Forms.{HasPointForm}
use Rattle.ff_points.specs.PointLists.{IsOneOf, AreAmong, HasElements, IsPointBy, IsPointByOne}
use Rattle.ff_points.specs.PointLists.{AreOldOrBy, AreWithCharacters, point_key, AreRising}
use Rattle.ff_points.specs.PointLists.{BelongsAt, IsListWith, IsRootOver, AreRisingPoints}
use Rattle.ff_points.specs.PointLists.{HasPointsOver, HasPointsBelow, HasAllPoints}

-- entry j of a list
one-at : {A : Type 0} (xs : List A) (j : ℕ) (d : A) → j < length xs → IsOneOf xs (get_or xs j d)
one-at xs j d l = (j, (l, get_or_default xs j d (get_or xs j d) l))

-- an entry of the rest
one-later : {A : Type 0} (p : A) (xs : List A) (x : A) → IsOneOf xs x → IsOneOf (p ∷ xs) x
one-later p xs x h = (suc h.0, (let l = h.1.0 in omega (arith, l), h.1.1))

one-same : {A : Type 0} (xs : List A) (x y : A) → x ≡ y → IsOneOf xs x → IsOneOf xs y
one-same xs x y e h = subst (IsOneOf xs) e h

-- nothing was put in
pub same_among : {A : Type 0} (p : A) (xs : List A) → AreAmong xs (p ∷ xs)
same_among p xs i d l = one-later p xs (get_or xs i d) (one-at xs i d l)

-- one value was put in
pub inserted_among : {A : Type 0} (old new : List A) (i : ℕ) (p : A) → i ≤ length old
    → new ≡ insert old i p → AreAmong new (p ∷ old)
inserted_among {A} old new i p le e k d l = subst (λ t. IsOneOf (p ∷ old) (get_or t k d)) (sym e)
    (go (cases_lt k i) (cases_lt i k))
  where
    short : k < length old + 1
    short = let n = length-insert old i p le in let m = ap length e in omega (arith, l, n, m)

    above : (m : ℕ) → k ≡ m + 1 → i ≤ m → m < length old
        → IsOneOf (p ∷ old) (get_or (insert old i p) k d)
    above m is from below = one-same (p ∷ old) (get_or old m d) (get_or (insert old i p) k d)
        (sym (ap (λ n. get_or (insert old i p) n d) is
        ∙ get_or-insert_above old i p d m from le))
        (one-later p old (get_or old m d) (one-at old m d below))

    go : (k < i) ⊎ (i ≤ k) → (i < k) ⊎ (k ≤ i) → IsOneOf (p ∷ old) (get_or (insert old i p) k d)
    go (inl q) b = one-same (p ∷ old) (get_or old k d) (get_or (insert old i p) k d)
        (sym (get_or-insert_below old i p d k q le))
        (one-later p old (get_or old k d) (one-at old k d (omega (arith, q, le))))
    go (inr q) (inl r) = pick k refl
      where
        pick : (m : ℕ) → k ≡ m → IsOneOf (p ∷ old) (get_or (insert old i p) k d)
        pick zero s = absurd (omega (arith, s, r))
        pick (suc m) s = above m (omega (arith, s)) (omega (arith, s, r)) (omega (arith, s, short))
    go (inr q) (inr r) = one-same (p ∷ old) p (get_or (insert old i p) k d)
        (sym (ap (λ n. get_or (insert old i p) n d) (let e : k ≡ i = omega (arith, q, r) in e)
        ∙ get_or-insert_at old i p d le)) (0, (omega arith, refl))

-- and nothing was lost
pub inserted_kept : {A : Type 0} (old new : List A) (i : ℕ) (p : A) → i ≤ length old
    → new ≡ insert old i p → AreAmong (p ∷ old) new
inserted_kept {A} old new i p le e k d l = subst (λ t. IsOneOf t (get_or (p ∷ old) k d)) (sym e)
    (go k l)
  where
    at : (n : ℕ) (x : A) → n < length (insert old i p) → get_or (insert old i p) n x ≡ x
        → IsOneOf (insert old i p) x
    at n x l e = (n, (l, sym e))

    long : length (insert old i p) ≡ length old + 1
    long = length-insert old i p le

    go : (k : ℕ) → k < length (p ∷ old) → IsOneOf (insert old i p) (get_or (p ∷ old) k d)
    go zero q = at i p (omega (arith, le, long)) (get_or-insert_at old i p p le)
    go (suc k) q = pick (cases_lt k i)
      where
        here : get_or old k (get_or old k d) ≡ get_or old k d
        here = sym (get_or_default old k d (get_or old k d) (omega (arith, q)))

        pick : (k < i) ⊎ (i ≤ k) → IsOneOf (insert old i p) (get_or old k d)
        pick (inl b) = at k (get_or old k d) (omega (arith, b, le, long))
            (get_or-insert_below old i p (get_or old k d) k b le ∙ here)
        pick (inr b) = at (k + 1) (get_or old k d) (omega (arith, q, long))
            (get_or-insert_above old i p (get_or old k d) k b le ∙ here)

abbrev Below : (F : Elements ℕ) → Point → Point → Type 0
Below F a b = key_cmp (point_key F a) (point_key F b) ≡ Less

-- the keys rise where one point more stands at its place
pub inserted_rising : (F : Elements ℕ) (old new : List Point) (i : ℕ) (p : Point)
    → BelongsAt F old p i → new ≡ insert old i p → AreRising F old → AreRising F new
inserted_rising F old new i p at e rising = subst (AreRising F) (sym e) all
  where
    long : length (insert old i p) ≡ length old + 1
    long = length-insert old i p at.within

    below : (k : ℕ) (d : Point) → k < i → get_or (insert old i p) k d ≡ get_or old k d
    below k d l = get_or-insert_below old i p d k l at.within

    there : (k : ℕ) (d : Point) → k ≡ i → get_or (insert old i p) k d ≡ p
    there k d e = ap (λ n. get_or (insert old i p) n d) e ∙ get_or-insert_at old i p d at.within

    above : (k : ℕ) (d : Point) → i ≤ k → get_or (insert old i p) (k + 1) d ≡ get_or old k d
    above k d l = get_or-insert_above old i p d k l at.within

    above' : (k : ℕ) (d : Point) → i < k → get_or (insert old i p) k d ≡ get_or old (k - 1) d
    above' k d l = let e : k ≡ k - 1 + 1 = omega (arith, l) in
        ap (λ n. get_or (insert old i p) n d) e ∙ above (k - 1) d (omega (arith, l))

    all : AreRising F (insert old i p)
    all k d l = go (cases_lt k i) (cases_lt i k)
      where
        go : (k < i) ⊎ (i ≤ k) → (i < k) ⊎ (k ≤ i)
            → Below F (get_or (insert old i p) k d) (get_or (insert old i p) (k + 1) d)
        go (inl b) q = near (cases_lt (k + 1) i)
          where
            near : (k + 1 < i) ⊎ (i ≤ k + 1)
                → Below F (get_or (insert old i p) k d) (get_or (insert old i p) (k + 1) d)
            near (inl c) = ap₂ (λ a b. key_cmp (point_key F a) (point_key F b)) (below k d b)
                (below (k + 1) d c)
                ∙ rising k d (let w = at.within in omega (arith, c, w))
            near (inr c) = let back : k ≡ i - 1 = omega (arith, b, c) in
                ap₂ (λ a b. key_cmp (point_key F a) (point_key F b))
                (below k d b ∙ ap (λ n. get_or old n d) back)
                (there (k + 1) d (omega (arith, b, c))) ∙ at.after d (omega (arith, b, c))
        go (inr b) (inl c) = let back : k - 1 + 1 ≡ k = omega (arith, c) in
            ap₂ (λ a b. key_cmp (point_key F a) (point_key F b)) (above' k d c)
            (above k d (omega (arith, c)) ∙ ap (λ n. get_or old n d) (sym back))
            ∙ rising (k - 1) d (omega (arith, c, l, long))
        go (inr b) (inr c) = let same : k ≡ i = omega (arith, b, c) in
            ap₂ (λ a b. key_cmp (point_key F a) (point_key F b)) (there k d same)
            (above k d b ∙ ap (λ n. get_or old n d) same)
            ∙ at.before d (omega (arith, same, l, long))

pub inserted_with : (F : Elements ℕ) (old new : List Point) (i : ℕ) (p : Point)
    → BelongsAt F old p i → new ≡ insert old i p → IsListWith F old p new
inserted_with F old new i p at e = record {
  among = inserted_among old new i p at.within e;
  kept = inserted_kept old new i p at.within e;
  rising = inserted_rising F old new i p at e;
}

-- the list has the point
pub same_with : (F : Elements ℕ) (old : List Point) (p : Point) → IsOneOf old p
    → IsListWith F old p old
same_with F old p has = record { among = same_among p old; kept = kept; rising = λ r. r }
  where
    kept : AreAmong (p ∷ old) old
    kept zero d l = has
    kept (suc k) d l = one-at old k d (omega (arith, l))

pub all_among : {A : Type 0} (P : A → Type 0) (xs ys : List A) → All P ys → AreAmong xs ys
    → All P xs
all_among P xs ys h k i d l = subst P (sym t.1.1) (h t.0 (get_or xs i d) t.1.0)
  where
    t : IsOneOf ys (get_or xs i d)
    t = k i d l

pub kept_among : {A : Type 0} (P : A → Type 0) (old new : List A) (p : A) → All P old → P p
    → AreAmong new (p ∷ old) → All P new
kept_among P old new p h k among = all_among P new (p ∷ old) (All-cons P p old k h) among

-- the data of points are elements
pub form_elements : (F : Elements ℕ) (o : Order) (p : Point) → HasPointForm F o p
    → HasElements F (length o.space.basis) p
form_elements F o p h = record { a = h.a; theta = h.theta; values = h.values }

pub forms_elements : (F : Elements ℕ) (o : Order) (n : ℕ) → n ≡ length o.space.basis
    → (ps : List Point) → All (HasPointForm F o) ps → All (HasElements F n) ps
forms_elements F o n e ps h i d l = subst (λ n. HasElements F n (get_or ps i d)) (sym e)
    (form_elements F o (get_or ps i d) (h i d l))

pub point_elements : (F : Elements ℕ) (o : Order) (p : Point) → HasPointForm F o p
    → HasElements F (length p.values) p
point_elements F o p h = record {
  a = h.a;
  theta = h.theta;
  values = record { each = h.values.each; len = refl };
}

-- no character yet
pub by_none : (F : Elements ℕ) (o : Order) (a : ℕ) (theta : List ℕ)
    (basis characters : List (List ℕ)) (old : List Point) → All (HasPointForm F o) old
    → AreRising F old → AreWithCharacters F o a theta basis characters 0 old old
by_none F o a theta basis characters old form rising = record {
  form = form;
  rising = rising;
  by = λ i d l. inl (one-at old i d l);
  kept = λ i d l. one-at old i d l;
  whole = λ j l. absurd (omega (arith, l));
}

-- one character more
pub by_next : (F : Elements ℕ) (o : Order) (a : ℕ) (theta : List ℕ)
    (basis characters : List (List ℕ)) (m : ℕ) (old list new : List Point) (p : Point)
    → AreWithCharacters F o a theta basis characters m old list
    → IsPointBy F o a theta basis (get_or characters m []) p → IsListWith F list p new
    → AreWithCharacters F o a theta basis characters (m + 1) old new
by_next F o a theta basis characters m old list new p h k with = record {
  form = kept_among (HasPointForm F o) list new p h.form k.form with.among;
  rising = with.rising h.rising;
  by = by;
  kept = λ i d l. carry (get_or old i d) (h.kept i d l);
  whole = whole;
}
  where
    -- what was in the list still is
    carry : (x : Point) → IsOneOf list x → IsOneOf new x
    carry x q = one-same new (get_or (p ∷ list) (suc q.0) x) x (sym q.1.1)
        (with.kept (suc q.0) x (let l = q.1.0 in omega (arith, l)))

    by : AreOldOrBy F o a theta basis characters (m + 1) old new
    by i d l = go t.0 t.1.0 t.1.1
      where
        t : IsOneOf (p ∷ list) (get_or new i d)
        t = with.among i d l

        more : (x : Point) → IsOneOf old x ⊎ IsPointByOne F o a theta basis characters m x
            → IsOneOf old x ⊎ IsPointByOne F o a theta basis characters (m + 1) x
        more x (inl q) = inl q
        more x (inr q) = inr (q.0, (let s = q.1.0 in omega (arith, s), q.1.1))

        go : (j : ℕ) → j < length (p ∷ list)
            → get_or new i d ≡ get_or (p ∷ list) j (get_or new i d) → IsOneOf old (get_or new i d)
            ⊎ IsPointByOne F o a theta basis characters (m + 1) (get_or new i d)
        go zero q e = inr (
          m,
          (
            omega arith,
            subst (IsPointBy F o a theta basis
                (get_or characters m [])) (sym e) k,
          ),
        )
        go (suc j) q e = more (get_or new i d) (subst (λ y. IsOneOf old y
            ⊎ IsPointByOne F o a theta basis characters m y) (sym e)
            (h.by j (get_or new i d) (omega (arith, q))))

    whole : (j : ℕ) → j < m + 1 → (q : Point)
        × (IsOneOf new q × IsPointBy F o a theta basis (get_or characters j []) q)
    whole j l = go (cases_lt j m)
      where
        go : (j < m) ⊎ (m ≤ j) → (q : Point)
            × (IsOneOf new q × IsPointBy F o a theta basis (get_or characters j []) q)
        go (inl b) = (t.0, (carry t.0 t.1.0, t.1.1))
          where
            t : (q : Point)
                × (IsOneOf list q × IsPointBy F o a theta basis (get_or characters j []) q)
            t = h.whole j b
        go (inr b) = (
          p,
          (
            with.kept 0 p (omega arith),
            subst (λ n. IsPointBy F o a theta basis (get_or characters n []) p)
                (let e : m ≡ j = omega (arith, b, l) in e) k,
          ),
        )

-- lists in lists
pub among_trans : {A : Type 0} (xs ys zs : List A) → AreAmong xs ys → AreAmong ys zs
    → AreAmong xs zs
among_trans xs ys zs h k i d l = one-same zs (get_or ys t.0 (get_or xs i d)) (get_or xs i d)
    (sym t.1.1) (k t.0 (get_or xs i d) t.1.0)
  where
    t : IsOneOf ys (get_or xs i d)
    t = h i d l

pub one-among : {A : Type 0} (xs ys : List A) (x : A) → IsOneOf xs x → AreAmong xs ys
    → IsOneOf ys x
one-among xs ys x q k = one-same ys (get_or xs q.0 x) x (sym q.1.1) (k q.0 x q.1.0)

pub self_among : {A : Type 0} (xs : List A) → AreAmong xs xs
self_among xs i d l = one-at xs i d l

-- no points yet
pub no_points : (F : Elements ℕ) (L : Lawful F) (f : List (List ℕ)) (o : Order)
    → AreRisingPoints L f o []
no_points F L f o = record {
  each = λ i d l. absurd (omega (arith, l));
  rising = λ i d l. absurd (omega (arith, l));
}

-- where the rows of the equation have no root over a, there is no point over a
pub none_over : (F : Elements ℕ) (L : Lawful F) (f : List (List ℕ)) (o : Order)
    (rows : List (List ℕ)) → plane_of F rows ≡ (chart_of L f o.chart).equation → (a : ℕ)
    → ((t : ℕ) → ¬ IsRootOver F rows a t) → (list : List Point) → HasPointsOver L f o a list
none_over F L f o rows e a none list closed p point over = absurd (none p.theta
    (ap₂ (λ u n. plane_at F.ring F.ring (λ s. s) u (F.value p.theta) n) (sym over) e
    ∙ point.root))

-- the points over one element more
pub points_next : (F : Elements ℕ) (L : Lawful F) (f : List (List ℕ)) (o : Order) (i a : ℕ)
    (old new : List Point) → F.value a ≡ F.element_at i → HasPointsBelow L f o i old
    → AreAmong old new → HasPointsOver L f o a new → HasPointsBelow L f o (i + 1) new
points_next F L f o i a old new e below kept over closed p point l = go (cases_lt index i)
  where
    index : ℕ
    index = F.index (F.value p.a)

    go : (index < i) ⊎ (i ≤ index) → IsOneOf new p
    go (inl b) = one-among old new p (below closed p point b) kept
    go (inr b) = let at : F.index (F.value p.a) ≡ i = omega (arith, b, l) in
        over closed p point (sym (L.finite.at_index (F.value p.a)) ∙ ap F.element_at at ∙ sym e)

-- and those over all elements
pub points_all : (F : Elements ℕ) (L : Lawful F) (f : List (List ℕ)) (o : Order) (i : ℕ)
    (list : List Point) → F.size ≤ i → HasPointsBelow L f o i list → HasAllPoints L f o list
points_all F L f o i list l below closed p point = below closed p point
    (let b = L.finite.index_below (F.value p.a) in omega (arith, l, b))

-- at infinity all points are over 0
pub points_zero : (F : Elements ℕ) (L : Lawful F) (f : List (List ℕ)) (o : Order)
    → o.chart ≡ Infinite → (a : ℕ) → F.value a ≡ F.zero → (list : List Point)
    → HasPointsOver L f o a list → HasAllPoints L f o list
points_zero F L f o infinite a e list over closed p point =
    over closed p point (point.at_infinity infinite ∙ sym e)
