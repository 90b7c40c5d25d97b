-- The functions and the least numbers that the spaces of a point give, and that there is no pole
-- system where they give none. For an equation f over a field whose laws are L.
use Rattle.std.proofs.Common.{◌≡◌, ℕ, zero, suc, ◌-◌, ◌%◌, ◌<◌, ◌≤◌, ◌⊎◌, inl, inr, List, []}
use Rattle.std.proofs.Common.{length}
use Rattle.std.proofs.Common.{◌+◌, ◌∷◌, ◌++◌}
use Rattle.std.proofs.Common.{get_or, refl, sym, ◌∙◌, ap, subst, arith, All, Option, None, Some}
use Rattle.std.proofs.Math.Nat.{mod-lt, zero-mod}
use Rattle.std.proofs.lemmas.Bool.{cases_lt}
use Rattle.std.proofs.lemmas.List.{get_or_default, get_or_push}
use Rattle.std.proofs.lemmas.List.Elements.{All-get_or}
use Rattle.ff_theory.specs.Ring.{RingOps, Elements}
use Rattle.ff_theory.specs.Lawful.{Lawful}
use Rattle.ff_theory.specs.Values.{IsPlane}
use Rattle.ff_theory.proofs.Coeffs.{coeff-map}
use Rattle.ff_elem.specs.declared.elem.Elem.{Elem}
use Rattle.ff_elem.specs.Elem.{algebra_in, elem_of}
use Rattle.ff_data.specs.declared.order.Order.{Order}
use Rattle.ff_data.specs.declared.point.Point.{Point}
use Rattle.ff_data.specs.declared.point.RRSpace.{RRSpace}
use Rattle.ff_data.specs.declared.system.System.{System}
use Rattle.ff_data.specs.Combinations.{elems_of, IsBasisOf}
use Rattle.ff_data.specs.Poles.{HasPoleUpTo, HasPoleOf, IsPoleNumber}
use Rattle.ff_data.specs.Systems.{weight_at}
use Rattle.ff_systems.specs.Places.{frame, IsPlace, HasLeastFunctions}
use Rattle.ff_systems.proofs.Spaces.{pole_back, one_order}
use Rattle.ff_functions.proofs.SearchLemmas.{push_below}
use Rattle.ff_poles.specs.Found.{HasSystemLike, IsSystemAt}
use Rattle.ff_poles.specs.Spaces.{AreSpacesAt, RisesAt, IsPicked, HasFunctionAt, IsFunctionWhere}
use Rattle.ff_poles.specs.Spaces.{AreFunctionsWhere, AreNumbersOf, HasNoIndex}
use Rattle.ff_poles.specs.Spaces.{IsSystemOfFunctions, IsSystemOfSpaces}
use Rattle.ff_poles.proofs.ElementCounts.{basis_is, combination_up, rise_number, number_rise}

module _ (F : Elements ℕ) (L : Lawful F) (f : List (List ℕ)) (hf : IsPlane F f)
    (two : 1 < length f) (o : Order) (p : Point) (other : Order) (at : IsPlace L f o p other)
  where
    abbrev A : RingOps
    A = algebra_in L f

    -- 1
    pub one_function : (w : Elem) → elem_of L f w ≡ (algebra_in L f).one
        → HasFunctionAt L f o p other 0 (Some w)
    one_function w e = (
      subst (HasPoleOf L f o p other 0) (sym e) (pole_back F L f hf two o p other at 0 A.one
          (one_order F L f hf two o p other at)),
      λ z. e,
    )

    module _ (spaces : List RRSpace) (are : AreSpacesAt L f o p other spaces) where
      abbrev basis_at : ℕ → List Elem
      basis_at j = (get_or spaces j (record { j = 0; basis = [] })).basis

      basis : (j : ℕ) → j < length spaces → IsBasisOf L f (HasPoleUpTo L f o p other j) (basis_at j)
      basis = basis_is F L f hf two o p other at spaces are

      pub rise_is : (j : ℕ) → j < length spaces → RisesAt spaces j → IsPoleNumber L f o p other j
      rise_is zero l k = tt
      rise_is (suc j) l k = rise_number F L f hf two o p other at spaces are j l k

      number_is : (j : ℕ) → 0 < j → j < length spaces → IsPoleNumber L f o p other j
          → RisesAt spaces j
      number_is zero q l k = absurd (omega (arith, q))
      number_is (suc j) q l k = number_rise F L f hf two o p other at spaces are j l k

      -- an element of the basis that is no combination of the one before
      pub picked_function : (j : ℕ) → suc j < length spaces → (r : Option Elem)
          → IsPicked L f (get_or spaces j (record { j = 0; basis = [] })).basis
          (get_or spaces (suc j) (record { j = 0; basis = [] })).basis r
          → HasFunctionAt L f o p other (suc j) r
      picked_function j l (Some w) k = (
        record {
          up_to = subst (HasPoleUpTo L f o p other (suc j)) (sym k.1.1.0)
              ((basis (suc j) l).each k.0 k.1.0);
          not_less = λ n h. k.1.1.1 ((basis j (omega (arith, l))).spans (elem_of L f w) h);
        },
        λ z. absurd (let e : suc j ≡ 0 = z in cc),
      )
      picked_function j l None k = λ x. let s = (basis (suc j) l).spans x.0 x.1.up_to in
          x.1.not_less (λ z. absurd (let e : suc j ≡ 0 = z in cc))
          (subst (HasPoleUpTo L f o p other j) (sym s.sum)
          (combination_up F L f hf two o p other at spaces are j (length (basis_at (suc j)))
          s.coefficients (elems_of L f (basis_at (suc j))) (λ i q. let t = k i q in
          subst (HasPoleUpTo L f o p other j) (sym t.sum)
          (combination_up F L f hf two o p other at spaces are j (length (basis_at j))
          t.coefficients
          (elems_of L f (basis_at j)) (basis j (omega (arith, l))).each))))

      module _ (numbers : List ℕ) (h : AreNumbersOf spaces numbers)
          (within : All (λ m. m < length spaces) numbers) (few : length numbers < length spaces)
        where
          abbrev e : ℕ
          e = length numbers

          abbrev n : ℕ → ℕ
          n i = get_or numbers i 0

          positive : 0 < length numbers
          positive = h.rises.0

          number_at : (i : ℕ) → i < length numbers → IsPoleNumber L f o p other (n i)
          number_at zero l = subst (IsPoleNumber L f o p other) (sym ((h.least 0 l).zero refl)) tt
          number_at (suc i) l = rise_is (n (suc i)) (within (suc i) 0 l)
              ((h.least (suc i) l).rises (omega arith) (within (suc i) 0 l))

          remainder : (i : ℕ) → i < length numbers → n i % e ≡ i
          remainder zero l = ap (λ m. m % e) ((h.least 0 l).zero refl) ∙ zero-mod e
          remainder (suc i) l = (h.least (suc i) l).own (omega arith) (within (suc i) 0 l)

          least : (i : ℕ) → i < length numbers → (j : ℕ) → IsPoleNumber L f o p other j → j % e ≡ i
              → n i ≤ j
          least zero l j k q = omega (arith, (h.least 0 l).zero refl)
          least (suc i) l zero k q = absurd (let z : suc i ≡ 0 = sym q ∙ zero-mod e in cc)
          least (suc i) l (suc j) k q = go (cases_lt (suc j) (n (suc i))) (cases_lt (suc j)
              (length spaces))
            where
              go : (suc j < n (suc i)) ⊎ (n (suc i) ≤ suc j)
                  → (suc j < length spaces) ⊎ (length spaces ≤ suc j) → n (suc i) ≤ suc j
              go (inr m) b = m
              go (inl m) (inl b) = absurd ((h.least (suc i) l).least (omega arith) (suc j) m b q
                  (number_is (suc j) (omega arith) b k))
              go (inl m) (inr b) = let r = within (suc i) 0 l in omega (arith, r, b)

          e_number : IsPoleNumber L f o p other (length numbers)
          e_number = rise_is (length numbers) few h.rises

          e_least : (j : ℕ) → 0 < j → IsPoleNumber L f o p other j → length numbers ≤ j
          e_least j q k = go (cases_lt j (length numbers))
            where
              go : (j < length numbers) ⊎ (length numbers ≤ j) → length numbers ≤ j
              go (inr l) = l
              go (inl l) = absurd (h.first j l (number_is j q (omega (arith, l, few)) k))

          -- their functions are least functions
          pub spaces_least : (z : Elem) (b : List Elem) → length b ≡ length numbers
              → IsFunctionWhere L f spaces (length numbers) (Some z)
              → ((i : ℕ) (d : Elem) → i < length numbers
              → IsFunctionWhere L f spaces (get_or numbers i 0) (Some (get_or b i d)))
              → HasLeastFunctions L f o p other (frame (length numbers) z b numbers)
          spaces_least z b count pole each = record {
            positive = positive;
            is_number = e_number;
            least = e_least;
            z = (pole o p other at are).0;
            basis = record {
              first = entry 0 positive ∙ (each 0 z positive o p other at are).1
                  ((h.least 0 positive).zero refl);
              is_number = number_at;
              remainder = remainder;
              least = λ j k. least (j % e) (mod-lt j positive) j k refl;
              pole = λ i l. subst (HasPoleOf L f o p other (n i)) (sym (entry i l))
                  (each i z l o p other at are).0;
            };
          }
            where
              entry : (i : ℕ) → i < length numbers → elems_of L f b i ≡ elem_of L f (get_or b i z)
              entry i l = coeff-map A (elem_of L f) b i z (omega (arith, l, count))

          -- which they have
          pub numbers_have : ¬ AreFunctionsWhere L f spaces numbers None
          numbers_have k = k.1.1 o p other at are (number_at k.0 k.1.0)

          pub first_has : ¬ IsFunctionWhere L f spaces (length numbers) None
          first_has k = k o p other at are e_number

      -- no index at which the dimension rises
      pub first_none : (e : ℕ) → (e ≡ 0) ⊎ (length spaces ≤ e)
          → (e < length spaces → RisesAt spaces e) → ((j : ℕ) → j < e → ¬ RisesAt spaces j)
          → ¬ HasSystemLike L f o p other (length spaces - 1) (λ s. Unit {0})
      first_none e (inl z) rises first h = let w = h.is_system.within.e in
          let q = h.is_system.positive in
          let r = (rises (omega (arith, z, w, q))).0 in absurd (omega (arith, r, z))
      first_none e (inr l) rises first h = let w = h.is_system.within.e in
          let q = h.is_system.positive in
          first h.system.e (omega (arith, w, q, l)) (number_is h.system.e q (omega (arith, w, q))
          h.is_system.is_number)

      -- or none in a class
      pub class_none : (e : ℕ) → e < length spaces → RisesAt spaces e
          → ((j : ℕ) → j < e → ¬ RisesAt spaces j) → HasNoIndex spaces e
          → ¬ HasSystemLike L f o p other (length spaces - 1) (λ s. Unit {0})
      class_none e l rises first k h = class k.class refl
        where
          enough : e ≤ h.system.e
          enough = go (cases_lt h.system.e e)
            where
              go : (h.system.e < e) ⊎ (e ≤ h.system.e) → e ≤ h.system.e
              go (inr m) = m
              go (inl m) = let q = h.is_system.positive in absurd (first h.system.e m
                  (number_is h.system.e q (omega (arith, m, l)) h.is_system.is_number))

          same : h.system.e ≡ e
          same = let a = h.is_system.least e rises.0 (rise_is e l rises) in
              omega (arith, a, enough)

          some : (w i : ℕ) → w % h.system.e ≡ suc i → 0 < w
          some zero i q = absurd (let z : 0 ≡ suc i = sym (zero-mod h.system.e) ∙ q in cc)
          some (suc w) i q = omega arith

          class : (i : ℕ) → k.class ≡ i → ⊥
          class zero q = let z = k.least.zero q in let past = k.past in
              absurd (omega (arith, z, past, l))
          class (suc i) q = k.least.least (omega (arith, q)) w (omega (arith, small, k.past)) small
              (ap (λ m. w % m) (sym same) ∙ own ∙ sym q)
              (number_is w (some w i own) small (h.is_system.basis.is_number (suc i) inside))
            where
              w : ℕ
              w = weight_at h.system (suc i)

              inside : suc i < h.system.e
              inside = let b = k.below in omega (arith, b, q, same)

              own : w % h.system.e ≡ suc i
              own = h.is_system.basis.remainder (suc i) inside

              small : w < length spaces
              small = let c = h.is_system.form.weights in
                  let a : w ≤ length spaces - 1 = All-get_or (λ m. m ≤ length spaces - 1)
                  h.system.weights (suc i) 0 (omega (arith, inside, c)) h.is_system.within.weights
                  in
                  omega (arith, a, l)

-- the same for whatever point the spaces are of
module _ (F : Elements ℕ) (L : Lawful F) (f : List (List ℕ)) (hf : IsPlane F f)
    (two : 1 < length f) (spaces : List RRSpace) where
  pub one_where : (m : ℕ) → m ≡ 0 → (w : Elem) → elem_of L f w ≡ (algebra_in L f).one
      → IsFunctionWhere L f spaces m (Some w)
  one_where m z w e o p other at are = subst (λ m. HasFunctionAt L f o p other m (Some w)) (sym z)
      (one_function F L f hf two o p other at w e)

  pub picked_where : (m : ℕ) → ¬ (m ≡ 0) → m < length spaces → (lower upper : RRSpace)
      → lower ≡ get_or spaces (m - 1) lower → upper ≡ get_or spaces m upper → (r : Option Elem)
      → IsPicked L f lower.basis upper.basis r → IsFunctionWhere L f spaces m r
  picked_where zero n l lower upper a b r k o p other at are = absurd (n refl)
  picked_where (suc j) n l lower upper a b r k o p other at are =
      picked_function F L f hf two o p other at spaces are j l r
      (subst (λ (s : RRSpace). IsPicked L f (get_or spaces j d).basis s.basis r)
      (b ∙ get_or_default spaces (suc j) upper d l)
      (subst (λ (s : RRSpace). IsPicked L f s.basis upper.basis r) (a
      ∙ (let e : suc j - 1 ≡ j = omega arith in ap (λ n. get_or spaces n lower) e)
      ∙ get_or_default spaces j lower d (omega (arith, l))) k))
    where
      d : RRSpace
      d = record { j = 0; basis = [] }

  -- the system of the functions of all numbers
  pub numbers_where : (numbers : List ℕ) → AreNumbersOf spaces numbers
      → All (λ m. m < length spaces) numbers → length numbers < length spaces → (z : Elem)
      → IsFunctionWhere L f spaces (length numbers) (Some z) → (b : List Elem)
      → length b ≡ length numbers
      → ((i : ℕ) (d : Elem) → i < length numbers
      → IsFunctionWhere L f spaces (get_or numbers i 0) (Some (get_or b i d)))
      → (J : ℕ) → J ≡ length spaces - 1 → (r : Option System)
      → IsSystemOfFunctions L f J z b numbers r → IsSystemOfSpaces L f spaces r
  numbers_where numbers h within few z pole b count each J e r k o p other at are =
      subst (λ J. IsSystemAt L f o p other J (λ s. Unit {0}) r) e (k o p other at
      (spaces_least F L f hf two o p other at spaces are numbers h within few z b count pole each))

-- one function more
pub functions_more : {F : Elements ℕ} (L : Lawful F) (f : List (List ℕ)) (spaces : List RRSpace)
    (numbers : List ℕ) (list : List Elem) (n : ℕ) → length list ≡ n
    → ((i : ℕ) (d : Elem) → i < n
    → IsFunctionWhere L f spaces (get_or numbers i 0) (Some (get_or list i d)))
    → (w : Elem) → IsFunctionWhere L f spaces (get_or numbers n 0) (Some w) → (i : ℕ) (d : Elem)
    → i < n + 1
    → IsFunctionWhere L f spaces (get_or numbers i 0) (Some (get_or (list ++ w ∷ []) i d))
functions_more L f spaces numbers list n count h w k i d l = go (cases_lt i n)
  where
    go : (i < n) ⊎ (n ≤ i)
        → IsFunctionWhere L f spaces (get_or numbers i 0) (Some (get_or (list ++ w ∷ []) i d))
    go (inl q) = subst (λ w. IsFunctionWhere L f spaces (get_or numbers i 0) (Some w))
        (sym (push_below list w d i (omega (arith, q, count)))) (h i d q)
    go (inr q) = let e : n ≡ i = omega (arith, l, q) in
        subst (λ w. IsFunctionWhere L f spaces (get_or numbers i 0) (Some w))
        (sym (get_or_push list w d i (count ∙ e)))
        (subst (λ i. IsFunctionWhere L f spaces (get_or numbers i 0) (Some w)) e k)
