-- The numbers of a complete search are the least of their classes, and their functions are the
-- least functions of the point; and what a search says that is not complete, or not like a system.
-- For an equation f over a field whose laws are L.
use Rattle.std.proofs.Common.{◌≡◌, ℕ, zero, suc, ◌+◌, ◌-◌, ◌*◌, ◌/◌, ◌%◌, ◌<◌, ◌≤◌, ◌⊎◌}
use Rattle.std.proofs.Common.{inl, inr, List, length, get_or, refl, sym, ◌∙◌, ap, subst, arith, All}
use Rattle.std.proofs.Common.{Bool, true}
use Rattle.std.proofs.Common.{false}
use Rattle.std.proofs.Math.Nat.{mod-lt, div-add-mod, zero-mod, mod_self}
use Rattle.std.proofs.lemmas.Bool.{cases_lt}
use Rattle.ff_theory.specs.Ring.{Elements}
use Rattle.ff_theory.specs.Lawful.{Lawful}
use Rattle.ff_theory.specs.Values.{IsPlane}
use Rattle.ff_theory.proofs.Coeffs.{coeff-map}
use Rattle.ff_lin.specs.Space.{SpaceParts}
use Rattle.ff_table.proofs.Weights.{mod_sub}
use Rattle.ff_elem.specs.declared.elem.Elem.{Elem}
use Rattle.ff_elem.specs.Elem.{algebra_in, elem_of}
use Rattle.ff_data.specs.declared.order.Chart.{Chart}
use Rattle.ff_data.specs.declared.order.Order.{Order}
use Rattle.ff_data.specs.declared.point.Point.{Point}
use Rattle.ff_data.specs.declared.system.System.{System}
use Rattle.ff_data.specs.Poles.{HasPoleOf, IsPoleNumber}
use Rattle.ff_data.specs.Combinations.{elems_of}
use Rattle.ff_data.specs.Systems.{weight_at}
use Rattle.ff_forms.specs.declared.functions.Functions.{Functions}
use Rattle.ff_systems.specs.Places.{frame, IsPlace, HasLeastFunctions}
use Rattle.ff_systems.proofs.Spaces.{pole_back, one_order}
use Rattle.ff_systems.proofs.Unique.{multiple_number}
use Rattle.ff_functions.specs.declared.frame.Frame.{Frame}
use Rattle.ff_functions.specs.declared.numbers.PoleNumber.{PoleNumber}
use Rattle.ff_functions.specs.declared.search.Search.{Search}
use Rattle.ff_functions.specs.Searches.{IsNumber, IsDependentAt, AreNumbers, IsComplete, HasClass}
use Rattle.ff_functions.specs.Searches.{IsRelationAt, IsDecided, AgreesAt}
use Rattle.ff_functions.specs.Combined.{IsFunctionOf, IsNumberAt, IsOfClass}
use Rattle.ff_functions.specs.Combined.{AreAssembled}
use Rattle.ff_functions.proofs.NumberLemmas.{relation_dependent}

module _ (F : Elements ℕ) (L : Lawful F) (f : List (List ℕ)) (o : Order) (p : Point)
    (other : Order) (t : SpaceParts) (c : ℕ) (images : ℕ → ℕ → F.carrier) (m : ℕ)
    (numbers : List PoleNumber) (h : AreNumbers F t c images m numbers)
    (few : All (IsNumber F c m) numbers)
    (spans : (j : ℕ) → j < m → IsPoleNumber L f o p other (suc j)
    → IsDependentAt F t c images (suc j)) where
  spans_at : (j : ℕ) → 0 < j → j ≤ m → IsPoleNumber L f o p other j → IsDependentAt F t c images j
  spans_at zero q l k = absurd (omega (arith, q))
  spans_at (suc j) q l k = spans j (omega (arith, l)) k

  module _ (first : PoleNumber) (at : IsNumberAt numbers 0 first) where
    -- no positive pole number is less than the first number
    pub first_least : (j : ℕ) → 0 < j → IsPoleNumber L f o p other j → first.j ≤ j
    first_least j q k = go (cases_lt m j)
      where
        go : (m < j) ⊎ (j ≤ m) → first.j ≤ j
        go (inl l) = let w = (few 0 first at.0).within in
            let e : (get_or numbers 0 first).j ≡ first.j = ap (λ (p : PoleNumber). p.j)
            (at.1 first) in omega (arith, w, e, l)
        go (inr l) = let w = (h.first j q l (spans_at j q l k)).1 first in
            let e : (get_or numbers 0 first).j ≡ first.j = ap (λ (p : PoleNumber). p.j)
            (at.1 first) in omega (arith, w, e)

    module _ (i : ℕ) (q : PoleNumber) (own : IsOfClass numbers first.j i q) where
      same_number : get_or numbers own.index q ≡ q
      same_number = own.at.1 q

      number : IsNumber F c m q
      number = subst (IsNumber F c m) same_number (few own.index q own.at.0)

      -- nor is one in the class of a number less than it
      least_within : (j : ℕ) → 0 < j → j ≤ m → IsDependentAt F t c images j → j % first.j ≡ i
          → q.j ≤ j
      least_within j r l k e = let w : (get_or numbers own.index q).j ≤ j = h.least own.index j q
          own.at.0 r l k (ap (λ (p : PoleNumber). j % p.j) (at.1 q) ∙ e ∙ sym own.own
          ∙ ap (λ (p : PoleNumber). q.j % p.j) (sym (at.1 q))
          ∙ ap (λ (p : PoleNumber). p.j % (get_or numbers 0 q).j) (sym same_number)) in
          let e : (get_or numbers own.index q).j ≡ q.j = ap (λ (p : PoleNumber). p.j) same_number in
          omega (arith, w, e)

      pub class_least : (j : ℕ) → 0 < j → IsPoleNumber L f o p other j → j % first.j ≡ i → q.j ≤ j
      class_least j r k e = go (cases_lt m j)
        where
          go : (m < j) ⊎ (j ≤ m) → q.j ≤ j
          go (inl l) = omega (arith, number.within, l)
          go (inr l) = least_within j r l (spans_at j r l k) e

      dependent : IsDependentAt F t c images q.j
      dependent = relation_dependent F L t c images q.j number.positive q.relation.items
          (subst (λ (q : PoleNumber). IsRelationAt F t c images q.j q.relation.items)
          same_number (h.each own.index q own.at.0))

    -- two numbers of a class are the same
    pub class_one : (i : ℕ) (q r : PoleNumber) → IsOfClass numbers first.j i q
        → IsOfClass numbers first.j i r → q.j ≡ r.j
    class_one i q r a b = let x : q.j ≤ r.j = least_within i q a r.j (number i r b).positive
        (number i r b).within (dependent i r b) b.own in
        let y : r.j ≤ q.j = least_within i r b q.j (number i q a).positive
        (number i q a).within (dependent i q a) a.own in omega (arith, x, y)

  -- the functions of the numbers
  module _ (hf : IsPlane F f) (two : 1 < length f) (place : IsPlace L f o p other)
      (chart : Chart) (d : List ℕ) (s : Frame) (r : Search) (whole : r.numbers.items ≡ numbers)
      (pole : (i : ℕ) (q : PoleNumber) → IsNumberAt r.numbers.items i q → (w : Elem)
      → IsFunctionOf L f chart d s r.trail q w → HasPoleOf L f o p other q.j (elem_of L f w))
      (fs : Functions) (count : length fs.b ≡ fs.e) (a : AreAssembled L f chart d s r fs) where
    at : IsNumberAt numbers 0 a.first
    at = subst (λ n. IsNumberAt n 0 a.first) whole a.at

    positive : 0 < fs.e
    positive = let n = few 0 a.first at.0 in
        let e : (get_or numbers 0 a.first).j ≡ a.first.j = ap (λ (p : PoleNumber). p.j)
        (at.1 a.first) in omega (arith, n.positive, e, a.e)

    number_at : (j : ℕ) → 0 < j → (w : (algebra_in L f).carrier) → HasPoleOf L f o p other j w
        → IsPoleNumber L f o p other j
    number_at zero q w k = absurd (omega (arith, q))
    number_at (suc j) q w k = (w, k)

    z_pole : HasPoleOf L f o p other fs.e (elem_of L f fs.z)
    z_pole = subst (λ e. HasPoleOf L f o p other e (elem_of L f fs.z)) a.e
        (pole 0 a.first a.at fs.z a.z)

    class_in : (i : ℕ) (q : PoleNumber) → IsOfClass r.numbers.items fs.e i q
        → IsOfClass numbers a.first.j i q
    class_in i q k = subst (λ e. IsOfClass numbers e i q) (sym a.e)
        (subst (λ n. IsOfClass n fs.e i q) whole k)

    least : (i : ℕ) → i < fs.e → (j : ℕ) → IsPoleNumber L f o p other j → j % fs.e ≡ i
        → get_or fs.weights i 0 ≤ j
    least zero l j k e = omega (arith, a.weights.zero)
    least (suc i) l zero k e = absurd (let z : suc i ≡ 0 = sym e ∙ zero-mod fs.e in cc)
    least (suc i) l (suc j) k e = let w = a.weights.each (suc i) (omega arith) l in
        let low : w.0.j ≤ suc j = class_least a.first at (suc i) w.0 (class_in (suc i) w.0 w.1.0)
        (suc j) (omega arith) k (ap (λ n. suc j % n) a.e ∙ e) in omega (arith, low, w.1.1)

    function_pole : (i : ℕ) → i < fs.e
        → HasPoleOf L f o p other (get_or fs.weights i 0) (elems_of L f fs.b i)
    function_pole zero l = subst (λ j. HasPoleOf L f o p other j (elems_of L f fs.b 0))
        (sym a.weights.zero) (subst (HasPoleOf L f o p other 0) (sym one)
        (pole_back F L f hf two o p other place 0 (algebra_in L f).one
        (one_order F L f hf two o p other place)))
      where
        one : elems_of L f fs.b 0 ≡ (algebra_in L f).one
        one = coeff-map (algebra_in L f) (elem_of L f) fs.b 0 fs.z (omega (arith, count, positive))
            ∙ a.b.one fs.z
    function_pole (suc i) l = subst (λ j. HasPoleOf L f o p other j (elems_of L f fs.b (suc i)))
        (sym (w.1.1 ∙ class_one a.first at (suc i) w.0 b.0 (class_in (suc i) w.0 w.1.0)
        (class_in (suc i) b.0 b.1.0)))
        (subst (HasPoleOf L f o p other b.0.j) (sym (coeff-map (algebra_in L f) (elem_of L f) fs.b
        (suc i) fs.z (omega (arith, count, l))))
        (pole b.1.0.index b.0 b.1.0.at (get_or fs.b (suc i) fs.z) b.1.1))
      where
        w : (q : PoleNumber) × (IsOfClass r.numbers.items fs.e (suc i) q
            × (get_or fs.weights (suc i) 0 ≡ q.j))
        w = a.weights.each (suc i) (omega arith) l

        b : (q : PoleNumber) × (IsOfClass r.numbers.items fs.e (suc i) q
            × IsFunctionOf L f chart d s r.trail q (get_or fs.b (suc i) fs.z))
        b = a.b.each (suc i) (omega arith) l fs.z

    remainder : (i : ℕ) → i < fs.e → get_or fs.weights i 0 % fs.e ≡ i
    remainder zero l = ap (λ n. n % fs.e) a.weights.zero ∙ zero-mod fs.e
    remainder (suc i) l = let w = a.weights.each (suc i) (omega arith) l in
        ap (λ n. n % fs.e) w.1.1 ∙ w.1.0.own

    weight_number : (j : ℕ) (w : (algebra_in L f).carrier) → HasPoleOf L f o p other j w
        → IsPoleNumber L f o p other j
    weight_number zero w k = tt
    weight_number (suc j) w k = (w, k)

    pub least_functions : HasLeastFunctions L f o p other (frame fs.e fs.z fs.b fs.weights)
    least_functions = record {
      positive = positive;
      is_number = number_at fs.e positive (elem_of L f fs.z) z_pole;
      least = λ j q k. let w = first_least a.first at j q k in omega (arith, w, a.e);
      z = z_pole;
      basis = record {
        first = coeff-map (algebra_in L f) (elem_of L f) fs.b 0 fs.z
            (omega (arith, count, positive)) ∙ a.b.one fs.z;
        is_number = λ i l. weight_number (get_or fs.weights i 0) (elems_of L f fs.b i)
            (function_pole i l);
        remainder = remainder;
        least = λ j k. least (j % fs.e) (mod-lt j positive) j k refl;
        pole = function_pole;
      };
    }

-- what an order that is dependent or not says of least functions
module _ (F : Elements ℕ) (L : Lawful F) (f : List (List ℕ)) (o : Order) (p : Point)
    (other : Order) (t : SpaceParts) (c : ℕ) (images : ℕ → ℕ → F.carrier) (m : ℕ)
    (spans : (j : ℕ) → j < m → IsPoleNumber L f o p other (suc j)
    → IsDependentAt F t c images (suc j))
    (numbers_at : (j : ℕ) → j < m → IsDependentAt F t c images (suc j)
    → IsPoleNumber L f o p other (suc j))
    (S : System) (g : HasLeastFunctions L f o p other S) where
  into : (j : ℕ) → 0 < j → j ≤ m → IsPoleNumber L f o p other j → IsDependentAt F t c images j
  into zero q l k = absurd (omega (arith, q))
  into (suc j) q l k = spans j (omega (arith, l)) k

  back : (j : ℕ) → 0 < j → j ≤ m → IsDependentAt F t c images j → IsPoleNumber L f o p other j
  back zero q l k = absurd (omega (arith, q))
  back (suc j) q l k = numbers_at j (omega (arith, l)) k

  -- the functions' weights say so too
  module _ (hf : IsPlane F f) (two : 1 < length f) (place : IsPlace L f o p other)
      (count : length S.weights ≡ S.e) where
    has_number : (j : ℕ) → weight_at S (j % S.e) ≤ j → IsPoleNumber L f o p other j
    has_number j low = let i : j % S.e < S.e = mod-lt j g.positive in
        let is : S.e * ((j - weight_at S (j % S.e)) / S.e) + weight_at S (j % S.e) ≡ j = omega (
          arith,
          low,
          div-add-mod (j - weight_at S (j % S.e)) S.e,
          mod_sub S.e g.positive j (weight_at S (j % S.e)) low
              (sym (g.basis.remainder (j % S.e) i)),
        ) in
        subst (IsPoleNumber L f o p other) is (multiple_number F L f hf two o p other place S g
        count (j % S.e) ((j - weight_at S (j % S.e)) / S.e) i)

    pub agrees_least : (j : ℕ) → 0 < j → j ≤ m → (b : Bool) → IsDecided F t c images j b
        → AgreesAt S j b
    agrees_least j q l true k = g.basis.least j (back j q l k)
    agrees_least j q l false k = λ low. k (into j q l (has_number j low))

  -- where they lie up to m, the numbers are complete
  module _ (numbers : List PoleNumber) (h : AreNumbers F t c images m numbers)
      (few : All (IsNumber F c m) numbers) (e : S.e ≤ m)
      (within : (i : ℕ) → i < S.e → weight_at S i ≤ m) where
    some : (0 < length numbers) × ((d : PoleNumber) → (get_or numbers 0 d).j ≤ S.e)
    some = h.first S.e g.positive e (into S.e g.positive e g.is_number)

    same : (d : PoleNumber) → (get_or numbers 0 d).j ≡ S.e
    same d = let a = some.1 d in let n = few 0 d some.0 in
        let b = g.least (get_or numbers 0 d).j n.positive (back (get_or numbers 0 d).j n.positive
        n.within (relation_dependent F L t c images (get_or numbers 0 d).j n.positive
        (get_or numbers 0 d).relation.items (h.each 0 d some.0))) in omega (arith, a, b)

    class : (d : PoleNumber) (i : ℕ) → i < S.e → HasClass numbers S.e i
    class d zero l = (0, (some.0, λ d. ap (λ n. n % S.e) (same d) ∙ mod_self S.e))
    class d (suc i) l = subst (HasClass numbers S.e) (g.basis.remainder (suc i) l)
        (subst (λ n. HasClass numbers n (weight_at S (suc i) % n)) (same d)
        (h.whole (weight_at S (suc i)) positive (within (suc i) l)
        (into (weight_at S (suc i)) positive (within (suc i) l) (g.basis.is_number (suc i) l)) d))
      where
        positive : 0 < weight_at S (suc i)
        positive = go (weight_at S (suc i)) (g.basis.remainder (suc i) l)
          where
            go : (w : ℕ) → w % S.e ≡ suc i → 0 < w
            go zero k = absurd (let z : 0 ≡ suc i = sym (zero-mod S.e) ∙ k in cc)
            go (suc w) k = omega arith

    pub least_complete : IsComplete numbers
    least_complete = record {
      nonempty = some.0;
      classes = λ d i l. subst (λ n. HasClass numbers n i) (sym (same d))
          (class d i (omega (arith, l, same d)));
    }
