-- Points of both maximal orders of an equation f, and which order one belongs to.
use Rattle.std.proofs.Common.{◌≡◌, ℕ, ◌+◌, ◌<◌, inl, inr, List, [], ◌∷◌, ◌++◌, length, get_or}
use Rattle.std.proofs.Common.{◌⊎◌, ◌≤◌, All, Option, None, Some, refl, ap, sym, ◌∙◌, subst, arith}
use Rattle.std.proofs.Common.{⊎_elim}
use Rattle.std.proofs.lemmas.List.{length-append, get_or_append_left, get_or-append-add}
use Rattle.std.proofs.lemmas.Bool.{cases_lt}
use Rattle.std.proofs.lemmas.List.{get_or_default}
use Rattle.std.proofs.lemmas.List.Elements.{All-append}
use Rattle.ff_theory.specs.Ring.{Elements}
use Rattle.ff_theory.specs.Lawful.{Lawful}
use Rattle.ff_data.specs.declared.order.Chart.TheVariants.{Finite, Infinite}
use Rattle.ff_data.specs.declared.order.Order.{Order}
use Rattle.ff_data.specs.declared.point.Point.{Point}
use Rattle.ff_forms.specs.Forms.{HasPointForm}
use Rattle.ff_data.specs.Points.{IsPoint}
use Rattle.ff_data.specs.declared.system.System.{System}
use Rattle.ff_forms.specs.declared.functions.TheConstants.{POLE_LIMIT}
use Rattle.ff_const.specs.Irreducible.{IsIrreducible}
use Rattle.ff_systems.specs.Places.{IsPlace as IsPlaceOf}
use Rattle.ff_poles.specs.Found.{IsSystemAt}
use Rattle.ff_points.specs.PointLists.{IsOneOf, AreRising}
use Rattle.ff_list.specs.Lists.{AreBothOrders, IsPointOf, HasRationalPlace, HaveNoPlace}
use Rattle.ff_list.specs.Lists.{IsSystemOf, IsFirstAt, HasNoSystem, HasKeptSystem}
use Rattle.ff_list.specs.Searches.{ArePlaces, IsPlace, IsSystemIfAny, IsFirstIfAny}

-- an entry of one of two lists is one of the joined list
one-left : {A : Type 0} (xs ys : List A) (x : A) → IsOneOf xs x → IsOneOf (xs ++ ys) x
one-left xs ys x h = let l = h.1.0 in (
  h.0,
  (
    omega (arith, l, length-append xs ys),
    h.1.1 ∙ sym (get_or_append_left xs ys x h.0 l),
  ),
)

one-right : {A : Type 0} (xs ys : List A) (x : A) → IsOneOf ys x → IsOneOf (xs ++ ys) x
one-right xs ys x h = let l = h.1.0 in (
  length xs + h.0,
  (
    omega (arith, l, length-append xs ys),
    h.1.1 ∙ sym (get_or-append-add xs ys h.0 x),
  ),
)

module _ {F : Elements ℕ} (L : Lawful F) (f : List (List ℕ)) (o q : Order)
    (h : AreBothOrders L f o q) where
  pub finite-differs : ¬ (q.chart ≡ o.chart)
  finite-differs e = let k : Infinite ≡ Finite = sym h.infinite_chart ∙ e ∙ h.finite_chart in
      absurd (cc)

  pub infinite-differs : ¬ (o.chart ≡ q.chart)
  infinite-differs e = finite-differs (sym e)

  pub finite-form : (p : Point) → p.chart ≡ Finite → IsPlace F o q p → HasPointForm F o p
  finite-form p e at = ⊎_elim (λ a. a)
      (λ b. let k : Finite ≡ Infinite = sym e ∙ b.chart ∙ h.infinite_chart in absurd (cc)) at

  pub infinite-form : (p : Point) → p.chart ≡ Infinite → IsPlace F o q p → HasPointForm F q p
  infinite-form p e at = ⊎_elim
      (λ a. let k : Infinite ≡ Finite = sym e ∙ a.chart ∙ h.finite_chart in absurd (cc))
      (λ b. b) at

  pub all-places : (infinite finite all : List Point) → All (HasPointForm F q) infinite
      → All (HasPointForm F o) finite → All (IsPoint L f q) infinite → All (IsPoint L f o) finite
      → ((p : Point) → IsPoint L f q p → IsOneOf infinite p)
      → ((p : Point) → IsPoint L f o p → IsOneOf finite p)
      → AreRising F infinite → AreRising F finite → all ≡ infinite ++ finite
      → ArePlaces L f o q all
  all-places infinite finite all hi hf si sf ci cf ri rf e = record {
    orders = h;
    each = subst (All (IsPlace F o q)) (sym e)
        (All-append (IsPlace F o q) infinite finite
        (λ k d l. inr (hi k d l)) (λ k d l. inl (hf k d l)));
    points = subst (All (IsPointOf L f o q)) (sym e)
        (All-append (IsPointOf L f o q) infinite finite
        (λ k d l. inr (si k d l)) (λ k d l. inl (sf k d l)));
    ordered = record {
      first = infinite;
      second = finite;
      joined = e;
      at_infinity = si;
      infinite_rising = ri;
      others = sf;
      finite_rising = rf;
      all = λ p at. subst (λ t. IsOneOf t p) (sym e)
          (⊎_elim (λ a. one-right infinite finite p (cf p a))
          (λ b. one-left infinite finite p (ci p b)) at);
    };
  }

  -- a list that is not empty begins with a point
  pub first-place : (places : List Point) → 0 < length places → ArePlaces L f o q places
      → HasRationalPlace L f
  first-place [] l k = absurd (omega (arith, l))
  first-place (p ∷ places) l k = record {
    finite = o;
    infinite = q;
    orders = h;
    point = p;
    is_point = k.points 0 p l;
  }

  -- an empty list has no point
  pub no-place : (places : List Point) → ¬ (0 < length places) → ArePlaces L f o q places
      → HaveNoPlace L f o q
  no-place places n k = record {
    orders = h;
    none = λ p at. let i = k.ordered.all p at in n (let l = i.1.0 in omega (arith, l));
  }

  -- points by their chart
  pub finite-point : (p : Point) → p.chart ≡ Finite → IsPointOf L f o q p → IsPoint L f o p
  finite-point p e at = ⊎_elim (λ a. a)
      (λ b. let k : Finite ≡ Infinite = sym e ∙ b.chart ∙ h.infinite_chart in absurd (cc)) at

  pub infinite-point : (p : Point) → p.chart ≡ Infinite → IsPointOf L f o q p → IsPoint L f q p
  infinite-point p e at = ⊎_elim
      (λ a. let k : Infinite ≡ Finite = sym e ∙ a.chart ∙ h.finite_chart in absurd (cc))
      (λ b. b) at

  -- as places of an irreducible equation
  pub finite-place : (p : Point) → p.chart ≡ Finite → IsIrreducible L f → IsPointOf L f o q p
      → IsPlaceOf L f o p q
  finite-place p e irreducible at = record {
    irreducible = irreducible;
    maximal = h.finite_is;
    opposite = h.infinite_is;
    charts = finite-differs;
    point = finite-point p e at;
  }

  pub infinite-place : (p : Point) → p.chart ≡ Infinite → IsIrreducible L f → IsPointOf L f o q p
      → IsPlaceOf L f q p o
  infinite-place p e irreducible at = record {
    irreducible = irreducible;
    maximal = h.infinite_is;
    opposite = h.finite_is;
    charts = infinite-differs;
    point = infinite-point p e at;
  }

  -- the answers of the search for a system
  pub finite-answer : (p : Point) (alike : System → Type 0) → p.chart ≡ Finite
      → IsPointOf L f o q p → (r : Option System) → IsSystemAt L f o p q POLE_LIMIT alike r
      → IsSystemIfAny L f o q p alike r
  finite-answer p alike e at (Some s) k = inl (finite-point p e at, k)
  finite-answer p alike e at None k = λ s x a. ⊎_elim
      (λ y. k (record { system = s; is_system = y.1; same = a }))
      (λ y. let k : Finite ≡ Infinite = sym e ∙ y.0.chart ∙ h.infinite_chart in absurd (cc)) x

  pub infinite-answer : (p : Point) (alike : System → Type 0) → p.chart ≡ Infinite
      → IsPointOf L f o q p → (r : Option System) → IsSystemAt L f q p o POLE_LIMIT alike r
      → IsSystemIfAny L f o q p alike r
  infinite-answer p alike e at (Some s) k = inr (infinite-point p e at, k)
  infinite-answer p alike e at None k = λ s x a. ⊎_elim
      (λ y. let k : Infinite ≡ Finite = sym e ∙ y.0.chart ∙ h.finite_chart in absurd (cc))
      (λ y. k (record { system = s; is_system = y.1; same = a })) x

  -- none of the points has a system
  pub no-system : (places : List Point) → 0 < length places → ArePlaces L f o q places
      → (IsIrreducible L f → IsFirstIfAny L f o q places None) → HasNoSystem L f
  unfolding first-place
  no-system [] l k none = absurd (omega (arith, l))
  no-system (p ∷ places) l k none = record {
    place = first-place (p ∷ places) l k;
    none = λ irreducible r s at x. let i = k.ordered.all r at in none irreducible i.0 r s i.1.0
        (subst (λ r. IsSystemOf L f o q r s) i.1.1 x);
  }

  -- the first of the points with a system
  pub kept-system : (places : List Point) → ArePlaces L f o q places → (index : ℕ) (s : System)
      → index < length places
      → (IsIrreducible L f → IsFirstAt L f o q places index s) → HasKeptSystem L f s
  kept-system [] k index s l first = absurd (omega (arith, l))
  kept-system (p ∷ places) k index s l first = record {
    place = record {
      finite = o;
      infinite = q;
      orders = h;
      point = get_or (p ∷ places) index p;
      is_point = k.points index p l;
    };
    kept = λ irreducible. record {
      list = p ∷ places;
      ordered = k.ordered;
      index = index;
      first = first irreducible;
      point = λ d. get_or_default (p ∷ places) index d p l;
    };
  }

  module _ (list : List Point) (i : ℕ) (p : Point) (e : p ≡ get_or list i p) (l : i < length list)
      (before : (j : ℕ) (d : Point) (s : System) → j < i
      → ¬ IsSystemOf L f o q (get_or list j d) s) where
    same : (j : ℕ) (d : Point) → j ≡ i → get_or list j d ≡ p
    same j d k = ap (λ j. get_or list j d) k ∙ get_or_default list i d p l ∙ sym e

    -- one point more without a system
    pub none-more : ((s : System) → ¬ IsSystemOf L f o q p s) → (j : ℕ) (d : Point) (s : System)
        → j < i + 1 → ¬ IsSystemOf L f o q (get_or list j d) s
    none-more here j d s m x = go (cases_lt j i)
      where
        go : (j < i) ⊎ (i ≤ j) → ⊥
        go (inl k) = before j d s k x
        go (inr k) = here s (subst (λ r. IsSystemOf L f o q r s) (same j d (omega (arith, m, k))) x)

    -- the first one with a system
    pub first-at : (s : System) → IsSystemOf L f o q p s → IsFirstAt L f o q list i s
    first-at s x = record {
      below = l;
      system = λ d. subst (λ r. IsSystemOf L f o q r s) (sym (same i d refl)) x;
      first = λ j d t k. before j d t k;
    }
