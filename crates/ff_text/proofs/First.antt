-- The first fault of lines, by the tests on their sums.
use Rattle.std.proofs.Common.{◌≡◌, ℕ, ◌+◌, ◌-◌, ◌<◌, ◌≤◌, min, Bool, true, false, cond, ltb, List}
use Rattle.std.proofs.Common.{[], ◌∷◌, length, get_or, Option, Some, None, refl, sym, ap}
use Rattle.std.proofs.Common.{◌∙◌, arith, lit<, ◌⊎◌, inl, inr}
use Rattle.std.specs.List.{position, position_or_len}
use Rattle.std.proofs.lemmas.List.{length-take, length-drop, get_or-take, get_or-drop}
use Rattle.std.proofs.lemmas.List.Quantifiers.{position-Some}
use Rattle.std.proofs.lemmas.Bool.{ltb-true, ltb-false}
use Rattle.std.proofs.lemmas.List.Sums.{fails_before_first}
use Rattle.ff_theory.proofs.Booleans.{differ}
use Rattle.ff_text.specs.declared.fault.TextFault.{TextFault}
use Rattle.ff_text.specs.declared.fault.TextFault.TheVariants as fault
use Rattle.ff_text.specs.declared.sums.Ratio.{Ratio}
use Rattle.ff_text.specs.Limits.{lacks_y, is_over_zero, equation_exceeds, element_exceeds}
use Rattle.ff_text.specs.Limits.{equations, elements, if_some, first_fault}
use Rattle.ff_text.specs.Values.{Precedes}

-- the test holds of entry w, counted from 1
abbrev pub IsAt : (Ratio → Bool) → List Ratio → ℕ → Type 0
IsAt t rs w = (k : ℕ) × (w ≡ k + 1) × (k < length rs) × ((d : Ratio) → t (get_or rs k d) ≡ true)

abbrev pub Finds : List Ratio → TextFault → Type 0
Finds rs (fault.Syntax at) = ⊥
Finds rs fault.NotPrime = ⊥
Finds rs (fault.NoY w) = (w ≤ 2) × IsAt lacks_y rs w
Finds rs (fault.ZeroDenominator w) = (3 ≤ w) × IsAt is_over_zero rs w
Finds rs (fault.Degree w) = ((w ≤ 2) × IsAt equation_exceeds rs w)
    ⊎ ((3 ≤ w) × IsAt element_exceeds rs w)
Finds rs fault.NoMemory = ⊥

some_item : (rs : List Ratio) → 0 < length rs → Ratio
some_item [] h = absurd (omega arith)
some_item (r ∷ rs) h = r

position-None : (t : Ratio → Bool) (xs : List Ratio) → position t xs ≡ None → (k : ℕ) (d : Ratio)
    → k < length xs → t (get_or xs k d) ≡ false
position-None t xs e k d lt = go (ltb (position_or_len t xs) (length xs)) refl e
  where
    go : (b : Bool) → ltb (position_or_len t xs) (length xs) ≡ b
        → cond b (Some (position_or_len t xs)) None ≡ None → t (get_or xs k d) ≡ false
    go true f g = absurd cc
    go false f g = fails_before_first t xs k d
        (let le : length xs ≤ position_or_len t xs = ltb-false _ _ f in omega arith)

module _ (t : Ratio → Bool) (rs : List Ratio) where
  -- entry k is an equation
  at_equation : (k : ℕ) (d : Ratio) → k < 2 → k < length rs → (k < length (equations rs))
      × (get_or (equations rs) k d ≡ get_or rs k d)
  at_equation k d lt l = (
    omega (arith, length-take (min (length rs) 2) rs),
    get_or-take
        (min (length rs) 2) rs k d (omega arith),
  )

  -- entry k + 2 is an element
  at_element : (k : ℕ) (d : Ratio) → k + 2 < length rs → (k < length (elements rs))
      × (get_or (elements rs) k d ≡ get_or rs (k + 2) d)
  at_element k d l =
      let e : min (length rs) 2 + k ≡ k + 2 = omega arith in (
        omega (arith, length-drop (min (length rs) 2) rs),
        get_or-drop (min (length rs) 2) rs k d
            ∙ ap (λ i. get_or rs i d) e,
      )

  -- what a search over the equations says
  in_equations : (i : ℕ) → position t (equations rs) ≡ Some i → (i < 2) × IsAt t rs (i + 1)
      × ((w : ℕ) → w ≤ i → IsAt t rs w → ⊥)
  in_equations i e =
      let here = λ (d : Ratio). position-Some t (equations rs) i d e in
      let n : length (equations rs) ≡ min (min (length rs) 2) (length rs) = length-take (min (length
      rs) 2) rs in
      let lt : i < length (equations rs) = bound in
      let two : i < 2 = omega arith in
      let l : i < length rs = omega arith in (
        two,
        (i, refl, l, λ d. sym (ap t (at_equation i d two l).1) ∙ (here d).1),
        λ w le a. let d = some_item rs (omega (arith, l)) in
            differ (t (get_or rs a.0 d)) (a.3 d)
            (ap t (sym (at_equation a.0 d (omega (arith, a.1)) a.2).1)
            ∙ (here d).2 a.0 (omega (arith, a.1))),
      )
    where
      bound : i < length (equations rs)
      bound = go (ltb (position_or_len t (equations rs)) (length (equations rs))) refl e
        where
          go : (b : Bool) → ltb (position_or_len t (equations rs)) (length (equations rs)) ≡ b
              → cond b (Some (position_or_len t (equations rs))) None ≡ Some i
              → i < length (equations rs)
          go true f g = let h : position_or_len t (equations rs)
              ≡ i = cc in let k : position_or_len t (equations rs) < length
              (equations rs) = ltb-true _ _ f in omega arith
          go false f g = absurd cc

  not_in_equations : position t (equations rs) ≡ None → (w : ℕ) → w ≤ 2 → IsAt t rs w → ⊥
  not_in_equations e w le a =
      let d = some_item rs (omega (arith, a.2)) in
      let q = at_equation a.0 d (omega (arith, a.1)) a.2 in
      differ (t (get_or rs a.0 d)) (a.3 d)
      (ap t (sym q.1) ∙ position-None t (equations rs) e a.0 d q.0)

  in_elements : (i : ℕ) → position t (elements rs) ≡ Some i → IsAt t rs (i + 3)
      × ((w : ℕ) → 3 ≤ w → w < i + 3 → IsAt t rs w → ⊥)
  in_elements i e =
      let here = λ (d : Ratio). position-Some t (elements rs) i d e in
      let n : length (elements rs) ≡ length rs - min (length rs) 2 = length-drop (min (length rs) 2)
      rs in
      let lt : i < length (elements rs) = bound in
      let l : i + 2 < length rs = omega arith in (
        (i + 2, omega arith, l, λ d. sym (ap t (at_element i d l).1) ∙ (here d).1),
        λ w ge le a. let d = some_item rs (omega (arith, l)) in
            let k : (a.0 - 2) + 2 ≡ a.0 = omega (arith, a.1) in
            let q = at_element (a.0 - 2) d (omega (arith, a.1, a.2)) in
            differ (t (get_or rs a.0 d)) (a.3 d)
            (ap (λ m. t (get_or rs m d)) (sym k) ∙ ap t (sym q.1)
            ∙ (here d).2 (a.0 - 2) (omega (arith, a.1))),
      )
    where
      bound : i < length (elements rs)
      bound = go (ltb (position_or_len t (elements rs)) (length (elements rs))) refl e
        where
          go : (b : Bool) → ltb (position_or_len t (elements rs)) (length (elements rs)) ≡ b
              → cond b (Some (position_or_len t (elements rs))) None ≡ Some i
              → i < length (elements rs)
          go true f g = let h : position_or_len t (elements rs)
              ≡ i = cc in let k : position_or_len t (elements rs) < length (elements rs) = ltb-true
              _ _ f in omega arith
          go false f g = absurd cc

  not_in_elements : position t (elements rs) ≡ None → (w : ℕ) → 3 ≤ w → IsAt t rs w → ⊥
  not_in_elements e w le a =
      let d = some_item rs (omega (arith, a.2)) in
      let k : (a.0 - 2) + 2 ≡ a.0 = omega (arith, a.1) in
      let q = at_element (a.0 - 2) d (omega (arith, a.1, a.2)) in
      differ (t (get_or rs a.0 d)) (a.3 d)
      (ap (λ m. t (get_or rs m d)) (sym k) ∙ ap t (sym q.1)
      ∙ position-None t (elements rs) e (a.0 - 2) d q.0)

-- ---- The four searches, one after another

-- what the first fault is, and that no other one precedes it
abbrev pub IsFound : List Ratio → Option TextFault → Type 0
IsFound rs None = (g : TextFault) → Finds rs g → ⊥
IsFound rs (Some f) = Finds rs f × ((g : TextFault) → Precedes g f → Finds rs g → ⊥)

-- what is ruled out of the faults of a kind C, cause by cause
none_of : (rs : List Ratio) (C : TextFault → Type 0)
    → ((w : ℕ) → w ≤ 2 → C (fault.NoY w) → IsAt lacks_y rs w → ⊥)
    → ((w : ℕ) → 3 ≤ w → C (fault.ZeroDenominator w) → IsAt is_over_zero rs w → ⊥)
    → ((w : ℕ) → w ≤ 2 → C (fault.Degree w) → IsAt equation_exceeds rs w → ⊥)
    → ((w : ℕ) → 3 ≤ w → C (fault.Degree w) → IsAt element_exceeds rs w → ⊥)
    → (g : TextFault) → C g → Finds rs g → ⊥
none_of rs C y z q l (fault.NoY w) c h = y w h.0 c h.1
none_of rs C y z q l (fault.ZeroDenominator w) c h = z w h.0 c h.1
none_of rs C y z q l (fault.Degree w) c h = elim h [ inl a ↦ q w a.0 c a.1 | inr a ↦ l w a.0 c a.1 ]
none_of rs C y z q l _ c h = h

-- of one cause, and of a later one
same_cause : (a x y : ℕ) → (a < a) ⊎ ((a ≡ a) × (x < y)) → x < y
same_cause a x y (inl h) = absurd (omega arith)
same_cause a x y (inr h) = h.1

later_cause : {A : Type 0} (a b x y : ℕ) → b < a → (a < b) ⊎ ((a ≡ b) × (x < y)) → A
later_cause a b x y lt (inl h) = absurd (omega arith)
later_cause a b x y lt (inr h) = absurd (omega (arith, h.0))

pub first_is_found : (rs : List Ratio) → IsFound rs (first_fault rs)
unfolding first_fault
first_is_found rs = without_y (position lacks_y (equations rs)) refl
  where
    element_above : (o : Option ℕ) → position element_exceeds (elements rs) ≡ o
        → position lacks_y (equations rs) ≡ None → position is_over_zero (elements rs) ≡ None
        → position equation_exceeds (equations rs) ≡ None
        → IsFound rs (if_some o (λ i. fault.Degree (i + 3)) None)
    element_above None e a b c = λ g. none_of rs (λ g. Unit {0})
        (λ w le u. not_in_equations lacks_y rs a w le)
        (λ w ge u. not_in_elements is_over_zero rs b w ge)
        (λ w le u. not_in_equations equation_exceeds rs c w le)
        (λ w ge u. not_in_elements element_exceeds rs e w ge) g tt
    element_above (Some i) e a b c =
        let f = in_elements element_exceeds rs i e in (
          inr (omega arith, f.0),
          none_of rs (λ g. Precedes g (fault.Degree (i + 3)))
              (λ w le u. not_in_equations lacks_y rs a w le)
              (λ w ge u. not_in_elements is_over_zero rs b w ge)
              (λ w le u. not_in_equations equation_exceeds rs c w le)
              (λ w ge u. f.1 w ge (same_cause 4 w (i + 3) u)),
        )

    equation_above : (o : Option ℕ) → position equation_exceeds (equations rs) ≡ o
        → position lacks_y (equations rs) ≡ None → position is_over_zero (elements rs) ≡ None
        → IsFound rs (if_some o (λ i. fault.Degree (i + 1))
        (if_some (position element_exceeds (elements rs)) (λ i. fault.Degree (i + 3)) None))
    equation_above None e a b = element_above (position element_exceeds (elements rs)) refl a b e
    equation_above (Some i) e a b =
        let f = in_equations equation_exceeds rs i e in (
          inl (omega (arith, f.0), f.1),
          none_of rs (λ g. Precedes g (fault.Degree (i + 1)))
              (λ w le u. not_in_equations lacks_y rs a w le)
              (λ w ge u. not_in_elements is_over_zero rs b w ge)
              (λ w le u. f.2 w (let s = same_cause 4 w (i + 1) u in omega arith))
              (λ w ge u. absurd (let s = same_cause 4 w (i + 1) u in omega (arith, f.0))),
        )

    over_zero : (o : Option ℕ) → position is_over_zero (elements rs) ≡ o
        → position lacks_y (equations rs) ≡ None
        → IsFound rs (if_some o (λ i. fault.ZeroDenominator (i + 3))
        (if_some (position equation_exceeds (equations rs)) (λ i. fault.Degree (i + 1))
        (if_some (position element_exceeds (elements rs)) (λ i. fault.Degree (i + 3)) None)))
    over_zero None e a = equation_above (position equation_exceeds (equations rs)) refl a e
    over_zero (Some i) e a =
        let f = in_elements is_over_zero rs i e in (
          (omega arith, f.0),
          none_of rs (λ g. Precedes g (fault.ZeroDenominator (i + 3)))
              (λ w le u. not_in_equations lacks_y rs a w le)
              (λ w ge u. f.1 w ge (same_cause 3 w (i + 3) u))
              (λ w le u. later_cause 4 3 w (i + 3) (lit< tt) u)
              (λ w ge u. later_cause 4 3 w (i + 3) (lit< tt) u),
        )

    without_y : (o : Option ℕ) → position lacks_y (equations rs) ≡ o
        → IsFound rs (if_some o (λ i. fault.NoY (i + 1))
        (if_some (position is_over_zero (elements rs)) (λ i. fault.ZeroDenominator (i + 3))
        (if_some (position equation_exceeds (equations rs)) (λ i. fault.Degree (i + 1))
        (if_some (position element_exceeds (elements rs)) (λ i. fault.Degree (i + 3)) None))))
    without_y None e = over_zero (position is_over_zero (elements rs)) refl e
    without_y (Some i) e =
        let f = in_equations lacks_y rs i e in (
          (omega (arith, f.0), f.1),
          none_of rs (λ g. Precedes g (fault.NoY (i + 1)))
              (λ w le u. f.2 w (let s = same_cause 2 w (i + 1) u in omega arith))
              (λ w ge u. later_cause 3 2 w (i + 1) (lit< tt) u)
              (λ w le u. later_cause 4 2 w (i + 1) (lit< tt) u)
              (λ w ge u. later_cause 4 2 w (i + 1) (lit< tt) u),
        )
