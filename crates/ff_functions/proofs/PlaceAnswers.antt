-- What the outcome of a search says of the least functions of its point, for an equation f over a
-- field whose laws are L.
use Rattle.std.proofs.Common.{◌≡◌, ℕ, ◌+◌, ◌%◌, ◌<◌, ◌≤◌, pred, List, length, get_or, refl, sym}
use Rattle.std.proofs.Common.{◌∙◌, ap₂, subst, arith, Bool, true, false, Option, None, Some}
use Rattle.std.proofs.Common.{IfSome}
use Rattle.ff_theory.specs.Ring.{Elements}
use Rattle.ff_theory.specs.Lawful.{Lawful}
use Rattle.ff_theory.specs.Values.{IsPlane}
use Rattle.ff_lin.specs.Space.{SpaceParts}
use Rattle.ff_elem.specs.declared.elem.Elem.{Elem}
use Rattle.ff_elem.specs.Elem.{elem_of}
use Rattle.ff_data.specs.declared.order.Chart.{Chart}
use Rattle.ff_data.specs.declared.order.Chart.TheVariants.{Finite, Infinite}
use Rattle.ff_data.specs.declared.order.Order.{Order}
use Rattle.ff_data.specs.declared.point.Point.{Point}
use Rattle.ff_data.specs.declared.system.System.{System}
use Rattle.ff_data.specs.Poles.{HasPoleOf}
use Rattle.ff_forms.specs.Forms.{AreAlike}
use Rattle.ff_forms.specs.declared.functions.Functions.{Functions}
use Rattle.ff_systems.specs.Places.{IsPlace}
use Rattle.ff_frac.specs.Places.{IsMaximalPlace}
use Rattle.ff_functions.specs.declared.answer.Answer.{Answer}
use Rattle.ff_functions.specs.declared.answer.Answer.TheVariants.{Found, Differs, Short}
use Rattle.ff_functions.specs.declared.frame.Frame.{Frame}
use Rattle.ff_functions.specs.declared.numbers.PoleNumber.{PoleNumber}
use Rattle.ff_functions.specs.declared.search.Search.{Search}
use Rattle.ff_functions.specs.declared.search.Outcome.{Outcome}
use Rattle.ff_functions.specs.declared.search.Outcome.TheVariants.{Complete, Differs as Unlike}
use Rattle.ff_functions.specs.declared.search.Outcome.TheVariants.{Short as Incomplete}
use Rattle.ff_functions.specs.Searches.{IsNumber, IsRelationAt, IsComplete, AgreesAt, IsDecided}
use Rattle.ff_functions.specs.Searches.{HasFrameForm, HoldSearch, HoldsOutcome, IsBegun, Ends}
use Rattle.ff_functions.specs.Elements.{HasFrameElements}
use Rattle.ff_functions.specs.Combined.{IsFunctionOf, IsNumberAt, AreAssembled}
use Rattle.ff_functions.specs.Answers.{IsAnswer, IsAnswerOf, HasLeastUpTo, AreLeastOf, IsAnswerAt}
use Rattle.ff_functions.proofs.LeastNumbers.{least_functions, agrees_least, least_complete}
use Rattle.ff_functions.proofs.ExactSearches.{IsExactSearch, finite_exact, infinite_exact}

-- the pole numbers of a system that is alike
agrees_alike : (S t : System) → AreAlike S t → (j : ℕ) (b : Bool) → AgreesAt S j b → AgreesAt t j b
agrees_alike S t h j b k = go b k
  where
    same : get_or S.weights (j % S.e) 0 ≡ get_or t.weights (j % t.e) 0
    same = ap₂ (λ w e. get_or w (j % e) 0) h.weights h.e

    go : (b : Bool) → AgreesAt S j b → AgreesAt t j b
    go true k = subst (λ w. w ≤ j) same k
    go false k = λ l. k (subst (λ w. w ≤ j) (sym same) l)

pub option_alike : {A : Type 0} (system_of : A → System) (like : Option A) (S : System)
    → IfSome like (λ t. AreAlike S (system_of t)) → (j : ℕ) (b : Bool) → AgreesAt S j b
    → IfSome like (λ t. AgreesAt (system_of t) j b)
option_alike system_of None S h j b k = h
option_alike system_of (Some t) S h j b k = agrees_alike S (system_of t) h j b k

other_chart : (c d : Chart) → ¬ (d ≡ c) → c ≡ Finite → d ≡ Infinite
other_chart c Infinite h e = refl
other_chart c Finite h e = absurd (h (sym e))

pub finite_chart : (c d : Chart) → ¬ (d ≡ c) → c ≡ Infinite → d ≡ Finite
finite_chart c Finite h e = refl
finite_chart c Infinite h e = absurd (h (sym e))

module _ (F : Elements ℕ) (L : Lawful F) (f : List (List ℕ)) (hf : IsPlane F f)
    (two : 1 < length f) (o : Order) (p : Point) (other : Order)
    (place : IsPlace L f o p other) where
  pub maximal_place : IsMaximalPlace L f o p
  maximal_place = record { maximal = place.maximal; point = place.point }

  module _ (s : Frame) (d : List ℕ) (bound : ℕ) (t : SpaceParts) (first : ℕ → ℕ → F.carrier)
      (alike : System → Type 0) (agrees : ℕ → Bool → Type 0)
      (like : (S : System) → alike S → (j : ℕ) (b : Bool) → AgreesAt S j b → agrees j b)
      (are_exact : (n m : ℕ) (r : Search) → m ≤ bound
      → (held : HoldSearch L f o p s.h (length s.numerators.items) n m t first r)
      → IsExactSearch F L f hf two o p maximal_place other place.opposite s d t held.images m r)
    where
      abbrev c : ℕ
      c = length s.numerators.items

      module _ (n m : ℕ) (r : Search) (within : m ≤ bound)
          (held : HoldSearch L f o p s.h c n m t first r) where
        exact : IsExactSearch F L f hf two o p maximal_place other place.opposite s d t held.images
            m r
        exact = are_exact n m r within held

        pole : (i : ℕ) (q : PoleNumber) → IsNumberAt r.numbers.items i q → (w : Elem)
            → IsFunctionOf L f o.chart d s r.trail q w → HasPoleOf L f o p other q.j (elem_of L f w)
        pole i q at w k = exact.function q number.positive number.within
            (subst (λ (q : PoleNumber). IsRelationAt F t c held.images q.j q.relation.items)
            (at.1 q) (held.numbers.each i q at.0)) w k
          where
            number : IsNumber F c m q
            number = subst (IsNumber F c m) (at.1 q) (held.form i q at.0)

        found : (fs : Functions) → length fs.b ≡ fs.e → AreAssembled L f o.chart d s r fs
            → AreLeastOf L f o p other fs
        found fs count a = least_functions F L f o p other t c held.images m r.numbers.items
            held.numbers held.form exact.spans hf two place o.chart d s r refl pole fs count a

        unlike : 0 < m → (b : Bool) → IsDecided F t c held.images m b → ¬ agrees m b → (k : ℕ)
            → ¬ HasLeastUpTo L f o p other alike k
        unlike positive b decided wrong k h = wrong (like h.system h.same m b (agrees_least F L f o
            p other t c held.images m exact.spans exact.numbers_at h.system h.least hf two place
            h.count m
            positive (omega arith) b decided))

        short : ¬ IsComplete r.numbers.items → ¬ HasLeastUpTo L f o p other alike m
        short lacks h = lacks (least_complete F L f o p other t c held.images m exact.spans
            exact.numbers_at h.system h.least r.numbers.items held.numbers held.form h.e
            (λ i l. h.weights i 0 (omega (arith, l, h.count))))

      pub place_answer : (outcome : Outcome) (a : Answer)
          → HoldsOutcome L f o p s.h (length s.numerators.items) bound t first agrees outcome
          → IsAnswerOf L f o.chart d s outcome a → IsAnswer L f a
          → IsAnswerAt L f o p other alike bound a
      place_answer (Complete r) (Found fs) h a form = found h.0 h.0 r h.1.0 h.1.1 fs form.count a
      place_answer (Complete r) Differs h a form = absurd a
      place_answer (Complete r) Short h a form = absurd a
      place_answer Unlike (Found fs) h a form = absurd a
      place_answer Unlike Differs h a form = unlike h.m h.m h.search h.within h.held.held h.positive
          h.is_number h.held.decided h.unlike
      place_answer Unlike Short h a form = absurd a
      place_answer Incomplete (Found fs) h a form = absurd a
      place_answer Incomplete Differs h a form = absurd a
      place_answer Incomplete Short h a form = short (bound + 1) bound h.0 (omega arith) h.1.0 h.1.1

  module _ (s : Frame) (form : HasFrameForm L f s) (bound reach : ℕ) (alike : System → Type 0)
      (agrees : ℕ → Bool → Type 0)
      (like : (S : System) → alike S → (j : ℕ) (b : Bool) → AgreesAt S j b → agrees j b)
      (start : Search) (outcome : Outcome) (a : Answer)
      (ends : Ends L f o s.h (length s.numerators.items) bound agrees start outcome)
      (answer : IsAnswer L f a) where
    -- at a point of the finite chart
    pub finite_answer : o.chart ≡ Finite → HasFrameElements L f s o reach
        → IsBegun L f o p s o.d other start → pred (length other.d) ≤ reach
        → pred (length other.d) ≤ s.h → IsAnswerOf L f o.chart o.d s outcome a
        → IsAnswerAt L f o p other alike bound a
    finite_answer chart elements begun far room of = place_answer s o.d bound begun.rows.target
        begun.rows.images alike agrees like (λ n m r within held. finite_exact F L f hf two o p
        maximal_place other place.opposite s elements.0 reach start.echelon.rows.items n m r
        (λ e. let z : Finite ≡ Infinite = sym chart ∙ e in absurd (cc)) form.positive begun.rows
        held elements.1 chart (other_chart o.chart other.chart place.charts chart) far room) outcome
        a (ends p begun.rows.target begun.rows.images begun.search) of answer

    -- at a point of the infinite chart
    pub infinite_answer : o.chart ≡ Infinite → HasFrameElements L f s other reach
        → IsBegun L f o p s other.d o start → pred (length o.d) + bound ≤ reach
        → pred (length o.d) + bound ≤ s.h → IsAnswerOf L f o.chart other.d s outcome a
        → IsAnswerAt L f o p other alike bound a
    infinite_answer chart elements begun far room of = place_answer s other.d bound
        begun.rows.target begun.rows.images alike agrees like (λ n m r within held. infinite_exact F
        L f hf two o p maximal_place other place.opposite s elements.0 reach
        start.echelon.rows.items n m r (λ e. omega (arith, room, within)) form.positive begun.rows
        held elements.1 chart (omega (arith, far, within))) outcome a
        (ends p begun.rows.target begun.rows.images begun.search) of answer
