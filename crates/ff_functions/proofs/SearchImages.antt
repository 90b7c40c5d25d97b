-- A search with one power more: the images that its rows hold, and its pole numbers.
use Rattle.std.proofs.Common.{◌≡◌, ℕ, suc, pred, ◌+◌, ◌-◌, ◌<◌, ◌≤◌, ◌⊎◌, inl, inr, List}
use Rattle.std.proofs.Common.{[], ◌∷◌, ◌++◌, length, get_or, refl, sym, ◌∙◌, ap, subst, arith, All}
use Rattle.std.proofs.Common.{Bool, Option, None, Some, Vec, Global}
use Rattle.std.proofs.lemmas.Bool.{cases_lt}
use Rattle.std.proofs.lemmas.List.{get_or_push}
use mathlib.Core.Path.{fun_ext}
use Rattle.ff_theory.specs.Ring.{Elements}
use Rattle.ff_theory.specs.Lawful.{Lawful}
use Rattle.ff_theory.specs.Poly.{Poly}
use Rattle.ff_theory.specs.Span.{unit_at}
use Rattle.ff_theory.specs.Values.{plane_of}
use Rattle.ff_theory.specs.Vector.{vector_of}
use Rattle.ff_theory.proofs.Sums.{sum-ext}
use Rattle.ff_charts.specs.Lattice.{flat}
use Rattle.ff_lin.specs.Space.{SpaceParts}
use Rattle.ff_data.specs.declared.order.Order.{Order}
use Rattle.ff_data.specs.declared.point.Point.{Point}
use Rattle.ff_common.specs.Common.{IsImage, IsTimesVector}
use Rattle.ff_functions.specs.declared.frame.Frame.{Frame}
use Rattle.ff_functions.specs.declared.numbers.PoleNumber.{PoleNumber}
use Rattle.ff_functions.specs.declared.search.Search.{Search}
use Rattle.ff_functions.specs.Images.{IsShortOver}
use Rattle.ff_functions.specs.Rows.{IsInserted, put_last, IsImageBy, HoldImages, row_origins}
use Rattle.ff_functions.specs.Searches.{AreRows, IsNumber, IsDependentAt}
use Rattle.ff_functions.specs.Searches.{AreNumbers, IsVerdict, IsPowerImage, HoldSearch}
use Rattle.ff_functions.specs.Searches.{IsPowerOf}
use Rattle.ff_functions.specs.Searches.{HoldNumerators, IsBegun, HoldDecided, IsDecided}
use Rattle.ff_functions.proofs.SearchLemmas.{push_below}
use Rattle.ff_functions.proofs.RowLemmas.{put-below, put-at}
use Rattle.ff_functions.proofs.HeldImages.{relation_image, relation_last, not_spanned}
use Rattle.ff_functions.proofs.NumeratorImages.{hold_inserted, origins_end}

module _ (F : Elements ℕ) (L : Lawful F) where
  -- what is said of the vector of a plane
  pub plane_image : (f : List (List ℕ)) (d v : List ℕ) (N : List (List ℕ)) (l m h : ℕ)
      (image : ℕ → F.carrier) → l ≡ m
      → ((j : ℕ) → vector_of F v j ≡ flat F.ring l (plane_of F N) j)
      → (IsShortOver L f d l h (vector_of F v) → IsImage L f d l h (vector_of F v) image)
      → IsShortOver L f d m h (flat F.ring m (plane_of F N))
      → IsImage L f d m h (flat F.ring m (plane_of F N)) image
  plane_image f d v N l m h image e same = subst (λ m.
      (IsShortOver L f d l h (vector_of F v) → IsImage L f d l h (vector_of F v) image)
      → IsShortOver L f d m h (flat F.ring m (plane_of F N))
      → IsImage L f d m h (flat F.ring m (plane_of F N)) image) e
      (subst (λ (u : ℕ → F.carrier).
      (IsShortOver L f d l h (vector_of F v) → IsImage L f d l h (vector_of F v) image)
      → IsShortOver L f d l h u → IsImage L f d l h u image) (fun_ext same) (λ k. k))

  pub plane_times : (f : List (List ℕ)) (g : ℕ → Poly F.ring) (v : List ℕ) (N : List (List ℕ))
      (l m h : ℕ) (image : ℕ → F.carrier) → l ≡ m
      → ((j : ℕ) → vector_of F v j ≡ flat F.ring l (plane_of F N) j)
      → IsTimesVector L f (g (h - l)) l h (vector_of F v) image
      → IsTimesVector L f (g (h - m)) m h (flat F.ring m (plane_of F N)) image
  plane_times f g v N l m h image e same k = subst (λ m. IsTimesVector L f (g (h - m)) m h
      (flat F.ring m (plane_of F N)) image) e
      (subst (λ (u : ℕ → F.carrier). IsTimesVector L f (g (h - l)) l h u image) (fun_ext same) k)

  -- images of which only the first n matter
  image_agree : (t : SpaceParts) (n : ℕ) (g k : ℕ → ℕ → F.carrier) (c v : ℕ → F.carrier)
      → ((l : ℕ) → l < n → k l ≡ g l) → IsImageBy F t n g c v → IsImageBy F t n k c v
  image_agree t n g k c v e h = record {
    rest = h.rest;
    in_target = h.in_target;
    sum = λ j. h.sum j ∙ ap (F.add (h.rest j)) (sym (sum-ext F.ring L.laws n _ _
        (λ l q. ap (λ (a : ℕ → F.carrier). F.mul (c l) (a j)) (e l q))));
  }

  module _ (t : SpaceParts) (c m : ℕ) (g k : ℕ → ℕ → F.carrier)
      (same : (l : ℕ) → l < c + m → k l ≡ g l) (numbers : List PoleNumber)
      (few : All (IsNumber F c m) numbers) where
    dependent_same : (j : ℕ) → 0 < j → j ≤ m → IsDependentAt F t c k j → IsDependentAt F t c g j
    dependent_same j p q h = let l : c + pred j < c + m = omega (arith, p, q) in (
      h.0,
      subst (IsImageBy F t (c + pred j) g h.0) (same (c + pred j) l)
          (image_agree t (c + pred j) k g h.0 (k (c + pred j))
          (λ i r. sym (same i (omega (arith, r, l)))) h.1),
    )

    numbers_same : AreNumbers F t c g m numbers → AreNumbers F t c k m numbers
    numbers_same h = record {
      each = λ i d l. let r = h.each i d l in let w = (few i d l).within in record {
        none = image_agree t (c + (get_or numbers i d).j) g k
            (vector_of F (get_or numbers i d).relation.items) (λ j. F.zero)
            (λ s q. same s (omega (arith, q, w))) r.none;
        last = r.last;
      };
      first = λ j p q d. h.first j p q (dependent_same j p q d);
      whole = λ j p q d. h.whole j p q (dependent_same j p q d);
      least = λ s j d l p q e. h.least s j d l p q (dependent_same j p q e);
    }

  module _ (f : List (List ℕ)) (o : Order) (p : Point) (h c j len : ℕ) (positive : 0 < j)
      (t : SpaceParts) (first : ℕ → ℕ → F.carrier) (s new : Search) (v u : ℕ → F.carrier)
      (r : Option (Vec ℕ Global)) (N : List (List ℕ))
      (rows : AreRows F len (c + pred j) s.echelon.rows.items)
      (unit : (i : ℕ) → u i ≡ unit_at F.ring (c + pred j) i)
      (inserted : IsInserted F s.echelon.rows.items v u new.echelon.rows.items r)
      (passed : new.trail.passed.items ≡ s.trail.passed.items ++ N ∷ [])
      (same : new.trail.powers ≡ s.trail.powers)
      (count : length s.trail.passed.items ≡ pred j)
      (few : All (IsNumber F c (pred j)) s.numbers.items)
      (numbers : (images : ℕ → ℕ → F.carrier) → IsVerdict F t c images j r
      → AreNumbers F t c images (pred j) s.numbers.items
      → AreNumbers F t c images j new.numbers.items) (b : Bool)
      (decided : (images : ℕ → ℕ → F.carrier) → IsVerdict F t c images j r
      → IsDecided F t c images j b)
      (more_few : All (IsNumber F c j) new.numbers.items)
      (image : IsPowerImage L f o p h j N v)
      (held : HoldSearch L f o p h c j (pred j) t first s) where
    n : ℕ
    n = c + pred j

    next : c + j ≡ suc (c + pred j)
    next = omega (arith, positive)

    images : ℕ → ℕ → F.carrier
    images = put_last (c + pred j) held.images v

    ends : (i : ℕ) → i < length s.echelon.rows.items
        → row_origins F s.echelon.rows.items i (c + pred j) ≡ F.zero
    ends i l = origins_end F len (c + pred j) s.echelon.rows.items rows i l (c + pred j)
        (omega arith)

    verdict : (r : Option (Vec ℕ Global))
        → IsInserted F s.echelon.rows.items v u new.echelon.rows.items r
        → IsVerdict F t c (put_last (c + pred j) held.images v) j r
    verdict None k = not_spanned F L t (c + pred j) held.images v s.echelon.rows.items
        new.echelon.rows.items u held.hold ends unit k
    verdict (Some d) k = record {
      none = subst (λ n. IsImageBy F t n (put_last (c + pred j) held.images v)
          (vector_of F d.items) (λ i. F.zero)) (sym next)
          (relation_image F L t (c + pred j) held.images v s.echelon.rows.items
          new.echelon.rows.items u held.hold ends unit (vector_of F d.items) k.dependent);
      last = relation_last F L t (c + pred j) held.images v s.echelon.rows.items
          new.echelon.rows.items u held.hold ends unit (vector_of F d.items) k.dependent;
    }

    power : (i : ℕ) → i < j → (i < pred j) ⊎ (pred j ≤ i)
        → IsPowerImage L f o p h (i + 1) (get_or new.trail.passed.items i [])
        (put_last (c + pred j) held.images v (c + i))
    power i l (inl q) = subst (IsPowerImage L f o p h (i + 1) (get_or new.trail.passed.items i []))
        (sym (put-below (c + pred j) held.images v (c + i) (omega (arith, q))))
        (subst (λ N. IsPowerImage L f o p h (i + 1) N (held.images (c + i)))
        (sym (ap (λ t. get_or t i []) passed
        ∙ push_below s.trail.passed.items N [] i (omega (arith, q, count)))) (held.powers i q))
    power i l (inr q) =
        let e : i ≡ pred j = omega (arith, l, q) in
        let k : i + 1 ≡ j = omega (arith, l, q) in
        subst (IsPowerImage L f o p h (i + 1) (get_or new.trail.passed.items i []))
        (sym (ap (λ i. put_last (c + pred j) held.images v (c + i)) e
        ∙ put-at (c + pred j) held.images v))
        (subst (λ N. IsPowerImage L f o p h (i + 1) N v)
        (sym (ap (λ t. get_or t i []) passed
        ∙ get_or_push s.trail.passed.items N [] i (count ∙ sym e)))
        (subst (λ k. IsPowerImage L f o p h k N v) (sym k) image))

    more : HoldSearch L f o p h c j j t first new
    more = record {
      power = subst (IsPowerOf L f o p j) (sym same) held.power;
      images = put_last (c + pred j) held.images v;
      before = λ l q. put-below (c + pred j) held.images v l (omega (arith, q)) ∙ held.before l q;
      powers = λ i l. power i l (cases_lt i (pred j));
      hold = hold_inserted F L t len (c + pred j) (c + j) held.images v u s.echelon.rows.items
          new.echelon.rows.items r next rows unit inserted held.hold;
      form = more_few;
      numbers = numbers (put_last (c + pred j) held.images v) (verdict r inserted)
          (numbers_same t c (pred j) held.images (put_last (c + pred j) held.images v)
          (λ l q. put-below (c + pred j) held.images v l q) s.numbers.items few held.numbers);
    }

    pub search_more : HoldDecided L f o p h c j t first new b
    unfolding more
    search_more = record {
      held = more;
      decided = decided (put_last (c + pred j) held.images v) (verdict r inserted);
    }

  -- before the first power
  pub search_begun : (f : List (List ℕ)) (o : Order) (p : Point) (s : Frame) (d : List ℕ)
      (infinite : Order) (r : Search) → HoldNumerators L f s d infinite
      (length s.numerators.items) r.echelon.rows.items → length r.numbers.items ≡ 0
      → IsPowerOf L f o p 1 r.trail.powers → IsBegun L f o p s d infinite r
  search_begun f o p s d infinite r h none power = record {
    rows = h;
    search = record {
      power = power;
      images = h.images;
      before = λ l q. refl;
      powers = λ i l. absurd (omega (arith, l));
      hold = let e : length s.numerators.items ≡ length s.numerators.items + 0 = omega arith in
          subst (λ n. HoldImages F h.target n h.images r.echelon.rows.items) e h.hold;
      form = λ i d l. absurd (omega (arith, l, none));
      numbers = record {
        each = λ i d l. absurd (omega (arith, l, none));
        first = λ j p q. absurd (omega (arith, p, q));
        whole = λ j p q. absurd (omega (arith, p, q));
        least = λ i j d l. absurd (omega (arith, l, none));
      };
    };
  }
