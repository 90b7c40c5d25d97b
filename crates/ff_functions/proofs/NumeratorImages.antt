-- Rows that hold the images of numerators, with the next one.
use Rattle.std.proofs.Common.{◌≡◌, ℕ, suc, ◌<◌, ◌≤◌, ◌⊎◌, inl, inr, List}
use Rattle.std.proofs.Common.{[], length, get_or, sym, ◌∙◌, ap, subst, arith}
use Rattle.std.proofs.Common.{Option, None, Some, Vec, Global}
use Rattle.std.proofs.lemmas.Bool.{cases_lt}
use Rattle.std.proofs.lemmas.List.{get_or-map}
use Rattle.ff_theory.specs.Ring.{Elements}
use Rattle.ff_theory.specs.Lawful.{Lawful}
use Rattle.ff_theory.specs.Poly.{coeff}
use Rattle.ff_theory.specs.Span.{unit_at}
use Rattle.ff_theory.specs.Vector.{vector_of, vectors_of}
use Rattle.ff_theory.proofs.Coeffs.{coeff-past}
use Rattle.ff_lin.specs.Space.{SpaceParts, rows_of}
use Rattle.ff_data.specs.declared.order.Order.{Order}
use Rattle.ff_common.specs.Common.{IsImage}
use Rattle.ff_common.proofs.ReversedImages.{some_at}
use Rattle.ff_functions.specs.declared.echelon.Row.{Row}
use Rattle.ff_functions.specs.declared.frame.Frame.{Frame}
use Rattle.ff_functions.specs.Images.{IsShortOver}
use Rattle.ff_functions.specs.Rows.{origin_list, row_origins, put_last, IsInserted, HoldImages}
use Rattle.ff_functions.specs.Searches.{AreRows, HoldNumerators}
use Rattle.ff_functions.proofs.RowLemmas.{put-below, put-at}
use Rattle.ff_functions.proofs.HeldImages.{hold_independent, hold_dependent}

module _ (F : Elements ℕ) where
  -- origins are zero from their greatest length on
  pub origins_end : (len n : ℕ) (rows : List Row) → AreRows F len n rows → (l : ℕ)
      → l < length rows → (k : ℕ) → n ≤ k → row_origins F rows l k ≡ F.zero
  origins_end len n rows h l q k e = some_at rows l q _ (λ d.
      ap (λ t. coeff F.ring t k) (get_or-map (origin_list F) rows l d [] q)
      ∙ coeff-past F.ring F.value (get_or rows l d).origin.items k
      (let few : length (get_or rows l d).origin.items ≤ n = (h.each l d q).few in
      omega (arith, few, e)))

module _ (F : Elements ℕ) (L : Lawful F) where
  -- rows that hold n images, and what is inserted with the next unit
  pub hold_inserted : (t : SpaceParts) (len n m : ℕ) (g : ℕ → ℕ → F.carrier) (v c : ℕ → F.carrier)
      (rows new : List Row) (o : Option (Vec ℕ Global)) → m ≡ suc n → AreRows F len n rows
      → ((i : ℕ) → c i ≡ unit_at F.ring n i) → IsInserted F rows v c new o
      → HoldImages F t n g rows → HoldImages F t m (put_last n g v) new
  hold_inserted t len n m g v c rows new None e are unit h held =
      subst (λ m. HoldImages F t m (put_last n g v) new) (sym e)
      (hold_independent F L t n g v rows new c held
      (λ i l. origins_end F len n rows are i l n (omega arith)) unit h)
  hold_inserted t len n m g v c rows new (Some d) e are unit h held =
      subst (λ m. HoldImages F t m (put_last n g v) new) (sym e)
      (subst (HoldImages F t (suc n) (put_last n g v)) (sym h.same)
      (hold_dependent F L t n g v rows new c held
      (λ i l. origins_end F len n rows are i l n (omega arith)) unit (vector_of F d.items)
      h.dependent))

  pub numerator_more : (f : List (List ℕ)) (s : Frame) (d : List ℕ) (o : Order) (len n m : ℕ)
      (v c : ℕ → F.carrier) (rows new : List Row) (r : Option (Vec ℕ Global)) → m ≡ suc n
      → AreRows F len n rows → ((i : ℕ) → c i ≡ unit_at F.ring n i) → IsInserted F rows v c new r
      → (IsShortOver L f d s.l s.h (vectors_of F (rows_of s.numerators.items) n)
      → IsImage L f d s.l s.h (vectors_of F (rows_of s.numerators.items) n) v)
      → HoldNumerators L f s d o n rows → HoldNumerators L f s d o m new
  numerator_more f s d o len n m v c rows new r e are unit h image held = record {
    target = held.target;
    times = held.times;
    images = put_last n held.images v;
    each = λ l q. go l (cases_lt l n) q;
    hold = hold_inserted held.target len n m held.images v c rows new r e are unit h held.hold;
  }
    where
      go : (l : ℕ) → (l < n) ⊎ (n ≤ l) → l < m
          → IsShortOver L f d s.l s.h (vectors_of F (rows_of s.numerators.items) l)
          → IsImage L f d s.l s.h (vectors_of F (rows_of s.numerators.items) l)
          (put_last n held.images v l)
      go l (inl k) q = λ short. subst (IsImage L f d s.l s.h
          (vectors_of F (rows_of s.numerators.items) l)) (sym (put-below n held.images v l k))
          (held.each l k short)
      go l (inr k) q = let z : n ≡ l = omega (arith, k, q, e) in
          subst (λ l. IsShortOver L f d s.l s.h (vectors_of F (rows_of s.numerators.items) l)
          → IsImage L f d s.l s.h (vectors_of F (rows_of s.numerators.items) l)
          (put_last n held.images v l)) z
          (λ short. subst (IsImage L f d s.l s.h (vectors_of F (rows_of s.numerators.items) n))
          (sym (put-at n held.images v)) (image short))
