-- Rows of a search and its pole numbers, under greater bounds.
use Rattle.std.proofs.Common.{◌≡◌, ℕ, zero, suc, ◌+◌, ◌*◌, ◌<◌, ◌≤◌, List, [], ◌∷◌, ◌++◌}
use Rattle.std.proofs.Common.{length, get_or, refl, subst, arith, All}
use Rattle.std.proofs.Math.Nat.{mul-le-mul_right}
use Rattle.ff_theory.specs.Ring.{Elements}
use Rattle.ff_theory.specs.Lawful.{Lawful}
use Rattle.ff_data.specs.declared.order.Order.{Order}
use Rattle.ff_common.proofs.ReversedImages.{some_at}
use Rattle.ff_functions.specs.declared.echelon.Row.{Row}
use Rattle.ff_functions.specs.declared.numbers.PoleNumber.{PoleNumber}
use Rattle.ff_functions.specs.declared.search.Search.{Search}
use Rattle.ff_functions.specs.Searches.{AreRows, IsNumber, IsComplete, HasSearchForm}

-- the entries before the last one
pub push_below : {A : Type 0} (xs : List A) (x d : A) (i : ℕ) → i < length xs
    → get_or (xs ++ x ∷ []) i d ≡ get_or xs i d
push_below [] x d i l = absurd (omega (arith, l))
push_below (y ∷ xs) x d zero l = refl
push_below (y ∷ xs) x d (suc i) l = push_below xs x d i (omega (arith, l))

-- a row of n has room for l entries
pub row_room : (i n l : ℕ) → i < n → i * l + l ≤ n * l
row_room i n l h =
    let next : i + 1 ≤ n = omega (arith, h) in
    let m : (i + 1) * l ≤ n * l = mul-le-mul_right l next in
    omega (arith, m)

module _ (F : Elements ℕ) where
  pub rows_more : (len c m : ℕ) → c ≤ m → (rows : List Row) → AreRows F len c rows
      → AreRows F len m rows
  rows_more len c m l rows h = record {
    each = λ i d q. let r = h.each i d q in record {
      size = r.size;
      nonempty = r.nonempty;
      tail = r.tail;
      origin = r.origin;
      few = omega (arith, r.few, l);
    };
    stepped = h.stepped;
  }

  pub no_rows : (len m : ℕ) (rows : List Row) → length rows ≡ 0 → AreRows F len m rows
  no_rows len m rows e = record {
    each = λ i d l. absurd (omega (arith, l, e));
    stepped = record {
      one_at = λ i l. absurd (omega (arith, l, e));
      zero_at = λ i j l k. absurd (omega (arith, k, e));
    };
  }

  -- no numbers are complete where none is within 0
  pub incomplete_none : (c : ℕ) (numbers : List PoleNumber) → All (IsNumber F c 0) numbers
      → ¬ IsComplete numbers
  incomplete_none c numbers h k = some_at numbers 0 k.nonempty _
      (λ d. let n = h 0 d k.nonempty in omega (arith, n.positive, n.within))

  pub numbers_more : (c m n : ℕ) → m ≤ n → (numbers : List PoleNumber)
      → All (IsNumber F c m) numbers → All (IsNumber F c n) numbers
  numbers_more c m n l numbers h i d q = let r = h i d q in record {
    positive = r.positive;
    within = omega (arith, r.within, l);
    relation = r.relation;
  }

module _ {F : Elements ℕ} (L : Lawful F) (f : List (List ℕ)) (o : Order) where
  -- the form of a search by equal numbers
  pub search_same : (s : Search) (len n c d i m k : ℕ) → len ≡ n → c ≡ d → m ≡ k
      → HasSearchForm L f o len c i m s → HasSearchForm L f o n d i k s
  search_same s len n c d i m k a b e h = subst (λ k. HasSearchForm L f o n d i k s) e
      (subst (λ d. HasSearchForm L f o n d i m s) b
      (subst (λ n. HasSearchForm L f o n c i m s) a h))
