-- Products of coordinates by the table.
use Rattle.std.proofs.Common.{◌≡◌, ℕ, zero, suc, ◌+◌, ◌<◌, ◌≤◌, List, [], ◌∷◌, length}
use Rattle.std.proofs.Common.{get_or, sym, ◌∙◌, ap, ap₂, arith, All}
use Rattle.ff_theory.specs.Ring.{RingOps, IsCommRing, Elements, IsElement}
use Rattle.ff_theory.specs.Lawful.{Lawful}
use Rattle.ff_theory.specs.Poly.{Poly}
use Rattle.ff_theory.specs.Sum.{sum_below}
use Rattle.ff_theory.specs.Values.{poly_of, polys_over, ArePolys, x_size}
use Rattle.ff_theory.proofs.Poly.{polynomial_laws}
use Rattle.ff_theory.proofs.Sums.{sum-ext, sum-zero}
use Rattle.ff_theory.proofs.Solver.{zero_mul}
use Rattle.ff_poly.proofs.RowLists.{row-each, row-length, row-value}
use Rattle.ff_data.specs.declared.system.System.{System}
use Rattle.ff_data.specs.Systems.{AreCoords}
use Rattle.ff_ring.specs.Entries.{entry_at, AreEntries}
use Rattle.ff_ring.specs.Ring.{table_entry, plus_basis_product_at}
use Rattle.ff_ring.specs.Ring.{plus_product_at}

-- an entry of a list in which all have a property that the empty list has
pub at-each : {A : Type 0} (Q : List A → Type 0) (xs : List (List A)) (j : ℕ) → Q [] → All Q xs
    → Q (get_or xs j [])
at-each Q [] j q h = q
at-each Q (x ∷ xs) zero q h = h zero [] (omega arith)
at-each Q (x ∷ xs) (suc j) q h = at-each Q xs j q (λ k d l. h (suc k) d (omega (arith, l)))

module _ (F : Elements ℕ) (L : Lawful F) where
  abbrev P : RingOps
  P = polys_over F

  PL : IsCommRing (polys_over F)
  PL = polynomial_laws F.ring L.laws L.tests

  pub each-entry : (lists : List (List (List ℕ))) (j l : ℕ) → All (ArePolys F) lists
      → All (IsElement F) (get_or (get_or lists j []) l [])
  each-entry lists j l h = row-each F (get_or lists j []) l
      (at-each (ArePolys F) lists j (λ k d q. absurd (omega (arith, q))) h)

  pub room-entry : (lists : List (List (List ℕ))) (y : List (List ℕ)) (j l n : ℕ)
      → j < length lists
      → All (λ c. x_size y + x_size c ≤ n) lists
      → length (get_or y j []) + length (get_or (get_or lists j []) l []) ≤ n
  room-entry lists y j l n q h = omega (
    arith,
    h j [] q,
    row-length y j,
    row-length (get_or lists j []) l,
  )

  -- one product more
  pub product-step : (lists : List (List (List ℕ))) (y : List (List ℕ)) (l j m : ℕ)
      (o s t a b : List ℕ) → m ≡ suc j → a ≡ get_or y j [] → b ≡ get_or (get_or lists j []) l []
      → poly_of F t ≡ (polys_over F).add (poly_of F s)
      ((polys_over F).mul (poly_of F a) (poly_of F b))
      → poly_of F s ≡ (polys_over F).add (poly_of F o) (sum_below (polys_over F) j (λ j.
      (polys_over F).mul (entry_at F y j) (entry_at F (get_or lists j []) l)))
      → poly_of F t ≡ (polys_over F).add (poly_of F o) (sum_below (polys_over F) m (λ j.
      (polys_over F).mul (entry_at F y j) (entry_at F (get_or lists j []) l)))
  product-step lists y l j m o s t a b e ea eb ht hs =
      ht ∙ ap₂ P.add hs (ap₂ P.mul (ap (poly_of F) ea ∙ row-value F y j)
      (ap (poly_of F) eb ∙ row-value F (get_or lists j []) l))
      ∙ PL.add_assoc (poly_of F o) _ _
      ∙ ap (λ n. P.add (poly_of F o) (sum_below P n (λ j. P.mul (entry_at F y j)
      (entry_at F (get_or lists j []) l)))) (sym e)

  -- h is the sum with a product by 0
  pub plus-nothing : (s : System) (h b : List (List ℕ)) (i : ℕ) (p : Poly F.ring)
      → p ≡ (polys_over F).zero → AreCoords F s h
      → AreEntries F s.e (plus_product_at F s h i p b) h
  plus-nothing s h b i p e a = record {
    each = a.each;
    count = a.count;
    value = λ l q. sym (PL.add_zero (entry_at F h l))
        ∙ ap (P.add (entry_at F h l)) (sym (sum-ext P PL s.e
        (λ j. P.mul p (P.mul (entry_at F b j) (table_entry F s i j l))) (λ j. P.zero)
        (λ j o. ap (λ t. P.mul t (P.mul (entry_at F b j) (table_entry F s i j l))) e
        ∙ zero_mul P PL (P.mul (entry_at F b j) (table_entry F s i j l)))
        ∙ sum-zero P PL s.e));
  }

  -- the product with p, b_i and b from that with b_i and p * b
  pub plus-scaled : (s : System) (h b y : List (List ℕ)) (i : ℕ) (p : Poly F.ring)
      (n : ℕ) → n ≡ s.e
      → AreEntries F n (λ l. (polys_over F).mul p (entry_at F b l)) y
      → (l : ℕ) → l < s.e
      → plus_basis_product_at F s h i y l ≡ plus_product_at F s h i p b l
  plus-scaled s h b y i p n e a l q = ap (P.add (entry_at F h l))
      (sum-ext P PL s.e (λ j. P.mul (entry_at F y j) (table_entry F s i j l))
      (λ j. P.mul p (P.mul (entry_at F b j) (table_entry F s i j l)))
      (λ j o. ap (λ t. P.mul t (table_entry F s i j l))
      (a.value j (omega (arith, o, e)))
      ∙ PL.mul_assoc p (entry_at F b j) (table_entry F s i j l)))

  -- one basis element more
  pub product-more : (s : System) (a b h c : List (List ℕ)) (i m : ℕ) → m ≡ suc i
      → (p : Poly F.ring) → p ≡ entry_at F a i
      → AreEntries F s.e (λ l. sum_below (polys_over F) i (λ i. sum_below (polys_over F) s.e
      (λ j. (polys_over F).mul (entry_at F a i)
      ((polys_over F).mul (entry_at F b j) (table_entry F s i j l))))) h
      → AreEntries F s.e (plus_product_at F s h i p b) c
      → AreEntries F s.e (λ l. sum_below (polys_over F) m (λ i. sum_below (polys_over F) s.e
      (λ j. (polys_over F).mul (entry_at F a i)
      ((polys_over F).mul (entry_at F b j) (table_entry F s i j l))))) c
  product-more s a b h c i m e p w old new = record {
    each = new.each;
    count = new.count;
    value = λ l q. new.value l q ∙ ap₂ P.add (old.value l q)
        (ap (λ t. sum_below P s.e (λ j. P.mul t (P.mul (entry_at F b j) (table_entry F s i j l))))
        w)
        ∙ ap (λ n. sum_below P n (λ i. sum_below P s.e (λ j. P.mul (entry_at F a i)
        (P.mul (entry_at F b j) (table_entry F s i j l))))) (sym e);
  }
