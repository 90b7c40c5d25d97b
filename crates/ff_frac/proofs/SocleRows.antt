-- Lists of the rows of the equations of an element with a pole of order one, and their solutions.
use Rattle.std.proofs.Common.{◌≡◌, ℕ, ◌+◌, ◌<◌, ◌≤◌, ◌⊎◌, inl, inr, Bool, true, false}
use Rattle.std.proofs.Common.{List, [], ◌∷◌, ◌++◌, length, get_or, ◌==◌, refl, sym, ◌∙◌, ap, subst}
use Rattle.std.proofs.Common.{arith, Result, Ok, Err, IfOk}
use Rattle.std.proofs.lemmas.Bool.{cases_lt, eqb-true, eqb-false}
use Rattle.std.proofs.lemmas.List.{length-map, map_push, length_push, get_or_push}
use Rattle.std.specs.Global.{Vec}
use Rattle.ff_theory.specs.Ring.{Elements}
use Rattle.ff_theory.specs.Lawful.{Lawful}
use Rattle.ff_theory.specs.Span.{product, unit_at, EndsAt}
use Rattle.ff_theory.specs.Vector.{vector_of, vectors_of}
use Rattle.ff_theory.proofs.Solver.{◌⊕◌, ◌⊗◌, neg, nil, unit, ring2}
use Rattle.ff_theory.proofs.Sums.{sum-ext}
use Rattle.ff_theory.proofs.Span.{unit-same, unit-other}
use Rattle.ff_lin.specs.Space.{rows_of, IsOrthogonal, SpaceParts, IsSpaceOf, HasExactly}
use Rattle.ff_fibre.proofs.RowLists.{kept_row}
use Rattle.ff_frac.specs.Socle.{shifted_value, shifted_entry_at, IsSocleRow, IsSomeRow}
use Rattle.ff_frac.specs.Socle.{HasSocleRow, AreSocleRows, SolvesRows, IsSocleSpace}

-- the entry of the table less the value times that of the unit matrix
pub shifted_is : (F : Elements ℕ) (L : Lawful F) (i l : ℕ) (entry chi : F.carrier)
    → F.add entry (F.neg (F.mul (unit_at F.ring i l) chi)) ≡ shifted_value F entry chi (i == l)
shifted_is F L i l entry chi = go (i == l) refl
  where
    go : (b : Bool) → (i == l) ≡ b → F.add entry (F.neg (F.mul (unit_at F.ring i l) chi))
        ≡ shifted_value F entry chi b
    go true e = let same : i ≡ l = eqb-true i l e in
        ap (λ l. F.add entry (F.neg (F.mul (unit_at F.ring i l) chi))) (sym same)
        ∙ ap (λ t. F.add entry (F.neg (F.mul t chi))) (unit-same F.ring i)
        ∙ ring2 F.ring L.laws (λ e c. e ⊕ neg (unit ⊗ c)) (λ e c. e ⊕ neg c) refl entry chi
    go false e = ap (λ t. F.add entry (F.neg (F.mul t chi)))
        (unit-other F.ring i l (λ s. eqb-false i l e (sym s)))
        ∙ ring2 F.ring L.laws (λ e c. e ⊕ neg (nil ⊗ c)) (λ e c. e) refl entry chi

module _ (F : Elements ℕ) (n : ℕ) (table : List (List (List ℕ))) (chi : ℕ → F.carrier) where
  row_same : (j l : ℕ) (v w : ℕ → F.carrier) → ((i : ℕ) → v i ≡ w i)
      → IsSocleRow F n table (chi j) j l w → IsSocleRow F n table (chi j) j l v
  row_same j l v w e h i q = e i ∙ h i q

  -- no row
  pub no_socle_rows : (rows : List (List ℕ)) → length rows ≡ 0
      → AreSocleRows F n table chi 0 0 rows
  no_socle_rows rows e = record {
    each = λ t q. absurd (omega (arith, q, e));
    all = λ i k q r. absurd (omega (arith, q));
    last = λ k q. absurd (omega (arith, q));
  }

  -- the rows of one j more
  pub whole_socle_rows : (j : ℕ) (rows : List (List ℕ)) → AreSocleRows F n table chi j n rows
      → AreSocleRows F n table chi (j + 1) 0 rows
  whole_socle_rows j rows h = record {
    each = h.each;
    all = λ i k q r. go i k q r (cases_lt i j);
    last = λ k q. absurd (omega (arith, q));
  }
    where
      go : (i k : ℕ) → i < j + 1 → k < n → (i < j) ⊎ (j ≤ i) → HasSocleRow F n table chi rows i k
      go i k q r (inl s) = h.all i k s r
      go i k q r (inr s) = let e : j ≡ i = omega (arith, q, s) in
          subst (λ i. HasSocleRow F n table chi rows i k) e (h.last k r)

  -- one row more
  module _ (j l : ℕ) (j_below : j < n) (l_below : l < n) (old : List (Vec ℕ)) (row : Vec ℕ)
      (h : AreSocleRows F n table chi j l (rows_of old))
      (own : IsSocleRow F n table (chi j) j l (vector_of F row.items)) where
    abbrev new : List (List ℕ)
    new = rows_of (old ++ row ∷ [])

    old_length : length (rows_of old) ≡ length old
    old_length = length-map old (λ (r : Vec ℕ). r.items)

    new_length : length (rows_of (old ++ row ∷ [])) ≡ length old + 1
    new_length = length-map (old ++ row ∷ []) (λ (r : Vec ℕ). r.items)
        ∙ length_push old row

    kept : (i k : ℕ) → HasSocleRow F n table chi (rows_of old) i k
        → HasSocleRow F n table chi (rows_of (old ++ row ∷ [])) i k
    kept i k r = record {
      index = r.index;
      below = let a = old_length in let b = new_length in let c = r.below in omega (arith, a, b, c);
      row = row_same i k _ _ (kept_row F old row r.index
          (let a = old_length in let c = r.below in omega (arith, a, c))) r.row;
    }

    own_row : IsSocleRow F n table (chi j) j l
        (vectors_of F (rows_of (old ++ row ∷ [])) (length old))
    own_row = row_same j l _ _ (λ i. ap (λ r. vector_of F r i)
        (ap (λ t. get_or t (length old) []) (map_push (λ (r : Vec ℕ). r.items) old row)
        ∙ get_or_push (rows_of old) row.items [] (length old) old_length)) own

    some : (t : ℕ) → t < length old + 1 → (t < length old) ⊎ (length old ≤ t)
        → IsSomeRow F n table chi (rows_of (old ++ row ∷ [])) t
    some t q (inl s) = record {
      j = r.j;
      l = r.l;
      j_below = r.j_below;
      l_below = r.l_below;
      row = row_same r.j r.l _ _ (kept_row F old row t s) r.row;
    }
      where
        r : IsSomeRow F n table chi (rows_of old) t
        r = h.each t (let a = old_length in omega (arith, a, s))
    some t q (inr s) = let e : length old ≡ t = omega (arith, q, s) in record {
      j = j;
      l = l;
      j_below = j_below;
      l_below = l_below;
      row = subst (λ t. IsSocleRow F n table (chi j) j l
          (vectors_of F (rows_of (old ++ row ∷ [])) t)) e own_row;
    }

    final : (k : ℕ) → k < l + 1 → (k < l) ⊎ (l ≤ k)
        → HasSocleRow F n table chi (rows_of (old ++ row ∷ [])) j k
    final k q (inl s) = kept j k (h.last k s)
    final k q (inr s) = let e : l ≡ k = omega (arith, q, s) in
        subst (HasSocleRow F n table chi (rows_of (old ++ row ∷ [])) j) e (record {
          index = length old;
          below = let b = new_length in omega (arith, b);
          row = own_row;
        })

    pub pushed_socle_rows : AreSocleRows F n table chi j (l + 1) (rows_of (old ++ row ∷ []))
    pushed_socle_rows = record {
      each = λ t q. some t (let b = new_length in omega (arith, q, b)) (cases_lt t (length old));
      all = λ i k q r. kept i k (h.all i k q r);
      last = λ k q. final k q (cases_lt k l);
    }

  -- the solutions
  module _ (L : Lawful F) (rows : List (List ℕ)) (h : AreSocleRows F n table chi n 0 rows)
      (c : ℕ → F.carrier) where
    row_product : (j l : ℕ) (v : ℕ → F.carrier) → IsSocleRow F n table (chi j) j l v
        → product F.ring n c (shifted_entry_at F n table (chi j) j l) ≡ product F.ring n c v
    row_product j l v e = sum-ext F.ring L.laws n _ _ (λ i q. ap (F.mul (c i)) (sym (e i q)))

    pub solution_into : IsOrthogonal F n rows c → SolvesRows F n table chi c
    solution_into o j l q r = row_product j l _ s.row ∙ o s.index s.below
      where
        s : HasSocleRow F n table chi rows j l
        s = h.all j l q r

    pub solution_back : SolvesRows F n table chi c → IsOrthogonal F n rows c
    solution_back s t q = sym (row_product r.j r.l _ r.row) ∙ s r.j r.l r.j_below r.l_below
      where
        r : IsSomeRow F n table chi rows t
        r = h.each t q

  -- the space of the solutions
  pub exact_space : (L : Lawful F) (rows : List (List ℕ)) → AreSocleRows F n table chi n 0 rows
      → {E : Type 0} (r : Result SpaceParts E) → IfOk r (IsSpaceOf F n)
      → IfOk r (λ s. HasExactly F s (IsOrthogonal F n rows))
      → IfOk r (λ s. IsSocleSpace F n table chi s)
  exact_space L rows h (Ok s) hs k = λ c. (
    λ i. (
      subst (λ m. EndsAt F.ring m c) hs.len ((k c).0 i).0,
      solution_into L rows h c
          ((k c).0 i).1,
    ),
    λ t. (k c).1 (subst (λ m. EndsAt F.ring m c) (sym hs.len) t.0, solution_back L rows h c t.1),
  )
  exact_space L rows h (Err e) hs k = tt
