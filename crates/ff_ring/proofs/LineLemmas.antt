-- Polynomials at alpha * z + beta, and combinations with such polynomials.
use Rattle.std.proofs.Common.{◌≡◌, ℕ, suc, ◌+◌, ◌-◌, ◌<◌, List, [], ◌∷◌, length, map, get_or, drop}
use Rattle.std.proofs.Common.{sym, ◌∙◌, ap, ap₂, arith, refl}
use Rattle.std.proofs.lemmas.List.{drop_more}
use Rattle.ff_theory.specs.Ring.{RingOps, IsCommRing, Elements}
use Rattle.ff_theory.specs.Lawful.{Lawful}
use Rattle.ff_theory.specs.Poly.{Poly, poly}
use Rattle.ff_theory.specs.Eval.{eval, eval_list}
use Rattle.ff_theory.specs.Sum.{sum_below}
use Rattle.ff_theory.specs.Values.{poly_of, polys_over, IsPoly, ArePolys}
use Rattle.ff_theory.proofs.Poly.{polynomial_laws, trim_same}
use Rattle.ff_theory.proofs.Solver.{zero_mul}
use Rattle.ff_ring.specs.Entries.{entry_at, AreEntries}
use Rattle.ff_ring.specs.Affine.{line, value_of_list, affine_at, sum_at_line}

module _ (F : Elements ℕ) (L : Lawful F) where
  abbrev P : RingOps
  P = polys_over F

  PL : IsCommRing (polys_over F)
  PL = polynomial_laws F.ring L.laws L.tests

  -- one coefficient more
  pub value-more : (y v : Poly F.ring) (p : List ℕ) (i j c : ℕ) → 0 < i → j ≡ i - 1
      → i < length p + 1
      → c ≡ get_or p j 0
      → v ≡ eval_list (polys_over F) (λ c. poly F.ring (c ∷ [])) y (map F.value (drop i p))
      → (polys_over F).add (poly_of F (c ∷ [])) ((polys_over F).mul y v)
      ≡ eval_list (polys_over F) (λ c. poly F.ring (c ∷ [])) y (map F.value (drop j p))
  value-more y v p i j c pos e inside read h =
      let s : j + 1 ≡ i = omega (arith, pos, e) in
      let below : j < length p = omega (arith, pos, e, inside) in
      let rest : drop j p ≡ c ∷ drop i p = drop_more p j 0 below
      ∙ ap₂ (λ a t. a ∷ t) (sym read) (ap (λ n. drop n p) s) in
      ap (λ t. P.add (poly_of F (c ∷ [])) (P.mul y t)) h
      ∙ ap (λ t. eval_list P (λ c. poly F.ring (c ∷ [])) y (map F.value t)) (sym rest)

  pub value-none : (y : Poly F.ring) (p : List ℕ) (i : ℕ) → i ≡ length p
      → eval_list (polys_over F) (λ c. poly F.ring (c ∷ [])) y (map F.value (drop i p))
      ≡ (polys_over F).zero
  value-none y p i e = ap
      (λ n. eval_list P (λ c. poly F.ring (c ∷ [])) y (map F.value (drop n p))) e
      ∙ ap (λ t. eval_list P (λ c. poly F.ring (c ∷ [])) y (map F.value t)) (none p)
    where
      none : (p : List ℕ) → drop (length p) p ≡ []
      none [] = refl
      none (x ∷ p) = none p

  pub value-end : (y v : Poly F.ring) (p : List ℕ) (i : ℕ) → i ≡ 0
      → v ≡ value_of_list F y (drop i p) → v ≡ value_of_list F y p
  value-end y v p i z h = h ∙ ap (λ n. value_of_list F y (drop n p)) z

  pub value-whole : (alpha beta : ℕ) (p : List ℕ) → IsPoly F p
      → value_of_list F (line F alpha beta) p ≡ affine_at F alpha beta (poly_of F p)
  unfolding eval poly
  value-whole alpha beta p h = ap (eval_list P (λ c. poly F.ring (c ∷ [])) (line F alpha beta))
      (sym (trim_same F.ring L.laws L.tests (map F.value p) h.canonical))

  -- h is the sum with a multiple by 0
  pub plus-zero : (h a : List (List ℕ)) (p : Poly F.ring) → p ≡ (polys_over F).zero
      → ArePolys F h → AreEntries F (length h)
      (λ l. (polys_over F).add (entry_at F h l) ((polys_over F).mul p (entry_at F a l))) h
  plus-zero h a p e each = record {
    each = each;
    count = refl;
    value = λ l q. sym (PL.add_zero (entry_at F h l)) ∙ ap (P.add (entry_at F h l))
        (sym (ap (λ t. P.mul t (entry_at F a l)) e ∙ zero_mul P PL (entry_at F a l)));
  }

  pub plus-multiple : (h a y r : List (List ℕ)) (p : Poly F.ring) (n m : ℕ) → n ≡ length h
      → m ≡ length h
      → AreEntries F n (λ l. (polys_over F).mul p (entry_at F a l)) y
      → AreEntries F m (λ l. (polys_over F).add (entry_at F h l) (entry_at F y l)) r
      → AreEntries F (length h)
      (λ l. (polys_over F).add (entry_at F h l) ((polys_over F).mul p (entry_at F a l))) r
  plus-multiple h a y r p n m e f u v = record {
    each = v.each;
    count = v.count ∙ f;
    value = λ l q. v.value l (omega (arith, q, f))
        ∙ ap (P.add (entry_at F h l)) (u.value l (omega (arith, q, e)));
  }

  -- one entry of the list more
  pub sum-line-more : (alpha beta : ℕ) (c : List (List ℕ)) (list : List (List (List ℕ)))
      (old new : List (List ℕ)) (f x : List ℕ) (a : List (List ℕ)) (l m e n : ℕ)
      → m ≡ suc l → n ≡ e
      → poly_of F f ≡ affine_at F alpha beta (poly_of F x) → poly_of F x ≡ entry_at F c l
      → a ≡ get_or list l []
      → AreEntries F e (sum_at_line F alpha beta c list l) old
      → AreEntries F n
      (λ h. (polys_over F).add (entry_at F old h)
      ((polys_over F).mul (poly_of F f) (entry_at F a h)))
      new → AreEntries F e (sum_at_line F alpha beta c list m) new
  sum-line-more alpha beta c list old new f x a l m e n em en ef ex ea u v = record {
    each = v.each;
    count = v.count ∙ en;
    value = λ h q. v.value h (omega (arith, q, en)) ∙ ap₂ P.add (u.value h q)
        (ap₂ P.mul (ef ∙ ap (affine_at F alpha beta) ex) (ap (λ t. entry_at F t h) ea))
        ∙ ap (λ n. sum_below P n (λ l. P.mul (affine_at F alpha beta (entry_at F c l))
        (entry_at F (get_or list l []) h))) (sym em);
  }
