-- Quotients of polynomials without a remainder.
use Rattle.std.proofs.Common.{◌≡◌, ℕ, ◌+◌, ◌<◌, ◌≤◌, ◌⊎◌, inl, inr, List, [], ◌∷◌, ◌++◌, length}
use Rattle.std.proofs.Common.{refl, sym, ◌∙◌, ap, subst, arith}
use Rattle.std.proofs.lemmas.Bool.{cases_lt}
use Rattle.std.proofs.lemmas.List.Elements.{All-push}
use Rattle.ff_theory.specs.Ring.{Elements}
use Rattle.ff_theory.specs.Lawful.{Domain, Lawful, lawful_field}
use Rattle.ff_theory.specs.Poly.{Poly, polynomials}
use Rattle.ff_theory.specs.Division.{IsDivision}
use Rattle.ff_theory.specs.Divides.{Divides}
use Rattle.ff_theory.specs.Values.{poly_of, IsPoly, ArePolys}
use Rattle.ff_theory.proofs.Solver.{◌⊗◌, ◌⊕◌, nil, ring2}
use Rattle.ff_theory.proofs.Division.{one_division}
use Rattle.ff_theory.proofs.PolyMap.{polynomial_domain, nonzero_size, zero_size, not_same}
use Rattle.ff_elem.proofs.PolyLemmas.{poly-nonzero}
use Rattle.ff_ring.specs.Entries.{entry_at}
use Rattle.ff_ring.specs.Affine.{AreQuotients}
use Rattle.ff_ring.proofs.EntryLemmas.{last-length, last-entry, kept-entry}

module _ (K : Elements ℕ) (L : Lawful K) where
  abbrev D : Domain
  D = polynomial_domain (lawful_field L)

  zero-length : (p : List ℕ) → IsPoly K p → poly_of K p ≡ (polynomials K.ring).zero
      → length p ≡ 0
  zero-length [] h e = refl
  zero-length (c ∷ p) h e = absurd
      (not_same D.ring D.tests (poly_of K (c ∷ p)) D.zero (poly-nonzero K L (c ∷ p) h (omega arith))
      e)

  -- the remainder by a divisor is 0
  pub no-remainder : (m rest : List ℕ) (a q : Poly K.ring) → IsPoly K m → 0 < length m
      → IsPoly K rest → IsDivision K.ring a (poly_of K m) q (poly_of K rest)
      → Divides (polynomials K.ring) (poly_of K m) a → length rest ≡ 0
  no-remainder m rest a q hm pos hr h d =
      let some = nonzero_size (lawful_field L) (poly_of K m) (poly-nonzero K L m hm pos) in
      zero-length rest hr
      (one_division (lawful_field L) (poly_of K m) some.0 some.1 a q
      (poly_of K rest) d.0 D.zero h (record {
        sum = d.1 ∙ ring2 D.ring D.laws (λ s m. s ⊗ m) (λ s m. s ⊗ m ⊕ nil)
            refl d.0 (poly_of K m);
        smaller = omega (arith, zero_size (lawful_field L), some.1);
      })).1

module _ (F : Elements ℕ) where
  pub quotients-push : (a : List (List ℕ)) (q : List ℕ) (c : List (List ℕ)) (p : List ℕ)
      (e : List (List ℕ)) (x : Poly F.ring) (n m : ℕ) → e ≡ c ++ p ∷ [] → m ≡ n + 1
      → AreQuotients F a q n c → IsPoly F p → x ≡ entry_at F a n
      → x ≡ (polynomials F.ring).mul (poly_of F p) (poly_of F q) → AreQuotients F a q m e
  quotients-push a q c p e x n m h z o w y v = record {
    each = subst (ArePolys F) (sym h) (All-push (IsPoly F) c p o.each w);
    count = last-length c p e n m h z o.count;
    value = λ l k. go l (cases_lt l n) k;
  }
    where
      go : (l : ℕ) → (l < n) ⊎ (n ≤ l) → l < m
          → entry_at F a l ≡ (polynomials F.ring).mul (entry_at F e l) (poly_of F q)
      go l (inl b) k = o.value l b
          ∙ ap (λ t. (polynomials F.ring).mul t (poly_of F q))
          (sym (kept-entry F c p e n l h o.count b))
      go l (inr b) k = let s : n ≡ l = omega (arith, b, k, z) in
          ap (entry_at F a) (sym s) ∙ sym y ∙ v
          ∙ ap (λ t. (polynomials F.ring).mul t (poly_of F q))
          (sym (last-entry F c p e n h o.count) ∙ ap (entry_at F e) s)
