-- Lists of polynomials that grow by one entry.
use Rattle.std.proofs.Common.{◌≡◌, ℕ, zero, suc, ◌+◌, ◌<◌, List, [], ◌∷◌, ◌++◌, length, get_or, sym}
use Rattle.std.proofs.Common.{◌∙◌, ap}
use Rattle.std.proofs.Common.{subst, arith, refl, nat_eq, true, false}
use Rattle.std.proofs.lemmas.Bool.{eqb-true, eq-eqb}
use Rattle.std.proofs.lemmas.List.{nil_from_length}
use Rattle.std.proofs.lemmas.List.Elements.{All-push}
use Rattle.ff_theory.specs.Ring.{Elements}
use Rattle.ff_theory.specs.Poly.{Poly}
use Rattle.ff_theory.specs.Values.{poly_of, polys_over, IsPoly, ArePolys}
use Rattle.ff_theory.proofs.Coeffs.{coeff-push, coeff-map}
use Rattle.ff_ring.specs.Entries.{entry_at, AreEntries}

pub last-length : (c : List (List ℕ)) (p : List ℕ) (e : List (List ℕ)) (n m : ℕ) → e ≡ c ++ p ∷ []
    → m ≡ n + 1 → length c ≡ n → length e ≡ m
last-length c p e n m h z k = ap length h ∙ long c ∙ ap (λ t. t + 1) k ∙ sym z
  where
    long : (c : List (List ℕ)) → length (c ++ p ∷ []) ≡ length c + 1
    long [] = refl
    long (x ∷ c) = omega (arith, long c)

module _ (F : Elements ℕ) where
  -- the entries of a list with one more at its end
  pub last-entry : (c : List (List ℕ)) (p : List ℕ) (e : List (List ℕ)) (n : ℕ) → e ≡ c ++ p ∷ []
      → length c ≡ n → entry_at F e n ≡ poly_of F p
  last-entry c p e n h k = ap (λ t. entry_at F t n) h ∙ go c n k
    where
      go : (c : List (List ℕ)) (n : ℕ) → length c ≡ n → entry_at F (c ++ p ∷ []) n ≡ poly_of F p
      go [] zero k = refl
      go [] (suc n) k = absurd (omega (arith, k))
      go (x ∷ c) zero k = absurd (omega (arith, k))
      go (x ∷ c) (suc n) k = go c n (omega (arith, k))

  pub kept-entry : (c : List (List ℕ)) (p : List ℕ) (e : List (List ℕ)) (n l : ℕ)
      → e ≡ c ++ p ∷ [] → length c ≡ n → l < n → entry_at F e l ≡ entry_at F c l
  kept-entry c p e n l h k b = ap (λ t. entry_at F t l) h ∙ go c l (omega (arith, k, b))
    where
      go : (c : List (List ℕ)) (l : ℕ) → l < length c
          → entry_at F (c ++ p ∷ []) l ≡ entry_at F c l
      go [] l k = absurd (omega (arith, k))
      go (x ∷ c) zero k = refl
      go (x ∷ c) (suc l) k = go c l (omega (arith, k))

  -- an entry that the code read
  pub entry-read : (c : List (List ℕ)) (l : ℕ) (d : List ℕ) → l < length c
      → poly_of F (get_or c l d) ≡ entry_at F c l
  entry-read c l d h = sym (coeff-map (polys_over F) (λ p. poly_of F p) c l d h)

  pub no-entries : (v : ℕ → Poly F.ring) (n : ℕ) → n ≡ 0 → AreEntries F n v []
  no-entries v n z = record {
    each = λ l d h. absurd (omega arith);
    count = sym z;
    value = λ l h. absurd (omega (arith, h, z));
  }

  -- one entry more
  pub entries-push : (v : ℕ → Poly F.ring) (c : List (List ℕ)) (p : List ℕ) (e : List (List ℕ))
      (n m : ℕ) → e ≡ c ++ p ∷ [] → m ≡ n + 1 → AreEntries F n v c → IsPoly F p
      → poly_of F p ≡ v n → AreEntries F m v e
  entries-push v c p e n m h z a q w = record {
    each = subst (ArePolys F) (sym h) (All-push (IsPoly F) c p a.each q);
    count = last-length c p e n m h z a.count;
    value = λ l k. ap (λ t. entry_at F t l) h ∙ coeff-push (polys_over F) (λ p. poly_of F p) c p v n
        a.count a.value w l (omega (arith, k, z));
  }

  -- the whole list
  pub entries-whole : (v : ℕ → Poly F.ring) (c : List (List ℕ)) (n m : ℕ) → n ≡ m
      → AreEntries F n v c → AreEntries F m v c
  entries-whole v c n m e = subst (λ t. AreEntries F t v c) e

  pub entries-same : (v w : ℕ → Poly F.ring) (c : List (List ℕ)) (n : ℕ)
      → ((l : ℕ) → l < n → v l ≡ w l) → AreEntries F n v c → AreEntries F n w c
  entries-same v w c n e a = record {
    each = a.each;
    count = a.count;
    value = λ l h. a.value l h ∙ e l h;
  }

  -- the polynomial 0
  pub no-poly : (p : List ℕ) → p ≡ [] → IsPoly F p
  no-poly p e = subst (IsPoly F) (sym e) none
    where
      none : IsPoly F []
      none = record { each = λ k d h. absurd (omega (arith, h)); canonical = refl }

  pub no-poly-is : (p : List ℕ) → p ≡ [] → poly_of F p ≡ (polys_over F).zero
  no-poly-is p e = ap (poly_of F) e

-- a list of which a test found that it has no entries
pub empty-list : (p : List ℕ) → nat_eq (length p) 0 ≡ true → p ≡ []
empty-list p e = nil_from_length p (eqb-true (length p) 0 e)

pub not-empty : (p : List ℕ) → nat_eq (length p) 0 ≡ false → ¬ (length p ≡ 0)
not-empty p e z = let t : true ≡ false = sym (eq-eqb (length p) 0 z) ∙ e in cc
