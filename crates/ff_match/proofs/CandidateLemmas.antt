-- Weights, images and candidates.
use Rattle.std.proofs.Common.{◌≡◌, ℕ, ◌+◌, ◌-◌, ◌*◌, ◌<◌, ◌≤◌, List, [], ◌∷◌, ◌++◌, length, get_or}
use Rattle.std.proofs.Common.{take, sym, ◌∙◌, ap, subst, arith, All}
use Rattle.std.proofs.lemmas.List.{length_push, take_more}
use Rattle.std.proofs.lemmas.List.Elements.{All-push}
use Rattle.ff_theory.specs.Ring.{Elements, IsElement}
use Rattle.ff_theory.specs.Lawful.{Lawful}
use Rattle.ff_theory.specs.Poly.{Poly}
use Rattle.ff_data.specs.declared.system.System.{System}
use Rattle.ff_data.specs.declared.search.Relation.{Relation}
use Rattle.ff_data.specs.declared.search.Candidate.{Candidate}
use Rattle.ff_data.specs.Systems.{weight_at, term_weight, HasWeight, AreCoords}
use Rattle.ff_ring.specs.declared.weight.Term.{Term}
use Rattle.ff_ring.specs.Entries.{entry_at, AreEntries}
use Rattle.ff_ring.specs.Ring.{AreCoordsList}
use Rattle.ff_ring.specs.Weight.{IsTop}
use Rattle.ff_forms.specs.Forms.{HasCandidateForm}
use Rattle.ff_match.specs.Candidates.{IsCandidateOf, AreCandidatesOf, none, left_out, taken}

-- coordinates whose leading term has the weight m
pub weight-found : (s : System) (c : List (List ℕ)) (t : Term) (m : ℕ) → IsTop s c t → t.weight ≡ m
    → HasWeight s m c
weight-found s c t m h e = record {
  within = λ l b p. omega (arith, h.within l b p, e);
  term = t.class;
  below = h.below;
  nonzero = omega (arith, h.degree);
  attained = let d : length (get_or c t.class []) - 1 ≡ t.degree = omega (arith, h.degree) in
      ap (λ n. s.e * n + weight_at s t.class) d ∙ sym h.weight ∙ e;
}

-- a list that is one with these entries
pub entries-of : (F : Elements ℕ) (v : ℕ → Poly F.ring) (want sum : List (List ℕ)) (n : ℕ)
    → want ≡ sum → AreEntries F n v sum → (l : ℕ) → l < n → entry_at F want l ≡ v l
entries-of F v want sum n e a l h = ap (λ t. entry_at F t l) e ∙ a.value l h

-- one list of coordinates more
pub coords-push : (F : Elements ℕ) (s : System) (n : ℕ) (list new : List (List (List ℕ)))
    (c : List (List ℕ)) → new ≡ list ++ c ∷ [] → AreCoordsList F s n list → AreCoords F s c
    → AreCoordsList F s (n + 1) new
coords-push F s n list new c e h k = record {
  each = subst (All (AreCoords F s)) (sym e) (All-push (AreCoords F s) list c h.each k);
  count = ap length e ∙ length_push list c ∙ ap (λ m. m + 1) h.count;
}

module _ {F : Elements ℕ} (L : Lawful F) (g : List (List ℕ)) (s1 s2 : System) (r : Relation)
    (alpha beta : ℕ) where
  -- each candidate in the list has its form
  pub each-form : (roots : List (List (List ℕ))) (list : List Candidate)
      → AreCandidatesOf L g s1 s2 r alpha beta roots list → All (HasCandidateForm L g s2) list
  each-form _ _ none = λ k d h. absurd (omega (arith, h))
  each-form _ _ (left_out roots root list a) = each-form roots list a
  each-form _ _ (taken roots root list c a h) =
      All-push (HasCandidateForm L g s2) list c (each-form roots list a) h.form

  -- one more root, which is left out or taken
  one-more : (roots : List (List (List ℕ))) (i : ℕ) (root x : List (List ℕ)) → i < length roots
      → root ≡ x → x ≡ get_or roots i x → take i roots ++ root ∷ [] ≡ take (i + 1) roots
  one-more roots i root x h e is =
      sym (take_more roots i x h ∙ ap (λ t. take i roots ++ t ∷ []) (sym (e ∙ is)))

  pub one-left_out : (roots : List (List (List ℕ))) (i : ℕ) (root x : List (List ℕ))
      (list new : List Candidate) → i < length roots → root ≡ x → x ≡ get_or roots i x
      → new ≡ list → AreCandidatesOf L g s1 s2 r alpha beta (take i roots) list
      → AreCandidatesOf L g s1 s2 r alpha beta (take (i + 1) roots) new
  one-left_out roots i root x list new h e is same a =
      subst (AreCandidatesOf L g s1 s2 r alpha beta (take (i + 1) roots)) (sym same)
      (subst (λ t. AreCandidatesOf L g s1 s2 r alpha beta t list) (one-more roots i root x h e is)
      (left_out (take i roots) root list a))

  pub one-taken : (roots : List (List (List ℕ))) (i : ℕ) (root x : List (List ℕ))
      (list new : List Candidate) (c : Candidate) → i < length roots → root ≡ x
      → x ≡ get_or roots i x → new ≡ list ++ c ∷ []
      → AreCandidatesOf L g s1 s2 r alpha beta (take i roots) list
      → IsCandidateOf L g s1 s2 r alpha beta root c
      → AreCandidatesOf L g s1 s2 r alpha beta (take (i + 1) roots) new
  one-taken roots i root x list new c h e is same a k =
      subst (AreCandidatesOf L g s1 s2 r alpha beta (take (i + 1) roots)) (sym same)
      (subst (λ t. AreCandidatesOf L g s1 s2 r alpha beta t (list ++ c ∷ []))
      (one-more roots i root x h e is) (taken (take i roots) root list c a k))
