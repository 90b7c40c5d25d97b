-- Images of the basis elements of one system in the ring of another, and candidates. This project's
-- own.
use Rattle.std.specs.Prelude.{◌≡◌, ℕ, ◌<◌, ◌≤◌, List, [], ◌∷◌, ◌++◌, length, get_or}
use Rattle.std.specs.List.{All}
use Rattle.ff_theory.specs.Ring.{Elements, IsElement}
use Rattle.ff_theory.specs.Lawful.{Lawful}
use Rattle.ff_theory.specs.Span.{unit_at}
use Rattle.ff_theory.specs.Values.{polys_over}
use Rattle.ff_data.specs.declared.system.System.{System}
use Rattle.ff_data.specs.declared.search.Relation.{Relation}
use Rattle.ff_data.specs.declared.search.Candidate.{Candidate}
use Rattle.ff_data.specs.Systems.{weight_at, product_at, HasWeight, AreCoords, AreOverMonic}
use Rattle.ff_ring.specs.Entries.{entry_at}
use Rattle.ff_ring.specs.Ring.{HasTable, AreCoordsList, product}
use Rattle.ff_ring.specs.Affine.{sum_at_line}
use Rattle.ff_forms.specs.Forms.{AreAlike, HasRelationForm, HasCandidateForm}

module _ (F : Elements ℕ) where
  -- the coordinates of 1 in the system s
  abbrev pub IsUnit : System → List (List ℕ) → Type 0
  IsUnit s c = (l : ℕ) → l < s.e → entry_at F c l ≡ unit_at (polys_over F) 0 l

  -- the coordinates `want` in the system s are the sum of the c_l(alpha * z + beta) * image l
  abbrev pub IsImage : System → ℕ → ℕ → List (List (List ℕ)) → List (List ℕ) → List (List ℕ)
      → Type 0
  IsImage s alpha beta images c want = (l : ℕ) → l < s.e
      → entry_at F want l ≡ sum_at_line F alpha beta c images (length c) l

  -- the product of two images is the image of the product of the basis elements of s1
  abbrev pub IsImageOfProduct : System → System → ℕ → ℕ → List (List (List ℕ)) → ℕ → ℕ → Type 0
  IsImageOfProduct s1 s2 alpha beta images i j = (l : ℕ) → l < s2.e
      → product F s2 (get_or images i []) (get_or images j []) l
      ≡ sum_at_line F alpha beta (product_at s1 i j) images (length (product_at s1 i j)) l

  -- The map of the ring of s1 into that of s2 with alpha * z + beta for z and these images keeps
  -- 1, the weights and the products of the basis elements, and sends w to the root.
  pub record IsMap (s1 s2 : System) (r : Relation) (alpha beta : ℕ) (root : List (List ℕ))
      (images : List (List (List ℕ))) : Type 0 where
    pub one : IsUnit s2 (get_or images 0 [])
    pub weights : (i : ℕ) → i < s1.e → HasWeight s2 (weight_at s1 i) (get_or images i [])
    pub sends_w : IsImage s2 alpha beta images r.w root
    pub products : (i j : ℕ) → i ≤ j → j < s1.e → IsImageOfProduct s1 s2 alpha beta images i j

  -- the forms of two systems that are alike, of a relation of the first, and of alpha and beta
  pub record AreParts (s1 s2 : System) (r : Relation) (alpha beta : ℕ) : Type 0 where
    pub first : HasTable F s1
    pub second : HasTable F s2
    pub x : AreOverMonic F s1 s1.x
    pub y : AreOverMonic F s1 s1.y
    pub alike : AreAlike s1 s2
    pub relation : HasRelationForm F s1 r
    pub alpha_is : IsElement F alpha
    pub nonzero : ¬ (F.value alpha ≡ F.zero)
    pub beta_is : IsElement F beta

module _ {F : Elements ℕ} (L : Lawful F) (g : List (List ℕ)) (s1 s2 : System) (r : Relation)
    (alpha beta : ℕ) where
  -- the candidate of a root
  pub record IsCandidateOf (root : List (List ℕ)) (c : Candidate) : Type 0 where
    pub form : HasCandidateForm L g s2 c
    pub same_alpha : c.alpha ≡ alpha
    pub same_beta : c.beta ≡ beta
    pub map : IsMap F s1 s2 r alpha beta root c.images

  -- the candidates of roots in their order, some of which are left out
  pub data AreCandidatesOf : List (List (List ℕ)) → List Candidate → Type 0 where
    none : AreCandidatesOf [] []
    left_out : (roots : List (List (List ℕ))) (root : List (List ℕ)) (list : List Candidate)
        → AreCandidatesOf roots list → AreCandidatesOf (roots ++ root ∷ []) list
    taken : (roots : List (List (List ℕ))) (root : List (List ℕ)) (list : List Candidate)
        (c : Candidate) → AreCandidatesOf roots list → IsCandidateOf root c
        → AreCandidatesOf (roots ++ root ∷ []) (list ++ c ∷ [])
