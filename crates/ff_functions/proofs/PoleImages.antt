-- An order is dependent exactly where it is a pole number: the images of the elements of a frame
-- and of the powers, and the elements. For an equation f over a field whose laws are L.
use Rattle.std.proofs.Common.{◌≡◌, ℕ, suc, pred, ◌+◌ as plus_ℕ, ◌-◌, ◌<◌, ◌≤◌, ◌⊎◌, inl, inr}
use Rattle.std.proofs.Common.{List, length, refl, sym, ◌∙◌, ap, ap₂, subst, arith}
use Rattle.std.proofs.lemmas.Bool.{cases_lt}
use Rattle.ff_theory.specs.Ring.{RingOps, IsCommRing, Elements, power}
use Rattle.ff_theory.specs.Lawful.{Lawful}
use Rattle.ff_theory.specs.Poly.{polynomials}
use Rattle.ff_theory.specs.Monomial.{variable}
use Rattle.ff_theory.specs.Span.{combination}
use Rattle.ff_theory.specs.Values.{IsPlane}
use Rattle.ff_theory.specs.Vector.{vectors_of}
use Rattle.ff_theory.proofs.Solver.{◌⊕◌, ◌⊗◌, neg, nil, unit, ring2}
use Rattle.ff_theory.proofs.Sums.{sum-ext, sum-mul}
use Rattle.ff_theory.proofs.Span.{span-more, span-zero}
use Rattle.ff_local.proofs.Joined.{joined, joined-below, joined-above, sum-split}
use Rattle.ff_lin.specs.Space.{SpaceParts}
use Rattle.ff_elem.specs.Elem.{algebra_in}
use Rattle.ff_data.specs.declared.order.Chart.TheVariants.{Infinite}
use Rattle.ff_data.specs.Lattices.{IsLattice, InLatticeOf}
use Rattle.ff_data.specs.Combinations.{combination_in, constant_in}
use Rattle.ff_data.proofs.ChartLaws.{algebra_laws}
use Rattle.ff_common.specs.Common.{IsTimesSpace}
use Rattle.ff_functions.specs.Images.{IsImageOf}
use Rattle.ff_functions.specs.Rows.{IsImageBy, IsSpanned, put_last}
use Rattle.ff_functions.proofs.RowLemmas.{put-at, combination-put}
use Rattle.ff_functions.proofs.HeldImages.{relation_spans}
use Rattle.ff_functions.proofs.ElementImages.{relation_in_order, order_relation}

-- a spanned image gives a relation whose last coefficient is one
pub spanned_relation : (F : Elements ℕ) (L : Lawful F) (t : SpaceParts) (n : ℕ)
    (g : ℕ → ℕ → F.carrier) → IsSpanned F t n g (g n)
    → (d : ℕ → F.carrier) × (IsImageBy F t (suc n) g d (λ j. F.zero) × (d n ≡ F.one))
spanned_relation F L t n g s = (
  put_last n (λ i. F.mul (F.neg F.one) (s.0 i)) F.one,
  (
    record {
      rest = λ j. F.add (F.mul (F.neg F.one) (h.rest j)) F.zero;
      in_target = span-more F.ring L.laws (length t.basis) (vectors_of F t.basis) (F.neg F.one)
          h.rest (λ j. F.zero) h.in_target
          (span-zero F.ring L.laws (length t.basis) (vectors_of F t.basis));
      sum = λ j. ring2 F.ring L.laws (λ r s. nil)
          (λ r s. (neg unit ⊗ r ⊕ nil) ⊕ (neg unit ⊗ s ⊕ unit ⊗ (r ⊕ s))) refl (h.rest j)
          (combination F.ring n s.0 g j)
          ∙ ap (F.add (F.add (F.mul (F.neg F.one) (h.rest j)) F.zero))
          (ap₂ F.add (negative j) (ap (F.mul F.one) (sym (h.sum j)))
          ∙ sym (combination-put F.ring L.laws n (λ i. F.mul (F.neg F.one) (s.0 i)) F.one g j));
    },
    put-at n (λ i. F.mul (F.neg F.one) (s.0 i)) F.one,
  ),
)
  where
    h : IsImageBy F t n g s.0 (g n)
    h = s.1

    negative : (j : ℕ) → F.mul (F.neg F.one) (combination F.ring n s.0 g j)
        ≡ combination F.ring n (λ i. F.mul (F.neg F.one) (s.0 i)) g j
    negative j = sym (sum-mul F.ring L.laws n (F.neg F.one) (λ i. F.mul (s.0 i) (g i j)))
        ∙ sum-ext F.ring L.laws n _ _
        (λ i q. sym (L.laws.mul_assoc (F.neg F.one) (s.0 i) (g i j)))

module _ (F : Elements ℕ) (L : Lawful F) (f : List (List ℕ)) (hf : IsPlane F f)
    (two : 1 < length f) where
  abbrev A : RingOps
  A = algebra_in L f

  AL : IsCommRing (algebra_in L f)
  AL = algebra_laws F L f hf two

  -- combinations of the first c elements of a family and of those after them
  pub family_sum : (c n : ℕ) (d : ℕ → F.carrier) (g v : ℕ → (algebra_in L f).carrier)
      → combination_in L f (plus_ℕ c n) d (joined c g v)
      ≡ (algebra_in L f).add (combination_in L f c d g)
      (combination_in L f n (λ i. d (plus_ℕ c i)) v)
  family_sum c n d g v = sum-split A AL c n (λ i. A.mul (constant_in L f (d i)) (joined c g v i))
      ∙ ap₂ A.add (sum-ext A AL c _ _ (λ i q. ap (A.mul (constant_in L f (d i)))
      (joined-below c g v i q)))
      (sum-ext A AL n _ _ (λ i q. ap (A.mul (constant_in L f (d (plus_ℕ c i))))
      (joined-above c g v i)))

  pub joined_sum : (c n : ℕ) (b e : ℕ → F.carrier) (g v : ℕ → (algebra_in L f).carrier)
      → combination_in L f (plus_ℕ c n) (joined c b e) (joined c g v)
      ≡ (algebra_in L f).add (combination_in L f c b g) (combination_in L f n e v)
  joined_sum c n b e g v = family_sum c n (joined c b e) g v
      ∙ ap₂ A.add (sum-ext A AL c _ _ (λ i q. ap (λ x. A.mul (constant_in L f x) (g i))
      (joined-below c b e i q)))
      (sum-ext A AL n _ _ (λ i q. ap (λ x. A.mul (constant_in L f x) (v i))
      (joined-above c b e i)))

  module _ (t : List ℕ) (o : SpaceParts) (infinite : IsLattice L f Infinite t o) (h : ℕ)
      (positive : 0 < h) (room : pred (length t) ≤ h) (T : SpaceParts)
      (times : IsTimesSpace L f (power (polynomials F.ring) (variable F.ring)
      (h - pred (length t))) (pred (length t)) h o T)
      (c j : ℕ) (g v : ℕ → (algebra_in L f).carrier) (images : ℕ → ℕ → F.carrier)
      (first : (i : ℕ) → i < c → IsImageOf L f h (g i) (images i))
      (powers : (i : ℕ) → i < suc j → IsImageOf L f h (v i) (images (plus_ℕ c i))) where
    family : (i : ℕ) → i < plus_ℕ c (suc j) → IsImageOf L f h (joined c g v i) (images i)
    family i q = go (cases_lt i c)
      where
        go : (i < c) ⊎ (c ≤ i) → IsImageOf L f h (joined c g v i) (images i)
        go (inl k) = subst (λ w. IsImageOf L f h w (images i)) (sym (joined-below c g v i k))
            (first i k)
        go (inr k) = let e : plus_ℕ c (i - c) ≡ i = omega (arith, k) in
            subst (λ i. IsImageOf L f h (joined c g v i) (images i)) e
            (subst (λ w. IsImageOf L f h w (images (plus_ℕ c (i - c))))
            (sym (joined-above c g v (i - c))) (powers (i - c) (omega (arith, q, k))))

    abbrev H : ℕ
    H = pred h

    h_is : suc (pred h) ≡ h
    h_is = omega (arith, positive)

    -- the combination is in the infinite order exactly where its images are related
    pub relation_order : (d : ℕ → F.carrier)
        → IsImageBy F T (plus_ℕ c (suc j)) images d (λ i. F.zero)
        → InLatticeOf L f Infinite t o ((algebra_in L f).add (combination_in L f c d g)
        (combination_in L f (suc j) (λ i. d (plus_ℕ c i)) v))
    relation_order d k = subst (InLatticeOf L f Infinite t o) (family_sum c (suc j) d g v)
        (relation_in_order F L f hf two t o infinite H (subst (λ h. pred (length t) ≤ h)
        (sym h_is) room) T (subst (λ h. IsTimesSpace L f (power (polynomials F.ring)
        (variable F.ring) (h - pred (length t))) (pred (length t)) h o T) (sym h_is) times)
        (plus_ℕ c (suc j)) (joined c g v) images
        (λ i q. subst (λ h. IsImageOf L f h (joined c g v i) (images i)) (sym h_is) (family i q))
        d k)

    pub order_images : (b e : ℕ → F.carrier) → InLatticeOf L f Infinite t o
        ((algebra_in L f).add (combination_in L f c b g) (combination_in L f (suc j) e v))
        → IsImageBy F T (plus_ℕ c (suc j)) images (joined c b e) (λ i. F.zero)
    order_images b e k = order_relation F L f hf two t o infinite H
        (subst (λ h. pred (length t) ≤ h)
        (sym h_is) room) T (subst (λ h. IsTimesSpace L f (power (polynomials F.ring)
        (variable F.ring) (h - pred (length t))) (pred (length t)) h o T) (sym h_is) times)
        (plus_ℕ c (suc j)) (joined c g v) images
        (λ i q. subst (λ h. IsImageOf L f h (joined c g v i) (images i)) (sym h_is) (family i q))
        (joined c b e)
        (subst (InLatticeOf L f Infinite t o) (sym (joined_sum c (suc j) b e g v)) k)

    -- and a combination with the last coefficient one makes the last image dependent
    pub order_dependent : (b e : ℕ → F.carrier) → e j ≡ F.one → InLatticeOf L f Infinite t o
        ((algebra_in L f).add (combination_in L f c b g) (combination_in L f (suc j) e v))
        → IsSpanned F T (plus_ℕ c j) images (images (plus_ℕ c j))
    order_dependent b e one k = let n : plus_ℕ c (suc j) ≡ suc (plus_ℕ c j) = omega arith in
        relation_spans F L T (plus_ℕ c j) images (joined c b e)
        (subst (λ n. IsImageBy F T n images (joined c b e) (λ i. F.zero)) n (order_images b e k))
        (joined-above c b e j ∙ one)
