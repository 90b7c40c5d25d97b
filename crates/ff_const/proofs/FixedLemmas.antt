-- The combinations w of elements with w^q = w, for an equation f over a field whose laws are L.
use Rattle.std.proofs.Common.{◌≡◌, ℕ, zero, suc, ◌+◌, ◌<◌, ◌≤◌, ◌⊎◌, inl, inr, ◌↔◌, cond, nat_lt}
use Rattle.std.proofs.Common.{List, [], ◌∷◌, length, get_or, refl, sym, ◌∙◌, ap, ap₂, subst}
use Rattle.std.proofs.Common.{arith}
use Rattle.std.specs.Global.{Vec}
use Rattle.std.proofs.lemmas.Bool.{cases_lt, lt-ltb, le-ltb}
use Rattle.ff_theory.specs.Ring.{RingOps, IsCommRing, Elements, power}
use Rattle.ff_theory.specs.Lawful.{Lawful, lawful_field}
use Rattle.ff_theory.specs.Map.{IsMap}
use Rattle.ff_theory.specs.Values.{plane_of}
use Rattle.ff_theory.specs.Vector.{vectors_of}
use Rattle.ff_theory.specs.Span.{combination, EndsAt}
use Rattle.ff_theory.proofs.Solver.{◌⊕◌, ◌⊗◌, neg, nil, ring1, ring2}
use Rattle.ff_theory.proofs.Solver.{ring6}
use Rattle.ff_theory.proofs.Sums.{sum-ext}
use Rattle.ff_theory.proofs.Coeffs.{coeff-map}
use Rattle.ff_theory.proofs.Frobenius.{power-zero}
use Rattle.ff_theory.proofs.Span.{span-one}
use Rattle.ff_theory.proofs.Element.{algebra_is_ring}
use Rattle.ff_theory.proofs.Constants.{constant_map}
use Rattle.ff_lin.specs.Space.{rows_of, SpaceParts, InSpace, HasExactly, IsRelation}
use Rattle.ff_elem.specs.declared.elem.Elem.{Elem}
use Rattle.ff_elem.specs.Elem.{algebra_in, elem_of}
use Rattle.ff_data.specs.Combinations.{constant_in, combination_in, elems_of, InSpanOf}
use Rattle.ff_data.specs.Combinations.{IsRelationOf}
use Rattle.ff_const.specs.Fixed.{IsFixed, IsConstant, AreDifferences, IsSplit, IsSplitBy}
use Rattle.ff_const.specs.Fixed.{InSpanOfAll}
use Rattle.ff_const.specs.declared.factors.SplitFault.{SplitFault}
use Rattle.ff_const.specs.declared.factors.SplitFault.TheVariants.{Reducible, NoMemory}
use Rattle.ff_const.proofs.FinitePowers.{power-add, power-multiple}
use Rattle.ff_const.proofs.SplitLemmas.{some-size}

-- an entry of the lists that a list of vectors holds
pub row-is : (vs : List (Vec ℕ)) (i : ℕ) (v : Vec ℕ) → i < length vs → v ≡ get_or vs i v
    → get_or (rows_of vs) i [] ≡ v.items
row-is [] i v h e = absurd (omega (arith, h))
row-is (x ∷ vs) zero v h e = ap (λ (u : Vec ℕ). u.items) (sym e)
row-is (x ∷ vs) (suc i) v h e = row-is vs i v (omega (arith, h)) e

-- what holds below i and at i
pub more-below : (P : ℕ → Type 0) (i : ℕ) → ((j : ℕ) → j < i → P j) → P i → (j : ℕ) → j < i + 1
    → P j
more-below P i h k j l = go (cases_lt j i)
  where
    go : (j < i) ⊎ (i ≤ j) → P j
    go (inl s) = h j s
    go (inr s) = let same : i ≡ j = omega (arith, s, l) in subst P same k

module _ (K : Elements ℕ) (L : Lawful K) (f : List (List ℕ)) where
  abbrev A : RingOps
  A = algebra_in L f

  AL : IsCommRing (algebra_in L f)
  AL = algebra_is_ring (lawful_field L) (plane_of K f)

  abbrev ι : K.carrier → (algebra_in L f).carrier
  ι = constant_in L f

  M : IsMap K.ring (algebra_in L f) (constant_in L f)
  M = constant_map (lawful_field L) (plane_of K f)

  -- the power of a combination
  power-combination : (n : ℕ) (c : ℕ → K.carrier) (w : ℕ → (algebra_in L f).carrier)
      → power (algebra_in L f) (combination_in L f n c w) K.size
      ≡ combination_in L f n c (λ i. power (algebra_in L f) (w i) K.size)
  power-combination zero c w = power-zero A AL K.size (some-size K L)
  power-combination (suc n) c w = power-add K.field L.laws L.tests L.finite A AL ι M
      (combination_in L f n c w) (A.mul (ι (c n)) (w n))
      ∙ ap₂ A.add (power-combination n c w)
      (power-multiple K.field L.laws L.tests L.finite A AL ι M (c n) (w n))

  -- the combination of the differences
  combination-less : (n : ℕ) (c : ℕ → K.carrier) (v w d : ℕ → (algebra_in L f).carrier)
      → ((i : ℕ) → i < n → d i ≡ (algebra_in L f).add (v i) ((algebra_in L f).neg (w i)))
      → combination_in L f n c d ≡ (algebra_in L f).add (combination_in L f n c v)
      ((algebra_in L f).neg (combination_in L f n c w))
  combination-less zero c v w d h = ring1 A AL (λ z. nil) (λ z. nil ⊕ neg nil) refl A.zero
  combination-less (suc n) c v w d h = ap₂ (λ s t. A.add s (A.mul (ι (c n)) t))
      (combination-less n c v w d (λ i l. h i (omega (arith, l)))) (h n (omega arith))
      ∙ ring6 A AL (λ s t k v w z. (s ⊕ neg t) ⊕ k ⊗ (v ⊕ neg w))
      (λ s t k v w z. (s ⊕ k ⊗ v) ⊕ neg (t ⊕ k ⊗ w)) refl (combination_in L f n c v)
      (combination_in L f n c w) (ι (c n)) (v n) (w n) A.zero

  module _ (ws vs : List Elem) (h : AreDifferences L f ws vs) (c : ℕ → K.carrier) where
    none : Elem
    none = record { den = []; num = [] }

    abbrev W : (algebra_in L f).carrier
    W = combination_in L f (length ws) c (elems_of L f ws)

    whole : combination_in L f (length vs) c (elems_of L f vs)
        ≡ (algebra_in L f).add (power (algebra_in L f) W K.size) ((algebra_in L f).neg W)
    whole = ap (λ n. combination_in L f n c (elems_of L f vs)) h.count
        ∙ combination-less (length ws) c (λ i. power A (elems_of L f ws i) K.size) (elems_of L f ws)
        (elems_of L f vs) (λ i l. coeff-map A (elem_of L f) vs i none (omega (arith, l, h.count))
        ∙ h.each none i l
        ∙ ap (λ t. A.add (power A t K.size) (A.neg t))
        (sym (coeff-map A (elem_of L f) ws i none l)))
        ∙ ap (λ t. A.add t (A.neg W)) (sym (power-combination (length ws) c (elems_of L f ws)))

    -- a relation of the differences makes a combination with w^q = w, and the other way round
    pub fixed-if-relation : IsRelationOf L f vs c → IsFixed L f W
    fixed-if-relation r = ring2 A AL (λ p w. p) (λ p w. (p ⊕ neg w) ⊕ w) refl (power A W K.size) W
        ∙ ap (λ t. A.add t W) (sym whole ∙ r) ∙ ring1 A AL (λ w. nil ⊕ w) (λ w. w) refl W

    pub relation-if-fixed : IsFixed L f W → IsRelationOf L f vs c
    relation-if-fixed e = whole ∙ ap (λ t. A.add t (A.neg W)) e ∙ AL.add_neg W

  -- the space of the relations of the differences
  pub fixed-space : (ws vs : List Elem) → AreDifferences L f ws vs → (rows : List (List ℕ))
      → ((c : ℕ → K.carrier) → IsRelation K rows c ↔ IsRelationOf L f vs c) → (s : SpaceParts)
      → HasExactly K s (IsRelation K rows)
      → HasExactly K s (λ c. IsFixed L f (combination_in L f (length ws) c (elems_of L f ws)))
  fixed-space ws vs h rows same s exact v = (
    λ i. let r = (exact v).0 i in (r.0, fixed-if-relation ws vs h v ((same v).0 r.1)),
    λ r.
        (exact v).1 (r.0, (same v).1 (relation-if-fixed ws vs h v r.1)),
  )

  -- combinations of combinations
  combination-linear : (n : ℕ) (u v : ℕ → K.carrier) (e : K.carrier)
      (w : ℕ → (algebra_in L f).carrier)
      → combination_in L f n (λ j. K.add (u j) (K.mul e (v j))) w
      ≡ (algebra_in L f).add (combination_in L f n u w)
      ((algebra_in L f).mul (constant_in L f e) (combination_in L f n v w))
  combination-linear zero u v e w = ring1 A AL (λ e. nil) (λ e. nil ⊕ e ⊗ nil) refl (ι e)
  combination-linear (suc n) u v e w = ap₂ (λ s t. A.add s (A.mul t (w n)))
      (combination-linear n u v e w) (M.on_add (u n) (K.mul e (v n))
      ∙ ap (A.add (ι (u n))) (M.on_mul e (v n)))
      ∙ ring6 A AL (λ x y e a b w. (x ⊕ e ⊗ y) ⊕ (a ⊕ e ⊗ b) ⊗ w)
      (λ x y e a b w. (x ⊕ a ⊗ w) ⊕ e ⊗ (y ⊕ b ⊗ w)) refl (combination_in L f n u w)
      (combination_in L f n v w) (ι e) (ι (u n)) (ι (v n)) (w n)

  combination-none : (n : ℕ) (w : ℕ → (algebra_in L f).carrier)
      → combination_in L f n (λ j. K.zero) w ≡ (algebra_in L f).zero
  combination-none zero w = refl
  combination-none (suc n) w = ap₂ (λ s t. A.add s (A.mul t (w n))) (combination-none n w) M.on_zero
      ∙ ring1 A AL (λ w. nil ⊕ nil ⊗ w) (λ w. nil) refl (w n)

  combination-twice : (n r : ℕ) (d : ℕ → K.carrier) (b : ℕ → ℕ → K.carrier)
      (w : ℕ → (algebra_in L f).carrier) → combination_in L f n (combination K.ring r d b) w
      ≡ combination_in L f r d (λ l. combination_in L f n (b l) w)
  combination-twice n zero d b w = combination-none n w
  combination-twice n (suc r) d b w = combination-linear n (combination K.ring r d b) (b r) (d r) w
      ∙ ap (λ t. A.add t (A.mul (ι (d r)) (combination_in L f n (b r) w)))
      (combination-twice n r d b w)

  -- combinations of constants
  constant-combination : (r : ℕ) (d : ℕ → K.carrier) (x : ℕ → (algebra_in L f).carrier)
      → ((l : ℕ) → l < r → IsConstant L f (x l)) → IsConstant L f (combination_in L f r d x)
  constant-combination zero d x h = (K.zero, sym M.on_zero)
  constant-combination (suc r) d x h =
      let s = constant-combination r d x (λ l q. h l (omega (arith, q))) in
      let t = h r (omega arith) in (
        K.add s.0 (K.mul (d r) t.0),
        ap₂ A.add s.1 (ap (A.mul (ι (d r))) t.1 ∙ sym (M.on_mul (d r) t.0))
            ∙ sym (M.on_add s.0 (K.mul (d r) t.0)),
      )

  module _ (ws : List Elem) (s : SpaceParts) (len : s.len ≡ length ws)
      (exact : HasExactly K s (λ c. IsFixed L f (combination_in L f (length ws) c
      (elems_of L f ws)))) where
    abbrev at-basis : ℕ → (algebra_in L f).carrier
    at-basis j = combination_in L f (length ws) (vectors_of K s.basis j) (elems_of L f ws)

    -- a vector of the basis
    pub basis-fixed : (i : ℕ) → i < length s.basis → IsFixed L f (combination_in L f (length ws)
        (vectors_of K s.basis i) (elems_of L f ws))
    basis-fixed i l = ((exact (vectors_of K s.basis i)).0
        (span-one K.ring L.laws (length s.basis) (vectors_of K s.basis) i l)).1

    -- all of them, if the vectors of the basis make constants
    pub all-constants : ((j : ℕ) → j < length s.basis → IsConstant L f (combination_in L f
        (length ws) (vectors_of K s.basis j) (elems_of L f ws)))
        → (w : (algebra_in L f).carrier) → InSpanOf L f (length ws) (elems_of L f ws) w
        → IsFixed L f w → IsConstant L f w
    all-constants each w h fixed = subst (IsConstant L f) (sym same) (subst (IsConstant L f)
        (sym (combination-ext (length ws) cut (combination K.ring (length s.basis) i.coefficients
        (vectors_of K s.basis)) (elems_of L f ws) (λ j l. i.sum j)
        ∙ combination-twice (length ws) (length s.basis) i.coefficients (vectors_of K s.basis)
        (elems_of L f ws))) (constant-combination (length s.basis) i.coefficients at-basis each))
      where
        cut : ℕ → K.carrier
        cut j = cond (nat_lt j (length ws)) (h.coefficients j) K.zero

        combination-ext : (n : ℕ) (c d : ℕ → K.carrier) (x : ℕ → (algebra_in L f).carrier)
            → ((j : ℕ) → j < n → c j ≡ d j) → combination_in L f n c x ≡ combination_in L f n d x
        combination-ext n c d x e = sum-ext A AL n _ _ (λ j l. ap (λ t. A.mul (ι t) (x j)) (e j l))

        same : w ≡ combination_in L f (length ws) cut (elems_of L f ws)
        same = h.sum ∙ combination-ext (length ws) h.coefficients cut (elems_of L f ws)
            (λ j l. sym (ap (λ b. cond b (h.coefficients j) K.zero) (lt-ltb j (length ws) l)))

        ends : EndsAt K.ring s.len cut
        ends j l = ap (λ b. cond b (h.coefficients j) K.zero)
            (le-ltb j (length ws) (omega (arith, l, len)))

        i : InSpace K s cut
        i = (exact cut).1 (ends, subst (IsFixed L f) same fixed)

    -- the factors that a vector of the basis gives
    pub split-at : (i : ℕ) → i < length s.basis → (fault : SplitFault)
        → IsSplitBy L f (combination_in L f (length ws) (vectors_of K s.basis i) (elems_of L f ws))
        fault → IsSplit L f (InSpanOfAll L f ws) fault
    split-at i l (Reducible g h) r = (
      r.0,
      record {
        element = at-basis i;
        is_in = record { coefficients = vectors_of K s.basis i; sum = refl };
        fixed = basis-fixed i l;
        not_constant = r.1;
      },
    )
    split-at i l NoMemory r = tt
