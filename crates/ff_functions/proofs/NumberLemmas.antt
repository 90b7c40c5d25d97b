-- The first pole numbers in their classes, with one order more.
use Rattle.std.proofs.Common.{◌≡◌, ℕ, suc, pred, ◌+◌, ◌%◌, ◌<◌, ◌≤◌, ◌⊎◌, inl, inr, List, []}
use Rattle.std.proofs.Common.{◌∷◌, ◌++◌, length, get_or, refl, sym, ◌∙◌, ap, subst, arith}
use Rattle.std.proofs.Common.{Bool, true, false}
use mathlib.Core.Bool.{beq}
use Rattle.std.proofs.lemmas.Bool.{cases_lt}
use Rattle.std.proofs.lemmas.List.{length_push, get_or_push}
use Rattle.std.proofs.lemmas.List.Elements.{All-push}
use Rattle.ff_theory.specs.Ring.{Elements}
use Rattle.ff_theory.specs.Lawful.{Lawful}
use Rattle.ff_theory.specs.Vector.{vector_of}
use Rattle.ff_lin.specs.Space.{SpaceParts}
use Rattle.ff_functions.specs.declared.numbers.PoleNumber.{PoleNumber}
use Rattle.ff_functions.specs.Rows.{IsImageBy}
use Rattle.ff_data.specs.declared.system.System.{System}
use Rattle.ff_functions.specs.Searches.{HasNumber, AgreesAt, HasClass, IsDependentAt}
use Rattle.ff_functions.specs.Searches.{IsRelationAt, AreNumbers}
use Rattle.ff_functions.proofs.SearchLemmas.{push_below}
use Rattle.ff_functions.proofs.HeldImages.{relation_spans}

class_more : (xs : List PoleNumber) (x : PoleNumber) (e i : ℕ) → HasClass xs e i
    → HasClass (xs ++ x ∷ []) e i
class_more xs x e i h = (
  h.0,
  (
    omega (arith, h.1.0, length_push xs x),
    λ d. ap (λ (p : PoleNumber). p.j % e) (push_below xs x d h.0 h.1.0) ∙ h.1.1 d,
  ),
)

class_last : (xs : List PoleNumber) (x : PoleNumber) (e : ℕ) → HasClass (xs ++ x ∷ []) e (x.j % e)
class_last xs x e = (
  length xs,
  (
    omega (arith, length_push xs x),
    λ d. ap (λ (p : PoleNumber). p.j % e) (get_or_push xs x d (length xs) refl),
  ),
)

module _ (F : Elements ℕ) (t : SpaceParts) (c : ℕ) (g : ℕ → ℕ → F.carrier) (j : ℕ)
    (positive : 0 < j) (numbers : List PoleNumber) (h : AreNumbers F t c g (pred j) numbers)
    (within : (s : ℕ) (d : PoleNumber) → s < length numbers → (get_or numbers s d).j ≤ j) where
  abbrev D : ℕ → Type 0
  D = IsDependentAt F t c g

  before : (i : ℕ) → i ≤ j → (i ≤ pred j) ⊎ (i ≡ j)
  before i l = go (cases_lt i j)
    where
      go : (i < j) ⊎ (j ≤ i) → (i ≤ pred j) ⊎ (i ≡ j)
      go (inl q) = inl (omega (arith, q))
      go (inr q) = inr (omega (arith, q, l))

  -- no pole number
  pub numbers_none : ¬ (IsDependentAt F t c g j) → AreNumbers F t c g j numbers
  numbers_none n = record {
    each = h.each;
    first = λ i p l k. some i l k (h.first i p);
    whole = λ i p l k. some i l k (h.whole i p);
    least = λ s i d q p l k. some i l k (h.least s i d q p);
  }
    where
      some : {Q : Type 0} (i : ℕ) → i ≤ j → IsDependentAt F t c g i
          → (i ≤ pred j → IsDependentAt F t c g i → Q) → Q
      some {Q = Q} i l k f = go (before i l)
        where
          go : (i ≤ pred j) ⊎ (i ≡ j) → Q
          go (inl q) = f q k
          go (inr q) = absurd (n (subst (IsDependentAt F t c g) q k))

  -- a pole number whose class has one
  pub numbers_old : 0 < length numbers
      → ((d : PoleNumber) → HasClass numbers (get_or numbers 0 d).j (j % (get_or numbers 0 d).j))
      → AreNumbers F t c g j numbers
  numbers_old some class = record {
    each = h.each;
    first = λ i p l k. first i p k (before i l);
    whole = λ i p l k d. whole i p k d (before i l);
    least = λ s i d q p l k e. least s i d q p k e (before i l);
  }
    where
      first : (i : ℕ) → 0 < i → IsDependentAt F t c g i → (i ≤ pred j) ⊎ (i ≡ j)
          → (0 < length numbers) × ((d : PoleNumber) → (get_or numbers 0 d).j ≤ i)
      first i p k (inl q) = h.first i p q k
      first i p k (inr q) = (some, λ d. let w = within 0 d some in omega (arith, w, q))

      whole : (i : ℕ) → 0 < i → IsDependentAt F t c g i → (d : PoleNumber)
          → (i ≤ pred j) ⊎ (i ≡ j)
          → HasClass numbers (get_or numbers 0 d).j (i % (get_or numbers 0 d).j)
      whole i p k d (inl q) = h.whole i p q k d
      whole i p k d (inr q) = subst (λ i. HasClass numbers (get_or numbers 0 d).j
          (i % (get_or numbers 0 d).j)) (sym q) (class d)

      least : (s i : ℕ) (d : PoleNumber) → s < length numbers → 0 < i → IsDependentAt F t c g i
          → i % (get_or numbers 0 d).j ≡ (get_or numbers s d).j % (get_or numbers 0 d).j
          → (i ≤ pred j) ⊎ (i ≡ j) → (get_or numbers s d).j ≤ i
      least s i d l p k e (inl q) = h.least s i d l p q k e
      least s i d l p k e (inr q) = let w = within s d l in omega (arith, w, q)

  -- a pole number that is the first in its class
  module _ (p : PoleNumber) (hp : p.j ≡ j) (relation : IsRelationAt F t c g p.j p.relation.items)
      (none : 0 < length numbers → (d : PoleNumber)
      → ¬ HasClass numbers (get_or numbers 0 d).j (j % (get_or numbers 0 d).j)) where
    new : List PoleNumber
    new = numbers ++ p ∷ []

    len : length (numbers ++ p ∷ []) ≡ length numbers + 1
    len = length_push numbers p

    -- the first number of the longer list
    head : (d : PoleNumber) → ((0 < length numbers)
        × (get_or (numbers ++ p ∷ []) 0 d ≡ get_or numbers 0 d))
        ⊎ ((length numbers ≡ 0) × (get_or (numbers ++ p ∷ []) 0 d ≡ p))
    head d = go (cases_lt 0 (length numbers))
      where
        go : (0 < length numbers) ⊎ (length numbers ≤ 0) → ((0 < length numbers)
            × (get_or (numbers ++ p ∷ []) 0 d ≡ get_or numbers 0 d))
            ⊎ ((length numbers ≡ 0) × (get_or (numbers ++ p ∷ []) 0 d ≡ p))
        go (inl q) = inl (q, push_below numbers p d 0 q)
        go (inr q) = let e : length numbers ≡ 0 = omega (arith, q) in
            inr (e, get_or_push numbers p d 0 e)

    first : (i : ℕ) → 0 < i → IsDependentAt F t c g i → (i ≤ pred j) ⊎ (i ≡ j) → (d : PoleNumber)
        → (get_or (numbers ++ p ∷ []) 0 d).j ≤ i
    first i q k (inl r) d = let a = h.first i q r k in
        subst (λ (x : PoleNumber). x.j ≤ i) (sym (push_below numbers p d 0 a.0)) (a.1 d)
    first i q k (inr r) d = go (head d)
      where
        go : ((0 < length numbers) × (get_or (numbers ++ p ∷ []) 0 d ≡ get_or numbers 0 d))
            ⊎ ((length numbers ≡ 0) × (get_or (numbers ++ p ∷ []) 0 d ≡ p))
            → (get_or (numbers ++ p ∷ []) 0 d).j ≤ i
        go (inl a) = let w = within 0 d a.0 in
            subst (λ (x : PoleNumber). x.j ≤ i) (sym a.1) (omega (arith, w, r))
        go (inr a) = subst (λ (x : PoleNumber). x.j ≤ i) (sym a.1) (omega (arith, hp, r))

    whole : (i : ℕ) → 0 < i → IsDependentAt F t c g i → (i ≤ pred j) ⊎ (i ≡ j) → (d : PoleNumber)
        → HasClass (numbers ++ p ∷ []) (get_or (numbers ++ p ∷ []) 0 d).j
        (i % (get_or (numbers ++ p ∷ []) 0 d).j)
    whole i q k (inl r) d = let a = h.first i q r k in
        subst (λ (x : PoleNumber). HasClass (numbers ++ p ∷ []) x.j (i % x.j))
        (sym (push_below numbers p d 0 a.0))
        (class_more numbers p (get_or numbers 0 d).j (i % (get_or numbers 0 d).j)
        (h.whole i q r k d))
    whole i q k (inr r) d = subst (λ i. HasClass (numbers ++ p ∷ [])
        (get_or (numbers ++ p ∷ []) 0 d).j (i % (get_or (numbers ++ p ∷ []) 0 d).j)) (hp ∙ sym r)
        (class_last numbers p (get_or (numbers ++ p ∷ []) 0 d).j)

    least : (s i : ℕ) (d : PoleNumber) → s < length (numbers ++ p ∷ []) → 0 < i
        → IsDependentAt F t c g i → i % (get_or (numbers ++ p ∷ []) 0 d).j
        ≡ (get_or (numbers ++ p ∷ []) s d).j % (get_or (numbers ++ p ∷ []) 0 d).j
        → (i ≤ pred j) ⊎ (i ≡ j) → (s < length numbers) ⊎ (length numbers ≤ s)
        → (get_or (numbers ++ p ∷ []) s d).j ≤ i
    least s i d l q k e (inl r) (inl m) = let a = h.first i q r k in
        subst (λ (x : PoleNumber). x.j ≤ i) (sym (push_below numbers p d s m))
        (h.least s i d m q r k (sym (ap (λ (x : PoleNumber). i % x.j)
        (push_below numbers p d 0 a.0)) ∙ e
        ∙ ap (λ (x : PoleNumber). x.j % (get_or (numbers ++ p ∷ []) 0 d).j)
        (push_below numbers p d s m)
        ∙ ap (λ (x : PoleNumber). (get_or numbers s d).j % x.j) (push_below numbers p d 0 a.0)))
    least s i d l q k e (inl r) (inr m) =
        let a = h.first i q r k in
        let z : s ≡ length numbers = omega (arith, l, m, len) in
        let at = ap (λ s. get_or (numbers ++ p ∷ []) s d) z
        ∙ get_or_push numbers p d (length numbers) refl in
        absurd (none a.0 d (subst (HasClass numbers (get_or numbers 0 d).j)
        (sym (ap (λ (x : PoleNumber). i % x.j) (push_below numbers p d 0 a.0)) ∙ e
        ∙ ap (λ (x : PoleNumber). x.j % (get_or (numbers ++ p ∷ []) 0 d).j) at
        ∙ ap (λ (x : PoleNumber). p.j % x.j) (push_below numbers p d 0 a.0)
        ∙ ap (λ n. n % (get_or numbers 0 d).j) hp) (h.whole i q r k d)))
    least s i d l q k e (inr r) (inl m) = let w = within s d m in
        subst (λ (x : PoleNumber). x.j ≤ i) (sym (push_below numbers p d s m))
        (omega (arith, w, r))
    least s i d l q k e (inr r) (inr m) =
        let z : s ≡ length numbers = omega (arith, l, m, len) in
        subst (λ (x : PoleNumber). x.j ≤ i) (sym (ap (λ s. get_or (numbers ++ p ∷ []) s d) z
        ∙ get_or_push numbers p d (length numbers) refl)) (omega (arith, hp, r))

    pub numbers_new : AreNumbers F t c g j (numbers ++ p ∷ [])
    numbers_new = record {
      each = All-push (λ (x : PoleNumber). IsRelationAt F t c g x.j x.relation.items) numbers p
          h.each relation;
      first = λ i q l k. (omega (arith, len), first i q k (before i l));
      whole = λ i q l k d. whole i q k (before i l) d;
      least = λ s i d l q r k e. least s i d l q k e (before i r) (cases_lt s (length numbers));
    }

-- as the code has it
module _ (F : Elements ℕ) (L : Lawful F) (t : SpaceParts) (c : ℕ) (g : ℕ → ℕ → F.carrier) (j : ℕ)
    (positive : 0 < j) where
  pub relation_dependent : (v : List ℕ) → IsRelationAt F t c g j v → IsDependentAt F t c g j
  relation_dependent v h = let e : c + j ≡ suc (c + pred j) = omega (arith, positive) in
      relation_spans F L t (c + pred j) g (vector_of F v)
      (subst (λ n. IsImageBy F t n g (vector_of F v) (λ i. F.zero)) e h.none) h.last

  module _ (numbers seen : List PoleNumber) (same : seen ≡ numbers) (v : List ℕ)
      (relation : IsRelationAt F t c g j v)
      (within : (s : ℕ) (d : PoleNumber) → s < length numbers → (get_or numbers s d).j ≤ j)
      (h : AreNumbers F t c g (pred j) numbers) where
    pub numbers_first : (p : PoleNumber) → p.j ≡ j → p.relation.items ≡ v
        → (0 < length seen → (d : PoleNumber)
        → ¬ HasClass seen (get_or seen 0 d).j (j % (get_or seen 0 d).j))
        → AreNumbers F t c g j (numbers ++ p ∷ [])
    numbers_first p hp hv none = numbers_new F t c g j positive numbers h within p hp
        (subst (λ i. IsRelationAt F t c g i p.relation.items) (sym hp)
        (subst (IsRelationAt F t c g j) (sym hv) relation))
        (subst (λ seen. 0 < length seen → (d : PoleNumber)
        → ¬ HasClass seen (get_or seen 0 d).j (j % (get_or seen 0 d).j)) same none)

    pub numbers_kept : 0 < length seen → ((d : PoleNumber)
        → HasClass seen (get_or seen 0 d).j (j % (get_or seen 0 d).j))
        → AreNumbers F t c g j numbers
    numbers_kept some class = numbers_old F t c g j positive numbers h within
        (subst (λ seen. 0 < length seen) same some)
        (subst (λ seen. (d : PoleNumber)
        → HasClass seen (get_or seen 0 d).j (j % (get_or seen 0 d).j)) same class)

-- a system that does not agree
pub unlike : (s : System) (j : ℕ) (r b : Bool) → (r ≡ true → HasNumber s j)
    → (r ≡ false → ¬ HasNumber s j) → beq r b ≡ false → ¬ AgreesAt s j b
unlike s j true true has lacks e h = absurd (cc)
unlike s j true false has lacks e h = h (has refl)
unlike s j false true has lacks e h = lacks refl h
unlike s j false false has lacks e h = absurd (cc)
