-- The ring of a table is a domain.
use Rattle.std.proofs.Common.{◌≡◌, ℕ, ◌+◌, ◌<◌, ◌⊎◌, inl, inr, Bool, true, false, List, [], ◌∷◌}
use Rattle.std.proofs.Common.{cond, refl, sym, ◌∙◌, ap, ap₂}
use Rattle.ff_theory.specs.Ring.{RingOps, IsCommRing, IsTested}
use Rattle.ff_theory.specs.Lawful.{Field, Domain}
use Rattle.ff_theory.specs.Poly.{coeff, Poly, polynomials, list_same}
use Rattle.ff_theory.proofs.PolyMap.{same_false, not_same, polynomial_domain}
use Rattle.ff_table.specs.Coords.{Coords, at, coords_same, coords_ring}
use Rattle.ff_table.specs.Table.{Table, IsTable, table_ring, Weighs}
use Rattle.ff_table.specs.Weight.{HasWeight}
use Rattle.ff_table.proofs.Coords.{coords_path, coords_ext}
use Rattle.ff_table.proofs.Laws.{coords_laws, mul_at, zero_at, one_at}
use Rattle.ff_table.proofs.Weights.{weigh, no_weight}
use Rattle.ff_table.proofs.Domain.{times, weight-times}
use Rattle.ff_theory.proofs.Span.{unit-same}

-- the test compares coordinates
module _ (R : RingOps) (tests : IsTested R) (e : ℕ) (t : ℕ → ℕ → ℕ → R.carrier) where
  list_same-true : (p q : List R.carrier) → list_same R p q ≡ true → p ≡ q
  list_same-true [] [] h = refl
  list_same-true [] (b ∷ q) h = absurd (false_true h)
    where
      false_true : ¬ (false ≡ true)
      false_true h = cc
  list_same-true (a ∷ p) [] h = absurd (false_true h)
    where
      false_true : ¬ (false ≡ true)
      false_true h = cc
  list_same-true (a ∷ p) (b ∷ q) h = go (R.same a b) refl h (λ k. list_same-true p q k)
    where
      false_true : ¬ (false ≡ true)
      false_true h = cc

      go : (c : Bool) → R.same a b ≡ c → cond c (list_same R p q) false ≡ true
          → (list_same R p q ≡ true → p ≡ q) → a ∷ p ≡ b ∷ q
      go true c k rest = ap₂ (λ s t. s ∷ t) (tests.same_true a b c) (rest k)
      go false c k rest = absurd (false_true k)

  list_same-refl : (p : List R.carrier) → list_same R p p ≡ true
  list_same-refl [] = refl
  list_same-refl (a ∷ p) = ap (λ c. cond c (list_same R p p) false) (tests.same_refl a)
      ∙ list_same-refl p

  pub coords_tests : IsTested (coords_ring R e t)
  unfolding coords_same
  coords_tests = record {
    same_true = λ a b h. coords_path R e a b (list_same-true a.entries b.entries h);
    same_refl = λ a. list_same-refl a.entries;
  }

module _ (K : Field) (s : Table K.ring) (table : IsTable K.ring s) where
  abbrev T : RingOps
  T = table_ring K.ring s

  abbrev P : Domain
  P = polynomial_domain K

  pub table_laws : IsCommRing (table_ring K.ring s)
  table_laws = coords_laws P.ring P.laws s.rank s.product table.algebra

  pub table_tests : IsTested (table_ring K.ring s)
  table_tests = coords_tests P.ring P.tests s.rank s.product

  -- an element is zero, or it has a weight
  pub weigh_element : (a : Coords (polynomials K.ring) s.rank)
      → ((w : ℕ) × Weighs K.ring s a w) ⊎ (a ≡ (table_ring K.ring s).zero)
  weigh_element a = go (weigh K.ring K.laws K.tests s.rank table.algebra.positive s.weight
      table.classes (at P.ring s.rank a))
    where
      go : ((w : ℕ) × Weighs K.ring s a w) ⊎ ((l : ℕ) → l < s.rank → at P.ring s.rank a l ≡ P.zero)
          → ((w : ℕ) × Weighs K.ring s a w) ⊎ (a ≡ T.zero)
      go (inl h) = inl h
      go (inr z) = inr (coords_ext P.ring s.rank a T.zero
          (λ l q. z l q ∙ sym (zero_at P.ring P.laws s.rank s.product l q)))

  pub zero_weight : (w : ℕ) → ¬ (Weighs K.ring s (table_ring K.ring s).zero w)
  zero_weight w h = absurd (no_weight K.ring s.rank s.weight _ w
      (λ l q. zero_at P.ring P.laws s.rank s.product l q) h)

  -- weights are those of the coordinates below e
  same_weight : (c d : ℕ → Poly K.ring) (w : ℕ) → ((l : ℕ) → l < s.rank → c l ≡ d l)
      → HasWeight K.ring s.rank s.weight c w → HasWeight K.ring s.rank s.weight d w
  same_weight c d w e h = record {
    place = h.place;
    degree = h.degree;
    in_range = h.in_range;
    level = h.level;
    nonzero = λ z. h.nonzero (ap (λ (p : Poly K.ring). coeff K.ring p.coeffs h.degree)
        (e h.place h.in_range) ∙ z);
    below = λ l q n r. ap (λ (p : Poly K.ring). coeff K.ring p.coeffs n) (sym (e l q))
        ∙ h.below l q n r;
  }

  -- the weight of a product is the sum of the weights
  pub weight-mul : (a b : Coords (polynomials K.ring) s.rank) (w v : ℕ) → Weighs K.ring s a w
      → Weighs K.ring s b v
      → Weighs K.ring s ((table_ring K.ring s).mul a b) (w + v)
  weight-mul a b w v h g =
      same_weight (times K s table (at P.ring s.rank a) (at P.ring s.rank b)) _ (w + v)
      (λ l q. sym (mul_at P.ring P.laws s.rank s.product a b l q))
      (weight-times K s table (at P.ring s.rank a) (at P.ring s.rank b) w v h g)

  pub differ_weight : (a : Coords (polynomials K.ring) s.rank) → T.same a T.zero ≡ false
      → (w : ℕ) × Weighs K.ring s a w
  differ_weight a n = go (weigh_element a)
    where
      go : ((w : ℕ) × Weighs K.ring s a w) ⊎ (a ≡ T.zero) → (w : ℕ) × Weighs K.ring s a w
      go (inl h) = h
      go (inr z) = absurd (not_same T table_tests a T.zero n z)

  pub weight_differs : (a : Coords (polynomials K.ring) s.rank) (w : ℕ) → Weighs K.ring s a w
      → T.same a T.zero ≡ false
  weight_differs a w h = same_false T table_tests a T.zero
      (λ z. absurd (zero_weight w (same_weight (at P.ring s.rank a) (at P.ring s.rank T.zero) w
      (λ l q. ap (λ (c : Coords (polynomials K.ring) s.rank). at P.ring s.rank c l) z) h)))

  abbrev pub table_domain : Domain
  table_domain = record {
    ring = table_ring K.ring s;
    laws = table_laws;
    tests = table_tests;
    proper = same_false T table_tests T.one T.zero
        (λ z. absurd (not_same P.ring P.tests P.one P.zero P.proper
        (sym (unit-same P.ring 0) ∙ sym
        (one_at P.ring P.laws s.rank s.product 0 table.algebra.positive)
        ∙ ap (λ (c : Coords (polynomials K.ring) s.rank). at P.ring s.rank c 0) z
        ∙ zero_at P.ring P.laws s.rank s.product 0 table.algebra.positive)));
    no_divisors = λ a b ha hb. weight_differs (T.mul a b)
        ((differ_weight a ha).0 + (differ_weight b hb).0)
        (weight-mul a b (differ_weight a ha).0 (differ_weight b hb).0 (differ_weight a ha).1
        (differ_weight b hb).1);
  }
