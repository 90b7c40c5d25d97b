-- Relations, denominators and the basis written over powers, from what reduction gives.
use Rattle.std.proofs.Common.{◌≡◌, ℕ, ◌+◌, ◌*◌, ◌<◌, ◌≤◌, List, [], ◌∷◌, ◌++◌, length, get_or}
use Rattle.std.proofs.Common.{refl, sym, ◌∙◌, ap, ap₂, subst, arith, All, ◌⊎◌, inl, inr}
use Rattle.std.proofs.lemmas.Bool.{cases_lt}
use Rattle.std.proofs.lemmas.List.{length-append, get_or_append_left, get_or_push}
use Rattle.ff_theory.specs.Ring.{RingOps, IsCommRing, Elements, power}
use Rattle.ff_theory.specs.Lawful.{Lawful, Field, lawful_field}
use Rattle.ff_theory.specs.Monomial.{variable}
use Rattle.ff_theory.specs.Poly.{Poly, poly, polynomials}
use Rattle.ff_theory.specs.Values.{poly_of, polys_over}
use Rattle.ff_theory.proofs.Poly.{polynomial_laws}
use Rattle.ff_theory.proofs.Solver.{◌⊕◌, ◌⊗◌, neg, unit, ring1, ring2}
use Rattle.ff_table.specs.Coords.{at}
use Rattle.ff_table.specs.Level.{z_multiple, basis, monomial_at}
use Rattle.ff_table.specs.Powers.{IsPrimeTo, IsPowerSum, IsRelation}
use Rattle.ff_table.specs.Table.{Table, IsTable, Weighs}
use Rattle.ff_table.proofs.Coords.{coords_ext}
use Rattle.ff_table.proofs.Levels.{level-class, level-power, is-level}
use Rattle.ff_table.proofs.Monomials.{monomial-weight}
use Rattle.ff_table.proofs.PowerSums.{in-multiple, multiple-product}
use Rattle.ff_table.proofs.Scalars.{multiple-at}
use Rattle.ff_table.proofs.TableRing.{table_laws}
use Rattle.ff_data.specs.declared.system.Coords.{Coords}
use Rattle.ff_data.specs.declared.system.System.{System}
use Rattle.ff_data.specs.Systems.{AreCoords, weight_at}
use Rattle.ff_ring.specs.Entries.{entry_at}
use Rattle.ff_ring.specs.Ring.{MeetsRule, table_in, ring_in, element_in}
use Rattle.ff_relation.specs.declared.bases.PowerBasis.{PowerBasis}
use Rattle.ff_relation.specs.Combination.{IsDifference}
use Rattle.ff_relation.specs.InRing.{PowersOf, IsSplit, IsSumOf, sum_in, multiple_in, basis_in}
use Rattle.ff_relation.specs.InRing.{difference_in, IsWritten, AreWritten}
use Rattle.ff_relation.proofs.Annihilated.{reduced-exact, relation-found, larger-inside}
use Rattle.ff_relation.proofs.BaseLemmas.{next-power, zero-top}
use Rattle.ff_relation.proofs.Coprime.{prime_of_difference}
use Rattle.ff_relation.proofs.SplitLemmas.{monomial-neg}
use Rattle.ff_ring.specs.Affine.{term_poly}

-- basis vectors have their weights
module _ (K : Field) (s : Table K.ring) (table : IsTable K.ring s) where
  pub basis-weight : (i : ℕ) → i < s.rank → Weighs K.ring s (basis K.ring s i) (s.weight i)
  basis-weight i q = subst (λ a. Weighs K.ring s a (s.weight i)) same
      (subst (λ t. Weighs K.ring s (monomial_at K.ring s (s.rank * 0 + s.weight i)) t) level
      (monomial-weight K s table (s.rank * 0 + s.weight i) (is-level K s table i 0 q)))
    where
      level : s.rank * 0 + s.weight i ≡ s.weight i
      level = omega arith

      PL : IsCommRing (polynomials K.ring)
      PL = polynomial_laws K.ring K.laws K.tests

      same : monomial_at K.ring s (s.rank * 0 + s.weight i) ≡ basis K.ring s i
      same = ap₂ (λ n l. z_multiple K.ring s (power (polynomials K.ring) (variable K.ring) n)
          (basis K.ring s l)) (level-power K s table i 0 q) (level-class K s table i 0 q)
          ∙ coords_ext (polynomials K.ring) s.rank _ _ (λ l r.
          multiple-at K s (polynomials K.ring).one (basis K.ring s i) l r
          ∙ ring1 (polynomials K.ring) PL (λ a. unit ⊗ a) (λ a. a) refl
          (at (polynomials K.ring) s.rank (basis K.ring s i) l))

constant-neg : (F : Elements ℕ) (L : Lawful F)
    → poly F.ring (F.neg F.one ∷ []) ≡ (polys_over F).neg (polys_over F).one
constant-neg F L = monomial-neg F.ring L.laws L.tests F.one 0

module _ (F : Elements ℕ) (L : Lawful F) where
  -- the polynomial -1
  pub minus-one : (p a r : Poly F.ring) (c : ℕ) → F.value c ≡ F.neg F.one
      → p ≡ term_poly F c 0 → r ≡ (polys_over F).mul p a → r ≡ (polys_over F).neg a
  minus-one p a r c v e h = h ∙ ap (λ t. (polys_over F).mul t a) (e
      ∙ ap (λ t. (polys_over F).mul (polys_over F).one (poly F.ring (t ∷ []))) v
      ∙ ap ((polys_over F).mul (polys_over F).one) (constant-neg F L))
      ∙ ring1 (polys_over F) (polynomial_laws F.ring L.laws L.tests) (λ a. (unit ⊗ neg unit) ⊗ a)
      (λ a. neg a) refl a

module _ (F : Elements ℕ) (L : Lawful F) (s : System) (rank : length s.weights ≡ s.e) where
  abbrev P : RingOps
  P = polys_over F

  abbrev K : Field
  K = lawful_field L

  abbrev T : RingOps
  T = ring_in F s

  abbrev S : Table F.ring
  S = table_in F s

  -- a basis element whose weight is prime to e
  pub basis-heavy : MeetsRule F s → (i : ℕ) → i < s.e
      → Weighs F.ring (table_in F s) (basis_in F s i) (weight_at s i)
  basis-heavy rule i q = basis-weight K S rule i (omega (arith, q, rank))

  pub basis-prime : MeetsRule F s → (i : ℕ) → IsDifference (weight_at s i) s.e 1
      → IsPrimeTo (length s.weights) (weight_at s i)
  basis-prime rule i h = prime_of_difference (length s.weights) (weight_at s i)
      rule.algebra.positive (subst (λ n. IsDifference (weight_at s i) n 1) (sym rank) h)

  module _ {w : (ring_in F s).carrier} {p : PowerBasis} (b : PowersOf F s w p) where
    TL : IsCommRing (ring_in F s)
    TL = table_laws (lawful_field L) (table_in F s) b.rule

    -- a sum of multiples of powers is split into itself and 0
    pub split-sum : (a : (ring_in F s).carrier) (q r : List (List ℕ)) → IsSumOf F s b a
        → IsSplit F s b a 0 q r → a ≡ sum_in F s w q
    split-sum a q r h split = reduced-exact K S b.rule w b.weight b.weighs b.prime (entry_at F q) a
        (element_in F s r) h split.sum split.clear

    -- the relation, from the power with the exponent e
    pub split-relation : (a : (ring_in F s).carrier) (q r n : List (List ℕ)) (m : ℕ)
        → length s.weights ≡ m + 1 → a ≡ (ring_in F s).mul (power (ring_in F s) w m) w
        → IsSplit F s b a 0 q r
        → ((l : ℕ) → l < s.e → entry_at F n l ≡ (polys_over F).neg (entry_at F q l))
        → IsRelation F.ring (table_in F s) w (entry_at F n)
    split-relation a q r n m e h split v = relation-found K S b.rule w b.weight b.weighs b.prime
        (entry_at F q) (entry_at F n) a (element_in F s r)
        (next-power F L s rank b.rule w a m (length s.weights) e h) split.sum split.clear
        (λ l o. v l (omega (arith, o, rank)))

    -- one whose rest is 0
    pub split-none : (a : (ring_in F s).carrier) (q r : List (List ℕ)) → AreCoords F s r
        → All (λ (p : List ℕ). p ≡ []) r → IsSplit F s b a 0 q r → IsSumOf F s b a
    split-none a q r form none split = record {
      coefficients = entry_at F q;
      sum = split.sum ∙ ap (T.add (sum_in F s w q))
          (zero-top F L s rank b.rule r form (λ l k. none l [] k)) ∙ TL.add_zero _;
    }

    -- the rest of a multiple, and multiples of it
    pub split-difference : (a : (ring_in F s).carrier) (q r : List (List ℕ))
        → IsSplit F s b a 0 q r → IsSumOf F s b (difference_in F s a (element_in F s r))
    split-difference a q r split = record {
      coefficients = entry_at F q;
      sum = ap (λ t. T.add t (T.neg (element_in F s r))) split.sum
          ∙ ring2 T TL (λ a r. (a ⊕ r) ⊕ neg r) (λ a r. a) refl (sum_in F s w q)
          (element_in F s r);
    }

    pub product-multiple : (f q r : List ℕ) (a : (ring_in F s).carrier)
        → poly_of F r ≡ (polys_over F).mul (poly_of F f) (poly_of F q)
        → multiple_in F s r a ≡ multiple_in F s f (multiple_in F s q a)
    product-multiple f q r a e = ap (λ t. z_multiple F.ring S t a) e
        ∙ multiple-product K S b.rule (poly_of F f) (poly_of F q) a

    pub multiple-kept : (f q r : List ℕ) (a : (ring_in F s).carrier)
        → poly_of F r ≡ (polys_over F).mul (poly_of F f) (poly_of F q)
        → IsSumOf F s b (multiple_in F s q a) → IsSumOf F s b (multiple_in F s r a)
    multiple-kept f q r a e h = subst (IsPowerSum F.ring S w) (sym (product-multiple f q r a e))
        (in-multiple K S b.rule w b.weight b.weighs b.prime (poly_of F f) (multiple_in F s q a) h)

    pub multiple-larger : (f q r : List ℕ) (a rest : (ring_in F s).carrier)
        → poly_of F r ≡ (polys_over F).mul (poly_of F f) (poly_of F q)
        → IsSumOf F s b (difference_in F s (multiple_in F s q a) rest)
        → IsSumOf F s b (multiple_in F s f rest) → IsSumOf F s b (multiple_in F s r a)
    multiple-larger f q r a rest e h g = subst (IsPowerSum F.ring S w)
        (sym (product-multiple f q r a e))
        (larger-inside K S b.rule w b.weight b.weighs b.prime (poly_of F f) (multiple_in F s q a)
        rest h.coefficients (ring2 T TL (λ a r. a) (λ a r. (a ⊕ neg r) ⊕ r) refl
        (multiple_in F s q a) rest ∙ ap (λ t. T.add t rest) h.sum) g)

    -- a list of coordinates with one more
    pub written-push : (list new : List Coords) (c : Coords) → new ≡ list ++ c ∷ []
        → AreWritten F s w list → IsWritten F s w (length list) c → AreWritten F s w new
    written-push list new c e h k i d q = subst (λ t. IsWritten F s w i (get_or t i d)) (sym e)
        (go (cases_lt i (length list)))
      where
        go : (i < length list) ⊎ (length list ≤ i) → IsWritten F s w i (get_or (list ++ c ∷ []) i d)
        go (inl l) = subst (IsWritten F s w i) (sym (get_or_append_left list (c ∷ []) d i l))
            (h i d l)
        go (inr l) = let f : length list ≡ i =
            omega (arith, l, q, ap length e, length-append list (c ∷ [])) in
            subst (IsWritten F s w i) (sym (get_or_push list c d i f))
            (subst (λ n. IsWritten F s w n c) f k)

    -- one basis element more
    pub multiples-more : (q r : List ℕ) (i : ℕ)
        → ((a : (ring_in F s).carrier) → IsSumOf F s b (multiple_in F s q a)
        → IsSumOf F s b (multiple_in F s r a)) → IsSumOf F s b (multiple_in F s r (basis_in F s i))
        → ((j : ℕ) → j < i → IsSumOf F s b (multiple_in F s q (basis_in F s j))) → (j : ℕ)
        → j < i + 1 → IsSumOf F s b (multiple_in F s r (basis_in F s j))
    multiples-more q r i kept new old j l = go (cases_lt j i)
      where
        go : (j < i) ⊎ (i ≤ j) → IsSumOf F s b (multiple_in F s r (basis_in F s j))
        go (inl o) = kept (basis_in F s j) (old j o)
        go (inr o) = let e : i ≡ j = omega (arith, o, l) in
            subst (λ n. IsSumOf F s b (multiple_in F s r (basis_in F s n))) e new
