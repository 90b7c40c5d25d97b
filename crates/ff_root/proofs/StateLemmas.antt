-- The steps of the search on one state: the start, children, and the test for the root 0.
use Rattle.std.proofs.Common.{◌≡◌, ℕ, zero, suc, ◌+◌, ◌-◌, ◌*◌, ◌/◌, ◌%◌, ◌<◌, ◌≤◌, true, false}
use Rattle.std.proofs.Common.{List, [], ◌∷◌, ◌++◌, length, map, get_or, drop, refl, sym}
use Rattle.std.proofs.Common.{◌∙◌, ap, ap₂}
use Rattle.std.proofs.Common.{subst, arith}
use Rattle.std.specs.List.{All}
use Rattle.std.proofs.lemmas.List.{append_assoc, append-nil, drop_more, drop_all}
use Rattle.ff_theory.specs.Ring.{RingOps, IsCommRing, Elements, power}
use Rattle.ff_theory.specs.Lawful.{Lawful, Field, lawful_field}
use Rattle.ff_theory.specs.Poly.{coeff, Poly, poly}
use Rattle.ff_theory.specs.Monomial.{variable}
use Rattle.ff_theory.specs.Span.{unit_at}
use Rattle.ff_theory.specs.Values.{poly_of, polys_over, IsPoly}
use Rattle.ff_theory.proofs.Poly.{polynomial_laws}
use Rattle.ff_theory.proofs.Coeffs.{coeff-map}
use Rattle.ff_theory.proofs.PolyMap.{polynomial_domain, same_false, not_same}
use Rattle.ff_theory.proofs.Solver.{◌⊕◌, ◌⊗◌, nil, unit, ring1, ring2, ring3}
use Rattle.ff_poly.proofs.RowLists.{row-value}
use Rattle.ff_elem.proofs.PolyLemmas.{poly-nonzero}
use Rattle.ff_table.specs.Coords.{at}
use Rattle.ff_table.specs.Table.{Table, IsTable}
use Rattle.ff_table.specs.Leading.{part}
use Rattle.ff_table.specs.Level.{z_multiple, scaled, basis, monomial_at}
use Rattle.ff_table.specs.Shift.{carry, shift, IsMonicList}
use Rattle.ff_table.specs.Roots.{AreRootsOf, child, start, search, node_count, finished}
use Rattle.ff_table.proofs.TableRing.{table_laws, table_tests}
use Rattle.ff_table.proofs.Coords.{coords_ext, coords-at}
use Rattle.ff_table.proofs.Laws.{add_at, zero_at, one_at}
use Rattle.ff_table.proofs.Scalars.{multiple-at, part_linear, part-zero, part-ext}
use Rattle.ff_table.proofs.RootsFound.{roots_exact}
use Rattle.ff_table.proofs.Nodes.{nodes-bound}
use Rattle.ff_data.specs.declared.system.System.{System}
use Rattle.ff_data.specs.Systems.{AreCoords, weight_at}
use Rattle.ff_ring.specs.declared.level.Monomial.{Monomial}
use Rattle.ff_ring.specs.Entries.{entry_at, AreEntries}
use Rattle.ff_ring.specs.Affine.{term_poly}
use Rattle.ff_ring.specs.Ring.{AreCoordsList, table_in, ring_in, element_in, elements_in}
use Rattle.ff_ring.specs.Ring.{monomial_in}
use Rattle.ff_ring.proofs.RingElements.{element-at, elements-push}
use Rattle.ff_root.specs.declared.state.State.{State}
use Rattle.ff_root.specs.States.{state_in, states_in, monic_over, AreRootsIn, levels_up_to}

module _ (R : RingOps) (laws : IsCommRing R) where
  carry-nothing : (h : R.carrier) (p : List R.carrier) → carry R R.zero h p ≡ h ∷ p
  carry-nothing h [] = refl
  carry-nothing h (x ∷ p) = ap₂ (λ a t. a ∷ t)
      (ring2 R laws (λ h x. h ⊕ nil ⊗ x) (λ h x. h) refl h x) (carry-nothing x p)

  -- nothing is moved by 0
  pub shift-nothing : (p : List R.carrier) → shift R R.zero p ≡ p
  shift-nothing [] = refl
  shift-nothing (h ∷ p) = ap (carry R R.zero h) (shift-nothing p) ∙ carry-nothing h p

module _ (F : Elements ℕ) (L : Lawful F) (s : System) where
  abbrev P : RingOps
  P = polys_over F

  PL : IsCommRing (polys_over F)
  PL = polynomial_laws F.ring L.laws L.tests

  abbrev K : Field
  K = lawful_field L

  abbrev T : RingOps
  T = ring_in F s

  abbrev S : Table F.ring
  S = table_in F s

  abbrev e : ℕ
  e = length s.weights

  monomial-entry : (a : Monomial) (l : ℕ) → l < length s.weights
      → at (polys_over F) (length s.weights) (monomial_in F s a) l
      ≡ (polys_over F).mul (term_poly F a.c a.power) (unit_at (polys_over F) a.class l)
  monomial-entry a l q = multiple-at K S c (z_multiple F.ring S z v) l q
      ∙ ap (P.mul c) (multiple-at K S z v l q
      ∙ ap (P.mul z) (coords-at P e (unit_at P a.class) l q))
      ∙ ring3 P PL (λ c z w. c ⊗ (z ⊗ w)) (λ c z w. (z ⊗ c) ⊗ w) refl c z (unit_at P a.class l)
    where
      c : Poly F.ring
      c = poly F.ring (F.value a.c ∷ [])

      z : Poly F.ring
      z = power (polys_over F) (variable F.ring) a.power

      v : (ring_in F s).carrier
      v = basis F.ring (table_in F s) a.class

  -- a monomial added
  pub sum-monomial : (a : Monomial) (c r : List (List ℕ)) (f : Poly F.ring) (n : ℕ)
      → n ≡ length s.weights → f ≡ term_poly F a.c a.power
      → AreEntries F n (λ l. (polys_over F).add (entry_at F c l)
      ((polys_over F).mul f (unit_at (polys_over F) a.class l))) r
      → element_in F s r ≡ (ring_in F s).add (element_in F s c) (monomial_in F s a)
  sum-monomial a c r f n m g u = coords_ext P e _ _ (λ l q. element-at F L s r l q
      ∙ u.value l (omega (arith, q, m))
      ∙ ap₂ P.add (sym (element-at F L s c l q)) (ap (λ t. P.mul t (unit_at P a.class l)) g
      ∙ sym (monomial-entry a l q))
      ∙ sym (add_at P PL e S.product (element_in F s c) (monomial_in F s a) l q))

  -- a polynomial in z
  pub constant-element : (p : Poly F.ring) (one r : List (List ℕ)) (n m : ℕ)
      → n ≡ length s.weights → m ≡ length s.weights
      → AreEntries F n (unit_at (polys_over F) 0) one
      → AreEntries F m (λ l. (polys_over F).mul p (entry_at F one l)) r
      → element_in F s r ≡ z_multiple F.ring (table_in F s) p (ring_in F s).one
  constant-element p one r n m f g u v = coords_ext P e _ _ (λ l q. element-at F L s r l q
      ∙ v.value l (omega (arith, q, g))
      ∙ ap (P.mul p) (u.value l (omega (arith, q, f))
      ∙ sym (one_at P PL e S.product l q))
      ∙ sym (multiple-at K S p T.one l q))

  -- nothing is moved by a monomial with the coefficient 0
  monomial-nothing : (a : Monomial) → F.value a.c ≡ F.zero
      → monomial_in F s a ≡ (ring_in F s).zero
  monomial-nothing a z = part-ext K S (monomial_in F s a) T.zero (λ l d q.
      (part_linear K S l d q).on_scale (F.value a.c) v
      ∙ ap (λ c. F.mul c (part F.ring S l d v)) z
      ∙ ring1 F.ring L.laws (λ c. nil ⊗ c) (λ c. nil) refl (part F.ring S l d v)
      ∙ sym (part-zero K S l d q))
    where
      v : (ring_in F s).carrier
      v = z_multiple F.ring (table_in F s) (power (polys_over F) (variable F.ring) a.power)
          (basis F.ring (table_in F s) a.class)

  pub moved-nothing : IsTable F.ring (table_in F s) → (a : Monomial) (p r : List (List (List ℕ)))
      → F.value a.c ≡ F.zero → r ≡ p
      → elements_in F s r ≡ shift (ring_in F s) (monomial_in F s a) (elements_in F s p)
  moved-nothing rule a p r z f = ap (elements_in F s) f
      ∙ sym (ap (λ x. shift T x (elements_in F s p)) (monomial-nothing a z)
      ∙ shift-nothing T (table_laws K S rule) (elements_in F s p))

  -- the monomial at a level
  pub monomial-level : length s.weights ≡ s.e → (a : Monomial) (t : ℕ) → a.class ≡ t % s.e
      → a.power ≡ (t - weight_at s (t % s.e)) / s.e
      → monomial_in F s a
      ≡ scaled F.ring (table_in F s) (F.value a.c) (monomial_at F.ring (table_in F s) t)
  monomial-level f a t g h = ap₂ (λ l n. scaled F.ring S (F.value a.c)
      (z_multiple F.ring S (power P (variable F.ring) n) (basis F.ring S l)))
      (g ∙ ap (λ m. t % m) (sym f))
      (h ∙ ap (λ m. (t - weight_at s (t % m)) / m) (sym f))

  -- a child
  pub child-is : length s.weights ≡ s.e → (a : Monomial) (t c : ℕ) (old new : State)
      → a.c ≡ c → a.class ≡ t % s.e → a.power ≡ (t - weight_at s (t % s.e)) / s.e
      → element_in F s new.sum
      ≡ (ring_in F s).add (element_in F s old.sum) (monomial_in F s a)
      → elements_in F s new.moved
      ≡ shift (ring_in F s) (monomial_in F s a) (elements_in F s old.moved)
      → state_in F s new ≡ child F.ring (table_in F s) t (state_in F s old) (F.value c)
  child-is f a t c old new g h k x y =
      ap₂ (λ u v. record { sum = u; moved = v }) (x ∙ ap (T.add (element_in F s old.sum)) same)
      (y ∙ ap (λ m. shift T m (elements_in F s old.moved)) same)
    where
      same : monomial_in F s a
          ≡ scaled F.ring (table_in F s) (F.value c) (monomial_at F.ring (table_in F s) t)
      same = monomial-level f a t h k
          ∙ ap (λ b. scaled F.ring S (F.value b) (monomial_at F.ring S t)) g

  -- whether 0 is a root
  first-is : (p : List (List (List ℕ))) → 0 < length p
      → coeff (ring_in F s) (elements_in F s p) 0 ≡ element_in F s (get_or p 0 [])
  first-is p l = coeff-map T (λ c. element_in F s c) p 0 [] l

  no-entries-zero : (c : List (List ℕ)) → AreCoords F s c → length s.weights ≡ s.e
      → All (λ p. p ≡ []) c → element_in F s c ≡ (ring_in F s).zero
  no-entries-zero c k f h = coords_ext P e _ _ (λ l q. element-at F L s c l q
      ∙ sym (row-value F c l) ∙ ap (poly_of F) (h l [] (omega (arith, q, k.count, f)))
      ∙ sym (zero_at P PL e S.product l q))

  zero-no-entries : (c : List (List ℕ)) → AreCoords F s c → length s.weights ≡ s.e
      → element_in F s c ≡ (ring_in F s).zero → All (λ p. p ≡ []) c
  zero-no-entries c k f z i d l = empty (get_or c i d) (k.each i d l)
      (sym (coeff-map P (λ p. poly_of F p) c i d l)
      ∙ sym (element-at F L s c i (omega (arith, l, k.count, f)))
      ∙ ap (λ a. at P e a i) z
      ∙ zero_at P PL e S.product i (omega (arith, l, k.count, f)))
    where
      empty : (p : List ℕ) → IsPoly F p → poly_of F p ≡ (polys_over F).zero → p ≡ []
      empty [] h q = refl
      empty (x ∷ p) h q = absurd (not_same P (polynomial_domain K).tests (poly_of F (x ∷ p)) P.zero
          (poly-nonzero F L (x ∷ p) h (omega arith)) q)

  pub ends-yes : IsTable F.ring (table_in F s) → (p : List (List (List ℕ))) (m : ℕ)
      → length s.weights ≡ s.e → AreCoordsList F s m p → 0 < m
      → All (λ p. p ≡ []) (get_or p 0 [])
      → (ring_in F s).same (coeff (ring_in F s) (elements_in F s p) 0) (ring_in F s).zero ≡ true
  ends-yes rule p m f k l h = ap (λ a. T.same a T.zero) (first-is p (omega (arith, l, k.count))
      ∙ no-entries-zero (get_or p 0 []) (k.each 0 [] (omega (arith, l, k.count))) f h)
      ∙ (table_tests K S rule).same_refl T.zero

  pub ends-no : IsTable F.ring (table_in F s) → (p : List (List (List ℕ))) (m : ℕ)
      → length s.weights ≡ s.e → AreCoordsList F s m p → 0 < m
      → ¬ All (λ p. p ≡ []) (get_or p 0 [])
      → (ring_in F s).same (coeff (ring_in F s) (elements_in F s p) 0) (ring_in F s).zero ≡ false
  ends-no rule p m f k l h = same_false T (table_tests K S rule)
      (coeff T (elements_in F s p) 0) T.zero (λ z. h (zero-no-entries (get_or p 0 [])
      (k.each 0 [] (omega (arith, l, k.count))) f
      (sym (first-is p (omega (arith, l, k.count))) ∙ z)))

  -- the monic polynomial, one coefficient more
  abbrev pub constant_of : List ℕ → (ring_in F s).carrier
  constant_of p = z_multiple F.ring (table_in F s) (poly_of F p) (ring_in F s).one

  pub constants-first : (coeffs : List (List ℕ)) (items : List (List (List ℕ))) (i : ℕ)
      → items ≡ [] → i ≡ 0
      → elements_in F s items ++ map constant_of (drop i coeffs) ≡ map constant_of coeffs
  constants-first coeffs items i f z =
      ap₂ (λ (x : List (List (List ℕ))) n. elements_in F s x ++ map constant_of (drop n coeffs)) f z

  pub constants-more : (coeffs : List (List ℕ)) (old new : List (List (List ℕ)))
      (c : List (List ℕ)) (p : List ℕ) (i j : ℕ) → i < length coeffs → j ≡ i + 1
      → new ≡ old ++ c ∷ [] → p ≡ get_or coeffs i p → element_in F s c ≡ constant_of p
      → elements_in F s old ++ map constant_of (drop i coeffs) ≡ map constant_of coeffs
      → elements_in F s new ++ map constant_of (drop j coeffs) ≡ map constant_of coeffs
  constants-more coeffs old new c p i j l f g h v w =
      ap₂ (λ (x : List (List (List ℕ))) n. elements_in F s x ++ map constant_of (drop n coeffs)) g f
      ∙ ap (λ x. x ++ map constant_of (drop (i + 1) coeffs)) (elements-push F L s old c)
      ∙ append_assoc (elements_in F s old) (element_in F s c ∷ [])
      (map constant_of (drop (i + 1) coeffs))
      ∙ ap (λ x. elements_in F s old ++ x)
      (ap (λ (x : (ring_in F s).carrier). x ∷ map constant_of (drop (i + 1) coeffs))
      (v ∙ ap constant_of h)
      ∙ sym (ap (map constant_of) (drop_more coeffs i p l)))
      ∙ w

  one-constant : (p : Poly F.ring) → p ≡ (polys_over F).one
      → z_multiple F.ring (table_in F s) p (ring_in F s).one ≡ (ring_in F s).one
  one-constant p f = ap (λ x. z_multiple F.ring S x T.one) f
      ∙ coords_ext P e _ _ (λ l q. multiple-at K S P.one T.one l q
      ∙ ring1 P PL (λ a. unit ⊗ a) (λ a. a) refl (at P e T.one l))

  pub constants-last : (coeffs : List (List ℕ)) (old new : List (List (List ℕ)))
      (c : List (List ℕ)) (i : ℕ) (p : Poly F.ring) → length coeffs ≤ i → new ≡ old ++ c ∷ []
      → element_in F s c ≡ z_multiple F.ring (table_in F s) p (ring_in F s).one
      → p ≡ (polys_over F).one
      → elements_in F s old ++ map constant_of (drop i coeffs) ≡ map constant_of coeffs
      → elements_in F s new ≡ monic_over F s coeffs
  constants-last coeffs old new c i p l g v f w = ap (elements_in F s) g
      ∙ elements-push F L s old c
      ∙ ap₂ (λ x (y : (ring_in F s).carrier). x ++ y ∷ [])
      (sym (append-nil (elements_in F s old))
      ∙ ap (λ x. elements_in F s old ++ x) (sym (ap (map constant_of) (drop_all i coeffs l))) ∙ w)
      (v ∙ one-constant p f)

  monic-list : (coeffs : List (List ℕ))
      → IsMonicList (ring_in F s) (monic_over F s coeffs) (length coeffs)
  monic-list coeffs = record { leading = top coeffs; past = past coeffs }
    where
      top : (p : List (List ℕ))
          → coeff (ring_in F s) (map constant_of p ++ (ring_in F s).one ∷ []) (length p)
          ≡ (ring_in F s).one
      top [] = refl
      top (x ∷ p) = top p

      past : (p : List (List ℕ)) (i : ℕ) → length p < i
          → coeff (ring_in F s) (map constant_of p ++ (ring_in F s).one ∷ []) i
          ≡ (ring_in F s).zero
      past [] zero q = absurd (omega (arith, q))
      past [] (suc i) q = refl
      past (x ∷ p) zero q = absurd (omega (arith, q))
      past (x ∷ p) (suc i) q = past p i (omega (arith, q))

  -- the whole search
  pub roots-are : IsTable F.ring (table_in F s) → (coeffs : List (List ℕ)) (n : ℕ)
      (first last : List State) (roots : List (List (List ℕ)))
      → states_in F s first ≡ start F.field (table_in F s) (monic_over F s coeffs)
      → states_in F s last ≡ search F.field (table_in F s) (n + 1) (states_in F s first)
      → elements_in F s roots ≡ finished F.field (table_in F s) (states_in F s last)
      → AreRootsIn F s coeffs n roots
  roots-are rule coeffs n first last roots f g h =
      subst (AreRootsOf F.ring S (monic_over F s coeffs) n)
      (sym (h ∙ ap (finished F.field S) (g ∙ ap₂ (search F.field S) more f)))
      (roots_exact L S rule (monic_over F s coeffs) n (length coeffs) (monic-list coeffs))
    where
      more : n + 1 ≡ suc n
      more = omega arith

  pub nodes-are : IsTable F.ring (table_in F s) → (coeffs : List (List ℕ)) (n old new : ℕ)
      (first : List State)
      → states_in F s first ≡ start F.field (table_in F s) (monic_over F s coeffs)
      → new ≤ old + node_count F.field (table_in F s) (n + 1) (states_in F s first)
      → new ≤ old + length coeffs * levels_up_to F s n
  nodes-are rule coeffs n old new first f h = omega (
    arith,
    h,
    ap₂ (node_count F.field S) more f,
    nodes-bound L S rule (monic_over F s coeffs) n (length coeffs) (monic-list coeffs),
  )
    where
      more : n + 1 ≡ suc n
      more = omega arith
