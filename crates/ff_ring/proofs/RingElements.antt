-- Coordinates as elements of the ring of the table: sums, products, and polynomials over the ring.
use Rattle.std.proofs.Common.{◌≡◌, ℕ, zero, suc, ◌+◌, ◌-◌, ◌<◌, ◌≤◌, List, [], ◌∷◌, ◌++◌, length}
use Rattle.std.proofs.Common.{get_or}
use Rattle.std.proofs.Common.{drop, refl, sym, ◌∙◌, ap, ap₂, subst, arith, All}
use Rattle.std.proofs.lemmas.List.{drop_more, drop_all, append_assoc, length-append}
use Rattle.std.proofs.lemmas.List.Elements.{All-push}
use Rattle.ff_theory.specs.Ring.{RingOps, IsCommRing, Elements, power}
use Rattle.ff_theory.specs.Lawful.{Lawful, Field, lawful_field}
use Rattle.ff_theory.specs.Poly.{Poly, poly}
use Rattle.ff_theory.specs.Monomial.{variable}
use Rattle.ff_theory.specs.Sum.{sum_below}
use Rattle.ff_theory.specs.Span.{unit_at}
use Rattle.ff_theory.specs.Values.{polys_over}
use Rattle.ff_theory.proofs.Poly.{polynomial_laws}
use Rattle.ff_theory.proofs.Solver.{◌⊗◌, ring3, zero_mul, ring1, unit}
use Rattle.ff_theory.proofs.Span.{unit-same, unit-other}
use Rattle.ff_theory.proofs.Sums.{sum-ext, sum-zero, sum-mul, sum-single}
use Rattle.ff_table.specs.Coords.{at}
use Rattle.ff_table.specs.Level.{z_multiple, basis}
use Rattle.ff_table.specs.Shift.{value_at, shift, carry}
use Rattle.ff_table.specs.Table.{Table}
use Rattle.ff_table.proofs.Coords.{coords_ext, coords-at}
use Rattle.ff_table.proofs.InCode.{coords_of-at}
use Rattle.ff_table.proofs.Laws.{add_at, mul_at, zero_at}
use Rattle.ff_table.proofs.Scalars.{multiple-at, multiple-mul}
use Rattle.ff_data.specs.declared.system.System.{System}
use Rattle.ff_data.specs.Systems.{AreCoords}
use Rattle.ff_ring.specs.declared.level.Monomial.{Monomial}
use Rattle.ff_ring.specs.Entries.{entry_at, AreEntries}
use Rattle.ff_ring.specs.Affine.{term_poly}
use Rattle.ff_ring.specs.Ring.{AreCoordsList, ring_in, table_in, element_in, elements_in}
use Rattle.ff_ring.specs.Ring.{monomial_in}
use Rattle.ff_ring.specs.Ring.{table_entry, plus_basis_product_at, product}

module _ (F : Elements ℕ) (L : Lawful F) (s : System) where
  abbrev P : RingOps
  P = polys_over F

  PL : IsCommRing (polys_over F)
  PL = polynomial_laws F.ring L.laws L.tests

  abbrev K : Field
  K = lawful_field L

  abbrev T : RingOps
  T = ring_in F s

  abbrev S : Table F.ring
  S = table_in F s

  abbrev e : ℕ
  e = length s.weights

  -- the entries of an element
  pub element-at : (c : List (List ℕ)) (l : ℕ) → l < length s.weights
      → at (polys_over F) (length s.weights) (element_in F s c) l ≡ entry_at F c l
  element-at c l q = coords_of-at P PL (λ p. _) e S.product c l q

  -- an element whose entries are those of a sum
  pub sum-element : (a b r : List (List ℕ)) → ((l : ℕ) → l < length s.weights
      → entry_at F r l ≡ (polys_over F).add (entry_at F a l) (entry_at F b l))
      → element_in F s r ≡ (ring_in F s).add (element_in F s a) (element_in F s b)
  sum-element a b r h = coords_ext P e _ _ (λ l q. element-at r l q ∙ h l q
      ∙ sym (add_at P PL e S.product (element_in F s a) (element_in F s b) l q
      ∙ ap₂ P.add (element-at a l q) (element-at b l q)))

  pub zero-element : (c : List (List ℕ)) (n : ℕ) → n ≡ length s.weights
      → AreEntries F n (λ l. (polys_over F).zero) c → element_in F s c ≡ (ring_in F s).zero
  zero-element c n f h = coords_ext P e _ _ (λ l q. element-at c l q
      ∙ h.value l (omega (arith, q, f)) ∙ sym (zero_at P PL e S.product l q))

  -- the product of a basis vector
  basis-mul : (i : ℕ) → i < length s.weights → (x : (ring_in F s).carrier) (l : ℕ)
      → l < length s.weights
      → at (polys_over F) (length s.weights) ((ring_in F s).mul (basis F.ring (table_in F s) i) x) l
      ≡ sum_below (polys_over F) (length s.weights) (λ j. (polys_over F).mul
      (at (polys_over F) (length s.weights) x j) (table_entry F s i j l))
  basis-mul i q x l r = mul_at P PL e S.product (basis F.ring S i) x l r
      ∙ sum-single P PL e i _ q (λ a b n.
      sum-ext P PL e _ (λ j. P.zero) (λ j o.
      ap (λ t. P.mul t (P.mul (at P e x j) (S.product a j l)))
      (coords-at P e (unit_at P i) a b ∙ unit-other P i a n)
      ∙ zero_mul P PL (P.mul (at P e x j) (S.product a j l)))
      ∙ sum-zero P PL e)
      ∙ sum-ext P PL e _ _ (λ j o.
      ap (λ t. P.mul t (P.mul (at P e x j) (S.product i j l)))
      (coords-at P e (unit_at P i) i q ∙ unit-same P i)
      ∙ ring1 P PL (λ a. unit ⊗ a) (λ a. a) refl (P.mul (at P e x j) (S.product i j l)))

  -- coordinate l of the product of a monomial and an element
  monomial-mul : (a : Monomial) → a.class < length s.weights → (x : (ring_in F s).carrier) (l : ℕ)
      → l < length s.weights
      → at (polys_over F) (length s.weights) ((ring_in F s).mul (monomial_in F s a) x) l
      ≡ sum_below (polys_over F) (length s.weights) (λ j. (polys_over F).mul
      (term_poly F a.c a.power) ((polys_over F).mul
      (at (polys_over F) (length s.weights) x j) (table_entry F s a.class j l)))
  monomial-mul a b x l q =
      ap (λ t. at P e t l) (multiple-mul K S c (z_multiple F.ring S z v) x
      ∙ ap (z_multiple F.ring S c) (multiple-mul K S z v x))
      ∙ multiple-at K S c (z_multiple F.ring S z (T.mul v x)) l q
      ∙ ap (P.mul c) (multiple-at K S z (T.mul v x) l q
      ∙ ap (P.mul z) (basis-mul a.class b x l q))
      ∙ ring3 P PL (λ c z w. c ⊗ (z ⊗ w)) (λ c z w. (z ⊗ c) ⊗ w) refl c z
      (sum_below P e (λ j. P.mul (at P e x j) (table_entry F s a.class j l)))
      ∙ sym (sum-mul P PL e (P.mul z c) (λ j. P.mul (at P e x j) (table_entry F s a.class j l)))
    where
      c : Poly F.ring
      c = poly F.ring (F.value a.c ∷ [])

      z : Poly F.ring
      z = power (polys_over F) (variable F.ring) a.power

      v : (ring_in F s).carrier
      v = basis F.ring (table_in F s) a.class

  -- h plus the product of a monomial and x
  pub plus-monomial : (a : Monomial) (h x y r : List (List ℕ)) (f : Poly F.ring) (n : ℕ)
      → s.e ≡ length s.weights → a.class < s.e → n ≡ s.e → f ≡ term_poly F a.c a.power
      → AreEntries F n (λ l. (polys_over F).mul f (entry_at F x l)) y
      → AreEntries F s.e (plus_basis_product_at F s h a.class y) r
      → element_in F s r ≡ (ring_in F s).add (element_in F s h)
      ((ring_in F s).mul (monomial_in F s a) (element_in F s x))
  plus-monomial a h x y r f n es b m g u v = coords_ext P e _ _ (λ l q. element-at r l q
      ∙ v.value l (omega (arith, q, es))
      ∙ ap₂ P.add (sym (element-at h l q)) (each l q)
      ∙ sym (add_at P PL e S.product (element_in F s h)
      (T.mul (monomial_in F s a) (element_in F s x)) l q))
    where
      each : (l : ℕ) → l < length s.weights
          → sum_below (polys_over F) s.e
          (λ j. (polys_over F).mul (entry_at F y j) (table_entry F s a.class j l))
          ≡ at (polys_over F) (length s.weights)
          ((ring_in F s).mul (monomial_in F s a) (element_in F s x)) l
      each l q = ap (λ n. sum_below P n (λ j. P.mul (entry_at F y j) (table_entry F s a.class j l)))
          es
          ∙ sum-ext P PL e _ _ (λ j o. ap (λ t. P.mul t (table_entry F s a.class j l))
          (u.value j (omega (arith, o, m, es))
          ∙ ap₂ P.mul g (sym (element-at x j o)))
          ∙ PL.mul_assoc (term_poly F a.c a.power) (at P e (element_in F s x) j)
          (table_entry F s a.class j l))
          ∙ sym (monomial-mul a (omega (arith, b, es)) (element_in F s x) l q)

  -- h plus a product by the table
  pub plus-product : (a b h y r : List (List ℕ)) (n : ℕ) → s.e ≡ length s.weights → n ≡ s.e
      → AreEntries F s.e (product F s a b) y
      → AreEntries F n (λ l. (polys_over F).add (entry_at F h l) (entry_at F y l)) r
      → element_in F s r ≡ (ring_in F s).add (element_in F s h)
      ((ring_in F s).mul (element_in F s a) (element_in F s b))
  plus-product a b h y r n es m u v = coords_ext P e _ _ (λ l q. element-at r l q
      ∙ v.value l (omega (arith, q, es, m))
      ∙ ap₂ P.add (sym (element-at h l q)) (each l q)
      ∙ sym (add_at P PL e S.product (element_in F s h)
      (T.mul (element_in F s a) (element_in F s b)) l q))
    where
      each : (l : ℕ) → l < length s.weights → entry_at F y l
          ≡ at (polys_over F) (length s.weights)
          ((ring_in F s).mul (element_in F s a) (element_in F s b)) l
      each l q = u.value l (omega (arith, q, es))
          ∙ ap (λ n. sum_below P n (λ i. sum_below P n (λ j. P.mul (entry_at F a i)
          (P.mul (entry_at F b j) (table_entry F s i j l))))) es
          ∙ sum-ext P PL e _ _ (λ i o. sum-ext P PL e _ _ (λ j k.
          ap₂ (λ x y. P.mul x (P.mul y (table_entry F s i j l)))
          (sym (element-at a i o)) (sym (element-at b j k))))
          ∙ sym (mul_at P PL e S.product (element_in F s a) (element_in F s b) l q)

  -- lists of coordinates
  pub list-none : (p : List (List (List ℕ))) → p ≡ [] → AreCoordsList F s 0 p
  list-none p f = record {
    each = λ i d l. absurd (omega (arith, l, ap length f));
    count = ap length f;
  }

  pub list-push : (p new : List (List (List ℕ))) (c : List (List ℕ)) (n m : ℕ)
      → new ≡ p ++ c ∷ [] → m ≡ n + 1 → AreCoordsList F s n p → AreCoords F s c
      → AreCoordsList F s m new
  list-push p new c n m f e h k = record {
    each = subst (All (AreCoords F s)) (sym f) (All-push (AreCoords F s) p c h.each k);
    count = omega (arith, ap length f, length-append p (c ∷ []), h.count, e);
  }

  pub entry-after : (h : List (List ℕ)) (p : List (List (List ℕ))) (i : ℕ) → i ≤ length p
      → AreCoords F s h → All (AreCoords F s) p → AreCoords F s (get_or (h ∷ p) i [])
  entry-after h p zero l a b = a
  entry-after h p (suc i) l a b = b i [] (omega (arith, l))

  -- lists that grow at their ends
  pub elements-push : (p : List (List (List ℕ))) (c : List (List ℕ))
      → elements_in F s (p ++ c ∷ []) ≡ elements_in F s p ++ element_in F s c ∷ []
  elements-push [] c = refl
  elements-push (x ∷ p) c = ap (λ t. element_in F s x ∷ t) (elements-push p c)

  -- the rest of h + (a + Z) * p, from coefficient i on
  abbrev pub carry_rest : (ring_in F s).carrier → List (List ℕ) → List (List (List ℕ)) → ℕ
      → List (ring_in F s).carrier
  carry_rest a h p i = carry (ring_in F s) a (element_in F s (get_or (h ∷ p) i []))
      (elements_in F s (drop i p))

  pub carry-start : (a : (ring_in F s).carrier) (h : List (List ℕ)) (p sum : List (List (List ℕ)))
      (i : ℕ) → sum ≡ [] → i ≡ 0 → elements_in F s sum ++ carry_rest a h p i
      ≡ carry (ring_in F s) a (element_in F s h) (elements_in F s p)
  carry-start a h p sum i f z =
      ap₂ (λ (x : List (List (List ℕ))) n. elements_in F s x ++ carry_rest a h p n) f z

  pub carry-more : (a : (ring_in F s).carrier) (h : List (List ℕ))
      (p sum new : List (List (List ℕ)))
      (c low x : List (List ℕ)) (i j : ℕ) → i < length p → j ≡ i + 1 → new ≡ sum ++ c ∷ []
      → low ≡ get_or (h ∷ p) i [] → x ≡ get_or p i []
      → element_in F s c ≡ (ring_in F s).add (element_in F s low)
      ((ring_in F s).mul a (element_in F s x))
      → elements_in F s sum ++ carry_rest a h p i
      ≡ carry (ring_in F s) a (element_in F s h) (elements_in F s p)
      → elements_in F s new ++ carry_rest a h p j
      ≡ carry (ring_in F s) a (element_in F s h) (elements_in F s p)
  carry-more a h p sum new c low x i j q m f g k v w =
      ap₂ (λ (t : List (List (List ℕ))) n. elements_in F s t ++ carry_rest a h p n) f m
      ∙ ap (λ t. t ++ carry_rest a h p (i + 1)) (elements-push sum c)
      ∙ append_assoc (elements_in F s sum) (element_in F s c ∷ []) (carry_rest a h p (i + 1))
      ∙ ap (λ t. elements_in F s sum ++ t) (ap₂ (λ (t : (ring_in F s).carrier) u. t ∷ u)
      (v ∙ ap₂ (λ y z. T.add (element_in F s y) (T.mul a (element_in F s z))) g k)
      (ap (λ n. carry T a (element_in F s (get_or (h ∷ p) n [])) (elements_in F s (drop (i + 1) p)))
      (let o : i + 1 ≡ suc i = omega arith in o))
      ∙ sym (ap (λ t. carry T a (element_in F s (get_or (h ∷ p) i [])) (elements_in F s t))
      (drop_more p i [] q)))
      ∙ w

  pub carry-end : (a : (ring_in F s).carrier) (h : List (List ℕ)) (p sum new : List (List (List ℕ)))
      (c : List (List ℕ)) (i : ℕ) → length p ≤ i → new ≡ sum ++ c ∷ []
      → c ≡ get_or (h ∷ p) i []
      → elements_in F s sum ++ carry_rest a h p i
      ≡ carry (ring_in F s) a (element_in F s h) (elements_in F s p)
      → elements_in F s new ≡ carry (ring_in F s) a (element_in F s h) (elements_in F s p)
  carry-end a h p sum new c i q f g w = ap (elements_in F s) f ∙ elements-push sum c
      ∙ ap (λ t. elements_in F s sum ++ t) (ap (λ t. element_in F s t ∷ []) g
      ∙ sym (ap (λ t. carry T a (element_in F s (get_or (h ∷ p) i [])) (elements_in F s t))
      (drop_all i p q)))
      ∙ w

  -- one coefficient more before the others
  pub shift-none : (a : (ring_in F s).carrier) (p m : List (List (List ℕ))) (i : ℕ) → length p ≤ i
      → m ≡ [] → elements_in F s m ≡ shift (ring_in F s) a (elements_in F s (drop i p))
  shift-none a p m i q f = ap (elements_in F s) f
      ∙ sym (ap (λ t. shift T a (elements_in F s t)) (drop_all i p q))

  pub shift-more : (a : (ring_in F s).carrier) (p m r : List (List (List ℕ))) (h : List (List ℕ))
      (i j : ℕ) → 0 < i → i ≤ length p → j ≡ i - 1 → h ≡ get_or p j []
      → elements_in F s r ≡ carry (ring_in F s) a (element_in F s h) (elements_in F s m)
      → elements_in F s m ≡ shift (ring_in F s) a (elements_in F s (drop i p))
      → elements_in F s r ≡ shift (ring_in F s) a (elements_in F s (drop j p))
  shift-more a p m r h i j pos inside f g v w = v
      ∙ ap₂ (λ x y. carry T a (element_in F s x) y) g w
      ∙ sym (ap (λ t. shift T a (elements_in F s t))
      (drop_more p j [] (omega (arith, pos, inside, f))
      ∙ ap (λ n. get_or p j [] ∷ drop n p) (let o : j + 1 ≡ i = omega (arith, pos, f) in o)))

  pub shift-whole : (a : (ring_in F s).carrier) (p m : List (List (List ℕ))) (i : ℕ) → i ≡ 0
      → elements_in F s m ≡ shift (ring_in F s) a (elements_in F s (drop i p))
      → elements_in F s m ≡ shift (ring_in F s) a (elements_in F s p)
  shift-whole a p m i z w = w ∙ ap (λ n. shift T a (elements_in F s (drop n p))) z

  -- the same for values
  pub value-none : (a v : (ring_in F s).carrier) (p : List (List (List ℕ))) (i : ℕ) → length p ≤ i
      → v ≡ (ring_in F s).zero → v ≡ value_at (ring_in F s) a (elements_in F s (drop i p))
  value-none a v p i q z = z ∙ sym (ap (λ t. value_at T a (elements_in F s t)) (drop_all i p q))

  pub value-more : (a v w : (ring_in F s).carrier) (p : List (List (List ℕ))) (h : List (List ℕ))
      (i j : ℕ) → 0 < i → i ≤ length p → j ≡ i - 1 → h ≡ get_or p j []
      → w ≡ (ring_in F s).add (element_in F s h) ((ring_in F s).mul a v)
      → v ≡ value_at (ring_in F s) a (elements_in F s (drop i p))
      → w ≡ value_at (ring_in F s) a (elements_in F s (drop j p))
  value-more a v w p h i j pos inside f g x y = x
      ∙ ap₂ (λ h v. T.add (element_in F s h) (T.mul a v)) g y
      ∙ sym (ap (λ t. value_at T a (elements_in F s t))
      (drop_more p j [] (omega (arith, pos, inside, f))
      ∙ ap (λ n. get_or p j [] ∷ drop n p) (let o : j + 1 ≡ i = omega (arith, pos, f) in o)))

  pub value-whole : (a v : (ring_in F s).carrier) (p : List (List (List ℕ))) (i : ℕ) → i ≡ 0
      → v ≡ value_at (ring_in F s) a (elements_in F s (drop i p))
      → v ≡ value_at (ring_in F s) a (elements_in F s p)
  value-whole a v p i z w = w ∙ ap (λ n. value_at T a (elements_in F s (drop n p))) z
