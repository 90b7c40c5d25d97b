-- Powers in the ring, their leading coefficients, and the lists that reduction needs.
use Rattle.std.proofs.Common.{◌≡◌, ℕ, suc, pred, ◌+◌, ◌-◌, ◌*◌, ◌%◌, ◌<◌, ◌≤◌, ◌⊎◌, inl, inr}
use Rattle.std.proofs.Common.{List, [], ◌∷◌, ◌++◌, length, map, get_or, set, refl, sym, ◌∙◌, ap}
use Rattle.std.proofs.Common.{ap₂}
use Rattle.std.proofs.Common.{subst, arith}
use Rattle.std.specs.List.{Contains}
use Rattle.std.proofs.lemmas.Bool.{cases_lt}
use Rattle.std.proofs.lemmas.List.{length-map, length-append, get_or-set_same, get_or-set_other}
use Rattle.std.proofs.lemmas.List.{get_or_append_left, get_or_push, get_or_default}
use Rattle.std.proofs.lemmas.List.Elements.{Contains-append_left, Contains-push}
use Rattle.std.proofs.Math.Nat.{mod-eq_of_lt}
use Rattle.ff_theory.specs.Ring.{RingOps, IsCommRing, Elements, power}
use Rattle.ff_theory.specs.Lawful.{Lawful, Field, lawful_field}
use Rattle.ff_theory.specs.Poly.{coeff, poly}
use Rattle.ff_theory.specs.Division.{size, leading_coeff}
use Rattle.ff_theory.specs.Span.{unit_at}
use Rattle.ff_theory.specs.Values.{poly_of, polys_over, IsPoly, leading}
use Rattle.ff_theory.proofs.Poly.{trim_same, polynomial_laws}
use Rattle.ff_poly.proofs.RowLists.{row-value}
use Rattle.ff_table.specs.Coords.{at, product_at as table_product}
use Rattle.ff_table.specs.Level.{at_level, class_of}
use Rattle.ff_table.specs.Powers.{IsPrimeTo}
use Rattle.ff_table.specs.Table.{Table, Weighs}
use Rattle.ff_table.proofs.Coords.{coords_ext, coords-at}
use Rattle.ff_table.proofs.InCode.{mul_by_entries}
use Rattle.ff_table.proofs.Laws.{zero_at}
use Rattle.ff_table.proofs.Levels.{level-class, weighs-nonzero}
use Rattle.ff_table.proofs.One.{one-weight}
use Rattle.ff_table.proofs.Powers.{power-weight}
use Rattle.ff_table.proofs.Scalars.{multiple-at}
use Rattle.ff_table.proofs.SearchSteps.{weight_by_sizes, weight-leading}
use Rattle.ff_table.proofs.TableRing.{table_laws, zero_weight}
use Rattle.ff_table.proofs.Weights.{one_weight}
use Rattle.ff_data.specs.declared.system.System.{System}
use Rattle.ff_data.specs.Systems.{AreCoords, term_weight, weight_at}
use Rattle.ff_ring.specs.declared.weight.Term.{Term}
use Rattle.ff_ring.specs.Entries.{entry_at, AreEntries}
use Rattle.ff_ring.specs.Ring.{MeetsRule, table_in, ring_in, element_in, product, table_entry}
use Rattle.ff_ring.specs.Weight.{IsTop, AreZero}
use Rattle.ff_ring.proofs.ProductLemmas.{at-each}
use Rattle.ff_ring.proofs.RingElements.{element-at}
use Rattle.ff_relation.specs.declared.bases.Gap.{Gap}
use Rattle.ff_relation.specs.InRing.{number_at, basis_in, multiple_in, ArePowersOf}
use Rattle.ff_relation.specs.InRing.{AreExponents, HasGaps}

-- the exponents of the classes, one more entered
pub class-step : (e W j m : ℕ) (old : List ℕ) → (j * W) % e < length old → m ≡ j + 1
    → ((i : ℕ) → i < j → (number_at old ((i * W) % e) * W) % e ≡ (i * W) % e)
    → (i : ℕ) → i < m
    → (number_at (set old ((j * W) % e) j) ((i * W) % e) * W) % e ≡ (i * W) % e
class-step e W j m old inside f h i q = go (cases_lt ((i * W) % e) ((j * W) % e))
    (cases_lt ((j * W) % e) ((i * W) % e))
  where
    other : ¬ ((i * W) % e ≡ (j * W) % e)
        → (number_at (set old ((j * W) % e) j) ((i * W) % e) * W) % e ≡ (i * W) % e
    other n = ap (λ x. (x * W) % e) (get_or-set_other old ((j * W) % e) ((i * W) % e) j 0 n)
        ∙ h i (less (cases_lt i j))
      where
        less : (i < j) ⊎ (j ≤ i) → i < j
        less (inl l) = l
        less (inr l) = let g : i ≡ j = omega (arith, l, q, f) in
            absurd (n (ap (λ x. (x * W) % e) g))

    go : ((i * W) % e < (j * W) % e) ⊎ ((j * W) % e ≤ (i * W) % e)
        → ((j * W) % e < (i * W) % e) ⊎ ((i * W) % e ≤ (j * W) % e)
        → (number_at (set old ((j * W) % e) j) ((i * W) % e) * W) % e ≡ (i * W) % e
    go (inl l) b = other (λ z. absurd (omega (arith, l, z)))
    go (inr l) (inl b) = other (λ z. absurd (omega (arith, b, z)))
    go (inr l) (inr b) = let g : (i * W) % e ≡ (j * W) % e = omega (arith, l, b) in
        ap (λ x. (number_at (set old ((j * W) % e) j) x * W) % e) g
        ∙ ap (λ x. (x * W) % e) (get_or-set_same old ((j * W) % e) j 0 inside) ∙ sym g

pub exponents-whole : (e W : ℕ) (list : List ℕ) → IsPrimeTo e W
    → ((j : ℕ) → j < e → (number_at list ((j * W) % e) * W) % e ≡ (j * W) % e)
    → AreExponents e W list
exponents-whole e W list prime h l q = let g : (prime.exponent l * W) % e ≡ l =
    prime.class l ∙ mod-eq_of_lt q in
    ap (λ x. (number_at list x * W) % e) (sym g) ∙ h (prime.exponent l) (prime.in_range l) ∙ g

-- a weight that the code read
pub weights-read : (s t : System) (l x : ℕ) → t ≡ s → l < length s.weights
    → x ≡ get_or t.weights l x → x ≡ weight_at s l
weights-read s t l x e q h = h ∙ ap (λ (u : System). get_or u.weights l x) e
    ∙ get_or_default s.weights l x 0 q

-- numbers, one more
pub numbers-push : {A : Type 0} (f : ℕ → A) (v : ℕ → A) (xs new : List ℕ) (x n : ℕ)
    → new ≡ xs ++ x ∷ [] → length xs ≡ n → ((j : ℕ) → j < n → f (number_at xs j) ≡ v j)
    → f x ≡ v n → (j : ℕ) → j < n + 1 → f (number_at new j) ≡ v j
numbers-push f v xs new x n e k h o j q = ap (λ t. f (number_at t j)) e ∙ go (cases_lt j n)
  where
    go : (j < n) ⊎ (n ≤ j) → f (number_at (xs ++ x ∷ []) j) ≡ v j
    go (inl l) = ap f (get_or_append_left xs (x ∷ []) 0 j (omega (arith, l, k))) ∙ h j l
    go (inr l) = let i : j ≡ n = omega (arith, l, q) in
        ap f (get_or_push xs x 0 j (omega (arith, k, i))) ∙ o ∙ ap v (sym i)

pub numbers-count : (xs new : List ℕ) (x n : ℕ) → new ≡ xs ++ x ∷ [] → length xs ≡ n
    → length new ≡ n + 1
numbers-count xs new x n e k = omega (arith, ap length e, length-append xs (x ∷ []), k)

-- the gaps of one class more
pub gaps-more : (limits : List ℕ) (old new : List Gap) (l n : ℕ) → n ≡ number_at limits l
    → ((g : Gap) → Contains old g → Contains new g) → HasGaps l n new
    → ((i : ℕ) → i < l → HasGaps i (number_at limits i) old)
    → (i : ℕ) → i < l + 1 → HasGaps i (number_at limits i) new
gaps-more limits old new l n e kept own h i q = go (cases_lt i l)
  where
    go : (i < l) ⊎ (l ≤ i) → HasGaps i (number_at limits i) new
    go (inl o) = λ d r. kept (record { class = i; degree = d }) (h i o d r)
    go (inr o) = let f : i ≡ l = omega (arith, o, q) in
        subst (λ j. HasGaps j (number_at limits j) new) (sym f)
        (λ d r. own d (omega (arith, r, e)))

-- gaps, one more
pub gaps-push : (gaps new : List Gap) (class n m : ℕ) (g : Gap) → new ≡ gaps ++ g ∷ []
    → g ≡ record { class = class; degree = n } → m ≡ n + 1 → HasGaps class n gaps
    → HasGaps class m new
gaps-push gaps new class n m g e f k h d q = subst
    (λ t. Contains t (record { class = class; degree = d }))
    (sym e) (go (cases_lt d n))
  where
    go : (d < n) ⊎ (n ≤ d) → Contains (gaps ++ g ∷ []) (record { class = class; degree = d })
    go (inl l) = Contains-append_left gaps (g ∷ []) (record { class = class; degree = d }) (h d l)
    go (inr l) = let i : d ≡ n = omega (arith, l, q, k) in
        subst (Contains (gaps ++ g ∷ []))
        (f ∙ ap (λ (x : ℕ). record { class = class; degree = x }) (sym i)) (Contains-push gaps g)

module _ (F : Elements ℕ) (L : Lawful F) (s : System) where
  abbrev P : RingOps
  P = polys_over F

  PL : IsCommRing (polys_over F)
  PL = polynomial_laws F.ring L.laws L.tests

  abbrev K : Field
  K = lawful_field L

  abbrev T : RingOps
  T = ring_in F s

  abbrev S : Table F.ring
  S = table_in F s

  abbrev e : ℕ
  e = length s.weights

  -- products, basis elements and multiples
  pub product-element : (a b r : List (List ℕ)) → length s.weights ≡ s.e
      → AreEntries F s.e (product F s a b) r
      → element_in F s r ≡ (ring_in F s).mul (element_in F s a) (element_in F s b)
  product-element a b r rank u = mul_by_entries P PL (λ p. poly_of F p) e S.product a b r
      (λ l q. u.value l (omega (arith, q, rank))
      ∙ ap (λ n. table_product P n (table_entry F s) (entry_at F a) (entry_at F b) l) (sym rank))

  pub basis-element : (i n : ℕ) (r : List (List ℕ)) → length s.weights ≡ n
      → AreEntries F n (unit_at (polys_over F) i) r → element_in F s r ≡ basis_in F s i
  basis-element i n r rank u = coords_ext P e _ _ (λ l q. element-at F L s r l q
      ∙ u.value l (omega (arith, q, rank)) ∙ sym (coords-at P e (unit_at P i) l q))

  pub multiple-element : (p : List ℕ) (c r : List (List ℕ)) (n : ℕ) → length s.weights ≡ n
      → AreEntries F n (λ l. (polys_over F).mul (poly_of F p) (entry_at F c l)) r
      → element_in F s r ≡ multiple_in F s p (element_in F s c)
  multiple-element p c r n rank u = coords_ext P e _ _ (λ l q. element-at F L s r l q
      ∙ u.value l (omega (arith, q, rank)) ∙ ap (P.mul (poly_of F p)) (sym (element-at F L s c l q))
      ∙ sym (multiple-at K S (poly_of F p) (element_in F s c) l q))

  -- one power more
  pub powers-push : (w : (ring_in F s).carrier) (list new : List (List (List ℕ)))
      (c : List (List ℕ)) → new ≡ list ++ c ∷ [] → ArePowersOf F s w list
      → element_in F s c ≡ power (ring_in F s) w (length list) → ArePowersOf F s w new
  powers-push w list new c f h k j q = ap (λ t. element_in F s (get_or t j [])) f
      ∙ go (cases_lt j (length list))
    where
      go : (j < length list) ⊎ (length list ≤ j)
          → element_in F s (get_or (list ++ c ∷ []) j []) ≡ power (ring_in F s) w j
      go (inl l) = ap (element_in F s) (get_or_append_left list (c ∷ []) [] j l) ∙ h j l
      go (inr l) = let i : j ≡ length list =
          omega (arith, l, q, ap length f, length-append list (c ∷ [])) in
          ap (element_in F s) (get_or_push list c [] j (sym i)) ∙ k
          ∙ ap (power (ring_in F s) w) (sym i)

  -- the size and the leading coefficient of a polynomial
  poly-size : (p : List ℕ) → IsPoly F p → size F.ring (poly_of F p) ≡ length p
  unfolding poly
  poly-size p h = ap length (trim_same F.ring L.laws L.tests (map F.value p) h.canonical)
      ∙ length-map p F.value

  leading-is : (p : List ℕ) → IsPoly F p → leading F p ≡ leading_coeff F.ring (poly_of F p)
  unfolding poly
  leading-is p h = ap (coeff F.ring (map F.value p)) (below p)
      ∙ ap (λ t. coeff F.ring t (pred (length t)))
      (sym (trim_same F.ring L.laws L.tests (map F.value p) h.canonical))
    where
      below : (p : List ℕ) → length p - 1 ≡ pred (length (map F.value p))
      below [] = refl
      below (c ∷ p) = let z : suc (length p) - 1 ≡ length p = omega arith in
          z ∙ sym (length-map p F.value)

  entry-poly : (h : List (List ℕ)) (l : ℕ) → AreCoords F s h → IsPoly F (get_or h l [])
  entry-poly h l c = at-each (IsPoly F) h l none c.each
    where
      none : IsPoly F []
      none = record { each = λ k d o. absurd (omega (arith, o)); canonical = refl }

  entry-size : (h : List (List ℕ)) (l : ℕ) → AreCoords F s h → l < length s.weights
      → size F.ring (at (polys_over F) (length s.weights) (element_in F s h) l)
      ≡ length (get_or h l [])
  entry-size h l c q = ap (size F.ring) (element-at F L s h l q ∙ sym (row-value F h l))
      ∙ poly-size (get_or h l []) (entry-poly h l c)

  module _ (rank : length s.weights ≡ s.e) (rule : MeetsRule F s) where
    -- the weight of an element from its leading term
    weighs-top : (h : List (List ℕ)) (t : Term) → AreCoords F s h → IsTop s h t
        → Weighs F.ring (table_in F s) (element_in F s h) t.weight
    weighs-top h t c o = weight_by_sizes K S rule (at P e (element_in F s h)) t.weight t.class
        t.degree below
        (entry-size h t.class c below ∙ (let z : t.degree + 1 ≡ suc t.degree = omega arith in
        o.degree ∙ z))
        (o.weight ∙ ap (λ n. n * t.degree + weight_at s t.class) (sym rank))
        (λ i q x z. most i q x (sym (entry-size h i c q) ∙ z))
      where
        below : t.class < length s.weights
        below = omega (arith, o.below, c.count, rank)

        most : (i : ℕ) → i < length s.weights → (x : ℕ) → length (get_or h i []) ≡ suc x
            → length s.weights * x + weight_at s i ≤ t.weight
        most i q x z = let w : term_weight s h i ≤ t.weight =
            o.within i (omega (arith, q, c.count, rank)) (omega (arith, z)) in
            let d : length (get_or h i []) - 1 ≡ x = omega (arith, z) in
            let f : s.e * (length (get_or h i []) - 1) ≡ length s.weights * x =
            ap₂ (λ n m. n * m) (sym rank) d in
            omega (arith, w, f)

    pub zero-top : (h : List (List ℕ)) → AreCoords F s h → AreZero h
        → element_in F s h ≡ (ring_in F s).zero
    zero-top h c z = coords_ext P e _ _ (λ l q. element-at F L s h l q ∙ sym (row-value F h l)
        ∙ ap (poly_of F) (z l (omega (arith, q, c.count, rank)))
        ∙ sym (zero_at P PL e S.product l q))

    pub top-none : (h : List (List ℕ)) (w : ℕ) → AreCoords F s h → AreZero h
        → ¬ (Weighs F.ring (table_in F s) (element_in F s h) w)
    top-none h w c z v = zero_weight K S rule w
        (subst (λ a. Weighs F.ring S a w) (zero-top h c z) v)

    -- the leading coefficient of an element
    pub top-value : (h : List (List ℕ)) (t : Term) (w : ℕ) → AreCoords F s h → IsTop s h t
        → Weighs F.ring (table_in F s) (element_in F s h) w
        → leading F (get_or h t.class [])
        ≡ at_level F.ring (table_in F s) w (element_in F s h)
    top-value h t w k o v = leading-is (get_or h t.class []) (entry-poly h t.class k)
        ∙ ap (leading_coeff F.ring) (row-value F h t.class ∙ sym (element-at F L s h t.class below)
        ∙ ap (at P e (element_in F s h)) (sym (ap (class_of S)
        (o.weight ∙ ap (λ n. n * t.degree + weight_at s t.class) (sym rank))
        ∙ level-class K S rule t.class t.degree below)))
        ∙ weight-leading K S rule (at P e (element_in F s h)) t.weight (weighs-top h t k o)
        ∙ ap (λ n. at_level F.ring S n (element_in F s h))
        (one_weight F.ring S.rank S.weight rule.classes (at P e (element_in F s h)) t.weight w
        (weighs-top h t k o) v)
      where
        below : t.class < length s.weights
        below = omega (arith, o.below, k.count, rank)

    -- the inverse of it
    pub lead-inverse : (h : List (List ℕ)) (t : Term) (w : ℕ) (p : List ℕ) (x r : ℕ)
        → AreCoords F s h → IsTop s h t → Weighs F.ring (table_in F s) (element_in F s h) w
        → p ≡ get_or h t.class p → F.value x ≡ leading F p
        → (¬ (F.value x ≡ F.zero) → F.value r ≡ F.inverse (F.value x))
        → F.value r ≡ F.inverse (at_level F.ring (table_in F s) w (element_in F s h))
    lead-inverse h t w p x r k o v e f g = g (λ z. weighs-nonzero K S rule (element_in F s h) w v
        (sym same ∙ z)) ∙ ap F.inverse same
      where
        same : F.value x ≡ at_level F.ring (table_in F s) w (element_in F s h)
        same = f ∙ ap (leading F) (e ∙ get_or_default h t.class p [] o.below)
            ∙ top-value h t w k o v

    -- the weights of powers, and the next power
    pub power-heavy : (w : (ring_in F s).carrier) (W j : ℕ) → Weighs F.ring (table_in F s) w W
        → Weighs F.ring (table_in F s) (power (ring_in F s) w j) (j * W)
    power-heavy w W j h = power-weight K S rule w W h (one-weight K S rule) j

    pub next-power : (w a : (ring_in F s).carrier) (j m : ℕ) → m ≡ j + 1
        → a ≡ (ring_in F s).mul (power (ring_in F s) w j) w → a ≡ power (ring_in F s) w m
    next-power w a j m e h = h ∙ (table_laws K S rule).mul_comm (power T w j) w
        ∙ ap (power T w) (let f : suc j ≡ m = omega (arith, e) in f)
