-- Leading terms of coordinates as those of elements of the ring, and leading polynomials.
use Rattle.std.proofs.Common.{◌≡◌, ℕ, zero, suc, pred, max, ◌+◌, ◌-◌, ◌*◌, ◌%◌, ◌<◌, ◌≤◌, ◌⊎◌}
use Rattle.std.proofs.Common.{inl, inr, cond, List, [], ◌∷◌, length, map, get_or, drop}
use Rattle.std.proofs.Common.{refl, sym, ◌∙◌, ap, ap₂, subst, arith, All}
use Rattle.std.proofs.lemmas.Bool.{cases_lt}
use Rattle.std.proofs.lemmas.List.{length-map, drop_more, drop_all, get_or_default}
use Rattle.std.proofs.Math.Nat.{le-max_left, le-max_right, max-le, max-zero, zero-max, mul-suc}
use Rattle.std.proofs.Math.Nat.{mul-zero, mod-add-mod, add-mod-mod}
use Rattle.std.proofs.Common.{mul_comm}
use Rattle.ff_theory.specs.Ring.{RingOps, Elements}
use Rattle.ff_theory.specs.Lawful.{Lawful, Field, lawful_field}
use Rattle.ff_theory.specs.Poly.{coeff, poly}
use Rattle.ff_theory.specs.Division.{size, leading_coeff}
use Rattle.ff_theory.specs.Values.{poly_of, polys_over, IsPoly, leading}
use Rattle.ff_theory.proofs.Poly.{trim_same}
use Rattle.ff_theory.proofs.Coeffs.{coeff-map}
use Rattle.ff_poly.proofs.RowLists.{row-value}
use Rattle.ff_table.specs.Coords.{at}
use Rattle.ff_table.specs.Table.{Table, IsTable, Weighs, weight_of}
use Rattle.ff_table.specs.Level.{IsLevel, class_of, at_level, monomial_at, top_constant}
use Rattle.ff_table.specs.Level.{power_lead}
use Rattle.ff_table.specs.Roots.{top_weight, leading_poly}
use Rattle.ff_table.specs.Shift.{leading as leading_list}
use Rattle.ff_table.proofs.TableRing.{table_tests, weigh_element, zero_weight, weight_differs}
use Rattle.ff_table.proofs.Tops.{weight_of-is, has_leading}
use Rattle.ff_table.proofs.Levels.{level-class}
use Rattle.ff_table.proofs.Laws.{zero_at}
use Rattle.ff_table.proofs.Coords.{coords_ext}
use Rattle.ff_table.proofs.LeadingTerms.{lead-reached, lead-below, lead-zero}
use Rattle.ff_table.proofs.SearchSteps.{weight_by_sizes, weight-leading, top_constant-leading}
use Rattle.ff_theory.proofs.Poly.{polynomial_laws}
use Rattle.ff_data.specs.declared.system.System.{System}
use Rattle.ff_data.specs.Systems.{AreCoords, product_at, weight_at, term_weight}
use Rattle.ff_ring.specs.declared.weight.Term.{Term}
use Rattle.ff_ring.specs.Ring.{HasTable, table_in, ring_in, element_in, elements_in}
use Rattle.ff_ring.specs.Weight.{IsTop, AreZero}
use Rattle.ff_ring.proofs.ProductLemmas.{at-each}
use Rattle.ff_ring.proofs.RingElements.{element-at}
use Rattle.ff_root.specs.declared.leading.Lead.{Lead}
use Rattle.ff_root.specs.States.{IsPowerLead, IsCoefficientAt, weight_by}

max-group : (a b c : ℕ) → max a (max b c) ≡ max (max a b) c
max-group a b c = omega (
  arith,
  max-le {a = a} {b = max b c} {k = max (max a b) c}
      (omega (arith, le-max_left a b, le-max_left (max a b) c))
      (max-le {a = b} {b = c} {k = max (max a b) c}
      (omega (arith, le-max_right a b, le-max_left (max a b) c)) (le-max_right (max a b) c)),
  max-le {a = max a b} {b = c} {k = max a (max b c)}
      (max-le {a = a} {b = b} {k = max a (max b c)} (le-max_left a (max b c))
      (omega (arith, le-max_left b c, le-max_right a (max b c))))
      (omega (arith, le-max_right b c, le-max_right a (max b c))),
)

-- lists with the same coefficients
list_by_coeffs : (R : RingOps) (p q : List R.carrier) → length p ≡ length q
    → ((l : ℕ) → l < length q → coeff R p l ≡ coeff R q l) → p ≡ q
list_by_coeffs R [] [] e h = refl
list_by_coeffs R [] (y ∷ q) e h = absurd (omega (arith, e))
list_by_coeffs R (x ∷ p) [] e h = absurd (omega (arith, e))
list_by_coeffs R (x ∷ p) (y ∷ q) e h = ap₂ (λ s t. s ∷ t) (h zero (omega arith))
    (list_by_coeffs R p q (omega (arith, e)) (λ l k. h (suc l) (omega (arith, k))))

leading-length : {A : Type 0} (R : RingOps) (phi : R.carrier → A) (u : R.carrier)
    (p : List R.carrier) → length (leading_list R phi u p) ≡ length p
leading-length R phi u [] = refl
leading-length R phi u (h ∷ p) = ap suc (leading-length R (λ a. phi (R.mul a u)) u p)

module _ (F : Elements ℕ) (L : Lawful F) (s : System) where
  abbrev P : RingOps
  P = polys_over F

  abbrev K : Field
  K = lawful_field L

  abbrev T : RingOps
  T = ring_in F s

  abbrev S : Table F.ring
  S = table_in F s

  abbrev e : ℕ
  e = length s.weights

  -- the size and the leading coefficient of a polynomial
  poly-size : (p : List ℕ) → IsPoly F p → size F.ring (poly_of F p) ≡ length p
  unfolding poly
  poly-size p h = ap length (trim_same F.ring L.laws L.tests (map F.value p) h.canonical)
      ∙ length-map p F.value

  leading-is : (p : List ℕ) → IsPoly F p → leading F p ≡ leading_coeff F.ring (poly_of F p)
  unfolding poly
  leading-is p h = ap (coeff F.ring (map F.value p)) (below p)
      ∙ ap (λ t. coeff F.ring t (pred (length t)))
      (sym (trim_same F.ring L.laws L.tests (map F.value p) h.canonical))
    where
      below : (p : List ℕ) → length p - 1 ≡ pred (length (map F.value p))
      below [] = refl
      below (c ∷ p) = let z : suc (length p) - 1 ≡ length p = omega arith in
          z ∙ sym (length-map p F.value)

  entry-size : (h : List (List ℕ)) (l : ℕ) → AreCoords F s h → l < length s.weights
      → size F.ring (at (polys_over F) (length s.weights) (element_in F s h) l)
      ≡ length (get_or h l [])
  entry-size h l c q = ap (size F.ring) (element-at F L s h l q ∙ sym (row-value F h l))
      ∙ poly-size (get_or h l []) (at-each (IsPoly F) h l none c.each)
    where
      none : IsPoly F []
      none = record { each = λ k d o. absurd (omega (arith, o)); canonical = refl }

  entry-poly : (h : List (List ℕ)) (l : ℕ) → AreCoords F s h → IsPoly F (get_or h l [])
  entry-poly h l c = at-each (IsPoly F) h l none c.each
    where
      none : IsPoly F []
      none = record { each = λ k d o. absurd (omega (arith, o)); canonical = refl }

  -- what the code reads in the table
  pub table-read : HasTable F s → (a : List (List (List ℕ))) (b : List (List ℕ)) (p : List ℕ)
      (i j l : ℕ) → i < s.e → j < s.e → l < s.e → a ≡ get_or s.table i a → b ≡ get_or a j b
      → p ≡ get_or b l p → p ≡ get_or (product_at s i j) l []
  table-read form a b p i j l qi qj ql x y z = z ∙ get_or_default b l p [] third
      ∙ ap (λ t. get_or t l []) (y ∙ get_or_default a j b [] second
      ∙ ap (λ t. get_or t j []) (x ∙ get_or_default s.table i a [] first))
    where
      first : i < length s.table
      first = omega (arith, qi, form.rows)

      second : j < length a
      second = omega (arith, qj, ap length x, form.row i a first)

      third : l < length b
      third = let h : All (AreCoords F s) a = subst (All (AreCoords F s)) (sym x)
          (form.table i a first) in
          omega (arith, ql, ap length y, (h j b second).count)

  module _ (form : HasTable F s) (rule : IsTable F.ring (table_in F s)) where
    rank : length s.weights ≡ s.e
    rank = form.weights

    inside : (i : ℕ) → i < s.e → i < length s.weights
    inside i q = omega (arith, q, form.weights)

    -- the remainder of a sum of weights
    mod-sum : (a b n : ℕ) → (a % n + b % n) % n ≡ (a + b) % n
    mod-sum a b n = add-mod-mod (a % n) b n ∙ mod-add-mod a n b

    -- the leading coefficient of the product of two basis elements
    pub product-constant : (i j l : ℕ) → i < s.e → j < s.e → l ≡ (i + j) % s.e
        → leading F (get_or (product_at s i j) l []) ≡ top_constant F.ring (table_in F s) i j
    product-constant i j l a b f = leading-is (get_or (product_at s i j) l []) entry
        ∙ ap (leading_coeff F.ring) (row-value F (product_at s i j) l
        ∙ ap (λ n. S.product i j n) same)
        ∙ top_constant-leading K S rule i j (inside i a) (inside j b)
      where
        entry : IsPoly F (get_or (product_at s i j) l [])
        entry = entry-poly (product_at s i j) l (product-coords i j a b)
          where
            product-coords : (i j : ℕ) → i < s.e → j < s.e → AreCoords F s (product_at s i j)
            product-coords i j a b = let r = form.row i [] (omega (arith, a, form.rows)) in
                form.table i [] (omega (arith, a, form.rows)) j [] (omega (arith, b, r))

        same : l ≡ class_of S (S.weight i + S.weight j)
        same = f ∙ ap (λ n. (i + j) % n) (sym form.weights)
            ∙ ap₂ (λ x y. (x + y) % e) (sym (rule.classes i (inside i a)))
            (sym (rule.classes j (inside j b)))
            ∙ mod-sum (S.weight i) (S.weight j) e

    -- the weight of an element from its leading term
    pub weighs-top : (h : List (List ℕ)) (t : Term) → AreCoords F s h → IsTop s h t
        → Weighs F.ring (table_in F s) (element_in F s h) t.weight
    weighs-top h t c o = weight_by_sizes K S rule (at P e (element_in F s h)) t.weight t.class
        t.degree below
        (entry-size h t.class c below ∙ (let z : t.degree + 1 ≡ suc t.degree = omega arith in
        o.degree ∙ z))
        (o.weight ∙ ap (λ n. n * t.degree + weight_at s t.class) (sym form.weights))
        (λ i q x z. most i q x (sym (entry-size h i c q) ∙ z))
      where
        below : t.class < length s.weights
        below = omega (arith, o.below, c.count, form.weights)

        most : (i : ℕ) → i < length s.weights → (x : ℕ) → length (get_or h i []) ≡ suc x
            → length s.weights * x + weight_at s i ≤ t.weight
        most i q x z = let w : term_weight s h i ≤ t.weight =
            o.within i (omega (arith, q, c.count, form.weights)) (omega (arith, z)) in
            let d : length (get_or h i []) - 1 ≡ x = omega (arith, z) in
            let f : s.e * (length (get_or h i []) - 1) ≡ length s.weights * x =
            ap₂ (λ n m. n * m) (sym form.weights) d in
            omega (arith, w, f)

    pub zero-top : (h : List (List ℕ)) → AreCoords F s h → AreZero h
        → element_in F s h ≡ (ring_in F s).zero
    zero-top h c z = coords_ext P e _ _ (λ l q. element-at F L s h l q ∙ sym (row-value F h l)
        ∙ ap (poly_of F) (z l (omega (arith, q, c.count, form.weights)))
        ∙ sym (zero_at P (polynomial_laws F.ring L.laws L.tests) e S.product l q))

    -- the weight plus n, as the code has it
    pub weight_by-top : (h : List (List ℕ)) (t : Term) (n : ℕ) → AreCoords F s h → IsTop s h t
        → t.weight + n ≡ weight_by F s h n
    weight_by-top h t n c o = let w = weighs-top h t c o in
        sym (ap (λ b. cond b 0 (weight_of F.ring S (element_in F s h) + n))
        (weight_differs K S rule (element_in F s h) t.weight w)
        ∙ ap (λ m. m + n) (weight_of-is K S rule (element_in F s h) t.weight w))

    pub weight_by-zero : (h : List (List ℕ)) (n : ℕ) → AreCoords F s h → AreZero h
        → 0 ≡ weight_by F s h n
    weight_by-zero h n c z = sym (ap (λ b. cond b 0 (weight_of F.ring S (element_in F s h) + n))
        (ap (λ a. T.same a T.zero) (zero-top h c z)
        ∙ (table_tests K S rule).same_refl T.zero))

    -- the greatest weight, one coefficient more
    pub top-start : (t : ℕ) (p : List (List (List ℕ))) (n i : ℕ) → n ≡ 0 → i ≡ 0
        → max n (top_weight F.ring (table_in F s) t (i * t) (elements_in F s (drop i p)))
        ≡ top_weight F.ring (table_in F s) t 0 (elements_in F s p)
    top-start t p n i a b = ap₂ (λ m j. max m (top_weight F.ring S t (j * t)
        (elements_in F s (drop j p)))) a b
        ∙ zero-max (top_weight F.ring S t (0 * t) (elements_in F s p))
        ∙ ap (λ m. top_weight F.ring S t m (elements_in F s p))
        (let z : 0 * t ≡ 0 = omega arith in z)

    pub top-more : (t : ℕ) (p : List (List (List ℕ))) (h : List (List ℕ)) (n m w i j v : ℕ)
        → i < length p → j ≡ i + 1 → h ≡ get_or p i [] → w ≡ weight_by F s h (i * t)
        → m ≡ max n w
        → max n (top_weight F.ring (table_in F s) t (i * t) (elements_in F s (drop i p))) ≡ v
        → max m (top_weight F.ring (table_in F s) t (j * t) (elements_in F s (drop j p))) ≡ v
    top-more t p h n m w i j v q f g k o old =
        ap₂ (λ x y. max x (top_weight F.ring S t (y * t) (elements_in F s (drop y p)))) o f
        ∙ sym (max-group n w (top_weight F.ring S t ((i + 1) * t)
        (elements_in F s (drop (i + 1) p))))
        ∙ ap (max n) (ap₂ (λ x y. max x
        (top_weight F.ring S t y (elements_in F s (drop (i + 1) p))))
        (k ∙ ap (λ c. weight_by F s c (i * t)) g)
        (let z : (i + 1) * t ≡ i * t + t = omega arith in z)
        ∙ sym (ap (λ c. top_weight F.ring S t (i * t) (elements_in F s c)) (drop_more p i [] q)))
        ∙ old

    pub top-end : (t : ℕ) (p : List (List (List ℕ))) (n i v : ℕ) → length p ≤ i
        → max n (top_weight F.ring (table_in F s) t (i * t) (elements_in F s (drop i p))) ≡ v
        → n ≡ v
    top-end t p n i v q old = sym (max-zero n)
        ∙ ap (max n) (sym (ap (λ c. top_weight F.ring S t (i * t) (elements_in F s c))
        (drop_all i p q)))
        ∙ old

    -- the coefficient of one product
    pub coefficient-zero : (h : List (List ℕ)) (power : Lead) (m n c : ℕ) → AreCoords F s h
        → AreZero h → F.value c ≡ F.zero → IsCoefficientAt F s h power m n c
    coefficient-zero h power m n c k z v = record {
      reached = λ w g o. absurd (heavy w g);
      other = λ w g o. v;
      none = λ o. v;
    }
      where
        heavy : (w : ℕ) → ¬ (Weighs F.ring (table_in F s) (element_in F s h) w)
        heavy w g = zero_weight K S rule w
            (subst (λ a. Weighs F.ring S a w) (zero-top h k z) g)

    only-weight : (h : List (List ℕ)) (t : Term) → AreCoords F s h → IsTop s h t → (w : ℕ)
        → Weighs F.ring (table_in F s) (element_in F s h) w → w ≡ t.weight
    only-weight h t k o w g = sym (weight_of-is K S rule (element_in F s h) w g)
        ∙ weight_of-is K S rule (element_in F s h) t.weight (weighs-top h t k o)

    not-none : (h : List (List ℕ)) (t : Term) → AreCoords F s h → IsTop s h t
        → ¬ (element_in F s h ≡ (ring_in F s).zero)
    not-none h t k o z = zero_weight K S rule t.weight
        (subst (λ a. Weighs F.ring S a t.weight) z (weighs-top h t k o))

    pub coefficient-other : (h : List (List ℕ)) (t : Term) (power : Lead) (m n c : ℕ)
        → AreCoords F s h → IsTop s h t → ¬ (t.weight + m ≡ n) → F.value c ≡ F.zero
        → IsCoefficientAt F s h power m n c
    coefficient-other h t power m n c k o f v = record {
      reached = λ w g a. absurd (f (ap (λ x. x + m) (sym (only-weight h t k o w g)) ∙ a));
      other = λ w g a. v;
      none = λ a. v;
    }

    -- the leading coefficient of an element
    lead-value : (h : List (List ℕ)) (t : Term) → AreCoords F s h → IsTop s h t
        → leading F (get_or h t.class [])
        ≡ at_level F.ring (table_in F s) t.weight (element_in F s h)
    lead-value h t k o = leading-is (get_or h t.class []) (entry-poly h t.class k)
        ∙ ap (leading_coeff F.ring) (row-value F h t.class ∙ sym (element-at F L s h t.class below)
        ∙ ap (at P e (element_in F s h)) (sym (top-class h t k o)))
        ∙ weight-leading K S rule (at P e (element_in F s h)) t.weight (weighs-top h t k o)
      where
        below : t.class < length s.weights
        below = omega (arith, o.below, k.count, form.weights)

        top-class : (h : List (List ℕ)) (t : Term) → AreCoords F s h → IsTop s h t
            → class_of S t.weight ≡ t.class
        top-class h t k o = ap (class_of S)
            (o.weight ∙ ap (λ n. n * t.degree + weight_at s t.class) (sym form.weights))
            ∙ level-class K S rule t.class t.degree (omega (arith, o.below, k.count, form.weights))

    class-is : (h : List (List ℕ)) (t : Term) → AreCoords F s h → IsTop s h t
        → class_of S t.weight ≡ t.class
    class-is h t k o = ap (class_of S)
        (o.weight ∙ ap (λ n. n * t.degree + weight_at s t.class) (sym form.weights))
        ∙ level-class K S rule t.class t.degree (omega (arith, o.below, k.count, form.weights))

    pub coefficient-reached : (h : List (List ℕ)) (t : Term) (power a : Lead) (x : List ℕ)
        (m n c : ℕ) → AreCoords F s h → IsTop s h t → t.weight + m ≡ n → a.class ≡ t.class
        → F.value a.c ≡ leading F x → x ≡ get_or h t.class []
        → F.value c ≡ F.mul (F.mul (F.value a.c) (F.value power.c))
        (top_constant F.ring (table_in F s) a.class power.class)
        → IsCoefficientAt F s h power m n c
    coefficient-reached h t power a x m n c k o f i l y v = record {
      reached = λ w g q. value ∙ ap (λ w. F.mul (at_level F.ring S w (element_in F s h))
          (F.mul (F.value power.c) (top_constant F.ring S (class_of S w) power.class)))
          (sym (only-weight h t k o w g));
      other = λ w g q. absurd (q (ap (λ x. x + m) (only-weight h t k o w g) ∙ f));
      none = λ z. absurd (not-none h t k o z);
    }
      where
        value : F.value c ≡ F.mul (at_level F.ring S t.weight (element_in F s h))
            (F.mul (F.value power.c) (top_constant F.ring S (class_of S t.weight) power.class))
        value = v ∙ L.laws.mul_assoc (F.value a.c) (F.value power.c)
            (top_constant F.ring S a.class power.class)
            ∙ ap₂ (λ u w. F.mul u (F.mul (F.value power.c) (top_constant F.ring S w power.class)))
            (l ∙ ap (leading F) y ∙ lead-value h t k o) (i ∙ sym (class-is h t k o))

    -- the powers of the monomial
    pub power-none : (t i : ℕ) (a : Lead) → i ≡ 0 → a.class ≡ 0 → F.value a.c ≡ F.one
        → IsPowerLead F s t i a
    power-none t i a z f g = record {
      class = f ∙ sym (ap (λ n. n % e) (ap (λ i. i * t) z ∙ (let o : 0 * t ≡ 0 = omega arith in o))
          ∙ zero-class);
      c = g ∙ sym (ap (power_lead F.ring S t) z);
    }
      where
        zero-class : 0 % length s.weights ≡ 0
        zero-class = grind arith

    pub power-more : (t i j : ℕ) (a b step : Lead) → j ≡ i + 1 → step.class ≡ t % s.e
        → F.value step.c ≡ F.one → IsPowerLead F s t i a
        → b.class ≡ (a.class + step.class) % s.e
        → F.value b.c ≡ F.mul (F.mul (F.value a.c) (F.value step.c))
        (top_constant F.ring (table_in F s) a.class step.class)
        → IsPowerLead F s t j b
    power-more t i j a b step f g u h k v = record {
      class = k ∙ ap (λ n. (a.class + step.class) % n) (sym form.weights)
          ∙ ap₂ (λ x y. (x + y) % e) h.class (g ∙ ap (λ n. t % n) (sym form.weights))
          ∙ mod-sum (i * t) t e
          ∙ ap (λ n. n % e) (let z : i * t + t ≡ (i + 1) * t = omega arith in z
          ∙ ap (λ n. n * t) (sym f));
      c = v ∙ ap₂ (λ x y. F.mul (F.mul x y) (top_constant F.ring S a.class step.class)) h.c u
          ∙ ap (λ x. F.mul x (top_constant F.ring S a.class step.class))
          (L.laws.mul_one (power_lead F.ring S t i))
          ∙ ap₂ (λ x y. F.mul (power_lead F.ring S t i) (top_constant F.ring S x y)) h.class
          (g ∙ ap (λ n. t % n) (sym form.weights))
          ∙ ap (power_lead F.ring S t) (let z : suc i ≡ i + 1 = omega arith in z ∙ sym f);
    }

    -- no term is heavier than the greatest weight
    over : (t o : ℕ) (p : List (ring_in F s).carrier) (i w : ℕ)
        → Weighs F.ring (table_in F s) (coeff (ring_in F s) p i) w
        → w + (o + t * i) ≤ top_weight F.ring (table_in F s) t o p
    over t o [] i w h = absurd (zero_weight K S rule w h)
    over t o (a ∷ p) zero w h = omega (
      arith,
      le-max_left (cond (T.same a T.zero) 0 (weight_of F.ring S a + o))
          (top_weight F.ring S t (o + t) p),
      ap (λ b. cond b 0 (weight_of F.ring S a + o)) (weight_differs K S rule a w h),
      weight_of-is K S rule a w h,
      mul-zero t,
    )
    over t o (a ∷ p) (suc i) w h = omega (
      arith,
      le-max_right (cond (T.same a T.zero) 0 (weight_of F.ring S a + o))
          (top_weight F.ring S t (o + t) p),
      over t (o + t) p i w h,
      mul-suc t i,
    )

    pub level-is : (t : ℕ) → weight_at s (t % s.e) ≤ t → IsLevel (table_in F s) t
    level-is t l = omega (arith, l, ap (λ n. weight_at s (t % n)) form.weights)

    -- one coefficient of the leading polynomial
    pub leading-entry : (t : ℕ) → IsLevel (table_in F s) t → (p : List (List (List ℕ)))
        (h : List (List ℕ)) (power : Lead) (i m n c : ℕ) → i < length p → h ≡ get_or p i []
        → n ≡ top_weight F.ring (table_in F s) t 0 (elements_in F s p) → m ≡ i * t
        → IsPowerLead F s t i power → IsCoefficientAt F s h power m n c
        → F.value c
        ≡ coeff F.ring (leading_poly F.ring (table_in F s) t (elements_in F s p)) i
    leading-entry t level p h power i m n c q f top k u v =
        go (weigh_element K S rule (element_in F s h))
      where
        here : coeff (ring_in F s) (elements_in F s p) i ≡ element_in F s h
        here = coeff-map T (λ c. element_in F s c) p i [] q ∙ ap (element_in F s) (sym f)

        go : ((w : ℕ) × Weighs F.ring (table_in F s) (element_in F s h) w)
            ⊎ (element_in F s h ≡ (ring_in F s).zero)
            → F.value c
            ≡ coeff F.ring (leading_poly F.ring (table_in F s) t (elements_in F s p)) i
        go (inr z) = v.none z ∙ sym (lead-zero K S rule t level (elements_in F s p) i (here ∙ z))
        go (inl g) = pick (cases_lt (g.0 + m) n)
          where
            w : ℕ
            w = g.0

            moved : Weighs F.ring (table_in F s) (coeff (ring_in F s) (elements_in F s p) i) g.0
            moved = subst (λ a. Weighs F.ring S a g.0) (sym here) g.1

            pick : (g.0 + m < n) ⊎ (n ≤ g.0 + m) → F.value c
                ≡ coeff F.ring (leading_poly F.ring (table_in F s) t (elements_in F s p)) i
            pick (inl o) = v.other g.0 g.1 (λ z. absurd (omega (arith, o, z)))
                ∙ sym (lead-below K S rule t level (elements_in F s p) i g.0 moved
                (has_leading K S rule t level (elements_in F s p) i
                (λ z. zero_weight K S rule g.0 (subst (λ a. Weighs F.ring S a g.0) z moved))).level
                (omega (arith, o, k, top)))
            pick (inr o) = v.reached g.0 g.1 (omega (
              arith,
              o,
              top,
              k,
              mul_comm t i,
              over t 0 (elements_in F s p) i g.0 moved,
            ))
                ∙ ap (λ a. F.mul (at_level F.ring S g.0 a) (F.mul (F.value power.c)
                (top_constant F.ring S (class_of S g.0) power.class))) (sym here)
                ∙ ap₂ (λ x y. F.mul (at_level F.ring S g.0 (coeff T (elements_in F s p) i))
                (F.mul x (top_constant F.ring S (class_of S g.0) y))) u.c u.class
                ∙ sym (lead-reached K S rule t level (elements_in F s p) i g.0 moved
                (omega (arith, o, top, k, mul_comm t i, over t 0 (elements_in F s p) i g.0 moved)))

    pub leading-whole : (t : ℕ) (p : List (List (List ℕ))) (r : List ℕ) (n : ℕ)
        → length r ≡ n → n ≡ length p
        → ((j : ℕ) → j < n → coeff F.ring (map F.value r) j
        ≡ coeff F.ring (leading_poly F.ring (table_in F s) t (elements_in F s p)) j)
        → map F.value r ≡ leading_poly F.ring (table_in F s) t (elements_in F s p)
    leading-whole t p r n f g h = list_by_coeffs F.ring (map F.value r)
        (leading_poly F.ring S t (elements_in F s p))
        (length-map r F.value ∙ f ∙ g ∙ sym long)
        (λ l q. h l (omega (arith, q, long, g)))
      where
        long : length (leading_poly F.ring (table_in F s) t (elements_in F s p)) ≡ length p
        long = leading-length T (at_level F.ring S (top_weight F.ring S t 0 (elements_in F s p)))
            (monomial_at F.ring S t) (elements_in F s p) ∙ length-map p (λ c. element_in F s c)
