-- The rests of the multiples of an element by powers of z, and the polynomial of which a
-- combination of them is zero.
use Rattle.std.proofs.Common.{◌≡◌, ℕ, suc, ◌+◌, ◌-◌, ◌*◌, ◌/◌, ◌%◌, ◌<◌, ◌≤◌, ◌⊎◌, inl, inr, false}
use Rattle.std.proofs.Common.{List, [], ◌∷◌, ◌++◌, length, get_or, refl, sym, ◌∙◌, ap, ap₂, subst}
use Rattle.std.proofs.Common.{arith, All}
use Rattle.std.specs.List.{Contains}
use Rattle.std.specs.Global.{Vec}
use Rattle.std.proofs.lemmas.Bool.{cases_lt}
use Rattle.std.proofs.lemmas.List.{length-append, length-map, get_or-map, get_or_append_left}
use Rattle.std.proofs.lemmas.List.{get_or_push, get_or_default}
use Rattle.std.proofs.lemmas.Bool.{true≢false}
use Rattle.ff_theory.specs.Ring.{RingOps, IsCommRing, Elements, power}
use Rattle.ff_theory.specs.Lawful.{Lawful, Field, lawful_field}
use Rattle.ff_theory.specs.Monomial.{variable}
use Rattle.ff_theory.specs.Poly.{coeff, poly}
use Rattle.ff_theory.specs.Span.{InSpan, SameSpan}
use Rattle.ff_theory.specs.Sum.{sum_below}
use Rattle.ff_theory.specs.Values.{poly_of, polys_over}
use Rattle.ff_theory.specs.Vector.{vector_of, vectors_of, IsVector}
use Rattle.ff_theory.proofs.Coeffs.{coeff-past}
use Rattle.ff_theory.proofs.Poly.{polynomial_laws}
use Rattle.ff_theory.proofs.Solver.{◌⊕◌, ◌⊗◌, neg, nil, unit, ring1, ring2}
use Rattle.ff_theory.proofs.Sums.{sum-ext, sum-mul}
use Rattle.ff_lin.specs.Space.{rows_of, AreVectors, IsIn, SameSpace}
use Rattle.ff_lin.proofs.Growth.{grow-step, same-in}
use Rattle.ff_table.specs.Coords.{at}
use Rattle.ff_table.specs.Leading.{part}
use Rattle.ff_table.specs.Level.{z_multiple}
use Rattle.ff_table.specs.Powers.{is_reached, IsPowerSum}
use Rattle.ff_table.specs.Reduce.{IsClear}
use Rattle.ff_table.specs.Table.{Table}
use Rattle.ff_table.proofs.Coords.{coords_ext}
use Rattle.ff_table.proofs.PowerSums.{in_zero, multiple-product}
use Rattle.ff_table.proofs.ReduceSteps.{reached-from}
use Rattle.ff_table.proofs.Scalars.{multiple-at}
use Rattle.ff_table.proofs.TableRing.{table_laws}
use Rattle.ff_data.specs.declared.system.System.{System}
use Rattle.ff_data.specs.Systems.{weight_at}
use Rattle.ff_ring.specs.Affine.{term_poly}
use Rattle.ff_ring.specs.Entries.{entry_at, AreEntries}
use Rattle.ff_ring.specs.Ring.{table_in, ring_in, element_in}
use Rattle.ff_relation.specs.declared.annihilator.Rests.{Rests}
use Rattle.ff_relation.specs.declared.bases.Gap.{Gap}
use Rattle.ff_relation.specs.declared.bases.PowerBasis.{PowerBasis}
use Rattle.ff_relation.specs.Reduction.{IsPowerBasis}
use Rattle.ff_relation.specs.InRing.{PowersOf, IsOfCombination, AreRestsOf, AreAtGaps, IsClearFrom}
use Rattle.ff_relation.specs.InRing.{IsSumOf}
use Rattle.ff_relation.specs.InRing.{raised_in, difference_in, multiple_in, number_at}
use Rattle.ff_relation.proofs.Annihilated.{annihilates, congruent-step}
use Rattle.ff_relation.proofs.BaseLemmas.{multiple-element}
use Rattle.ff_relation.proofs.LastInSpan.{last-in_span}
use Rattle.ff_relation.proofs.SplitLemmas.{coefficient-entry}

-- a family with another element from n + 1 on
abbrev chosen : {A : Type 0} (n i : ℕ) → A → A → (n < i) ⊎ (i ≤ n) → A
chosen n i x y (inl l) = x
chosen n i x y (inr l) = y

abbrev extend : {A : Type 0} → ℕ → (ℕ → A) → A → ℕ → A
extend n f x i = chosen n i x (f i) (cases_lt n i)

extend-old : {A : Type 0} (n : ℕ) (f : ℕ → A) (x : A) (i : ℕ) → i ≤ n → extend n f x i ≡ f i
extend-old n f x i l = go (cases_lt n i)
  where
    go : (o : (n < i) ⊎ (i ≤ n)) → chosen n i x (f i) o ≡ f i
    go (inl o) = absurd (omega (arith, o, l))
    go (inr o) = refl

extend-new : {A : Type 0} (n : ℕ) (f : ℕ → A) (x : A) (i : ℕ) → n < i → extend n f x i ≡ x
extend-new n f x i l = go (cases_lt n i)
  where
    go : (o : (n < i) ⊎ (i ≤ n)) → chosen n i x (f i) o ≡ x
    go (inl o) = refl
    go (inr o) = absurd (omega (arith, o, l))

rows_of-push : (rows : List (Vec ℕ)) (v : Vec ℕ)
    → rows_of (rows ++ v ∷ []) ≡ rows_of rows ++ v.items ∷ []
rows_of-push [] v = refl
rows_of-push (x ∷ rows) v = ap (λ t. x.items ∷ t) (rows_of-push rows v)

-- families with the same first vectors
family-same : (R : RingOps) (laws : IsCommRing R) (r : ℕ) (w u : ℕ → ℕ → R.carrier)
    (v x : ℕ → R.carrier) → ((i j : ℕ) → i < r → w i j ≡ u i j) → ((j : ℕ) → v j ≡ x j)
    → InSpan R r w v → InSpan R r u x
family-same R laws r w u v x h e s = record {
  coefficients = s.coefficients;
  sum = λ j. sym (e j) ∙ s.sum j
      ∙ sum-ext R laws r _ _ (λ i l. ap (R.mul (s.coefficients i)) (h i j l));
}

module _ (F : Elements ℕ) (L : Lawful F) where
  -- vectors with one more at their end
  before-push : (rows : List (List ℕ)) (v : List ℕ) (i j : ℕ) → i < length rows
      → vectors_of F (rows ++ v ∷ []) i j ≡ vectors_of F rows i j
  before-push rows v i j l = ap (λ t. vector_of F t j) (get_or_append_left rows (v ∷ []) [] i l)

  last-push : (rows : List (List ℕ)) (v : List ℕ) (i j : ℕ) → length rows ≡ i
      → vectors_of F (rows ++ v ∷ []) i j ≡ vector_of F v j
  last-push rows v i j l = ap (λ t. vector_of F t j) (get_or_push rows v [] i l)

  more : (rows : List (List ℕ)) (v : List ℕ) → length (rows ++ v ∷ []) ≡ length rows + 1
  more rows v = length-append rows (v ∷ [])

  span-push : (new old rows : List (List ℕ)) (v : List ℕ) → SameSpace F new (v ∷ old)
      → SameSpace F old rows → SameSpace F new (rows ++ v ∷ [])
  span-push new old rows v h k = subst
      (λ n. SameSpan F.ring (length new) (vectors_of F new) n (vectors_of F (rows ++ v ∷ [])))
      (sym (more rows v))
      (grow-step F L.laws new old v (vectors_of F (rows ++ v ∷ [])) (length rows)
      (λ j. sym (last-push rows v (length rows) j refl)) h (record {
        into = λ i l. family-same F.ring L.laws (length rows) (vectors_of F rows)
            (vectors_of F (rows ++ v ∷ [])) (vectors_of F old i) (vectors_of F old i)
            (λ i j q. sym (before-push rows v i j q)) (λ j. refl) (k.into i l);
        back = λ i l. family-same F.ring L.laws (length old) (vectors_of F old) (vectors_of F old)
            (vectors_of F rows i) (vectors_of F (rows ++ v ∷ []) i) (λ i j q. refl)
            (λ j. sym (before-push rows v i j l)) (k.back i l);
      }))

  alone-before : (rows : List (List ℕ)) (v : List ℕ) (i : ℕ) → i < length rows
      → ¬ (InSpan F.ring i (vectors_of F rows) (vectors_of F rows i))
      → ¬ (InSpan F.ring i (vectors_of F (rows ++ v ∷ [])) (vectors_of F (rows ++ v ∷ []) i))
  alone-before rows v i q h span = h (family-same F.ring L.laws i (vectors_of F (rows ++ v ∷ []))
      (vectors_of F rows) (vectors_of F (rows ++ v ∷ []) i) (vectors_of F rows i)
      (λ k j o. before-push rows v k j (omega (arith, o, q))) (λ j. before-push rows v i j q) span)

  alone-push : (rows : List (List ℕ)) (v : List ℕ)
      → ((i : ℕ) → i < length rows → ¬ (InSpan F.ring i (vectors_of F rows) (vectors_of F rows i)))
      → ¬ (IsIn F rows v) → (i : ℕ) → i < length (rows ++ v ∷ [])
      → ¬ (InSpan F.ring i (vectors_of F (rows ++ v ∷ [])) (vectors_of F (rows ++ v ∷ []) i))
  alone-push rows v h g i l = go (cases_lt i (length rows))
    where
      go : (i < length rows) ⊎ (length rows ≤ i)
          → ¬ (InSpan F.ring i (vectors_of F (rows ++ v ∷ [])) (vectors_of F (rows ++ v ∷ []) i))
      go (inl q) = alone-before rows v i q (h i q)
      go (inr q) = let e : i ≡ length rows = omega (arith, q, l, more rows v) in λ span.
          g (subst (λ n. InSpan F.ring n (vectors_of F rows) (vector_of F v)) e
          (family-same F.ring L.laws i (vectors_of F (rows ++ v ∷ [])) (vectors_of F rows)
          (vectors_of F (rows ++ v ∷ []) i) (vector_of F v)
          (λ k j o. before-push rows v k j (omega (arith, o, e)))
          (λ j. last-push rows v i j (sym e)) span))

  -- after as many vectors as they have entries the next one is a combination of them
  pub vectors-last : (before : List (Vec ℕ)) (last : Vec ℕ) (n : ℕ) → length before ≡ n
      → AreVectors F n before → IsVector F n last.items
      → ((i : ℕ) → i < length before
      → ¬ (InSpan F.ring i (vectors_of F (rows_of before)) (vectors_of F (rows_of before) i)))
      → IsIn F (rows_of before) last.items
  vectors-last before last n count forms form alone = subst
      (λ m. InSpan F.ring m (vectors_of F rows) (vector_of F v)) (sym rank)
      (family-same F.ring L.laws n W (vectors_of F rows) (W n) (vector_of F v)
      (λ i j l. before-push rows v i j (omega (arith, l, rank)))
      (λ j. last-push rows v n j rank)
      (last-in_span (lawful_field L) n W (λ i j l o. ends i j l o (cases_lt i (length rows)))
      (λ i l. let q : i < length rows = omega (arith, l, rank) in
      alone-before rows v i q (alone i
      (omega (arith, q, length-map before (λ (v : Vec ℕ). v.items)))))))
    where
      rows : List (List ℕ)
      rows = rows_of before

      v : List ℕ
      v = last.items

      W : ℕ → ℕ → F.carrier
      W = vectors_of F (rows ++ v ∷ [])

      rank : length rows ≡ n
      rank = length-map before (λ (v : Vec ℕ). v.items) ∙ count

      ends : (i j : ℕ) → i < suc n → n ≤ j → (i < length rows) ⊎ (length rows ≤ i)
          → W i j ≡ F.zero
      ends i j l o (inl q) = let x : i < length before = omega (arith, q, rank, count) in
          let f : IsVector F n (get_or before i last).items = forms i last x in
          before-push rows v i j q
          ∙ ap (λ t. vector_of F t j) (get_or-map (λ (v : Vec ℕ). v.items) before i last [] x)
          ∙ coeff-past F.ring F.value (get_or before i last).items j (omega (arith, f.len, o))
      ends i j l o (inr q) = last-push rows v i j (omega (arith, q, l, rank))
          ∙ coeff-past F.ring F.value v j (omega (arith, form.len, o))

module _ (F : Elements ℕ) (L : Lawful F) (s : System) (rank : length s.weights ≡ s.e)
    {w : (ring_in F s).carrier} {p : PowerBasis} (b : PowersOf F s w p) where
  abbrev P : RingOps
  P = polys_over F

  PL : IsCommRing (polys_over F)
  PL = polynomial_laws F.ring L.laws L.tests

  abbrev K : Field
  K = lawful_field L

  abbrev T : RingOps
  T = ring_in F s

  TL : IsCommRing (ring_in F s)
  TL = table_laws (lawful_field L) (table_in F s) b.rule

  abbrev S : Table F.ring
  S = table_in F s

  multiple-one : (a : (ring_in F s).carrier)
      → z_multiple F.ring (table_in F s) (polys_over F).one a ≡ a
  multiple-one a = coords_ext P (length s.weights) _ _ (λ l q. multiple-at K S P.one a l q
      ∙ ring1 P PL (λ a. unit ⊗ a) (λ a. a) refl (at P (length s.weights) a l))

  -- the first rest
  pub rests-start : (r : Rests) (a : (ring_in F s).carrier) → a ≡ element_in F s r.rest
      → r.before.items ≡ [] → r.span.basis ≡ [] → IsClearFrom F s b 0 a
      → AreAtGaps F s p.gaps.items a r.last.items → AreRestsOf F s b a r
  rests-start r a e f g clear last = record {
    element = λ i. a;
    congruent = λ i l. subst (IsPowerSum F.ring S w) (sym (ap (λ t. T.add t (T.neg a))
        (ap (λ n. raised_in F s n a) (let z : i ≡ 0 = omega (arith, l, ap length f) in z)
        ∙ multiple-one a) ∙ TL.add_neg a)) (in_zero K S b.rule w b.weight b.weighs b.prime);
    clear = λ i l. clear;
    before = λ i l. absurd (omega (arith, l, ap length f));
    last = last;
    rest = e;
    span = record {
      into = λ i l. absurd (omega (arith, l, ap length g));
      back = λ i l. absurd (omega (
        arith,
        l,
        length-map r.before.items (λ (v : Vec ℕ). v.items),
        ap length f,
      ));
    };
    alone = λ i l. absurd (omega (arith, l, ap length f));
  }

  -- one rest more
  congruent-more : (i : ℕ) (a old new : (ring_in F s).carrier)
      → IsSumOf F s b (difference_in F s (raised_in F s i a) old)
      → IsSumOf F s b (difference_in F s (raised_in F s 1 old) new)
      → IsSumOf F s b (difference_in F s (raised_in F s (suc i) a) new)
  congruent-more i a old new h step = subst (λ t. IsPowerSum F.ring S w (T.add t (T.neg new)))
      (sym (multiple-product K S b.rule (power P (variable F.ring) 1)
      (power P (variable F.ring) i) a)
      ∙ ap (λ q. z_multiple F.ring S q a) (ring2 P PL (λ x y. (x ⊗ unit) ⊗ y) (λ x y. x ⊗ y) refl
      (variable F.ring) (power P (variable F.ring) i)))
      (congruent-step K S b.rule w b.weight b.weighs b.prime (power P (variable F.ring) 1)
      (raised_in F s i a) old new step.coefficients h
      (ring2 T TL (λ a r. a) (λ a r. (a ⊕ neg r) ⊕ r) refl (raised_in F s 1 old) new
      ∙ ap (λ t. T.add t new) step.sum))

  pub rests-more : (r n : Rests) (a : (ring_in F s).carrier)
      → AreRestsOf F s b a r → n.before.items ≡ r.before.items ++ r.last ∷ []
      → SameSpace F n.span.basis (r.last.items ∷ r.span.basis)
      → ¬ (IsIn F r.span.basis r.last.items)
      → IsClearFrom F s b 0 (element_in F s n.rest)
      → IsSumOf F s b (difference_in F s (raised_in F s 1 (element_in F s r.rest))
      (element_in F s n.rest))
      → AreAtGaps F s p.gaps.items (element_in F s n.rest) n.last.items → AreRestsOf F s b a n
  rests-more r n a old f same other clear step last = record {
    element = E;
    congruent = λ i l. congruents i l (cases_lt m i);
    clear = λ i l. clears i (cases_lt m i);
    before = λ i l. befores i l (cases_lt i m);
    last = λ j g l. last j g l ∙ ap (part F.ring S (get_or p.gaps.items j g).class
        (get_or p.gaps.items j g).degree) (sym new);
    rest = new;
    span = subst (SameSpace F n.span.basis) (sym rows)
        (span-push F L n.span.basis r.span.basis (rows_of r.before.items) r.last.items same
        old.span);
    alone = λ i l. subst (λ t. ¬ (InSpan F.ring i (vectors_of F t) (vectors_of F t i))) (sym rows)
        (alone-push F L (rows_of r.before.items) r.last.items
        (λ i q. old.alone i (omega (arith, q, count)))
        (λ h. other ((same-in F L.laws r.span.basis (rows_of r.before.items) r.last.items
        old.span).1 h)) i (omega (
          arith,
          l,
          long,
          more F L (rows_of r.before.items) r.last.items,
          count,
        )));
  }
    where
      m : ℕ
      m = length r.before.items

      E : ℕ → (ring_in F s).carrier
      E = extend m old.element (element_in F s n.rest)

      rows : rows_of n.before.items ≡ rows_of r.before.items ++ r.last.items ∷ []
      rows = ap rows_of f ∙ rows_of-push r.before.items r.last

      count : length (rows_of r.before.items) ≡ m
      count = length-map r.before.items (λ (v : Vec ℕ). v.items)

      long : length n.before.items ≡ m + 1
      long = ap length f ∙ length-append r.before.items (r.last ∷ [])

      new : E (length n.before.items) ≡ element_in F s n.rest
      new = extend-new m old.element (element_in F s n.rest) (length n.before.items)
          (omega (arith, long))

      kept : (i : ℕ) → i ≤ m → E i ≡ old.element i
      kept i l = extend-old m old.element (element_in F s n.rest) i l

      past : (i : ℕ) → m < i → E i ≡ element_in F s n.rest
      past i l = extend-new m old.element (element_in F s n.rest) i l

      congruents : (i : ℕ) → i ≤ length n.before.items → (m < i) ⊎ (i ≤ m)
          → IsSumOf F s b (difference_in F s (raised_in F s i a) (E i))
      congruents i l (inr q) = subst
          (λ t. IsPowerSum F.ring S w (difference_in F s (raised_in F s i a) t)) (sym (kept i q))
          (old.congruent i q)
      congruents i l (inl q) = let e : suc m ≡ i = omega (arith, q, l, long) in
          subst (λ t. IsPowerSum F.ring S w (difference_in F s (raised_in F s i a) t))
          (sym (past i q)) (subst
          (λ k. IsPowerSum F.ring S w (difference_in F s (raised_in F s k a)
          (element_in F s n.rest))) e
          (congruent-more m a (old.element m) (element_in F s n.rest)
          (old.congruent m (omega arith))
          (subst (λ t. IsPowerSum F.ring S w (difference_in F s (raised_in F s 1 t)
          (element_in F s n.rest))) (sym old.rest) step)))

      clears : (i : ℕ) → (m < i) ⊎ (i ≤ m) → IsClearFrom F s b 0 (E i)
      clears i (inr q) = subst (IsClear F.ring S (is_reached b.prime) 0) (sym (kept i q))
          (old.clear i q)
      clears i (inl q) = subst (IsClear F.ring S (is_reached b.prime) 0) (sym (past i q)) clear

      at : (i : ℕ) (x : (ring_in F s).carrier) (v : List ℕ) → AreAtGaps F s p.gaps.items x v
          → E i ≡ x → get_or (rows_of n.before.items) i [] ≡ v
          → AreAtGaps F s p.gaps.items (E i) (get_or (rows_of n.before.items) i [])
      at i x v h e g j d l = ap (λ t. vector_of F t j) g ∙ h j d l
          ∙ ap (part F.ring S (get_or p.gaps.items j d).class (get_or p.gaps.items j d).degree)
          (sym e)

      befores : (i : ℕ) → i < length n.before.items → (i < m) ⊎ (m ≤ i)
          → AreAtGaps F s p.gaps.items (E i) (get_or (rows_of n.before.items) i [])
      befores i l (inl q) = at i (old.element i) (get_or (rows_of r.before.items) i [])
          (old.before i q) (kept i (omega (arith, q)))
          (ap (λ t. get_or t i []) rows ∙ get_or_append_left (rows_of r.before.items)
          (r.last.items ∷ []) [] i (omega (arith, q, count)))
      befores i l (inr q) = let e : i ≡ m = omega (arith, q, l, long) in
          at i (old.element m) r.last.items old.last (kept i (omega (arith, e)) ∙ ap old.element e)
          (ap (λ t. get_or t i []) rows ∙ get_or_push (rows_of r.before.items) r.last.items [] i
          (omega (arith, e, count)))

  -- the gap of a level that is not reached
  gap-of : IsPowerBasis F s p → (l d : ℕ) → l < length s.weights
      → is_reached b.prime (length s.weights * d + weight_at s l) ≡ false
      → Contains p.gaps.items (record { class = l; degree = d })
  gap-of form l d q off = b.gaps l (omega (arith, q, rank, form.limit_count)) d
      (below (cases_lt d (number_at p.limits.items l)))
    where
      j : ℕ
      j = number_at p.exponents.items l

      ql : l < s.e
      ql = omega (arith, q, rank)

      jl : j < s.e
      jl = form.exponents l 0 (omega (arith, ql, form.exponent_count))

      limit : number_at p.limits.items l ≡ (j * b.weight - S.weight l) / length s.weights
      limit = b.limits l ql ∙ ap (λ m. (j * b.weight - weight_at s l) / m) (sym rank)

      below : (d < number_at p.limits.items l) ⊎ (number_at p.limits.items l ≤ d)
          → d < number_at p.limits.items l
      below (inl o) = o
      below (inr o) = absurd (true≢false (sym (reached-from K S b.rule w b.weight b.weighs
          b.prime j l d q (omega (arith, jl, rank))
          (ap (λ m. (j * b.weight) % m) rank ∙ b.exponents l ql) (omega (arith, o, limit))) ∙ off))

  -- the polynomial with the coefficients of the last vector as a combination of those before it
  pub rests-annihilate : (r : Rests) (a : (ring_in F s).carrier) (q : List ℕ)
      → AreRestsOf F s b a r → IsPowerBasis F s p
      → IsOfCombination F (rows_of r.before.items) r.last.items q
      → IsSumOf F s b (multiple_in F s q a)
  rests-annihilate r a q rests form h = annihilates K S b.rule w b.weight b.weighs b.prime t
      (poly_of F q) a rests.element (λ i l. h.monic.past i (omega (arith, l, h.count)))
      (λ i l. rests.congruent i (omega (arith, l, long)))
      (λ i l. rests.clear i (omega (arith, l, long)))
      (λ l d o off. none l d (gap-of form l d o off))
    where
      t : ℕ
      t = length (rows_of r.before.items)

      long : t ≡ length r.before.items
      long = length-map r.before.items (λ (v : Vec ℕ). v.items)

      V : ℕ → ℕ → F.carrier
      V = vectors_of F (rows_of r.before.items)

      read : (l d j : ℕ) (x : (ring_in F s).carrier) (v : List ℕ) → j < length p.gaps.items
          → get_or p.gaps.items j (record { class = l; degree = d })
          ≡ record { class = l; degree = d }
          → AreAtGaps F s p.gaps.items x v → part F.ring S l d x ≡ vector_of F v j
      read l d j x v o e h = ap (λ (g : Gap). part F.ring S g.class g.degree x) (sym e)
          ∙ sym (h j (record { class = l; degree = d }) o)

      none : (l d : ℕ) → Contains p.gaps.items (record { class = l; degree = d })
          → sum_below F.ring (suc t) (λ i. F.mul (coeff F.ring (poly_of F q).coeffs i)
          (part F.ring S l d (rests.element i))) ≡ F.zero
      none l d (j, o, e) = ap₂ F.add
          (sum-ext F.ring L.laws t _ _ (λ i k.
          ap₂ F.mul (h.monic.low i (omega (arith, k, h.count)))
          (read l d j (rests.element i) (get_or (rows_of r.before.items) i []) o e
          (rests.before i (omega (arith, k, long))))
          ∙ ring2 F.ring L.laws (λ c v. neg c ⊗ v) (λ c v. neg unit ⊗ (c ⊗ v)) refl
          (vector_of F h.coefficients i) (V i j))
          ∙ sum-mul F.ring L.laws t (F.neg F.one)
          (λ i. F.mul (vector_of F h.coefficients i) (V i j))
          ∙ ap (F.mul (F.neg F.one)) (h.solution j))
          (ap₂ F.mul (ap (coeff F.ring (poly_of F q).coeffs) (sym h.count) ∙ h.monic.one)
          (ap (λ i. part F.ring S l d (rests.element i)) long
          ∙ read l d j (rests.element (length r.before.items)) r.last.items o e rests.last))
          ∙ ring1 F.ring L.laws (λ v. neg unit ⊗ v ⊕ unit ⊗ v) (λ v. nil) refl
          (vector_of F r.last.items j)

-- the product with z
module _ (F : Elements ℕ) (L : Lawful F) (s : System) where
  pub raised-element : (z : List ℕ) (o : ℕ) (c r : List (List ℕ)) → length s.weights ≡ length c
      → F.value o ≡ F.one → poly_of F z ≡ term_poly F o 1
      → AreEntries F (length c) (λ l. (polys_over F).mul (poly_of F z) (entry_at F c l)) r
      → element_in F s r ≡ raised_in F s 1 (element_in F s c)
  raised-element z o c r rank v e h = multiple-element F L s z c r (length c) rank h
      ∙ ap (λ t. z_multiple F.ring (table_in F s) t (element_in F s c)) (e
      ∙ ap (λ t. (polys_over F).mul (power (polys_over F) (variable F.ring) 1)
      (poly F.ring (t ∷ []))) v
      ∙ (polynomial_laws F.ring L.laws L.tests).mul_one (power (polys_over F) (variable F.ring) 1))

  -- the coefficient at a gap, which the code read
  pub gap-read : (gaps : List Gap) (c : List (List ℕ)) (q : List ℕ) (i x : ℕ) (a d : Gap)
      → length s.weights ≡ s.e → length c ≡ s.e → All (λ (g : Gap). g.class < s.e) gaps
      → i < length gaps → q ≡ get_or c (get_or gaps i a).class q
      → F.value x ≡ vector_of F q (get_or gaps i a).degree
      → F.value x ≡ part F.ring (table_in F s) (get_or gaps i d).class (get_or gaps i d).degree
      (element_in F s c)
  gap-read gaps c q i x a d rank count classes l e v = v
      ∙ ap (λ t. vector_of F t g.degree)
      (e ∙ get_or_default c g.class q [] (omega (arith, k, count)))
      ∙ sym (coefficient-entry F L s c g.class g.degree (omega (arith, k, rank)))
      ∙ ap (λ (g : Gap). part F.ring (table_in F s) g.class g.degree (element_in F s c))
      (get_or_default gaps i a d l)
    where
      g : Gap
      g = get_or gaps i a

      k : g.class < s.e
      k = classes i a l
