-- What reduction modulo powers gives: relations, and multiples that are sums of powers.
use Rattle.std.proofs.Common.{◌≡◌, ℕ, zero, suc, ◌+◌, ◌*◌, ◌<◌, ◌≤◌, ◌⊎◌, inl, inr, Bool, true}
use Rattle.std.proofs.Common.{false}
use Rattle.std.proofs.Common.{[], ◌∷◌, refl, sym, ◌∙◌, ap, subst, arith}
use Rattle.std.proofs.lemmas.Bool.{cases_lt}
use Rattle.ff_theory.specs.Ring.{RingOps, IsCommRing, power}
use Rattle.ff_theory.specs.Lawful.{Field, Domain}
use Rattle.ff_theory.specs.Monomial.{variable}
use Rattle.ff_theory.specs.Poly.{coeff, Poly, poly, polynomials}
use Rattle.ff_theory.specs.Sum.{sum_below}
use Rattle.ff_theory.proofs.Division.{const, const_mul_at}
use Rattle.ff_theory.proofs.Poly.{Poly_ext}
use Rattle.ff_theory.proofs.PolyMap.{polynomial_domain}
use Rattle.ff_theory.proofs.Solver.{◌⊕◌, neg, ring2, ring3, mul_zero}
use Rattle.ff_theory.proofs.Span.{unit-other}
use Rattle.ff_theory.proofs.Sums.{sum-ext, sum-zero, sum-add}
use Rattle.ff_table.specs.Coords.{Coords}
use Rattle.ff_table.specs.Table.{Table, IsTable, table_ring, Weighs}
use Rattle.ff_table.specs.Leading.{part}
use Rattle.ff_table.specs.Level.{z_multiple, scaled}
use Rattle.ff_table.specs.Reduce.{IsClear}
use Rattle.ff_table.specs.Powers.{IsPrimeTo, is_reached, power_sum, IsPowerSum, IsRelation}
use Rattle.ff_table.proofs.Back.{rest-zero, power-sum, relation_of_sum}
use Rattle.ff_table.proofs.Monomials.{power-coeff}
use Rattle.ff_table.proofs.Multiples.{of_coefficients, coefficient, spread}
use Rattle.ff_table.proofs.PowerSums.{in_add, in_zero, in-multiple}
use Rattle.ff_table.proofs.Scalars.{part-zero, part-sum, part-ext, multiple-add}
use Rattle.ff_table.proofs.TableRing.{table_laws}
use Rattle.ff_table.proofs.Under.{coeff-sum}

module _ (K : Field) (s : Table K.ring) (table : IsTable K.ring s)
    (w : Coords (polynomials K.ring) s.rank) (W : ℕ) (weighs : Weighs K.ring s w W)
    (prime : IsPrimeTo s.rank W) where
  abbrev k : RingOps
  k = K.ring

  abbrev P : Domain
  P = polynomial_domain K

  abbrev T : RingOps
  T = table_ring K.ring s

  abbrev C : Type 0
  C = Coords (polynomials K.ring) s.rank

  TL : IsCommRing T
  TL = table_laws K s table

  pub power_sum-ext : (A B : ℕ → Poly K.ring) → ((j : ℕ) → j < s.rank → A j ≡ B j)
      → power_sum K.ring s w s.rank A ≡ power_sum K.ring s w s.rank B
  power_sum-ext A B h = sum-ext T TL s.rank _ _
      (λ j l. ap (λ p. z_multiple k s p (power T w j)) (h j l))

  -- a sum of powers is reduced to zero
  pub reduced-exact : (A : ℕ → Poly K.ring) (a rest : Coords (polynomials K.ring) s.rank)
      → IsPowerSum K.ring s w a
      → a ≡ (table_ring K.ring s).add (power_sum K.ring s w s.rank A) rest
      → IsClear K.ring s (is_reached prime) 0 rest → a ≡ power_sum K.ring s w s.rank A
  reduced-exact A a rest h e clear = e ∙ ap (T.add (power_sum k s w s.rank A))
      (rest-zero K s table w W weighs prime a h (power_sum k s w s.rank A) rest
      (record { coefficients = A; sum = refl }) clear e) ∙ TL.add_zero _

  -- the relation, from the reduction of the power with the exponent e
  pub relation-found : (A r : ℕ → Poly K.ring) (a rest : Coords (polynomials K.ring) s.rank)
      → a ≡ power (table_ring K.ring s) w s.rank
      → a ≡ (table_ring K.ring s).add (power_sum K.ring s w s.rank A) rest
      → IsClear K.ring s (is_reached prime) 0 rest
      → ((j : ℕ) → j < s.rank → r j ≡ (polynomials K.ring).neg (A j))
      → IsRelation K.ring s w r
  relation-found A r a rest p e clear h = record {
    vanishes = ap (T.add (power T w s.rank)) (power_sum-ext r (λ j. P.neg (A j)) h)
        ∙ found.vanishes;
    least = found.least;
  }
    where
      found : IsRelation K.ring s w (λ j. P.neg (A j))
      found = relation_of_sum K s table w W weighs prime A (sym p
          ∙ reduced-exact A a rest (subst (IsPowerSum k s w) (sym p)
          (power-sum K s table w W weighs prime)) e clear)

  -- a polynomial by its coefficients
  by_coefficients : (t : ℕ) (q : Poly K.ring)
      → ((i : ℕ) → t < i → coeff K.ring q.coeffs i ≡ K.zero)
      → q ≡ of_coefficients K s table (suc t) (coeff K.ring q.coeffs)
  by_coefficients t q past = Poly_ext k K.laws K.tests q _ (λ i. at i (cases_lt i (suc t)))
    where
      at : (i : ℕ) → (i < suc t) ⊎ (suc t ≤ i) → coeff k q.coeffs i
          ≡ coeff k (of_coefficients K s table (suc t) (coeff K.ring q.coeffs)).coeffs i
      at i (inl l) = sym (coefficient K s table (suc t) i (coeff k q.coeffs) l)
      at i (inr l) = past i (omega (arith, l)) ∙ sym (coeff-sum k K.laws K.tests (suc t) (suc t)
          (λ j. P.mul (const k K.laws K.tests (coeff k q.coeffs j)) (power P.ring (variable k) j)) i
          ∙ sum-ext k K.laws (suc t) _ (λ j. k.zero)
          (λ j o. const_mul_at k K.laws K.tests (coeff k q.coeffs j) (power P.ring (variable k) j) i
          ∙ ap (K.mul (coeff k q.coeffs j)) (power-coeff K s table j i
          ∙ unit-other k j i (λ e. absurd (omega (arith, e, o, l))))
          ∙ mul_zero k K.laws (coeff k q.coeffs j)) ∙ sum-zero k K.laws (suc t))

  sums-inside : (n : ℕ) (c : ℕ → K.carrier) (f : ℕ → C) → ((i : ℕ) → i < n → IsPowerSum k s w (f i))
      → IsPowerSum k s w (sum_below T n (λ i. scaled k s (c i) (f i)))
  sums-inside zero c f h = in_zero K s table w W weighs prime
  sums-inside (suc n) c f h = in_add K s table w W weighs prime _ _
      (sums-inside n c f (λ i l. h i (omega arith)))
      (in-multiple K s table w W weighs prime (poly k (c n ∷ [])) (f n) (h n (omega arith)))

  -- the multiples z^i * a are sums of powers and the rests E i, and the combination of the rests
  -- with the coefficients of q is zero at each level that is not reached
  pub annihilates : (t : ℕ) (q : Poly K.ring) (a : Coords (polynomials K.ring) s.rank)
      (E : ℕ → Coords (polynomials K.ring) s.rank)
      → ((i : ℕ) → t < i → coeff K.ring q.coeffs i ≡ K.zero)
      → ((i : ℕ) → i < suc t → IsPowerSum K.ring s w ((table_ring K.ring s).add
      (z_multiple K.ring s (power (polynomials K.ring) (variable K.ring) i) a)
      ((table_ring K.ring s).neg (E i))))
      → ((i : ℕ) → i < suc t → IsClear K.ring s (is_reached prime) 0 (E i))
      → ((l d : ℕ) → l < s.rank → is_reached prime (s.rank * d + s.weight l) ≡ false
      → sum_below K.ring (suc t) (λ i. K.mul (coeff K.ring q.coeffs i) (part K.ring s l d (E i)))
      ≡ K.zero)
      → IsPowerSum K.ring s w (z_multiple K.ring s q a)
  annihilates t q a E past congruent clear gaps = subst (IsPowerSum k s w) (sym whole)
      (sums-inside (suc t) c (λ i. T.add (f i) (T.neg (E i))) congruent)
    where
      c : ℕ → K.carrier
      c i = coeff K.ring q.coeffs i

      f : ℕ → Coords (polynomials K.ring) s.rank
      f i = z_multiple K.ring s (power (polynomials K.ring) (variable K.ring) i) a

      none : sum_below T (suc t) (λ i. scaled k s (c i) (E i)) ≡ T.zero
      none = part-ext K s _ T.zero (λ l d o. part-sum K s l d o (suc t) c E
          ∙ at l d o (is_reached prime (s.rank * d + s.weight l)) refl
          ∙ sym (part-zero K s l d o))
        where
          at : (l d : ℕ) → l < s.rank → (b : Bool)
              → is_reached prime (s.rank * d + s.weight l) ≡ b
              → sum_below k (suc t) (λ i. K.mul (c i) (part k s l d (E i))) ≡ K.zero
          at l d o false off = gaps l d o off
          at l d o true on = sum-ext k K.laws (suc t) _ (λ i. k.zero)
              (λ i r. ap (K.mul (c i)) (clear i r l d o (omega arith) on)
              ∙ mul_zero k K.laws (c i)) ∙ sum-zero k K.laws (suc t)

      whole : z_multiple k s q a
          ≡ sum_below T (suc t) (λ i. scaled k s (c i) (T.add (f i) (T.neg (E i))))
      whole = ap (λ p. z_multiple k s p a) (by_coefficients t q past)
          ∙ spread K s table (suc t) c a
          ∙ sum-ext T TL (suc t) _ _ (λ i o. ap (scaled k s (c i))
          (ring2 T TL (λ f e. f) (λ f e. (f ⊕ neg e) ⊕ e) refl (f i) (E i))
          ∙ multiple-add K s (poly k (c i ∷ [])) (T.add (f i) (T.neg (E i))) (E i))
          ∙ sum-add T TL (suc t) (λ i. scaled k s (c i) (T.add (f i) (T.neg (E i))))
          (λ i. scaled k s (c i) (E i))
          ∙ ap (T.add _) none ∙ TL.add_zero _

  -- one rest more
  pub congruent-step : (p : Poly K.ring) (b old new : Coords (polynomials K.ring) s.rank)
      (A : ℕ → Poly K.ring)
      → IsPowerSum K.ring s w ((table_ring K.ring s).add b ((table_ring K.ring s).neg old))
      → z_multiple K.ring s p old
      ≡ (table_ring K.ring s).add (power_sum K.ring s w s.rank A) new
      → IsPowerSum K.ring s w ((table_ring K.ring s).add (z_multiple K.ring s p b)
      ((table_ring K.ring s).neg new))
  congruent-step p b old new A h e = subst (IsPowerSum k s w) (sym same)
      (in_add K s table w W weighs prime (z_multiple k s p (T.add b (T.neg old)))
      (power_sum k s w s.rank A)
      (in-multiple K s table w W weighs prime p (T.add b (T.neg old)) h)
      (record { coefficients = A; sum = refl }))
    where
      same : T.add (z_multiple k s p b) (T.neg new)
          ≡ T.add (z_multiple k s p (T.add b (T.neg old))) (power_sum k s w s.rank A)
      same = ap (λ t. T.add t (T.neg new)) (ap (z_multiple k s p)
          (ring2 T TL (λ b o. b) (λ b o. (b ⊕ neg o) ⊕ o) refl b old)
          ∙ multiple-add K s p (T.add b (T.neg old)) old
          ∙ ap (T.add (z_multiple k s p (T.add b (T.neg old)))) e)
          ∙ ring3 T TL (λ m a n. (m ⊕ (a ⊕ n)) ⊕ neg n) (λ m a n. m ⊕ a) refl
          (z_multiple k s p (T.add b (T.neg old))) (power_sum k s w s.rank A) new

  -- a multiple with a rest, and a multiple of the rest that is a sum of powers
  pub larger-inside : (f : Poly K.ring) (a rest : Coords (polynomials K.ring) s.rank)
      (A : ℕ → Poly K.ring) → a ≡ (table_ring K.ring s).add (power_sum K.ring s w s.rank A) rest
      → IsPowerSum K.ring s w (z_multiple K.ring s f rest)
      → IsPowerSum K.ring s w (z_multiple K.ring s f a)
  larger-inside f a rest A e h = subst (IsPowerSum k s w)
      (sym (ap (z_multiple k s f) e ∙ multiple-add K s f (power_sum k s w s.rank A) rest))
      (in_add K s table w W weighs prime _ _
      (in-multiple K s table w W weighs prime f (power_sum k s w s.rank A)
      (record { coefficients = A; sum = refl })) h)
