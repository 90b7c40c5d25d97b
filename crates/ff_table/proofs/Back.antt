-- Reduction modulo sums of powers is unique; each element times a monic polynomial in z is a sum of
-- powers.
use Rattle.std.proofs.Common.{◌≡◌, ℕ, ◌*◌, ◌≤◌, [], ◌∷◌}
use Rattle.std.proofs.Common.{refl, sym, ◌∙◌, ap, ap₂, subst, arith}
use Rattle.ff_theory.specs.Ring.{RingOps, IsCommRing, power}
use Rattle.ff_theory.specs.Lawful.{Field, Domain}
use Rattle.ff_theory.specs.Sum.{sum_below}
use Rattle.ff_theory.specs.Poly.{Poly, poly, polynomials}
use Rattle.ff_theory.proofs.Solver.{◌⊕◌, ◌⊗◌, neg, nil, unit, ring2, ring3}
use Rattle.ff_theory.proofs.Sums.{sum-ext, sum-add, sum-mul}
use Rattle.ff_theory.proofs.PolyMap.{polynomial_domain}
use Rattle.ff_table.specs.Coords.{Coords}
use Rattle.ff_table.specs.Table.{Table, IsTable, table_ring, Weighs}
use Rattle.ff_table.specs.Level.{z_multiple, scaled}
use Rattle.ff_table.specs.Reduce.{IsClear}
use Rattle.ff_table.specs.Powers.{IsPrimeTo, is_reached, power_sum, IsPowerSum, IsRelation}
use Rattle.ff_table.proofs.TableRing.{table_laws}
use Rattle.ff_table.proofs.Scalars.{part_linear, part-neg, neg-scaled, multiple-add, part-zero}
use Rattle.ff_table.proofs.LinearRelation.{Combination, combination}
use Rattle.ff_table.proofs.Embedding.{embed, embed_map, multiple-embed}
use Rattle.ff_table.proofs.PowerSums.{power_sum-multiple, independent, in_add, in-multiple}
use Rattle.ff_table.proofs.PowerSums.{clear-sum, clear-below}
use Rattle.ff_table.proofs.Relation.{relation}

module _ (K : Field) (s : Table K.ring) (table : IsTable K.ring s)
    (w : Coords (polynomials K.ring) s.rank) (W : ℕ) (weighs : Weighs K.ring s w W)
    (prime : IsPrimeTo s.rank W) where
  abbrev k : RingOps
  k = K.ring

  abbrev P : Domain
  P = polynomial_domain K

  abbrev T : RingOps
  T = table_ring K.ring s

  abbrev C : Type 0
  C = Coords (polynomials K.ring) s.rank

  TL : IsCommRing T
  TL = table_laws K s table

  in-neg : (a : C) → IsPowerSum k s w a → IsPowerSum k s w (T.neg a)
  in-neg a h = subst (IsPowerSum k s w) (neg-scaled K s a)
      (in-multiple K s table w W weighs prime (poly k (K.neg K.one ∷ [])) a h)

  clear-minus : (a b : C) → IsClear k s (is_reached prime) 0 a → IsClear k s (is_reached prime) 0 b
      → IsClear k s (is_reached prime) 0 (T.add a (T.neg b))
  clear-minus a b h g l d q r on = (part_linear K s l d q).on_add a (T.neg b)
      ∙ ap₂ K.add (h l d q r on) (part-neg K s l d q b ∙ ap K.neg (g l d q r on))
      ∙ K.laws.add_neg K.zero

  equal : (a b : C) → T.add a (T.neg b) ≡ T.zero → a ≡ b
  equal a b e = ring2 T TL (λ a b. a) (λ a b. (a ⊕ neg b) ⊕ b) refl a b
      ∙ ap (λ t. T.add t b) e ∙ ring2 T TL (λ a b. nil ⊕ b) (λ a b. b) refl a b

  -- two sums of powers with rests that are zero at the reached weights
  pub rest-unique : (x y a b : Coords (polynomials K.ring) s.rank) → IsPowerSum K.ring s w x
      → IsPowerSum K.ring s w y → IsClear K.ring s (is_reached prime) 0 a
      → IsClear K.ring s (is_reached prime) 0 b
      → (table_ring K.ring s).add x a ≡ (table_ring K.ring s).add y b → a ≡ b
  rest-unique x y a b hx hy ha hb e = equal a b
      (clear-sum K s table w W weighs prime (T.add a (T.neg b))
      (subst (IsPowerSum k s w) (sym difference)
      (in_add K s table w W weighs prime y (T.neg x) hy (in-neg x hx)))
      (clear-minus a b ha hb))
    where
      difference : T.add a (T.neg b) ≡ T.add y (T.neg x)
      difference = ring3 T TL (λ x a b. a ⊕ neg b) (λ x a b. ((x ⊕ a) ⊕ neg x) ⊕ neg b) refl x a b
          ∙ ap (λ t. T.add (T.add t (T.neg x)) (T.neg b)) e
          ∙ ring3 T TL (λ x y b. ((y ⊕ b) ⊕ neg x) ⊕ neg b) (λ x y b. y ⊕ neg x) refl x y b

  -- the rest of a sum of powers is zero
  pub rest-zero : (a : Coords (polynomials K.ring) s.rank) → IsPowerSum K.ring s w a
      → (x rest : Coords (polynomials K.ring) s.rank) → IsPowerSum K.ring s w x
      → IsClear K.ring s (is_reached prime) 0 rest
      → a ≡ (table_ring K.ring s).add x rest → rest ≡ (table_ring K.ring s).zero
  rest-zero a h x rest hx clear e = rest-unique x a rest T.zero hx h clear
      (λ l d q r on. part-zero K s l d q) (sym e ∙ sym (TL.add_zero a))

  -- so reduction of w^e finds the relation
  pub power-sum : IsPowerSum K.ring s w (power (table_ring K.ring s) w s.rank)
  power-sum = record {
    coefficients = λ j. P.mul (P.neg P.one) (r.0 j);
    sum = ring2 T TL (λ a b. a) (λ a b. (a ⊕ b) ⊕ neg unit ⊗ b) refl (power T w s.rank)
        (power_sum k s w s.rank r.0)
        ∙ ap (λ t. T.add t (T.mul (T.neg T.one) (power_sum k s w s.rank r.0))) r.1.vanishes
        ∙ ring2 T TL (λ a b. nil ⊕ a ⊗ b) (λ a b. a ⊗ b) refl (T.neg T.one)
        (power_sum k s w s.rank r.0)
        ∙ ap (λ t. T.mul t (power_sum k s w s.rank r.0)) minus
        ∙ sym (multiple-embed K s table (P.neg P.one) (power_sum k s w s.rank r.0))
        ∙ sym (power_sum-multiple K s table w s.rank (P.neg P.one) r.0);
  }
    where
      r : (r : ℕ → Poly K.ring) × IsRelation K.ring s w r
      r = relation K s table w W weighs prime

      minus : T.neg T.one ≡ embed K s table (P.neg P.one)
      minus = ap T.neg (sym (embed_map K s table).on_one) ∙ sym ((embed_map K s table).on_neg P.one)

  pub relation_of_sum : (n : ℕ → Poly K.ring)
      → power (table_ring K.ring s) w s.rank ≡ power_sum K.ring s w s.rank n
      → IsRelation K.ring s w (λ j. (polynomials K.ring).neg (n j))
  relation_of_sum n e = record {
    vanishes = ap₂ T.add e negated ∙ TL.add_neg (power_sum k s w s.rank n);
    least = independent K s table w W weighs prime;
  }
    where
      negated : power_sum k s w s.rank (λ j. P.neg (n j)) ≡ T.neg (power_sum k s w s.rank n)
      negated = sum-ext T TL s.rank _ _ (λ j l.
          multiple-embed K s table (P.neg (n j)) (power T w j)
          ∙ ap (λ t. T.mul t (power T w j)) ((embed_map K s table).on_neg (n j))
          ∙ ring2 T TL (λ a b. neg a ⊗ b) (λ a b. neg unit ⊗ (a ⊗ b)) refl
          (embed K s table (n j)) (power T w j)
          ∙ ap (T.mul (T.neg T.one)) (sym (multiple-embed K s table (n j) (power T w j))))
          ∙ sum-mul T TL s.rank (T.neg T.one) (λ j. z_multiple k s (n j) (power T w j))
          ∙ ring2 T TL (λ a b. neg unit ⊗ a) (λ a b. neg a) refl (power_sum k s w s.rank n) T.one

  -- for some t at most e * W the rest number t is a combination of those before it
  pub rests_depend : (rest : ℕ → Coords (polynomials K.ring) s.rank)
      → ((i : ℕ) → IsClear K.ring s (is_reached prime) 0 (rest i))
      → Combination K s table rest (s.rank * W)
  rests_depend rest clear = combination K s table (s.rank * W) rest
      (λ i l. clear-below K s table w W weighs prime (rest i) (clear i))

  -- element t less a combination of those before it, where the rests are such a combination
  pub without_rests : (t : ℕ) (x : ℕ → K.carrier)
      (f sums rest : ℕ → Coords (polynomials K.ring) s.rank)
      → ((i : ℕ) → i ≤ t → f i ≡ (table_ring K.ring s).add (sums i) (rest i))
      → rest t ≡ sum_below (table_ring K.ring s) t (λ i. scaled K.ring s (x i) (rest i))
      → (table_ring K.ring s).add (f t) ((table_ring K.ring s).neg
      (sum_below (table_ring K.ring s) t (λ i. scaled K.ring s (x i) (f i))))
      ≡ (table_ring K.ring s).add (sums t) ((table_ring K.ring s).neg
      (sum_below (table_ring K.ring s) t (λ i. scaled K.ring s (x i) (sums i))))
  without_rests t x f sums rest split e =
      ap₂ (λ a b. T.add a (T.neg b)) (split t (omega arith) ∙ ap (T.add (sums t)) e)
      (sum-ext T TL t _ _ (λ i l. ap (scaled k s (x i)) (split i (omega arith))
      ∙ multiple-add K s (poly k (x i ∷ [])) (sums i) (rest i))
      ∙ sum-add T TL t (λ i. scaled k s (x i) (sums i)) (λ i. scaled k s (x i) (rest i)))
      ∙ ring3 T TL (λ a b r. (a ⊕ r) ⊕ neg (b ⊕ r)) (λ a b r. a ⊕ neg b) refl (sums t)
      (sum_below T t (λ i. scaled k s (x i) (sums i)))
      (sum_below T t (λ i. scaled k s (x i) (rest i)))
