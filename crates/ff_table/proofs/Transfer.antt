-- Relations between z and an element w whose weight is prime to e hold at each root of the relation
-- of w, in any ring.
use Rattle.std.proofs.Common.{◌≡◌, ℕ, suc, ◌+◌, ◌-◌, ◌<◌, ◌≤◌, ◌⊎◌, inl, inr, refl, sym}
use Rattle.std.proofs.Common.{[], ◌∷◌, ◌∙◌, ap, ap₂, arith}
use Rattle.std.proofs.lemmas.Bool.{cases_lt}
use Rattle.ff_theory.specs.Ring.{RingOps, IsCommRing, power}
use Rattle.ff_theory.specs.Lawful.{Field, Domain}
use Rattle.ff_theory.specs.Map.{IsMap}
use Rattle.ff_theory.specs.Sum.{sum_below}
use Rattle.ff_theory.specs.Poly.{coeff, Poly, poly, polynomials}
use Rattle.ff_theory.specs.Eval.{eval}
use Rattle.ff_theory.specs.Division.{size}
use Rattle.ff_theory.specs.Monomial.{variable}
use Rattle.ff_theory.specs.Planes.{planes, Plane}
use Rattle.ff_theory.proofs.Solver.{◌⊕◌, ◌⊗◌, neg, nil, unit, ring1, ring2, mul_zero}
use Rattle.ff_theory.proofs.Poly.{Poly_ext, trim-coeff, polynomial_laws}
use Rattle.ff_theory.proofs.Division.{add_at, zero_from}
use Rattle.ff_theory.proofs.Evaluate.{at_trim, eval_map}
use Rattle.ff_theory.proofs.FrobeniusPoly.{map-power}
use Rattle.ff_theory.proofs.PolyMap.{polynomial_domain, not_same}
use Rattle.ff_charts.proofs.Rows.{polynomial_of, polynomial_past, exact_size, value_of_listed}
use Rattle.ff_charts.proofs.MonicDivision.{Divided, monic_divide}
use Rattle.ff_table.specs.Coords.{Coords}
use Rattle.ff_table.specs.Table.{Table, IsTable, table_ring, Weighs}
use Rattle.ff_table.specs.Powers.{IsPrimeTo, IsRelation}
use Rattle.ff_table.proofs.TableRing.{table_laws}
use Rattle.ff_table.proofs.Scalars.{zero-coeff}
use Rattle.ff_table.proofs.PowerSums.{independent}
use Rattle.ff_table.proofs.PowerValues.{at_w, at_w-map, at_w-sum, at_w-listed, at_w-power}
use Rattle.ff_table.proofs.Relation.{power-at}

module _ (K : Field) (s : Table K.ring) (table : IsTable K.ring s)
    (w : Coords (polynomials K.ring) s.rank) (W : ℕ) (weighs : Weighs K.ring s w W)
    (prime : IsPrimeTo s.rank W) (r : ℕ → Poly K.ring) (relation : IsRelation K.ring s w r)
    (R : RingOps) (laws : IsCommRing R) (h : Poly K.ring → R.carrier)
    (h_map : IsMap (polynomials K.ring) R h) (rho : R.carrier) where
  abbrev P : Domain
  P = polynomial_domain K

  abbrev T : RingOps
  T = table_ring K.ring s

  abbrev Q : RingOps
  Q = planes K

  abbrev e : ℕ
  e = s.rank

  TL : IsCommRing T
  TL = table_laws K s table

  QL : IsCommRing (planes K)
  QL = polynomial_laws P.ring P.laws P.tests

  abbrev X : Plane K
  X = variable (polynomials K.ring)

  -- the value of a polynomial over k[z] at rho
  abbrev pub at_rho : Plane K → R.carrier
  at_rho F = eval (polynomials K.ring) R h rho F

  pub at_rho-map : IsMap (planes K) R at_rho
  at_rho-map = eval_map P.ring R P.laws P.tests laws h h_map rho

  pub at_rho-variable : at_rho (variable (polynomials K.ring)) ≡ rho
  unfolding poly eval
  at_rho-variable = at_trim P.ring R P.laws P.tests laws h h_map rho (P.zero ∷ P.one ∷ [])
      ∙ ap₂ (λ a b. R.add a (R.mul rho (R.add b (R.mul rho R.zero)))) h_map.on_zero h_map.on_one
      ∙ ring1 R laws (λ w. nil ⊕ w ⊗ (unit ⊕ w ⊗ nil)) (λ w. w) refl rho

  pub at_rho-listed : (n : ℕ) (A : ℕ → Poly K.ring)
      → at_rho (polynomial_of (polynomials K.ring) (polynomial_domain K).laws
      (polynomial_domain K).tests n A)
      ≡ sum_below R n (λ j. R.mul (h (A j)) (power R rho j))
  at_rho-listed n A = value_of_listed P.ring P.laws P.tests R laws h h_map.on_zero rho n A

  -- the polynomial of the relation
  F : Plane K
  F = Q.add (Q.mul (power Q X e) Q.one) (polynomial_of P.ring P.laws P.tests e r)

  F-at : (i : ℕ) → coeff P.ring F.coeffs (e + i) ≡ coeff P.ring Q.one.coeffs i
  unfolding F
  F-at i = add_at P.ring P.laws P.tests (Q.mul (power Q X e) Q.one)
      (polynomial_of P.ring P.laws P.tests e r) (e + i)
      ∙ ap₂ P.add (power-at K s table w W weighs prime e Q.one i)
      (polynomial_past P.ring P.laws P.tests e r (e + i) (omega arith))
      ∙ P.laws.add_zero _

  F-monic : coeff P.ring F.coeffs e ≡ P.one
  unfolding poly
  F-monic = let z : e ≡ e + 0 = omega arith in ap (coeff P.ring F.coeffs) z ∙ F-at 0
      ∙ trim-coeff P.ring P.laws P.tests (P.one ∷ []) 0

  F-past : (i : ℕ) → e < i → coeff P.ring F.coeffs i ≡ P.zero
  unfolding poly
  F-past i l = let z : i ≡ e + suc (i - suc e) = omega (arith, l) in
      ap (coeff P.ring F.coeffs) z ∙ F-at (suc (i - suc e))
      ∙ trim-coeff P.ring P.laws P.tests (P.one ∷ []) (suc (i - suc e))

  F-size : size P.ring F ≡ suc e
  F-size = exact_size P.ring P.laws P.tests F e
      (λ z. not_same P.ring P.tests P.one P.zero P.proper (sym F-monic ∙ z)) F-past

  F-zero : at_w K s table w W weighs prime F ≡ T.zero
  unfolding F
  F-zero = map.on_add (Q.mul (power Q X e) Q.one) (polynomial_of P.ring P.laws P.tests e r)
      ∙ ap₂ T.add (map.on_mul (power Q X e) Q.one
      ∙ ap₂ T.mul (at_w-power K s table w W weighs prime e) map.on_one ∙ TL.mul_one _)
      (at_w-listed K s table w W weighs prime e r) ∙ relation.vanishes
    where
      map : IsMap (planes K) T (at_w K s table w W weighs prime)
      map = at_w-map K s table w W weighs prime

  module _ (root : R.add (power R rho s.rank)
      (sum_below R s.rank (λ j. R.mul (h (r j)) (power R rho j))) ≡ R.zero) where
    F-root : at_rho F ≡ R.zero
    unfolding F
    F-root = at_rho-map.on_add (Q.mul (power Q X e) Q.one) (polynomial_of P.ring P.laws P.tests e r)
        ∙ ap₂ R.add (at_rho-map.on_mul (power Q X e) Q.one
        ∙ ap₂ R.mul (map-power Q R at_rho at_rho-map X e ∙ ap (λ t. power R t e) at_rho-variable)
        at_rho-map.on_one ∙ laws.mul_one _)
        (at_rho-listed e r) ∙ root

    -- what is zero at w is zero at rho
    pub transfer : (A : Plane K)
        → at_w K s table w W weighs prime A ≡ (table_ring K.ring s).zero → at_rho A ≡ R.zero
    transfer A vanish = ap at_rho d.sum ∙ at_rho-map.on_add (Q.mul d.q F) d.r
        ∙ ap₂ R.add (at_rho-map.on_mul d.q F ∙ ap (R.mul (at_rho d.q)) F-root
        ∙ mul_zero R laws (at_rho d.q)) (ap at_rho rest-zero ∙ at_rho-map.on_zero)
        ∙ laws.add_zero R.zero
      where
        d : Divided P.ring P.laws P.tests F e F-size F-monic A
        d = monic_divide P.ring P.laws P.tests F e F-size F-monic A

        map : IsMap (planes K) T (at_w K s table w W weighs prime)
        map = at_w-map K s table w W weighs prime

        value : Plane K → T.carrier
        value G = at_w K s table w W weighs prime G

        rest-value : at_w K s table w W weighs prime d.r ≡ T.zero
        rest-value = ring2 T TL (λ r q. r) (λ r q. q ⊗ nil ⊕ r) refl
            (at_w K s table w W weighs prime d.r) (at_w K s table w W weighs prime d.q)
            ∙ ap (λ t. T.add (T.mul (at_w K s table w W weighs prime d.q) t)
            (at_w K s table w W weighs prime d.r)) (sym F-zero)
            ∙ ap (λ t. T.add t (at_w K s table w W weighs prime d.r)) (sym (map.on_mul d.q F))
            ∙ sym (map.on_add (Q.mul d.q F) d.r)
            ∙ ap (at_w K s table w W weighs prime) (sym d.sum) ∙ vanish

        rest-zero : d.r ≡ Q.zero
        rest-zero = Poly_ext P.ring P.laws P.tests d.r Q.zero
            (λ i. each i (cases_lt i e) ∙ sym (zero-coeff P.ring i))
          where
            each : (i : ℕ) → (i < e) ⊎ (e ≤ i) → coeff P.ring d.r.coeffs i ≡ P.zero
            each i (inl l) = independent K s table w W weighs prime (coeff P.ring d.r.coeffs)
                (sym (at_w-sum K s table w W weighs prime d.r e d.small) ∙ rest-value) i l
            each i (inr l) = zero_from P.ring P.laws P.tests d.r i (omega (arith, l, d.small))

    -- and what is equal at w is equal at rho
    pub transfer-equal : (A B : Plane K) → at_w K s table w W weighs prime A
        ≡ at_w K s table w W weighs prime B → at_rho A ≡ at_rho B
    transfer-equal A B e = ring2 R laws (λ x y. x) (λ x y. (x ⊕ neg y) ⊕ y) refl (at_rho A)
        (at_rho B)
        ∙ ap (λ t. R.add t (at_rho B)) (ap (R.add (at_rho A)) (sym (at_rho-map.on_neg B))
        ∙ sym (at_rho-map.on_add A (Q.neg B)) ∙ transfer (Q.add A (Q.neg B)) (map.on_add A (Q.neg B)
        ∙ ap₂ T.add e (map.on_neg B) ∙ TL.add_neg (at_w K s table w W weighs prime B)))
        ∙ ring1 R laws (λ y. nil ⊕ y) (λ y. y) refl (at_rho B)
      where
        map : IsMap (planes K) T (at_w K s table w W weighs prime)
        map = at_w-map K s table w W weighs prime
