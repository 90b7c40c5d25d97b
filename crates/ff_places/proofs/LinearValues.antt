-- Values of polynomials with beta + alpha * T in the place of T, and maps of rings on values.
use Rattle.std.proofs.Common.{◌≡◌, ℕ, zero, suc, ◌<◌, List, [], ◌∷◌, refl, sym, ◌∙◌, ap, ap₂, arith}
use Rattle.ff_theory.specs.Ring.{RingOps, IsCommRing}
use Rattle.ff_theory.specs.Lawful.{Field}
use Rattle.ff_theory.specs.Map.{IsMap}
use Rattle.ff_theory.specs.Eval.{eval_list, eval}
use Rattle.ff_theory.specs.Poly.{Poly, poly, polynomials, coeff}
use Rattle.ff_theory.specs.Division.{size}
use Rattle.ff_theory.proofs.Solver.{◌⊕◌, ◌⊗◌, nil, ring3}
use Rattle.ff_theory.proofs.Evaluate.{eval_map, eval-const, at_trim}
use Rattle.ff_theory.proofs.Product.{poly-coeff}
use Rattle.ff_charts.proofs.Rows.{exact_size}
use Rattle.ff_table.proofs.Substitution.{at_zeta}

-- beta + alpha * T
abbrev pub linear_poly : (K : Field) → K.carrier → K.carrier → Poly K.ring
linear_poly K beta alpha = poly K.ring (beta ∷ alpha ∷ [])

pub linear_size : (K : Field) (beta alpha : K.carrier) → ¬ (alpha ≡ K.zero)
    → size K.ring (poly K.ring (beta ∷ alpha ∷ [])) ≡ 2
linear_size K beta alpha n = exact_size K.ring K.laws K.tests (linear_poly K beta alpha) 1
    (λ z. n (sym (poly-coeff K.ring K.laws K.tests (beta ∷ alpha ∷ []) 1) ∙ z)) past
  where
    past : (i : ℕ) → 1 < i → coeff K.ring (linear_poly K beta alpha).coeffs i ≡ K.zero
    past zero l = absurd (omega (arith, l))
    past (suc zero) l = absurd (omega (arith, l))
    past (suc (suc i)) l = poly-coeff K.ring K.laws K.tests (beta ∷ alpha ∷ []) (suc (suc i))

module _ (K : Field) (B : RingOps) (BL : IsCommRing B) (into : K.carrier → B.carrier)
    (map : IsMap K.ring B into) (v : B.carrier) where
  E : IsMap (polynomials K.ring) B (eval K.ring B into v)
  E = eval_map K.ring B K.laws K.tests BL into map v

  pub linear_value : (beta alpha : K.carrier)
      → eval K.ring B into v (poly K.ring (beta ∷ alpha ∷ []))
      ≡ B.add (B.mul (into alpha) v) (into beta)
  unfolding poly eval
  linear_value beta alpha = at_trim K.ring B K.laws K.tests BL into map v (beta ∷ alpha ∷ [])
      ∙ ring3 B BL (λ b a v. b ⊕ v ⊗ (a ⊕ v ⊗ nil)) (λ b a v. a ⊗ v ⊕ b) refl (into beta)
      (into alpha) v

  -- the value at v of p at zeta is that of p at the value of zeta
  pub value_at_zeta : (zeta : Poly K.ring) (linear : size K.ring zeta ≡ 2) (p : Poly K.ring)
      → eval K.ring B into v (at_zeta K zeta linear p)
      ≡ eval K.ring B into (eval K.ring B into v zeta) p
  unfolding eval
  value_at_zeta zeta linear p = lists p.coeffs
    where
      lists : (p : List K.carrier) → eval K.ring B into v
          (eval_list (polynomials K.ring) (λ c. poly K.ring (c ∷ [])) zeta p)
          ≡ eval_list B into (eval K.ring B into v zeta) p
      lists [] = E.on_zero
      lists (s ∷ p) = E.on_add _ _ ∙ ap₂ B.add (eval-const K.ring B K.laws K.tests BL into map v s)
          (E.on_mul zeta _ ∙ ap (B.mul (eval K.ring B into v zeta)) (lists p))

-- a map that keeps sums, products and constants takes values to values
pub value_carried : (K : Field) (A B : RingOps) (from : K.carrier → A.carrier)
    (into : K.carrier → B.carrier) (φ : A.carrier → B.carrier) → φ A.zero ≡ B.zero
    → ((a b : A.carrier) → φ (A.add a b) ≡ B.add (φ a) (φ b))
    → ((a b : A.carrier) → φ (A.mul a b) ≡ B.mul (φ a) (φ b))
    → ((s : K.carrier) → φ (from s) ≡ into s) → (w : A.carrier) (p : Poly K.ring)
    → φ (eval K.ring A from w p) ≡ eval K.ring B into (φ w) p
unfolding eval
value_carried K A B from into φ on_zero on_add on_mul on_constant w p = lists p.coeffs
  where
    lists : (p : List K.carrier) → φ (eval_list A from w p) ≡ eval_list B into (φ w) p
    lists [] = on_zero
    lists (s ∷ p) = on_add _ _ ∙ ap₂ B.add (on_constant s)
        (on_mul w _ ∙ ap (B.mul (φ w)) (lists p))
