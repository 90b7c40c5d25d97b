-- Only constants are roots of polynomials over k that are not 0, in a field with the spaces of one
-- of its points.
use Rattle.std.proofs.Common.{◌≡◌, ℕ, zero, suc, ◌⊎◌, inl, inr, Bool, true}
use Rattle.std.proofs.Common.{false, List, [], ◌∷◌, length, refl, sym, ◌∙◌, ap, subst, arith}
use Rattle.ff_theory.specs.Ring.{power}
use Rattle.ff_theory.specs.Lawful.{Domain, Field}
use Rattle.ff_theory.specs.Map.{IsMap}
use Rattle.ff_theory.specs.Eval.{eval_list, eval}
use Rattle.ff_theory.specs.Poly.{Poly, polynomials, coeff}
use Rattle.ff_theory.specs.Division.{size}
use Rattle.ff_theory.proofs.Solver.{◌⊕◌, ◌⊗◌, neg, nil, unit, ring1, ring2, ring6}
use Rattle.ff_theory.proofs.PolyMap.{polynomial_domain, nonzero_size}
use Rattle.ff_theory.proofs.Division.{top_nonzero}
use Rattle.ff_theory.proofs.Dependence.{differs}
use Rattle.ff_theory.proofs.Domains.{no_divisors, field_domain}
use Rattle.ff_table.proofs.Substitution.{at_zeta, at_zeta-size}
use Rattle.ff_places.proofs.FieldSpaces.{FieldSpaces}
use Rattle.ff_places.proofs.Regular.{AtLeast, HasPole, at_least_mul, at_least_add, constant_regular}
use Rattle.ff_places.proofs.Regular.{regular, regular_or_pole, zero_at_least, value_at}
use Rattle.ff_places.proofs.Values.{vanishing_constant, HasValue}
use Rattle.ff_places.proofs.ChartOrders.{list_regular}
use Rattle.ff_places.proofs.LinearValues.{linear_poly, linear_size, linear_value, value_at_zeta}
use Rattle.ff_places.proofs.RegularCharts.{pole_inverse, pole_proper}

module _ {K : Field} (S : FieldSpaces K) where
  infixl 60 ◌⊞◌
  infixl 70 ◌*◌
  open S use {add as ◌⊞◌, mul as ◌*◌, neg as minus}

  abbrev P : Domain
  P = polynomial_domain K

  abbrev M : IsMap K.ring S.ring S.constant
  M = S.spaces.constants

  minus_one : AtLeast S 0 (minus S.one)
  minus_one = subst (AtLeast S 0) (M.on_neg K.one ∙ ap minus M.on_one)
      (constant_regular S (K.neg K.one))

  negative : (a : S.carrier) → AtLeast S 1 a → AtLeast S 1 (minus a)
  negative a h = subst (AtLeast S 1) (ring1 S.ring S.laws (λ a. neg unit ⊗ a) (λ a. neg a) refl a)
      (at_least_mul S 0 1 _ a minus_one h)

  power_small : (t : S.carrier) → AtLeast S 1 t → (n : ℕ) → AtLeast S 1 (t * power S.ring t n)
  power_small t h zero = subst (AtLeast S 1) (sym (S.laws.mul_one t)) h
  power_small t h (suc n) = at_least_mul S 1 0 _ _ h (regular S _ (power_small t h n))

  -- a relation of the powers of an element that vanishes and is not 0 has zeros alone
  only_zeros : (v : S.carrier) → AtLeast S 1 v → ¬ (v ≡ S.zero) → (p : List K.carrier)
      → eval_list S.ring S.constant v p ≡ S.zero → (i : ℕ) → coeff K.ring p i ≡ K.zero
  only_zeros v small nv [] e = λ i. refl
  only_zeros v small nv (s ∷ p) e = go (only_zeros v small nv p rest)
    where
      value : S.carrier
      value = eval_list S.ring S.constant v p

      whole : AtLeast S 0 value
      whole = list_regular S S.constant (constant_regular S) v
          (regular S v small) p

      first : s ≡ K.zero
      first = vanishing_constant S s (subst (AtLeast S 1) (ring2 S.ring S.laws
          (λ s y. neg y) (λ s y. s ⊕ neg (s ⊕ y)) refl (S.constant s) (v * value)
          ∙ ap (λ t. S.constant s ⊞ minus t) e
          ∙ ring1 S.ring S.laws (λ s. s ⊕ neg nil) (λ s. s) refl (S.constant s))
          (negative (v * value) (at_least_mul S 1 0 v value small whole)))

      rest : value ≡ S.zero
      rest = no_divisors (field_domain S.field) value v (S.laws.mul_comm value v
          ∙ ring1 S.ring S.laws (λ y. y) (λ y. nil ⊕ y) refl (v * value)
          ∙ ap (λ t. t ⊞ v * value) (sym (ap S.constant first ∙ M.on_zero)) ∙ e) nv

      go : ((i : ℕ) → coeff K.ring p i ≡ K.zero) → (i : ℕ) → coeff K.ring (s ∷ p) i ≡ K.zero
      go h zero = first
      go h (suc i) = h i

  -- t^n times the value at w is the leading coefficient up to what vanishes, where t = 1/w does
  leading : (t w : S.carrier) → AtLeast S 1 t → t * w ≡ S.one → (n : ℕ) (p : List K.carrier)
      → length p ≡ suc n → AtLeast S 1 (power S.ring t n * eval_list S.ring S.constant w p
      ⊞ minus (S.constant (coeff K.ring p n)))
  leading t w small inverse n [] len = absurd (let z : 0 ≡ suc n = len in cc)
  leading t w small inverse zero (s ∷ []) len = subst (AtLeast S 1)
      (ring2 S.ring S.laws (λ s w. nil) (λ s w. unit ⊗ (s ⊕ w ⊗ nil) ⊕ neg s) refl (S.constant s) w)
      (zero_at_least S 1)
  leading t w small inverse zero (s ∷ r ∷ p) len = absurd
      (let z : suc (suc (length p)) ≡ 1 = len in omega (arith, z))
  leading t w small inverse (suc n) (s ∷ p) len = subst (AtLeast S 1) (sym parts)
      (at_least_add S 1 _ _ (at_least_mul S 1 0 _ _ (power_small t small n) (constant_regular S s))
      (leading t w small inverse n p (omega (arith, len))))
    where
      value : S.carrier
      value = eval_list S.ring S.constant w p

      parts : (t * power S.ring t n) * (S.constant s ⊞ w * value)
          ⊞ minus (S.constant (coeff K.ring p n))
          ≡ (t * power S.ring t n) * S.constant s
          ⊞ (power S.ring t n * value ⊞ minus (S.constant (coeff K.ring p n)))
      parts = ring6 S.ring S.laws (λ t p s w v c. (t ⊗ p) ⊗ (s ⊕ w ⊗ v) ⊕ neg c)
          (λ t p s w v c. (t ⊗ p) ⊗ s ⊕ ((t ⊗ w) ⊗ (p ⊗ v) ⊕ neg c)) refl t (power S.ring t n)
          (S.constant s) w value (S.constant (coeff K.ring p n))
          ∙ ap (λ o. (t * power S.ring t n) * S.constant s
          ⊞ (o * (power S.ring t n * value) ⊞ minus (S.constant (coeff K.ring p n)))) inverse
          ∙ ap (λ o. (t * power S.ring t n) * S.constant s
          ⊞ (o ⊞ minus (S.constant (coeff K.ring p n))))
          (ring1 S.ring S.laws (λ v. unit ⊗ v) (λ v. v) refl (power S.ring t n * value))

  pub algebraic_constant : (w : S.carrier) (p : Poly K.ring)
      → (polynomials K.ring).same p (polynomials K.ring).zero ≡ false
      → eval K.ring S.ring S.constant w p ≡ S.zero → (c : K.carrier) × (w ≡ S.constant c)
  unfolding eval
  algebraic_constant w p np e = go (regular_or_pole S w)
    where
      n : (d : ℕ) × (size K.ring p ≡ suc d)
      n = nonzero_size K p np

      top : ¬ (coeff K.ring p.coeffs n.0 ≡ K.zero)
      top = top_nonzero K.ring K.laws K.tests p n.0 n.1

      go : AtLeast S 0 w ⊎ HasPole S w → (c : K.carrier) × (w ≡ S.constant c)
      go (inr h) = absurd (top (vanishing_constant S _ (subst (AtLeast S 1) (ring2 S.ring S.laws
          (λ t c. neg (t ⊗ nil ⊕ neg c)) (λ t c. c) refl (power S.ring (S.inverse w) n.0)
          (S.constant (coeff K.ring p.coeffs n.0)))
          (negative _ (subst (λ y. AtLeast S 1 (power S.ring (S.inverse w) n.0 * y
          ⊞ minus (S.constant (coeff K.ring p.coeffs n.0)))) e
          (leading (S.inverse w) w (pole_inverse S w h (pole_proper S w h))
          (S.laws.mul_comm _ _ ∙ S.is_field.mul_inverse w (pole_proper S w h)) n.0 p.coeffs
          n.1))))))
      go (inl r) = pick (S.same v S.zero) refl
        where
          c : (c : K.carrier) × HasValue S w c
          c = value_at S w r

          v : S.carrier
          v = w ⊞ minus (S.constant c.0)

          pick : (b : Bool) → S.same v S.zero ≡ b → (c : K.carrier) × (w ≡ S.constant c)
          pick true z = (
            c.0,
            ring2 S.ring S.laws (λ w c. w) (λ w c. (w ⊕ neg c) ⊕ c) refl w
                (S.constant c.0) ∙ ap (λ t. t ⊞ S.constant c.0) (S.tests.same_true v S.zero z)
                ∙ ring1 S.ring S.laws (λ c. nil ⊕ c) (λ c. c) refl (S.constant c.0),
          )
          pick false z = absurd
              (top_nonzero K.ring K.laws K.tests q n.0 (at_zeta-size K zeta linear p
              n.0 n.1) (only_zeros v c.1 (differs S.ring S.laws S.tests v z) q.coeffs shifted n.0))
            where
              zeta : Poly K.ring
              zeta = linear_poly K c.0 K.one

              linear : size K.ring (linear_poly K c.0 K.one) ≡ 2
              linear = linear_size K c.0 K.one K.is_field.one_not_zero

              q : Poly K.ring
              q = at_zeta K (linear_poly K c.0 K.one) linear p

              shifted : eval_list S.ring S.constant v q.coeffs ≡ S.zero
              shifted = value_at_zeta K S.ring S.laws S.constant M v
                  (linear_poly K c.0 K.one) linear p
                  ∙ ap (λ y. eval K.ring S.ring S.constant y p)
                  (linear_value K S.ring S.laws S.constant M v c.0 K.one
                  ∙ ap (λ o. o * v ⊞ S.constant c.0) M.on_one
                  ∙ ring2 S.ring S.laws (λ w c. unit ⊗ (w ⊕ neg c) ⊕ c) (λ w c. w) refl w
                  (S.constant c.0)) ∙ e
