-- A chart whose u has a value at the point: its units have inverses that are regular there, theta
-- is regular, and so is each element that is integral over the chart.
use Rattle.std.proofs.Common.{◌≡◌, ℕ, zero, suc, ◌⊎◌, inl, inr, List, [], ◌∷◌, length, refl}
use Rattle.std.proofs.Common.{sym, ◌∙◌, ap, ap₂, subst, arith}
use Rattle.ff_theory.specs.Ring.{power}
use Rattle.ff_theory.specs.Lawful.{Field}
use Rattle.ff_theory.specs.Map.{IsMap}
use Rattle.ff_theory.specs.Divides.{IsCoprime}
use Rattle.ff_theory.specs.Eval.{eval_list, eval}
use Rattle.ff_theory.specs.Poly.{Poly, polynomials, coeff}
use Rattle.ff_theory.proofs.Solver.{◌⊕◌, ◌⊗◌, neg, nil, unit, ring1, ring2, ring3, ring4, ring6}
use Rattle.ff_charts.specs.Chart.{Chart, IsChart, IsIntegral, at_u}
use Rattle.ff_charts.proofs.Chart.{at_u_map}
use Rattle.ff_local.specs.ChartOrder.{root_at}
use Rattle.ff_local.proofs.Quotients.{root_value}
use Rattle.ff_places.proofs.FieldSpaces.{FieldSpaces, Less, Has}
use Rattle.ff_places.proofs.Regular.{AtLeast, HasPole, at_least_mul, at_least_add, constant_regular}
use Rattle.ff_places.proofs.Regular.{regular, regular_or_pole, zero_at_least, order_proper}
use Rattle.ff_places.proofs.Values.{HasValue, one_value, value_regular}
use Rattle.ff_places.proofs.Values.{value_constant}
use Rattle.ff_places.proofs.ChartOrders.{at_u_proper, list_regular, integral_regular}

module _ {K : Field} (S : FieldSpaces K) where
  infixl 60 ◌⊞◌
  infixl 70 ◌*◌
  open S use {add as ◌⊞◌, mul as ◌*◌, neg as minus}

  -- the inverse of an element with a pole vanishes
  pub pole_inverse : (b : S.carrier) → HasPole S b → ¬ (b ≡ S.zero) → AtLeast S 1 (S.inverse b)
  pole_inverse b p nb = go p.order p.has p.less
    where
      turned : S.inverse b * p.num ≡ p.den
      turned = ap (S.mul (S.inverse b)) (sym p.fraction)
          ∙ ring3 S.ring S.laws (λ i b d. i ⊗ (b ⊗ d)) (λ i b d. (b ⊗ i) ⊗ d) refl (S.inverse b) b
          p.den ∙ ap (λ t. t * p.den) (S.is_field.mul_inverse b nb)
          ∙ ring1 S.ring S.laws (λ d. unit ⊗ d) (λ d. d) refl p.den

      go : (n : ℕ) → Has S n p.num → Less S n p.den → AtLeast S 1 (S.inverse b)
      go zero h l = absurd (p.proper l)
      go (suc n) h l = record {
        num = p.den;
        den = p.num;
        low = n;
        order = suc n;
        in_num = l;
        has = h;
        room = omega arith;
        fraction = turned;
      }

  -- an element with a pole is not 0
  pub pole_proper : (b : S.carrier) → HasPole S b → ¬ (b ≡ S.zero)
  pole_proper b p e = order_proper S p.order p.num p.has (sym p.fraction
      ∙ ap (λ t. t * p.den) e ∙ ring1 S.ring S.laws (λ d. nil ⊗ d) (λ d. nil) refl p.den)

  one_not_vanishing : ¬ (AtLeast S 1 S.one)
  one_not_vanishing h = K.is_field.one_not_zero (one_value S S.one K.one K.zero
      (subst (λ (t : S.carrier). HasValue S t K.one) S.spaces.constants.on_one
      (value_constant S K.one)) (subst (AtLeast S 1)
      (ring1 S.ring S.laws (λ a. a) (λ a. a ⊕ neg nil) refl S.one
      ∙ ap (λ t. S.one ⊞ minus t) (sym S.spaces.constants.on_zero)) h))

  -- an element whose product with a regular one is 1, up to what vanishes, has a regular inverse
  pub inverse_regular : (a b : S.carrier) → AtLeast S 0 a → AtLeast S 0 b → ¬ (a ≡ S.zero)
      → AtLeast S 1 (S.add (S.mul a b) (S.neg S.one)) → AtLeast S 0 (S.inverse a)
  inverse_regular a b g h na near = go (regular_or_pole S (S.inverse a))
    where
      go : AtLeast S 0 (S.inverse a) ⊎ HasPole S (S.inverse a) → AtLeast S 0 (S.inverse a)
      go (inl r) = r
      go (inr p) = absurd (one_not_vanishing (subst (AtLeast S 1)
          (ring2 S.ring S.laws (λ a b. a ⊗ b ⊕ neg unit ⊗ (a ⊗ b ⊕ neg unit))
          (λ a b. unit) refl a b)
          (at_least_add S 1 _ _ (at_least_mul S 1 0 a b small h) (at_least_mul S 0 1 _ _ minus_one
          near))))
        where
          minus_one : AtLeast S 0 (minus S.one)
          minus_one = subst (AtLeast S 0) (S.spaces.constants.on_neg K.one
              ∙ ap minus S.spaces.constants.on_one) (constant_regular S (K.neg K.one))

          back : S.inverse (S.inverse a) ≡ a
          back = ring1 S.ring S.laws (λ i. i) (λ i. unit ⊗ i) refl (S.inverse (S.inverse a))
              ∙ ap (λ t. t * S.inverse (S.inverse a)) (sym (S.is_field.mul_inverse a na))
              ∙ S.laws.mul_assoc a (S.inverse a) (S.inverse (S.inverse a))
              ∙ ap (S.mul a) (S.is_field.mul_inverse (S.inverse a) (pole_proper (S.inverse a) p))
              ∙ S.laws.mul_one a

          small : AtLeast S 1 a
          small = subst (AtLeast S 1) back (pole_inverse (S.inverse a) p
              (pole_proper (S.inverse a) p))

module _ {K : Field} (S : FieldSpaces K) (c : Chart K.ring S.ring) (l : IsChart K.ring S.ring c)
    (same : c.constant ≡ S.constant) (a : K.carrier) (modulus : c.IsModulus (root_at K.ring a))
    (at : HasValue S c.u a) where
  infixl 60 ◌⊞◌
  infixl 70 ◌*◌
  open S use {add as ◌⊞◌, mul as ◌*◌, neg as minus}

  U : IsMap (polynomials K.ring) S.ring (at_u c)
  U = at_u_map K S.ring S.laws c l

  constants : (s : K.carrier) → AtLeast S 0 (c.constant s)
  constants s = subst (λ (g : K.carrier → S.carrier). AtLeast S 0 (g s)) (sym same)
      (constant_regular S s)

  polynomial : (h : Poly K.ring) → AtLeast S 0 (at_u c h)
  unfolding eval
  polynomial h = list_regular S c.constant constants c.u (value_regular S c.u a at) h.coeffs

  root_vanishes : AtLeast S 1 (at_u c (root_at K.ring a))
  root_vanishes = subst (AtLeast S 1) (sym (root_value K S.ring S.laws c l a
      ∙ S.laws.add_comm _ _ ∙ ap (λ t. c.u ⊞ t) (l.constants.on_neg a
      ∙ ap (λ (g : K.carrier → S.carrier). minus (g a)) same))) at

  -- units have regular inverses
  pub units_regular : (s : Poly K.ring) → c.IsUnit s → AtLeast S 0 (S.inverse (at_u c s))
  units_regular s h = inverse_regular S (at_u c s) (at_u c k.u) (polynomial s) (polynomial k.u)
      (at_u_proper K S.field c l s (l.unit_nonzero s h)) (subst (AtLeast S 1) near
      (at_least_mul S 0 1 _ _ (constant_regular S (K.neg K.one))
      (at_least_mul S 0 1 _ _ (polynomial k.v) root_vanishes)))
    where
      k : IsCoprime (polynomials K.ring) s (root_at K.ring a)
      k = l.coprime s (root_at K.ring a) h modulus

      near : S.constant (K.neg K.one) * (at_u c k.v * at_u c (root_at K.ring a))
          ≡ at_u c s * at_u c k.u ⊞ minus S.one
      near = ap (λ t. t * (at_u c k.v * at_u c (root_at K.ring a)))
          (S.spaces.constants.on_neg K.one ∙ ap minus S.spaces.constants.on_one)
          ∙ ring4 S.ring S.laws (λ s u v r. neg unit ⊗ (v ⊗ r))
          (λ s u v r. s ⊗ u ⊕ neg (u ⊗ s ⊕ v ⊗ r)) refl (at_u c s) (at_u c k.u) (at_u c k.v)
          (at_u c (root_at K.ring a))
          ∙ ap (λ t. at_u c s * at_u c k.u ⊞ minus t)
          (ap₂ S.add (sym (U.on_mul k.u s)) (sym (U.on_mul k.v (root_at K.ring a)))
          ∙ sym (U.on_add _ _) ∙ ap (at_u c) k.one ∙ U.on_one)

  powers : (t : S.carrier) → AtLeast S 1 t → (i : ℕ) → AtLeast S 0 (power S.ring t i)
  powers t small zero = subst (AtLeast S 0) S.spaces.constants.on_one (constant_regular S K.one)
  powers t small (suc i) = regular S _ (at_least_mul S 1 0 _ _ small (powers t small i))

  -- t^n times a monic polynomial of degree n in theta is 1 up to what vanishes, where t vanishes
  -- and t * theta is 1
  leading : (t : S.carrier) → AtLeast S 1 t → t * c.theta ≡ S.one → (n : ℕ)
      (rows : List (Poly K.ring)) → length rows ≡ suc n
      → coeff (polynomials K.ring) rows n ≡ (polynomials K.ring).one
      → AtLeast S 1 (power S.ring t n * eval_list S.ring (at_u c) c.theta rows ⊞ minus S.one)
  leading t small inverse n [] len top = absurd (let z : 0 ≡ suc n = len in cc)
  leading t small inverse zero (h ∷ []) len top = subst (AtLeast S 1) (sym (ap (λ x. S.one
      * (x ⊞ c.theta * S.zero) ⊞ minus S.one) (ap (at_u c) top ∙ U.on_one)
      ∙ ring1 S.ring S.laws (λ y. unit ⊗ (unit ⊕ y ⊗ nil) ⊕ neg unit) (λ y. nil) refl c.theta))
      (zero_at_least S 1)
  leading t small inverse zero (h ∷ g ∷ rows) len top = absurd
      (let z : suc (suc (length rows)) ≡ 1 = len in omega (arith, z))
  leading t small inverse (suc n) (h ∷ rows) len top = subst (AtLeast S 1) (sym parts)
      (at_least_add S 1 _ _ (at_least_mul S 1 0 _ _ small (at_least_mul S 0 0 _ _ (powers t small n)
      (polynomial h))) (leading t small inverse n rows (omega (arith, len)) top))
    where
      value : S.carrier
      value = eval_list S.ring (at_u c) c.theta rows

      parts : (t * power S.ring t n) * (at_u c h ⊞ c.theta * value) ⊞ minus S.one
          ≡ t * (power S.ring t n * at_u c h) ⊞ (power S.ring t n * value ⊞ minus S.one)
      parts = ring6 S.ring S.laws (λ t p h y v z. (t ⊗ p) ⊗ (h ⊕ y ⊗ v) ⊕ neg unit)
          (λ t p h y v z. t ⊗ (p ⊗ h) ⊕ ((t ⊗ y) ⊗ (p ⊗ v) ⊕ neg unit)) refl t
          (power S.ring t n) (at_u c h) c.theta value t
          ∙ ap (λ o. t * (power S.ring t n * at_u c h)
          ⊞ (o * (power S.ring t n * value) ⊞ minus S.one)) inverse
          ∙ ap (λ o. t * (power S.ring t n * at_u c h) ⊞ (o ⊞ minus S.one))
          (ring1 S.ring S.laws (λ v. unit ⊗ v) (λ v. v) refl (power S.ring t n * value))

  pub theta_regular : AtLeast S 0 c.theta
  unfolding eval
  theta_regular = go (regular_or_pole S c.theta)
    where
      no_pole : ¬ (HasPole S c.theta)
      no_pole p = one_not_vanishing S (subst (AtLeast S 1) minus-minus (at_least_mul S 0 1 _ _
          (constant_regular S (K.neg K.one)) (subst (λ v. AtLeast S 1
          (power S.ring (S.inverse c.theta) c.degree * v ⊞ minus S.one)) l.root
          (leading (S.inverse c.theta) (pole_inverse S c.theta p (pole_proper S c.theta p))
          (S.laws.mul_comm _ _ ∙ S.is_field.mul_inverse c.theta (pole_proper S c.theta p)) c.degree
          c.equation.coeffs l.rows l.monic))))
        where
          minus-minus : S.constant (K.neg K.one)
              * (power S.ring (S.inverse c.theta) c.degree * S.zero ⊞ minus S.one) ≡ S.one
          minus-minus = ap (λ t. t * (power S.ring (S.inverse c.theta) c.degree * S.zero
              ⊞ minus S.one)) (S.spaces.constants.on_neg K.one ∙ ap minus S.spaces.constants.on_one)
              ∙ ring1 S.ring S.laws (λ p. neg unit ⊗ (p ⊗ nil ⊕ neg unit)) (λ p. unit) refl
              (power S.ring (S.inverse c.theta) c.degree)

      go : AtLeast S 0 c.theta ⊎ HasPole S c.theta → AtLeast S 0 c.theta
      go (inl r) = r
      go (inr p) = absurd (no_pole p)

  -- integral elements are regular
  pub integral_at : (w : S.carrier) → IsIntegral c w → AtLeast S 0 w
  integral_at = integral_regular S c l same (value_regular S c.u a at) theta_regular units_regular
