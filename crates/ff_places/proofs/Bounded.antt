-- Sums of powers of an element with a pole, with coefficients in one space: each element of any
-- space is one.
use Rattle.std.proofs.Common.{◌≡◌, ℕ, zero, suc, ◌+◌, refl, sym, ◌∙◌, ap, ap₂}
use Rattle.std.proofs.Common.{subst, arith}
use Rattle.ff_theory.specs.Ring.{RingOps, IsCommRing}
use Rattle.ff_theory.specs.Lawful.{Field}
use Rattle.ff_theory.proofs.Solver.{◌⊕◌, ◌⊗◌, neg, nil, ring2, ring3, ring4, ring6}
use Rattle.ff_places.proofs.FieldSpaces.{FieldSpaces, Less, Has}
use Rattle.ff_places.proofs.Regular.{HasPole}

-- x is t_0 + h * t_1 + .. + h^s * t_s with all t_i in V
abbrev pub IsPowerSum : (A : RingOps) → (A.carrier → Type 0) → A.carrier → ℕ → A.carrier → Type 0
IsPowerSum A V h zero x = V x
IsPowerSum A V h (suc s) x = (t : A.carrier) × (y : A.carrier) × V t × IsPowerSum A V h s y
    × (x ≡ A.add t (A.mul h y))

module _ (A : RingOps) (AL : IsCommRing A) (V : A.carrier → Type 0) (none : V A.zero)
    (both : (a b : A.carrier) → V a → V b → V (A.add a b)) (h : A.carrier) where
  -- more powers
  pub sum_more : (s : ℕ) (x : A.carrier) → IsPowerSum A V h s x → IsPowerSum A V h (suc s) x
  sum_more zero x v = (
    x,
    A.zero,
    v,
    none,
    ring2 A AL (λ x h. x) (λ x h. x ⊕ h ⊗ nil) refl x h,
  )
  sum_more (suc s) x (t, y, v, w, e) = (t, y, v, sum_more s y w, e)

  pub sum_add : (s : ℕ) (x y : A.carrier) → IsPowerSum A V h s x → IsPowerSum A V h s y
      → IsPowerSum A V h s (A.add x y)
  sum_add zero x y v w = both x y v w
  sum_add (suc s) x y (t, a, v, m, e) (u, b, w, n, g) = (
    A.add t u,
    A.add a b,
    both t u v w,
    sum_add s a b m n,
    ap₂ A.add e g ∙ ring6 A AL (λ t u a b h z. (t ⊕ h ⊗ a) ⊕ (u ⊕ h ⊗ b))
        (λ t u a b h z. (t ⊕ u) ⊕ h ⊗ (a ⊕ b)) refl t u a b h h,
  )

  pub sum_times : (s : ℕ) (x : A.carrier) → IsPowerSum A V h s x
      → IsPowerSum A V h (suc s) (A.mul h x)
  sum_times s x v = (
    A.zero,
    x,
    none,
    v,
    ring2 A AL (λ h x. h ⊗ x) (λ h x. nil ⊕ h ⊗ x) refl h x,
  )

module _ {K : Field} (S : FieldSpaces K) (h : S.carrier) (pole : HasPole S h) where
  infixl 60 ◌⊞◌
  infixl 70 ◌*◌
  open S use {add as ◌⊞◌, mul as ◌*◌, neg as minus}

  -- all coefficients are in L_N
  abbrev pub level : ℕ
  level = pole.order + S.from

  abbrev V : S.carrier → Type 0
  V = S.L (pole.order + S.from)

  none : V S.zero
  none = S.spaces.more 0 (pole.order + S.from) S.zero (omega arith)
      (subst (S.L 0) S.spaces.constants.on_zero (S.spaces.in_first K.zero))

  both : (a b : S.carrier) → V a → V b → V (a ⊞ b)
  both = S.spaces.add (pole.order + S.from)

  -- L_(s + N) is in L_N + h * L_N + .. + h^s * L_N
  pub bounded : (s : ℕ) (x : S.carrier) → S.L (s + (pole.order + S.from)) x
      → IsPowerSum S.ring (S.L (pole.order + S.from)) h s x
  bounded zero x m = subst (λ n. S.L n x)
      (let e : 0 + (pole.order + S.from) ≡ pole.order + S.from = omega arith in e) m
  bounded (suc s) x m = subst (IsPowerSum S.ring V h (suc s)) (sym split)
      (sum_add S.ring S.laws V none both h (suc s) rest (h * part)
      (sum_more S.ring S.laws V none both h s rest (bounded s rest rest_in))
      (sum_times S.ring S.laws V none both h s part (bounded s part part_in)))
    where
      u : (a : S.carrier) × Has S (suc s + S.from) a
      u = S.reached (suc s + S.from) (omega arith)

      exact : Has S (suc (s + (pole.order + S.from))) (pole.num * u.0)
      exact = subst (λ n. Has S n (pole.num * u.0))
          (let e : pole.order + (suc s + S.from) ≡ suc (s + (pole.order + S.from)) = omega arith
          in e) (S.spaces.exact pole.order (suc s + S.from) pole.num u.0 pole.has u.1)

      c : (c : K.carrier) × S.L (s + (pole.order + S.from))
          (x ⊞ minus (S.constant c * (pole.num * u.0)))
      c = S.steps.next (s + (pole.order + S.from)) x (pole.num * u.0)
          (subst (λ n. S.L n x) (let e : suc s + (pole.order + S.from)
          ≡ suc (s + (pole.order + S.from)) = omega arith in e) m) exact

      rest : S.carrier
      rest = x ⊞ minus (S.constant c.0 * (pole.num * u.0))

      rest_in : S.L (s + (pole.order + S.from)) (x ⊞ minus (S.constant c.0 * (pole.num * u.0)))
      rest_in = c.1

      part : S.carrier
      part = pole.den * (S.constant c.0 * u.0)

      part_in : S.L (s + (pole.order + S.from)) (pole.den * (S.constant c.0 * u.0))
      part_in = go pole.order refl pole.less
        where
          scaled : S.L (suc s + S.from) (S.constant c.0 * u.0)
          scaled = subst (λ n. S.L n (S.constant c.0 * u.0))
              (let e : 0 + (suc s + S.from) ≡ suc s + S.from = omega arith in e)
              (S.spaces.mul 0 (suc s + S.from) (S.constant c.0) u.0 (S.spaces.in_first c.0)
              u.1.up_to)

          go : (n : ℕ) → pole.order ≡ n → Less S pole.order pole.den
              → S.L (s + (pole.order + S.from)) (pole.den * (S.constant c.0 * u.0))
          go zero e l = absurd (pole.proper (subst (λ n. Less S n pole.den) e l))
          go (suc n) e l = subst (λ n. S.L n (pole.den * (S.constant c.0 * u.0)))
              (let q : n + (suc s + S.from) ≡ s + (pole.order + S.from) = omega (arith, e) in q)
              (S.spaces.mul n (suc s + S.from) pole.den (S.constant c.0 * u.0)
              (subst (λ n. Less S n pole.den) e l) scaled)

      split : x ≡ (x ⊞ minus (S.constant c.0 * (pole.num * u.0)))
          ⊞ h * (pole.den * (S.constant c.0 * u.0))
      split = ring3 S.ring S.laws (λ x s u. x) (λ x s u. (x ⊕ neg (s ⊗ u)) ⊕ s ⊗ u) refl x
          (S.constant c.0) (pole.num * u.0)
          ∙ ap (λ t. (x ⊞ minus (S.constant c.0 * (pole.num * u.0)))
          ⊞ S.constant c.0 * (t * u.0)) (sym pole.fraction)
          ∙ ap (λ t. (x ⊞ minus (S.constant c.0 * (pole.num * u.0))) ⊞ t)
          (ring4 S.ring S.laws (λ c h d u. c ⊗ ((h ⊗ d) ⊗ u)) (λ c h d u. h ⊗ (d ⊗ (c ⊗ u))) refl
          (S.constant c.0) h pole.den u.0)
