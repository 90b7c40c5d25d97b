-- Greatest common divisors as differences of multiples, and weights that are prime to e.
use Rattle.std.proofs.Common.{◌≡◌, ℕ, zero, suc, ◌+◌, ◌*◌, ◌/◌, ◌%◌, ◌<◌, ◌≤◌, ◌⊎◌, inl, inr, sym}
use Rattle.std.proofs.Common.{◌∙◌, ap, subst}
use Rattle.std.proofs.Common.{mul_comm, arith}
use Rattle.std.proofs.Math.Nat.{div-add-mod, mul-add, mul-one, mul_assoc, mul-add-mod_self_left}
use Rattle.std.proofs.lemmas.Bool.{cases_lt}
use Rattle.std.specs.Int.{IsGcd}
use Rattle.std.proofs.lemmas.Nat.Gcd.{IsGcd-from_zero, IsGcd-from_mod, same_from_IsGcd}
use Rattle.ff_table.specs.Powers.{IsPrimeTo}
use Rattle.ff_table.proofs.PrimeTo.{prime_of_inverse}
use Rattle.ff_relation.specs.Combination.{IsDifference}

pub difference-zero : (a b : ℕ) → b ≡ 0 → IsDifference a b a
difference-zero a b e = inl (
  1,
  0,
  (let o : a * 1 ≡ a = mul-one a in
      let z : b * 0 ≡ 0 = omega arith in omega (arith, o, z)),
)

pub difference-mod : (a b g : ℕ) → IsDifference b (a % b) g → IsDifference a b g
difference-mod a b g h = go h
  where
    q : ℕ
    q = a / b

    r : ℕ
    r = a % b

    -- a * y is b * (a / b * y) + a % b * y
    split : (y : ℕ) → a * y ≡ b * (a / b * y) + a % b * y
    split y = ap (λ n. n * y) (sym (div-add-mod a b)) ∙ mul_comm (b * (a / b) + a % b) y
        ∙ mul-add y (b * (a / b)) (a % b)
        ∙ ap (λ n. n + y * (a % b)) (mul_comm y (b * (a / b)) ∙ mul_assoc b (a / b) y)
        ∙ ap (λ n. b * (a / b * y) + n) (mul_comm y (a % b))

    go : IsDifference b (a % b) g → IsDifference a b g
    go (inl (x, y, e)) = inr (
      y,
      x + a / b * y,
      (let f : b * (x + a / b * y) ≡ b * x + b * (a / b * y) = mul-add b x (a / b * y) in
          omega (arith, f, split y, e)),
    )
    go (inr (x, y, e)) = inl (
      y,
      x + a / b * y,
      (let f : b * (x + a / b * y) ≡ b * x + b * (a / b * y) = mul-add b x (a / b * y) in
          omega (arith, f, split y, e)),
    )

-- a number with 1 as a difference of multiples is prime to e
pub prime_of_difference : (e W : ℕ) → 0 < e → IsDifference W e 1 → IsPrimeTo e W
prime_of_difference e W pos (inl (x, y, h)) = prime_of_inverse e pos W x
    (ap (λ n. n % e) h ∙ mul-add-mod_self_left e y 1)
prime_of_difference e W pos (inr (x, y, h)) = prime_of_inverse e pos W (x * (W * x))
    (ap (λ n. n % e) (sym (mul_assoc W x (W * x)))
    ∙ sym (mul-add-mod_self_left e y (W * x * (W * x))) ∙ ap (λ n. n % e) square
    ∙ mul-add-mod_self_left e (y * (W * x)) 1)
  where
    square : e * y + W * x * (W * x) ≡ e * (y * (W * x)) + 1
    square = let f : W * x * (W * x + 1) ≡ W * x * (W * x) + W * x * 1 =
        mul-add (W * x) (W * x) 1 in
        let o : W * x * 1 ≡ W * x = mul-one (W * x) in
        let g : W * x * (W * x + 1) ≡ e * (y * (W * x)) =
        ap (λ n. W * x * n) (sym h) ∙ mul_comm (W * x) (e * y) ∙ mul_assoc e y (W * x) in
        omega (arith, f, o, g, h)

-- a number with the remainder 1 has no common divisor with e but 1, and none has one with 1
pub gcd-of_one : (e m : ℕ) → m % e ≡ 1 → IsGcd m e 1
gcd-of_one e m h = IsGcd-from_mod m e 1 (subst (λ n. IsGcd e n 1) (sym h)
    (IsGcd-from_mod e 1 1 (IsGcd-from_zero 1 (e % 1) (let z : e % 1 ≡ 0 = grind arith in z))))

pub gcd-with_one : (m : ℕ) → IsGcd m 1 1
gcd-with_one m = IsGcd-from_mod m 1 1 (IsGcd-from_zero 1 (m % 1)
    (let z : m % 1 ≡ 0 = grind arith in z))

-- where the weights have the remainders 0, 1, .., one of them is prime to e
pub prime-exists : (e : ℕ) (weight : ℕ → ℕ) → 0 < e
    → ((i : ℕ) → i < e → weight i % e ≡ i) → (i : ℕ) × (i < e) × IsGcd (weight i) e 1
prime-exists zero weight pos classes = absurd (omega (arith, pos))
prime-exists (suc zero) weight pos classes = (0, pos, gcd-with_one (weight 0))
prime-exists (suc (suc n)) weight pos classes = (
  1,
  one,
  gcd-of_one (suc (suc n)) (weight 1) (classes 1 one),
)
  where
    one : 1 < suc (suc n)
    one = omega arith

-- the greatest common divisor that the code found
pub gcd-is_one : (m x e r : ℕ) → x ≡ m → IsGcd x e r → IsGcd m e 1 → r ≡ 1
gcd-is_one m x e r f h k = same_from_IsGcd x e r 1 h (subst (λ n. IsGcd n e 1) (sym f) k)

pub difference-is_one : (m x e r : ℕ) → x ≡ m → r ≡ 1 → IsDifference x e r → IsDifference m e 1
difference-is_one m x e r f o h = subst (λ n. IsDifference n e 1) f
    (subst (λ n. IsDifference x e n) o h)

-- one index more
pub prime-more : (e : ℕ) (weight : ℕ → ℕ) (best new i : ℕ)
    → ((j : ℕ) → j < i → IsGcd (weight j) e 1 → IsDifference (weight best) e 1)
    → (IsDifference (weight best) e 1 → IsDifference (weight new) e 1)
    → (IsGcd (weight i) e 1 → IsDifference (weight new) e 1)
    → (j : ℕ) → j < i + 1 → IsGcd (weight j) e 1 → IsDifference (weight new) e 1
prime-more e weight best new i old kept taken j l h = go (cases_lt j i)
  where
    go : (j < i) ⊎ (i ≤ j) → IsDifference (weight new) e 1
    go (inl q) = kept (old j q h)
    go (inr q) = let f : j ≡ i = omega (arith, q, l) in
        taken (subst (λ n. IsGcd (weight n) e 1) f h)
