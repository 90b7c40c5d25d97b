-- A weight with an inverse modulo e is prime to e.
use Rattle.std.proofs.Common.{◌≡◌, ℕ, ◌+◌, ◌*◌, ◌/◌, ◌%◌, ◌<◌, sym, ◌∙◌, ap, mul_comm}
use Rattle.std.proofs.Math.Nat.{div-add-mod, mul-add-mod_self_left, mod-lt, mod-eq_of_lt, mul-add}
use Rattle.std.proofs.Math.Nat.{mul_assoc, mul-one}
use Rattle.ff_table.specs.Powers.{IsPrimeTo}

module _ (e : ℕ) where
  -- a product modulo e, from a factor modulo e
  mod-mul : (a b : ℕ) → (a % e * b) % e ≡ (a * b) % e
  mod-mul a b = sym (mul-add-mod_self_left e (a / e * b) (a % e * b))
      ∙ ap (λ n. n % e) (ap (λ n. n + a % e * b) (sym (mul_assoc e (a / e) b))
      ∙ ap (λ n. n + a % e * b) (mul_comm (e * (a / e)) b)
      ∙ ap (λ n. b * (e * (a / e)) + n) (mul_comm (a % e) b)
      ∙ sym (mul-add b (e * (a / e)) (a % e)) ∙ ap (λ n. b * n) (div-add-mod a e)
      ∙ mul_comm b a)

  -- times W and then times its inverse v
  round : (W v : ℕ) → (W * v) % e ≡ 1 % e → (t : ℕ) → (t * W * v) % e ≡ t % e
  round W v h t = ap (λ n. n % e) (mul_assoc t W v ∙ mul_comm t (W * v))
      ∙ sym (mod-mul (W * v) t) ∙ ap (λ n. (n * t) % e) h ∙ mod-mul 1 t
      ∙ ap (λ n. n % e) (mul_comm 1 t ∙ mul-one t)

  pub prime_of_inverse : 0 < e → (W v : ℕ) → (W * v) % e ≡ 1 % e → IsPrimeTo e W
  prime_of_inverse pos W v h = record {
    exponent = λ t. (t * v) % e;
    in_range = λ t. mod-lt (t * v) pos;
    class = λ t. mod-mul (t * v) W ∙ round v W (ap (λ n. n % e) (mul_comm v W) ∙ h) t;
    distinct = λ i j l q f. sym (mod-eq_of_lt l) ∙ sym (round W v h i)
        ∙ sym (mod-mul (i * W) v) ∙ ap (λ n. (n * v) % e) f ∙ mod-mul (j * W) v
        ∙ round W v h j ∙ mod-eq_of_lt q;
  }
