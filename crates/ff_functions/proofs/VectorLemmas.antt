-- The parts of a vector before an index and from it on.
use Rattle.std.proofs.Common.{◌≡◌, ℕ, ◌+◌, ◌-◌, ◌<◌, ◌≤◌, List, length, take, drop, sym, ◌∙◌}
use Rattle.std.proofs.Common.{ap, subst, arith, get_or, All}
use Rattle.std.proofs.lemmas.List.{length-take, length-take-le, length-drop, get_or-take}
use Rattle.std.proofs.lemmas.List.{get_or-drop}
use Rattle.std.proofs.lemmas.List.Elements.{All-take, All-drop}
use Rattle.ff_theory.specs.Ring.{Elements, IsElement}
use Rattle.ff_theory.specs.Vector.{vector_of, IsVector}
use Rattle.ff_theory.proofs.Coeffs.{coeff-map}

module _ (F : Elements ℕ) (v w : List ℕ) (c : ℕ) (s : w ≡ v) where
  pub head_vector : (n j : ℕ) → c ≡ n → IsVector F (n + j) v → IsVector F n (take c w)
  head_vector n j e h =
      let within : c ≤ length w = omega (arith, e, ap length s, h.len) in
      record {
        each = All-take (IsElement F) c w (subst (All (IsElement F)) (sym s) h.each);
        len = length-take-le c w within ∙ e;
      }

  pub tail_each : All (IsElement F) v → All (IsElement F) (take (length w - c) (drop c w))
  tail_each h = All-take (IsElement F) (length w - c) (drop c w)
      (All-drop (IsElement F) c w (subst (All (IsElement F)) (sym s) h))

  pub tail_length : length (take (length w - c) (drop c w)) ≤ length v - c
  tail_length = let e = length-take (length w - c) (drop c w) in omega (arith, e, ap length s)

  -- their entries
  pub head_at : (i : ℕ) → c ≤ length v → i < c → vector_of F (take c w) i ≡ vector_of F v i
  head_at i few q = coeff-map F.ring F.value (take c w) i 0
      (let e : length (take c w) ≡ c = length-take-le c w (omega (arith, few, ap length s)) in
      omega (arith, q, e))
      ∙ ap F.value (get_or-take c w i 0 q ∙ ap (λ l. get_or l i 0) s)
      ∙ sym (coeff-map F.ring F.value v i 0 (omega (arith, q, few)))

  pub tail_at : (i j : ℕ) → length v ≡ c + j → i < j
      → vector_of F (take (length w - c) (drop c w)) i ≡ vector_of F v (c + i)
  tail_at i j e q = let lw : length w ≡ length v = ap length s in
      coeff-map F.ring F.value (take (length w - c) (drop c w)) i 0
      (let a = length-take (length w - c) (drop c w) in let b = length-drop c w in
      omega (arith, a, b, lw, e, q))
      ∙ ap F.value (get_or-take (length w - c) (drop c w) i 0 (omega (arith, lw, e, q))
      ∙ get_or-drop c w i 0 ∙ ap (λ l. get_or l (c + i) 0) s)
      ∙ sym (coeff-map F.ring F.value v (c + i) 0 (omega (arith, e, q)))

  pub tail_count : (j : ℕ) → length v ≡ c + j → length (take (length w - c) (drop c w)) ≡ j
  tail_count j e = let a = length-take (length w - c) (drop c w) in let b = length-drop c w in
      omega (arith, a, b, ap length s, e)
