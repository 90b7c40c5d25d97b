-- The gap number of a system within the pole limit is small.
use Rattle.std.proofs.Common.{◌≡◌, ℕ, ◌*◌, ◌/◌, ◌^◌, ◌<◌, ◌≤◌, List, [], ◌∷◌, length, All}
use Rattle.std.proofs.Common.{arith, div-le_self, subst, sym}
use Rattle.std.proofs.lemmas.List.Elements.{All-head, All-tail}
use Rattle.std.proofs.lemmas.List.Sums.{sum_by-cons}
use Rattle.ff_data.specs.declared.system.System.{System}
use Rattle.ff_data.specs.Systems.{gaps_of}
use Rattle.ff_forms.specs.Forms.{IsWithinLimit}

gaps-within : (e : ℕ) (ms : List ℕ) → All (λ m. m ≤ 1200) ms → gaps_of e ms ≤ 1200 * length ms
gaps-within e [] h = omega arith
gaps-within e (m ∷ ms) h =
    let first : m ≤ 1200 = All-head (λ n. n ≤ 1200) m ms h in
    let rest = gaps-within e ms (All-tail (λ n. n ≤ 1200) m ms h) in
    omega (arith, first, rest, div-le_self m e, sum_by-cons (λ n. n / e) m ms)

pub gaps-small : (s : System) → IsWithinLimit s → length s.weights ≡ s.e
    → gaps_of s.e s.weights < 2 ^ 32
gaps-small s h count = let all = gaps-within s.e s.weights h.weights in
    let few : length s.weights ≤ 1200 = subst (λ n. n ≤ 1200) (sym count) h.e in
    omega (arith, all, few)
