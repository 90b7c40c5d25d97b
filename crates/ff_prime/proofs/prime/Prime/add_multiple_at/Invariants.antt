use Rattle.std.proofs.Common.{◌≡◌, ℕ, ◌+◌, ◌*◌, ◌%◌, ◌<◌, ◌≤◌, length, get_or}
use Rattle.ff_prime.proofs.prime.Prime.add_multiple_at.Given as goal

abbrev pub invariant-loop-j : goal.invariant-loop-j
invariant-loop-j l = record {
  len : length l.sum ≡ length l.fn.sum;
  before : (i : ℕ) → i < l.at → get_or l.sum i 0 ≡ get_or l.fn.sum i 0;
  below : (i : ℕ) → i < l.j → get_or l.sum (l.at + i) 0
      ≡ (get_or l.fn.sum (l.at + i) 0 + l.c * get_or l.b i 0) % l.self.number;
  above : (i : ℕ) → l.at + l.j ≤ i → get_or l.sum i 0 ≡ get_or l.fn.sum i 0;
}
