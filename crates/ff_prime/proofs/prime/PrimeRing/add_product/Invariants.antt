use Rattle.std.proofs.Common.{◌≡◌, ℕ, ◌+◌, ◌*◌, ◌<◌, ◌≤◌, length, get_or, take}
use Rattle.ff_theory.specs.PrimeTable.{prime_elements}
use Rattle.ff_theory.specs.Values.{poly_of, polys_over}
use Rattle.ff_prime.proofs.prime.PrimeRing.add_product.Given as goal

abbrev pub invariant-loop-i : goal.invariant-loop-i
invariant-loop-i l =
    let K = prime_elements l.self.number in
    let P = polys_over K in
    record {
      len : length l.sum ≡ length l.fn.sum;
      terms : l.terms ≤ 400000;
      bound : (j : ℕ) → j < length l.sum → get_or l.sum j 0 ≤ 96 + l.terms * 9216;
      value : poly_of K l.sum ≡ P.add (poly_of K l.fn.sum)
          (P.mul (poly_of K (take l.i l.a)) (poly_of K l.b));
    }
