use Rattle.std.proofs.Common.{◌≡◌, ◌*◌, length, All}
use Rattle.ff_theory.specs.Ring.{IsElement}
use Rattle.ff_poly.proofs.poly.Poly.zeros.Given as goal

abbrev pub invariant-loop-i : goal.invariant-loop-i
invariant-loop-i g l =
    let K = g.K.Ring.elements l.k in
    record {
      len : length l.zeros.items ≡ l._i * 32;
      each : All (IsElement K) l.zeros.items;
      zeros : All (λ e. K.value e ≡ K.zero) l.zeros.items;
    }
