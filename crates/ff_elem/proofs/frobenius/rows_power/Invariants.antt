use Rattle.std.proofs.Common.{◌≡◌, ◌*◌, length, take, All}
use Rattle.ff_theory.specs.Ring.{power}
use Rattle.ff_theory.specs.Poly.{polynomials}
use Rattle.ff_theory.specs.Values.{IsPoly, plane_of}
use Rattle.ff_elem.proofs.frobenius.rows_power.Given as goal

abbrev pub invariant-loop-p : goal.invariant-loop-p
invariant-loop-p g l =
    let K = g.K.Ring.elements l.k in
    record {
      len : length l.powers.items ≡ K.characteristic * l.p-index;
      each : All (λ p. IsPoly K p) l.powers.items;
      value : plane_of K l.powers.items
          ≡ power (polynomials (polynomials K.ring)) (plane_of K (take l.p-index l.rows))
          K.characteristic;
    }
