use Rattle.std.proofs.Common.{◌≡◌, ◌*◌, length, take, All}
use Rattle.ff_theory.specs.Ring.{IsElement, power}
use Rattle.ff_theory.specs.Poly.{polynomials}
use Rattle.ff_theory.specs.Values.{poly_of}
use Rattle.ff_elem.proofs.frobenius.poly_power.Given as goal

abbrev pub invariant-loop-c : goal.invariant-loop-c
invariant-loop-c g l =
    let K = g.K.Ring.elements l.k in
    record {
      len : length l.list.items ≡ K.characteristic * l.c-index;
      each : All (IsElement K) l.list.items;
      value : poly_of K l.list.items
          ≡ power (polynomials K.ring) (poly_of K (take l.c-index l.c-items)) K.characteristic;
    }
