use Rattle.std.proofs.Common.{◌≡◌, length, take, All}
use Rattle.ff_theory.specs.Ring.{IsElement}
use Rattle.ff_theory.specs.Poly.{polynomials}
use Rattle.ff_theory.specs.Values.{poly_of}
use Rattle.ff_alg.proofs.Ring.add_product.Given as goal

abbrev pub invariant-loop-i : goal.invariant-loop-i
invariant-loop-i g l =
    let K = g.Self.Ring.elements l.self in
    record {
      len : length l.sum ≡ length l.fn.sum;
      each : All (IsElement K) l.sum;
      value : poly_of K l.sum ≡ (polynomials K.ring).add (poly_of K l.fn.sum)
          ((polynomials K.ring).mul (poly_of K (take l.i l.a)) (poly_of K l.b));
    }
