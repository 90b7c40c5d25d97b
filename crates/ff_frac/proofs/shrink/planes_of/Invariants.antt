use Rattle.std.proofs.Common.{◌≡◌, ℕ, ◌<◌, [], length, get_or, All}
use Rattle.ff_theory.specs.Vector.{vectors_of}
use Rattle.ff_lin.specs.Space.{rows_of}
use Rattle.ff_data.specs.Orders.{y_degree}
use Rattle.ff_data.specs.Vectors.{IsPlaneWithin}
use Rattle.ff_fibre.specs.Fibres.{AreCoefficientsOf}
use Rattle.ff_frac.proofs.shrink.planes_of.Given as goal

abbrev pub invariant-loop-v : goal.invariant-loop-v
invariant-loop-v g l =
    let F = g.K.Ring.elements l.alg.k in
    let L = g.K.Ring.lawful l.alg.k in
    let n = y_degree L l.alg.f in
    record {
      len : length l.planes.items ≡ l.v-index;
      planes : All (IsPlaneWithin F n) l.planes.items;
      value : (i : ℕ) → i < l.v-index → AreCoefficientsOf F n l.l
          (vectors_of F (rows_of l.vectors) i) (get_or l.planes.items i []);
    }
