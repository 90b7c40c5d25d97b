use Rattle.std.proofs.Common.{◌≡◌, ℕ, ◌*◌, ◌<◌, length, get_or, []}
use Rattle.std.specs.Global.{Vec}
use Rattle.ff_theory.specs.Values.{plane_of}
use Rattle.ff_theory.specs.Vector.{vector_of}
use Rattle.ff_charts.specs.Lattice.{flat}
use Rattle.ff_lin.specs.Space.{AreVectors}
use Rattle.ff_data.proofs.vectors.vectors_of_planes.Given as goal

abbrev pub invariant-loop-a : goal.invariant-loop-a
invariant-loop-a g l =
    let F = g.K.Ring.elements l.k in
    record {
      count : length l.vectors.items ≡ l.a-index;
      vectors : AreVectors F (l.n * l.l) l.vectors.items;
      value : (d : Vec ℕ) (j : ℕ) → j < l.a-index → (t : ℕ)
          → vector_of F (get_or l.vectors.items j d).items t
          ≡ flat F.ring l.l (plane_of F (get_or l.planes j [])) t;
    }
