use Rattle.std.proofs.Common.{◌≡◌, ◌++◌, map, drop}
use Rattle.ff_ring.specs.Ring.{AreCoordsList, elements_in}
use Rattle.ff_root.proofs.StateLemmas.{constant_of}
use Rattle.ff_root.proofs.state.monic.Given as goal

abbrev pub invariant-loop-i : goal.invariant-loop-i
invariant-loop-i g l =
    let F = g.K.Ring.elements l.k in
    let L = g.K.Ring.lawful l.k in
    record {
      coords : AreCoordsList F l.s l.i l.items.items;
      value : elements_in F l.s l.items.items ++ map (constant_of F L l.s) (drop l.i l.coeffs)
          ≡ map (constant_of F L l.s) l.coeffs;
    }
