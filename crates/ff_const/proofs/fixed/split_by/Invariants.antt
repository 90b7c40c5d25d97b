use Rattle.std.proofs.Common.{ℕ, ◌<◌, length}
use Rattle.ff_theory.specs.Vector.{vectors_of}
use Rattle.ff_lin.specs.Space.{rows_of}
use Rattle.ff_data.specs.Combinations.{combination_in, elems_of}
use Rattle.ff_const.specs.Fixed.{IsConstant}
use Rattle.ff_const.proofs.fixed.split_by.Given as goal

abbrev pub invariant-loop-c : goal.invariant-loop-c
invariant-loop-c g l =
    let K = g.K.Ring.elements l.alg.k in
    let L = g.K.Ring.lawful l.alg.k in
    let f = l.alg.f in
    record {
      constants : (j : ℕ) → j < l.c-index → IsConstant L f (combination_in L f (length l.list)
          (vectors_of K (rows_of l.c-items) j) (elems_of L f l.list));
    }
