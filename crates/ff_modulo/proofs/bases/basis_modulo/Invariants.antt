use Rattle.ff_lin.specs.Space.{rows_of}
use Rattle.ff_modulo.proofs.ModuloLemmas.{IsStage}
use Rattle.ff_modulo.proofs.bases.basis_modulo.Given as goal

abbrev pub invariant-loop-v : goal.invariant-loop-v
invariant-loop-v g l = IsStage (g.K.Ring.lawful l.k) l.space
    (rows_of l.vectors) l.sum (rows_of l.basis.items) l.v-index
