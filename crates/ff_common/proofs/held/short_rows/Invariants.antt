use Rattle.std.proofs.Common.{ℕ, ◌<◌}
use Rattle.ff_theory.specs.Span.{unit_at}
use Rattle.ff_lin.specs.Space.{IsSpaceOf, InSpace}
use Rattle.ff_common.specs.Common.{IsShortAt}
use Rattle.ff_common.proofs.held.short_rows.Given as goal

abbrev pub invariant-loop-j : goal.invariant-loop-j
invariant-loop-j g l =
    let F = g.K.Ring.elements l.k in
    record {
      space : IsSpaceOf F l.n l.space;
      each : (i : ℕ) → i < l.j → IsShortAt l.w l.e i → InSpace F l.space (unit_at F.ring i);
    }
