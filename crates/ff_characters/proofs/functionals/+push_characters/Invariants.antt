use Rattle.std.proofs.Common.{ℕ, ◌<◌, ◌-◌, length}
use Rattle.ff_lin.specs.Space.{InSpace}
use Rattle.ff_characters.specs.Characters.{tables_of, IsCharacter, AreCharacters, HasVector}
use Rattle.ff_characters.proofs.functionals.+push_characters.Given as goal

abbrev pub decreases-push_characters : goal.decreases-push_characters
decreases-push_characters g l = length l.one.now - l.i

abbrev pub invariant-loop-j : goal.invariant-loop-j
invariant-loop-j g l =
    let F = g.K.Ring.elements l.k in
    let n = length l.one in
    record {
      each : AreCharacters F n (tables_of l.table) l.one l.list.items;
      kept : (v : ℕ → F.carrier) → HasVector F l.fn.list.items v → HasVector F l.list.items v;
      all : (chi : ℕ → F.carrier) → InSpace F l.space chi
          → IsCharacter F n (tables_of l.table) l.one chi → F.index (chi l.i) < l.j
          → HasVector F l.list.items chi;
    }
