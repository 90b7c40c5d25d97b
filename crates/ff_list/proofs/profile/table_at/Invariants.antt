use Rattle.std.proofs.Common.{◌≡◌, length, All}
use Rattle.ff_characters.specs.Characters.{IsMatrix}
use Rattle.ff_list.proofs.profile.table_at.Given as goal

abbrev pub invariant-loop-i : goal.invariant-loop-i
invariant-loop-i g l = record {
  each : All (IsMatrix (g.K.Ring.elements l.k) l.s.e) l.table.items;
  count : length l.table.items ≡ l.i;
}
