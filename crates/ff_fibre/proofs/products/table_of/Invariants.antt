use Rattle.std.proofs.Common.{◌≡◌, length, All}
use Rattle.ff_characters.specs.Characters.{tables_of, IsMatrix}
use Rattle.ff_fibre.specs.Fibres.{AreEntries}
use Rattle.ff_fibre.proofs.products.table_of.Given as goal

abbrev pub invariant-loop-i : goal.invariant-loop-i
invariant-loop-i g l =
    let F = g.K.Ring.elements l.alg.k in
    let L = g.K.Ring.lawful l.alg.k in
    record {
      len : length l.table.items ≡ l._i;
      each : All (IsMatrix F (length l.fibre.planes.items)) l.table.items;
      value : AreEntries L l.alg.f l.order l.fibre (tables_of l.table.items)
          (length l.table.items);
    }
