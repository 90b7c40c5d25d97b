use Rattle.std.proofs.Common.{◌≡◌, ℕ, ◌<◌, length, get_or}
use Rattle.ff_theory.specs.Vector.{IsVector}
use Rattle.ff_characters.specs.Characters.{tables_of}
use Rattle.ff_frac.specs.Socle.{shifted_entry_at}
use Rattle.ff_frac.proofs.socle.shifted_row.Given as goal

abbrev pub invariant-loop-i : goal.invariant-loop-i
invariant-loop-i g l =
    let F = g.K.Ring.elements l.k in
    record {
      vector : IsVector F l.i l.row.items;
      value : (t : ℕ) → t < l.i → F.value (get_or l.row.items t 0)
          ≡ shifted_entry_at F (length l.table) (tables_of l.table) (F.value l.chi) l.j l.l t;
    }
