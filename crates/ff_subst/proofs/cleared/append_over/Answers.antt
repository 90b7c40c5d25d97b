use Rattle.std.proofs.Common.{refl}
use Rattle.ff_subst.proofs.cleared.append_over.Goals as goal

pub append_rows-requires : goal.append_rows-requires
append_rows-requires g c =
    record {
      c = c.requires.c;
      planes = c.requires.planes;
      d = c.requires.d;
      rows = c.requires.rows;
    }

pub returns : goal.returns
returns g c =
    record {
      over = refl;
      count = c.in_ok-planes.ensures.count;
      each = c.in_ok-planes.ensures.each;
      appended = c.in_ok-planes.ensures.appended;
    }
