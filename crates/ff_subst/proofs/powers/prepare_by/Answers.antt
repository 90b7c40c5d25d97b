use Rattle.ff_subst.proofs.powers.prepare_by.Goals as goal

pub matrix-requires : goal.matrix-requires
matrix-requires g c =
    record {
      m = c.requires.m;
      by_y = c.requires.by_y;
      matrix = c.requires.matrix;
      v = c.requires.pair.x;
    }

pub powers_by-requires : goal.powers_by-requires
powers_by-requires g c =
    record {
      m = c.requires.m;
      by_y = c.requires.by_y;
      matrix = c.requires.matrix;
      v = c.requires.pair.y;
    }

pub returns-clause-reduced : goal.returns-clause-reduced
returns-clause-reduced g c =
    record {
      by_y = c.requires.by_y;
      x = c.in_ok-x.ensures.reduced;
      y = c.in_ok-y.ensures.reduced;
    }

pub returns-clause-pair : goal.returns-clause-pair
returns-clause-pair g c =
    record {
      by_y = c.requires.matrix;
      x = c.in_ok-x.ensures.matrix;
      y = c.in_ok-y.ensures.powers;
    }

pub returns-clause-count : goal.returns-clause-count
returns-clause-count g c = c.in_ok-y.ensures.count
