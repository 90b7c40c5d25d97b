use Rattle.ff_subst.proofs.powers.prepare.Goals as goal

pub prepare_by-requires : goal.prepare_by-requires
prepare_by-requires g c =
    record {
      m = c.requires.m;
      by_y = c.in_ok-by_y.ensures.reduced;
      matrix = c.in_ok-by_y.ensures.matrix;
      pair = c.requires.pair;
    }

pub returns-clause-reduced : goal.returns-clause-reduced
returns-clause-reduced g c = c.prepare_by.ensures.reduced

pub returns-clause-count : goal.returns-clause-count
returns-clause-count g c = c.prepare_by.ensures.count

pub returns-clause-pair : goal.returns-clause-pair
returns-clause-pair g c = c.prepare_by.ensures.pair
