use Rattle.ff_subst.proofs.inverse.may_be_inverse.Goals as goal

pub may_be_inverse_modulo-requires : goal.may_be_inverse_modulo-requires
may_be_inverse_modulo-requires g c =
    record {
      field = c.requires.field;
      m = c.in_ok-m.ensures;
      pair = c.requires.pair;
      back = c.requires.back;
    }

pub returns : goal.returns
returns g c = c.may_be_inverse_modulo.ensures
