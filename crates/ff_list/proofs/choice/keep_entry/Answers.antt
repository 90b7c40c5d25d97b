use Rattle.std.proofs.Common.{sym, subst}
use Rattle.ff_data.specs.Pairs.{IsPair}
use Rattle.ff_list.proofs.choice.keep_entry.Goals as goal

pub is_inverse-requires : goal.is_inverse-requires
is_inverse-requires g c = record {
  field = c.requires.field;
  pair = c.requires.pair;
  back = subst (λ k. IsPair (g.K.Ring.lawful k) c.args.alg1.now.f c.args.entry.back)
      (sym c.requires.field) c.requires.back;
}

pub keep_tested-requires : goal.keep_tested-requires
keep_tested-requires g c = record {
  entry = λ t. record {
    pair = c.requires.pair;
    back = c.requires.back;
    inverse = c.in-Ok.ensures.inverse.0 t;
  };
  list = c.requires.list;
}
