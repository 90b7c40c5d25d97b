use Rattle.ff_subst.proofs.values.inverts.Goals as goal

pub power_list-requires : goal.power_list-requires
power_list-requires g c =
    record { x = c.requires.pair.x; some = c.pair_count.ensures }

pub inverts_at-requires : goal.inverts_at-requires
inverts_at-requires g c =
    record {
      at = c.in_ok-at.ensures;
      f = c.requires.f;
      pair = c.requires.pair;
      back = c.requires.back;
    }
