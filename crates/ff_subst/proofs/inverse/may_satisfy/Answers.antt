use Rattle.ff_subst.proofs.inverse.may_satisfy.Goals as goal

pub may_satisfy_modulo-requires : goal.may_satisfy_modulo-requires
may_satisfy_modulo-requires g c =
    record { m = c.in_ok-m.ensures; f = c.requires.f; pair = c.requires.pair }

pub returns : goal.returns
returns g c = c.may_satisfy_modulo.ensures
