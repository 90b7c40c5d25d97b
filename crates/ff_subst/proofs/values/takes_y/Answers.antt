use Rattle.std.proofs.Common.{IsTrue, subst, ◌↔◌}
use Rattle.std.specs.Prelude.{IfOk}
use Rattle.ff_data.specs.Pairs.{ValueIs}
use Rattle.ff_subst.proofs.values.takes_y.Goals as goal

pub takes-requires : goal.takes-requires
takes-requires g c =
    record {
      at = c.requires.at;
      pair = c.requires.pair;
      den = c.requires.s.den;
      num = c.requires.s.num;
      v = c.in_ok-y.ensures.element;
    }

pub returns : goal.returns
returns g c =
    let L = g.K.Ring.lawful c.args.alg.now.k in
    let f = c.args.alg.now.f in
    subst (λ v. IfOk c.takes.result (λ r. IsTrue r ↔ ValueIs L f c.args.s.now c.args.pair.now v))
    c.in_ok-y.ensures.value c.takes.ensures
