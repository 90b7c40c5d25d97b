use Rattle.std.proofs.Common.{subst}
use Rattle.ff_elem.specs.Euclid.{IsEnd}
use Rattle.ff_elem.proofs.algebra.Alg.inverse.Goals as goal

pub inverse_by-requires : goal.inverse_by-requires
inverse_by-requires g c =
    let L = g.K.Ring.lawful c.args.self.now.k in
    record {
      a = c.requires;
      last = subst (λ n. IsEnd L c.args.self.now.f n c.in_ok-_before.last)
          c.rows.ensures c.in_ok-_before.ensures.end;
    }
