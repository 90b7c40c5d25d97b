use Rattle.std.proofs.Common.{◌∙◌, arith}
use Rattle.ff_theory.proofs.Results.{ok_map}
use Rattle.ff_elem.proofs.Quotients.{over-one-value}
use Rattle.ff_elem.proofs.algebra.Alg.from_plane.Goals as goal

pub from_parts-requires : goal.from_parts-requires
from_parts-requires g c = record {
  num = c.requires;
  den = c.in_ok-one.ensures.poly;
  nonzero = omega
      (arith, c.in_ok-one.ensures.len);
}

pub returns-clause-value : goal.returns-clause-value
returns-clause-value g c =
    let F = g.K.Ring.elements c.args.self.now.k in
    let L = g.K.Ring.lawful c.args.self.now.k in
    ok_map _ _ c.from_parts.result
    (λ r h. h ∙ over-one-value F L c.args.self.now.f c.args.num.now c.in_ok-one.one
    c.in_ok-one.ensures.value) c.from_parts.ensures.value
