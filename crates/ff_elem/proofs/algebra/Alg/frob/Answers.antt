use Rattle.std.proofs.Common.{◌∙◌, ap}
use Rattle.ff_theory.specs.Ring.{power}
use Rattle.ff_theory.specs.Values.{plane_of, planes_over}
use Rattle.ff_theory.proofs.Results.{ok_map}
use Rattle.ff_elem.proofs.Quotients.{power-length, power-value}
use Rattle.ff_elem.proofs.algebra.Alg.frob.Goals as goal

pub from_parts-requires : goal.from_parts-requires
from_parts-requires g c =
    let F = g.K.Ring.elements c.args.self.now.k in
    let L = g.K.Ring.lawful c.args.self.now.k in
    record {
      num = c.from_vec-num.ensures.plane;
      den = c.in_ok-den.ensures.poly;
      nonzero = power-length F L c.args.self.now.f F.characteristic c.in_ok-den.den c.args.a.now
          c.requires c.in_ok-den.ensures.value;
    }

pub returns-clause-value : goal.returns-clause-value
returns-clause-value g c =
    let F = g.K.Ring.elements c.args.self.now.k in
    let L = g.K.Ring.lawful c.args.self.now.k in
    ok_map _ _ c.from_parts.result
    (λ r h. h
    ∙ power-value F L c.args.self.now.f F.characteristic c.in_ok-den.den c.from_vec-num.result
    c.args.a.now c.requires c.in_ok-den.ensures.value
    (c.from_vec-num.ensures.value ∙ c.in_ok-rows.ensures.value
    ∙ ap (λ t. power (planes_over F) (plane_of F t) F.characteristic) c.rows.ensures))
    c.from_parts.ensures.value
