use Rattle.std.proofs.Common.{◌∙◌, ap₂}
use Rattle.ff_theory.specs.Values.{plane_of, planes_over}
use Rattle.ff_theory.proofs.Results.{ok_map}
use Rattle.ff_elem.proofs.Quotients.{denominator-length, product-exact}
use Rattle.ff_elem.proofs.algebra.Alg.mul.Goals as goal

pub from_parts-requires : goal.from_parts-requires
from_parts-requires g c =
    let F = g.K.Ring.elements c.args.self.now.k in
    let L = g.K.Ring.lawful c.args.self.now.k in
    record {
      num = c.from_vec-num.ensures.plane;
      den = c.in_ok-den.ensures.poly;
      nonzero = denominator-length F L c.args.self.now.f c.in_ok-den.den c.args.a.now c.args.b.now
          c.requires.a c.requires.b c.in_ok-den.ensures.value;
    }

pub returns-clause-value : goal.returns-clause-value
returns-clause-value g c =
    let F = g.K.Ring.elements c.args.self.now.k in
    ok_map _ _ c.from_parts.result
    (λ r h. h
    ∙ product-exact F (g.K.Ring.lawful c.args.self.now.k) c.args.self.now.f c.in_ok-den.den
    c.from_vec-num.result c.args.a.now c.args.b.now c.requires.a c.requires.b
    c.in_ok-den.ensures.value
    (c.from_vec-num.ensures.value ∙ c.in_ok-rows.ensures.value
    ∙ ap₂ (λ s t. (planes_over F).mul (plane_of F s) (plane_of F t)) c.rows.ensures
    c.rows-2.ensures))
    c.from_parts.ensures.value
